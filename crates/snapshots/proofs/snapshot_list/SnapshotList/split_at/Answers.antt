use Rattle.std.proofs.Common.{◌≡◌, ◌++◌, take, drop, sym, subst, ap, ◌∙◌}
use Rattle.std.proofs.lemmas.List.{take-append-drop}
use Rattle.snapshots.specs.Index.{AreNamesOnce}
use Rattle.snapshots.proofs.snapshot_list.SnapshotList.split_at.Goals as goal

pub parted-requires-clause-once : goal.parted-requires-clause-once
parted-requires-clause-once c =
    let same : c.in_ok-first.first ≡ c.args.self.now = c.in_ok-first.ensures ∙ c.self.view_is in
    let both : c.split_off.new.self ++ c.in_ok-rest.rest ≡ c.args.self.now =
    (λ i. (c.in_ok-rest.ensures.ok ∙ ap (take c.args.count) same) i ++ (c.in_ok-rest.ensures.rest ∙ ap (drop c.args.count) same) i) ∙ take-append-drop c.args.count c.args.self.now in
    subst AreNamesOnce (sym both) c.requires.once
