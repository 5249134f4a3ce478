use Rattle.std.proofs.Common.{◌≡◌, ◌<◌, length, Some, None, set, ap, sym, subst, ◌∙◌}
use Rattle.std.specs.Prelude.{remove}
use Rattle.std.specs.Arc.{arc_value}
use Rattle.std.specs.List.{find}
use Rattle.base.specs.Names.{same_name}
use Rattle.snapshots.specs.declared.kept.Kept.{Kept}
use Rattle.snapshots.specs.Index.{IsIndex, AreNamesOnce}
use Rattle.snapshots.proofs.Splices.{index_has, none_left, index_moved}
use Rattle.snapshots.proofs.snapshot_list.SnapshotList.rename.Goals as goal

-- the name that goes is in the index
pub forget-requires : goal.forget-requires
forget-requires c = index_has c.self.inside.by_name c.self.inside.kept c.args.place c.as_bytes.result.now c.self.invariant (c.in_ok-old_name.ensures.ok ∙ ap Some (sym c.as_bytes.ensures.value))

pub invariant_of-self-2 : goal.invariant_of-self-2
invariant_of-self-2 c =
    let ks = c.self.inside.kept in
    let y = arc_value c.in_ok-kept.kept in
    let free : find (λ (k : Kept). same_name k.snapshot.name y.snapshot.name) ks ≡ None =
    (λ j. find (λ (k : Kept). same_name k.snapshot.name (c.in_ok-kept.ensures.ok j).snapshot.name) (c.self.view_is j)) ∙ c.requires.free in
    let left = c.forget.ensures ks c.args.place (c.in_ok-old_name.ensures.ok ∙ ap Some (sym c.as_bytes.ensures.value)) (subst AreNamesOnce (sym c.self.view_is) c.requires.once) c.self.invariant in
    let there = subst (λ l. c.args.place < length l) (sym c.self.view_is) c.requires.there in
    subst (IsIndex c.index.new.by_name) (sym (c.in_ok-set_shared.ensures.ok ∙ ap (set ks c.args.place) c.in_ok-try_clone.ensures))
    (index_moved c.index.new.by_name ks c.args.place y there free (c.index.ensures.before (remove ks c.args.place) (none_left ks c.args.place y.snapshot.name free) left))
