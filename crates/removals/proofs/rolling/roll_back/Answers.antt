use Rattle.std.proofs.Common.{rules, ◌≡◌, Err, length, sym, ap, subst, ◌∙◌, ⊎_elim}
use Rattle.std.proofs.lemmas.Result.{on_ok_weaker}
use Rattle.std.specs.Prelude.{OnOk}
use Rattle.snapshots.specs.Marks.{without_newer}
use Rattle.base.specs.declared.refusal.Refusal.TheVariants.{NoMemory}
use Rattle.datasets.specs.Losses.{newest_map}
use Rattle.model.specs.World.{union_of}
use Rattle.datasets.specs.Rows.{entry_of, live_of, snaps_at, with_live}
use Rattle.world.specs.Tables.{Datasets, world_of}
use Rattle.removals.specs.Requests.{with_marks}
use Rattle.removals.proofs.Losses.{lost_then, lost_alike}
use Rattle.removals.proofs.Marked.{marks_union}
use Rattle.removals.proofs.Rolled.{back_of}
use Rattle.removals.proofs.rolling.roll_back.Goals as goal

pub returns-in_err-lose_live-clause-err : goal.returns-in_err-lose_live-clause-err
returns-in_err-lose_live-clause-err c =
    let both = back_of c.args.edit.now.to c.facts.ensures.good (entry_of c.args.file_system.now) c.requires.there
    c.args.component.now c.args.group.0 c.requires.group c.remove_newer.new.self.to c.in_ok-remove_newer.ensures.ok in
    let only : c.in_err-lose_live.field-0.0 ≡ NoMemory = ⊎_elim
    (λ k. absurd (both.0 (ap (λ n. length (snaps_at c.remove_newer.new.self.to.file_systems n)) (sym c.name.ensures) ∙ c.in_err-lose_live.ensures.no_dataset.0 (ap Err k))))
    (λ k. k)
    c.in_err-lose_live.ensures.only in
    search (rules, only)

pub returns-clause-ok : goal.returns-clause-ok
returns-clause-ok c =
    let both = back_of c.args.edit.now.to c.facts.ensures.good (entry_of c.args.file_system.now) c.requires.there
    c.args.component.now c.args.group.0 c.requires.group c.remove_newer.new.self.to c.in_ok-remove_newer.ensures.ok in
    let u = c.remove_newer.new.self.to in
    subst (λ (v : Datasets). OnOk c.remove_newer_bookmarks.result (c.remove_newer_bookmarks.new.table ≡ v))
    (ap (λ n. with_marks c.lose_live.new.self.to n (λ marks. without_newer marks c.args.group.0)) c.name-2.ensures
    ∙ both.1 c.lose_live.new.self.to (c.in_ok-lose_live.ensures.ok ∙ ap (λ n. record u { file_systems = with_live u.file_systems n (newest_map (live_of u.file_systems n) (snaps_at u.file_systems n)) }) c.name.ensures))
    c.remove_newer_bookmarks.ensures.ok

pub returns-clause-lost : goal.returns-clause-lost
returns-clause-lost c =
    let back = lost_then c.args.edit.now.to c.remove_newer.new.self.to c.lose_live.new.self.to c.args.edit.now.freeing c.remove_newer.new.self.freeing c.lose_live.new.self.freeing
    c.in_ok-remove_newer.ensures.lost c.in_ok-lose_live.ensures.lost in
    on_ok_weaker c.remove_newer_bookmarks.result
    (λ is. lost_alike c.args.edit.now.to c.lose_live.new.self.to c.remove_newer_bookmarks.new.table c.args.edit.now.freeing c.lose_live.new.self.freeing
    (ap (λ (v : Datasets). union_of (world_of v)) is ∙ marks_union c.lose_live.new.self.to c.name-2.result.now (λ marks. without_newer marks c.args.group.0)) back)
    c.remove_newer_bookmarks.ensures.ok
