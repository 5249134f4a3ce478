use Rattle.std.proofs.Common.{rules, ◌≡◌, Err, sym, ap, subst, ◌∙◌, ⊎_elim}
use Rattle.std.specs.Option.{option_copied}
use Rattle.base.specs.Map.{BlockSet}
use Rattle.base.specs.declared.refusal.Refusal.TheVariants.{NoMemory}
use Rattle.snapshots.specs.Marks.{without_newer}
use Rattle.model.specs.World.{union_of}
use Rattle.world.specs.Tables.{Datasets, world_of}
use Rattle.removals.specs.Edits.{HasLost}
use Rattle.removals.specs.Requests.{with_marks}
use Rattle.removals.proofs.Losses.{lost_alike}
use Rattle.removals.proofs.Marked.{marks_union}
use Rattle.receives.proofs.Created.{lost_with_copy}
use Rattle.receives.proofs.Forced.{forced}
use Rattle.receives.proofs.going.forced_back.Goals as goal

pub returns-in_default-clause-lost : goal.returns-in_default-clause-lost
returns-in_default-clause-lost c = lost_with_copy c.args.table.now c.args.freeing.now c.requires.apart c.of.result c.of.ensures.ok

pub returns-in_err-lose_live-clause-err : goal.returns-in_err-lose_live-clause-err
returns-in_err-lose_live-clause-err c =
    let both = forced c.args.table.now c.args.name.now c.in-Some.newest.now (sym c.newest_named.ensures ∙ ap option_copied c.in-Some.is) c.in_ok-edit.edit.to c.in_ok-edit.ensures.ok.0 in
    let only : c.in_err-lose_live.field-0.0 ≡ NoMemory = ⊎_elim
    (λ k. absurd (both.0 (c.in_err-lose_live.ensures.no_dataset.0 (ap Err k))))
    (λ k. k)
    c.in_err-lose_live.ensures.only in
    search (rules, only)

pub returns-clause-ok : goal.returns-clause-ok
returns-clause-ok c =
    let both = forced c.args.table.now c.args.name.now c.in-Some.newest.now (sym c.newest_named.ensures ∙ ap option_copied c.in-Some.is) c.in_ok-edit.edit.to c.in_ok-edit.ensures.ok.0 in
    c.in_ok-remove_newer_bookmarks.ensures.ok
    ∙ ap (λ n. with_marks c.lose_live.new.self.to c.args.name.now (λ marks. without_newer marks n)) c.group.ensures
    ∙ both.1 c.lose_live.new.self.to c.in_ok-lose_live.ensures.ok

pub returns-clause-lost : goal.returns-clause-lost
returns-clause-lost c =
    let live = subst (λ (p : Datasets × BlockSet). HasLost p.0 p.1 c.lose_live.new.self.to c.lose_live.new.self.freeing) (λ i. (c.in_ok-edit.ensures.ok.0 i, c.in_ok-edit.ensures.ok.1 i)) c.in_ok-lose_live.ensures.lost in
    lost_alike c.args.table.now c.lose_live.new.self.to c.remove_newer_bookmarks.new.table c.args.freeing.now c.lose_live.new.self.freeing
    (ap (λ (v : Datasets). union_of (world_of v)) c.in_ok-remove_newer_bookmarks.ensures.ok
    ∙ marks_union c.lose_live.new.self.to c.args.name.now (λ marks. without_newer marks c.group.result.0)) live
