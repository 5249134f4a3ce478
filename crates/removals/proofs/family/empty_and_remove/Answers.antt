use Rattle.std.proofs.Common.{◌≡◌, true, ap, subst, ◌∙◌}
use Rattle.std.proofs.lemmas.Result.{on_ok_weaker}
use Rattle.std.specs.Prelude.{OnOk}
use Rattle.world.specs.Tables.{Datasets}
use Rattle.removals.specs.Requests.{without_family}
use Rattle.removals.proofs.Emptying.{emptied_bare, emptied_gone}
use Rattle.removals.proofs.Losses.{lost_then}
use Rattle.removals.proofs.family.empty_and_remove.Goals as goal

pub remove_family-requires-clause-bare : goal.remove_family-requires-clause-bare
remove_family-requires-clause-bare c = emptied_bare c.args.table.now c.args.name.now c.in_ok-emptied.emptied (c.in_ok-emptied.ensures.ok ∙ c.in_ok-empty_family.ensures.ok)

pub returns-clause-ok : goal.returns-clause-ok
returns-clause-ok c =
    subst (λ (v : Datasets). OnOk c.remove_family.result (c.remove_family.new.edit.to ≡ v))
    (ap (λ (v : Datasets). without_family v c.args.name.now true) (c.in_ok-emptied.ensures.ok ∙ c.in_ok-empty_family.ensures.ok) ∙ emptied_gone c.args.table.now c.args.name.now)
    c.remove_family.ensures.ok

pub returns-clause-lost : goal.returns-clause-lost
returns-clause-lost c = on_ok_weaker c.remove_family.result
    (λ lost. lost_then c.args.edit.now.to c.empty_family.new.edit.to c.remove_family.new.edit.to c.args.edit.now.freeing c.empty_family.new.edit.freeing c.remove_family.new.edit.freeing c.in_ok-empty_family.ensures.lost lost)
    c.remove_family.ensures.lost
