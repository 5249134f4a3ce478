use Rattle.std.proofs.Common.{rules, ◌≡◌, Err, true≢false, ⊎_elim, sym, ap, subst, ◌∙◌, map}
use Rattle.std.specs.Prelude.{is_some}
use Rattle.base.specs.declared.refusal.Refusal.TheVariants.{NoMemory}
use Rattle.std.specs.FinSet.{from_list}
use Rattle.base.specs.Map.{BlockSet}
use Rattle.base.specs.Surveys.{dead_block}
use Rattle.model.specs.Ids.{snap_id}
use Rattle.world.specs.Sets.{AreDisjoint}
use Rattle.removals.proofs.Clones.{uncloned_is}
use Rattle.removals.proofs.Losses.{lost_apart, lost_without}
use Rattle.removals.proofs.working_copy.WorkingCopy.remove_snapshot.Goals as goal

pub remove_snapshot-requires : goal.remove_snapshot-requires
remove_snapshot-requires c = record { no_clone = uncloned_is c.args.self.now.to (snap_id c.args.id) c.requires.no_clone }

pub add_dead-requires-clause-apart : goal.add_dead-requires-clause-apart
add_dead-requires-clause-apart c =
    subst (λ (s : BlockSet). AreDisjoint c.args.self.now.freeing s) (sym (ap (λ d. from_list (map dead_block d.entries)) c.in_ok-lost-2.ensures.ok ∙ c.in_ok-lost.ensures.lost.is))
    (lost_apart c.args.self.now.to c.remove_snapshot.new.self c.args.self.now.freeing c.requires.apart)

pub returns-clause-lost : goal.returns-clause-lost
returns-clause-lost c =
    lost_without c.add_dead.result c.args.self.now.to c.remove_snapshot.new.self c.args.self.now.freeing c.add_dead.new.self (from_list (map dead_block c.in_ok-lost-2.lost.value.entries))
    c.facts.ensures.good c.requires.apart (snap_id c.args.id) c.in_ok-lost.ensures.ok (ap (λ d. from_list (map dead_block d.entries)) c.in_ok-lost-2.ensures.ok ∙ c.in_ok-lost.ensures.lost.is) c.add_dead.ensures.ok

pub returns-in_err-lost-clause-err : goal.returns-in_err-lost-clause-err
returns-in_err-lost-clause-err c =
    let only : c.in_err-lost.field-0.0 ≡ NoMemory = ⊎_elim
    (λ k. absurd (true≢false (sym c.requires.there ∙ ap is_some (c.in_err-lost.ensures.no_dataset.0 (ap Err k)))))
    (λ k. k)
    c.in_err-lost.ensures.only in
    search (rules, only)
