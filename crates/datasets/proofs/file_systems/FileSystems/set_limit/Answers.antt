use Rattle.std.proofs.Common.{map, refl, ap, ◌∙◌}
use Rattle.model.specs.Limits.{limited}
use Rattle.std.specs.FinMap.{get}
use Rattle.tree.proofs.Options.{not_some}
use Rattle.file_system.specs.Rows.{Row, entry_in, with_system}
use Rattle.datasets.specs.Places.{IsAt, IsGapFor}
use Rattle.datasets.proofs.Rows.{on_err, get_gap, row_of, is_there}
use Rattle.datasets.proofs.Labelled.{lent, not_lent, not_missing, labelled_sorted, labelled_is, same_sorted, same_is}
use Rattle.datasets.proofs.file_systems.FileSystems.set_limit.Goals as goal

pub returns-in_default-clause-no_dataset : goal.returns-in_default-clause-no_dataset
returns-in_default-clause-no_dataset c =
    let gap : IsGapFor (map entry_in c.self.inside.rows.items) c.args.name.now c.in_default.field-0 = rw (← c.deref.ensures.value, ← c.as_bytes.ensures.value) c.in_default.ensures.absent in
    (λ _. rw (← c.self.view_is) (get_gap _ c.self.invariant.sorted c.args.name.now c.in_default.field-0 gap), λ _. refl)

-- where memory was refused the rows are the same
pub invariant_of-self : goal.invariant_of-self
invariant_of-self c =
    let at : IsAt (map entry_in c.self.inside.rows.items) c.args.name.now c.in-Ok.place = rw (← c.deref.ensures.value, ← c.as_bytes.ensures.value) c.in-Ok.ensures.found in
    same_sorted c.self.inside c.self.invariant c.args.self.now c.self.view_is c.args.name.now c.in-Ok.place at c.index_mut.result.now c.index_mut.ensures.value
    c.own.follows.lender-at-none (not_lent c.own.result _ c.in_err-file_system.was c.own.follows.holds-at-none) _ refl refl refl

pub returns-in_err-file_system-clause-err : goal.returns-in_err-file_system-clause-err
returns-in_err-file_system-clause-err c =
    let at : IsAt (map entry_in c.self.inside.rows.items) c.args.name.now c.in-Ok.place = rw (← c.deref.ensures.value, ← c.as_bytes.ensures.value) c.in-Ok.ensures.found in
    on_err c.from_residual.result
    (same_is c.self.inside c.self.invariant c.args.self.now c.self.view_is c.args.name.now c.in-Ok.place at c.index_mut.result.now c.index_mut.ensures.value
    c.own.follows.lender-at-none (not_lent c.own.result _ c.in_err-file_system.was c.own.follows.holds-at-none))

pub returns-in_err-file_system-clause-no_dataset : goal.returns-in_err-file_system-clause-no_dataset
returns-in_err-file_system-clause-no_dataset c =
    let at : IsAt (map entry_in c.self.inside.rows.items) c.args.name.now c.in-Ok.place = rw (← c.deref.ensures.value, ← c.as_bytes.ensures.value) c.in-Ok.ensures.found in
    let is = row_of entry_in c.self.inside.rows.items c.in-Ok.place c.index_mut.result.now c.index_mut.ensures.value in
    let there = is_there _ c.self.invariant.sorted c.args.name.now c.in-Ok.place at (entry_in c.index_mut.result.now) is in (
      λ e. absurd (not_missing c.from_residual.result _ c.from_residual.ensures.1 c.in_err-file_system.ensures.only e),
      λ none. absurd (not_some (get c.args.self.now c.args.name.now) none (rw (← c.self.view_is) there)),
    )

-- the row has another limit
pub invariant_of-self-2 : goal.invariant_of-self-2
invariant_of-self-2 c =
    let at : IsAt (map entry_in c.self.inside.rows.items) c.args.name.now c.in-Ok.place = rw (← c.deref.ensures.value, ← c.as_bytes.ensures.value) c.in-Ok.ensures.found in
    labelled_sorted c.self.inside c.self.invariant c.args.self.now c.self.view_is c.args.name.now c.in-Ok.place at c.index_mut.result.now c.index_mut.ensures.value
    (λ f. limited f c.args.limit c.args.amount) (record { origin = refl; count = refl; found = λ id. refl }) (c.own.follows.lender c.set_limit.new.self)
    (lent c.own.result _ c.in_ok-file_system.was (c.own.follows.holds c.set_limit.new.self) ∙ c.set_limit.ensures ∙ ap (λ (r : Row). with_system r (limited r.system c.args.limit c.args.amount)) c.in_ok-file_system.ensures.value) _ refl refl refl

pub returns-clause-ok : goal.returns-clause-ok
returns-clause-ok c =
    let at : IsAt (map entry_in c.self.inside.rows.items) c.args.name.now c.in-Ok.place = rw (← c.deref.ensures.value, ← c.as_bytes.ensures.value) c.in-Ok.ensures.found in
    labelled_is c.self.inside c.self.invariant c.args.self.now c.self.view_is c.args.name.now c.in-Ok.place at c.index_mut.result.now c.index_mut.ensures.value
    (λ f. limited f c.args.limit c.args.amount) (record { origin = refl; count = refl; found = λ id. refl }) (c.own.follows.lender c.set_limit.new.self)
    (lent c.own.result _ c.in_ok-file_system.was (c.own.follows.holds c.set_limit.new.self) ∙ c.set_limit.ensures ∙ ap (λ (r : Row). with_system r (limited r.system c.args.limit c.args.amount)) c.in_ok-file_system.ensures.value)

pub returns-clause-no_dataset : goal.returns-clause-no_dataset
returns-clause-no_dataset c =
    let at : IsAt (map entry_in c.self.inside.rows.items) c.args.name.now c.in-Ok.place = rw (← c.deref.ensures.value, ← c.as_bytes.ensures.value) c.in-Ok.ensures.found in
    let is = row_of entry_in c.self.inside.rows.items c.in-Ok.place c.index_mut.result.now c.index_mut.ensures.value in
    let there = is_there _ c.self.invariant.sorted c.args.name.now c.in-Ok.place at (entry_in c.index_mut.result.now) is in
    (λ e. absurd cc, λ none. absurd (not_some (get c.args.self.now c.args.name.now) none (rw (← c.self.view_is) there)))
