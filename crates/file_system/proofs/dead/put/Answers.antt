use Rattle.std.proofs.Common.{List, length, sym, ap, subst, ◌∙◌, Result, Ok, Err}
use Rattle.std.specs.Prelude.{filter, OnOk, OnErr}
use Rattle.std.specs.Arc.{arc_value}
use Rattle.std.proofs.lemmas.List.Sorted.{IsPermutation-refl}
use Rattle.base.specs.declared.number.Dead.{Dead}
use Rattle.deadlist.specs.Held.{Held}
use Rattle.file_system.specs.Dead.{HasGained}
use Rattle.deadlist.specs.Entries.{is_upto}
use Rattle.file_system.proofs.Accounts.{none_gained}
use Rattle.file_system.proofs.dead.put.Goals as goal

-- what holds in any case holds on success
on_ok : {T E P : Type 0} (r : Result T E) → P → OnOk r P
on_ok (Ok v) p = p
on_ok (Err e) p = tt

-- and at an error
on_err : {T E P : Type 0} (r : Result T E) → P → OnErr r P
on_err (Ok v) p = tt
on_err (Err e) p = p

-- no block goes onto the list
pub returns-then-few-eq0-clause-dead : goal.returns-then-few-eq0-clause-dead
returns-then-few-eq0-clause-dead c =
    on_ok c.put.result
    (none_gained _ c.args.draft.now.released.items c.args.newest.0
    (ap (λ l. length (filter (is_upto c.args.newest.0) l)) (sym c.as_slice.ensures) ∙ sym c.count_upto-few.ensures ∙ c.if-few-eq0.true))

-- a longer list comes to its place
pub returns-clause-dead : goal.returns-clause-dead
returns-clause-dead c =
    subst (λ (h : Held). HasGained (arc_value c.args.dead.now).entries h.entries c.args.draft.now.released.items c.args.newest.0) (sym c.in_ok-longer-2.ensures.ok)
    (subst (λ (h : Held). HasGained h.entries c.in_ok-longer.longer.entries c.args.draft.now.released.items c.args.newest.0) c.deref.ensures
    (subst (λ (rs : List Dead). HasGained c.deref.result.now.entries c.in_ok-longer.longer.entries rs c.args.newest.0) c.as_slice-2.ensures c.in_ok-longer.ensures.ok))

-- or the list stays
pub returns-in_err-put-clause-dead_err : goal.returns-in_err-put-clause-dead_err
returns-in_err-put-clause-dead_err c = on_err c.from_residual-in_err-put.result (IsPermutation-refl (arc_value c.args.dead.now).entries)
