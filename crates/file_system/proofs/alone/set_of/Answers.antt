use Rattle.std.proofs.Common.{◌≡◌, Result, Ok, Err, false, true≢false, sym, ap, subst, ◌∙◌}
use Rattle.std.specs.Prelude.{OnOk}
use Rattle.std.specs.Result.{is_err}
use Rattle.deadlist.specs.Left.{left}
use Rattle.file_system.specs.Alone.{HasJust}
use Rattle.file_system.proofs.Alones.{entries_all, none_just, one_more_just}
use Rattle.file_system.proofs.alone.set_of.Goals as goal

-- what holds on success, where there was no error
ok_of : {T E P : Type 0} (r : Result T E) → is_err r ≡ false → OnOk r P → P
ok_of (Ok v) e p = p
ok_of (Err x) e p = absurd (true≢false e)

pub loop-dead-init : goal.loop-dead-init
loop-dead-init c = none_just _ c.new-entries.ensures.empty

pub loop-dead-preserved : goal.loop-dead-preserved
loop-dead-preserved c =
    one_more_just c.loop-dead.entries c.insert.new.self c.loop-dead.yielded c.in-Some.dead c.loop-dead.invariant
    (ok_of c.insert.result (sym c.is_err.ensures.value ∙ c.if-is_err.false) c.insert.ensures.updates).0

pub returns-clause-ok : goal.returns-clause-ok
returns-clause-ok c =
    let all = entries_all left c.into_iter-dead-iterator.result c.loop-dead.yielded c.loop-dead.dead-iterator c.loop-dead.yielded_by c.in-None.ensures.steps.0 in
    subst (HasJust c.loop-dead.entries) (sym (sym c.iter-dead-items.ensures.entries ∙ ap left (sym c.into_iter-dead-iterator.ensures.into_iter_gives) ∙ all)) c.loop-dead.invariant
