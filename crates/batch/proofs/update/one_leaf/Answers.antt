use Rattle.std.proofs.Common.{◌≡◌, ◌-◌, ◌^◌, Some, ap, ◌∙◌, arith}
use Rattle.std.proofs.lemmas.Option.{slice_get-get_or}
use Rattle.batch.specs.declared.update.Update.TheVariants.{Write, Punch}
use Rattle.batch.proofs.Heard.{one_alone, punch_alone}
use Rattle.batch.proofs.OneLeaf.{write_said, punch_said}
use Rattle.batch.proofs.update.one_leaf.Goals as goal

pub returns-in-Write-clause-one : goal.returns-in-Write-clause-one
returns-in-Write-clause-one c = write_said c.args.updates.now _ c.in-Write.leaf c.in-Write.bytes c.if-updates-ne1.false c.in-Write.is

pub returns-then-updates-ne1-clause-none : goal.returns-then-updates-ne1-clause-none
returns-then-updates-ne1-clause-none c = λ o leaf writes h. one_alone c.args.updates.now leaf writes o c.if-updates-ne1.true h

pub returns-then-key-eq0-clause-one : goal.returns-then-key-eq0-clause-one
returns-then-key-eq0-clause-one c = punch_said c.args.updates.now _ _ c.if-updates-ne1.false c.in-Punch.is c.if-key-eq0.true

pub returns-else-key-eq0-clause-none : goal.returns-else-key-eq0-clause-none
returns-else-key-eq0-clause-none c = λ o leaf writes h. punch_alone c.args.updates.now _ _ leaf writes c.if-updates-ne1.false c.in-Punch.is c.if-key-eq0.false h

pub returns-in-Write-clause-within : goal.returns-in-Write-clause-within
returns-in-Write-clause-within c = λ o.
    o.own 0 (Write c.in-Write.leaf c.in-Write.bytes) (slice_get-get_or c.args.updates.now 0 _ (omega (arith, c.if-updates-ne1.false)) ∙ ap Some c.in-Write.is)

pub returns-then-key-eq0-clause-within : goal.returns-then-key-eq0-clause-within
returns-then-key-eq0-clause-within c = λ o.
    let k = o.own 0 (Punch c.in-Punch.key) (slice_get-get_or c.args.updates.now 0 _ (omega (arith, c.if-updates-ne1.false)) ∙ ap Some c.in-Punch.is) in
    let few = k.index in
    let all : 16 ^ (5 - c.in-Punch.key.level) ≡ 1048576 = ap (λ l. 16 ^ (5 - l)) c.if-key-eq0.true in
    omega (arith, few, all)
