use Rattle.std.proofs.Common.{inr, sym, ap, subst, ◌∙◌}
use Rattle.script.specs.Meaning.{write_of}
use Rattle.script.specs.Reading.{Means}
use Rattle.script.proofs.WriteWords.{written, unwritten}
use Rattle.script.proofs.parse.write.Goals as goal

pub returns-in_default : goal.returns-in_default
returns-in_default c = inr (unwritten _ c.in_default.ensures)

pub returns : goal.returns
returns c =
    subst (Means c.write_at.result)
    (sym (ap write_of c.in-Some.ensures ∙ written c.in-Some.target.now c.in-Some.object.now c.in-Some.block.now c.in-Some.digits.now))
    c.write_at.ensures
