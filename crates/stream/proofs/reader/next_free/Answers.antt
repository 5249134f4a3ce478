use Rattle.std.proofs.Common.{◌∙◌, arith, rules}
use Rattle.stream.proofs.Parts.{free_passes, free_refused, index_in, number_4}
use Rattle.stream.proofs.reader.next_free.Goals as goal

pub returns-then-first_of-from-clause-bad : goal.returns-then-first_of-from-clause-bad
returns-then-first_of-from-clause-bad g c = λ _.
    free_refused _ _ _ _ _ _ _ c.in_ok-level.ensures.ok c.in_ok-level.ensures.length c.in_ok-level.ensures.bytes (c.read_u32-index.ensures ∙ number_4 (index_in c.in_ok-level.field-0)) (search rules) (omega (arith, c.first_of.ensures, c.if-first_of-from.true))

pub returns-clause-ok : goal.returns-clause-ok
returns-clause-ok g c = (
  search rules,
  omega (arith, c.first_of.ensures, c.if-first_of-from.false),
  free_passes _ _ _ _ _ _ c.in_ok-level.ensures.ok c.in_ok-level.ensures.length c.in_ok-level.ensures.bytes (c.read_u32-index.ensures ∙ number_4 (index_in c.in_ok-level.field-0)),
)
