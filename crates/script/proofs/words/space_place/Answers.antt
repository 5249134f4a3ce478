use Rattle.std.proofs.Common.{arith}
use Rattle.script.proofs.WordsLemmas.{first_space, no_space}
use Rattle.script.proofs.words.space_place.Goals as goal

pub returns-in-Some : goal.returns-in-Some
returns-in-Some c =
    first_space c.args.line.now c.min-near.result c.in-Some.place (λ k low high. c.loop-i.invariant k low (omega (arith, high, c.loop-i-test.false))) (omega arith) c.in-Some.ensures

pub returns-in-None : goal.returns-in-None
returns-in-None c = no_space c.args.line.now c.min-near.result (λ k low high. c.loop-i.invariant k low (omega (arith, high, c.loop-i-test.false))) (omega arith) c.in-None.ensures
