use Rattle.std.proofs.Common.{◌==◌, ap, ◌∙◌, refl}
use Rattle.std.specs.List.{list_all}
use Rattle.std.proofs.lemmas.List.{take_all}
use Rattle.script.proofs.Zeros.{zeros_next}
use Rattle.script.proofs.text.are_zeros.Goals as goal

pub loop-byte-init : goal.loop-byte-init
loop-byte-init c = refl

pub loop-byte-preserved : goal.loop-byte-preserved
loop-byte-preserved c = zeros_next c.loop-byte.are c.args.bytes.now c.loop-byte.byte-index c.loop-byte-test.true c.loop-byte.invariant

pub returns : goal.returns
returns c = c.loop-byte.invariant ∙ ap (list_all (λ b. b == 0)) (take_all c.loop-byte.byte-index c.args.bytes.now c.loop-byte-test.false)
