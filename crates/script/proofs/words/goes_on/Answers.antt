use Rattle.std.proofs.Common.{◌∙◌, sym, refl}
use Rattle.script.proofs.Joined.{joins_next, joins_end}
use Rattle.script.proofs.words.goes_on.Goals as goal

pub loop-byte-init : goal.loop-byte-init
loop-byte-init c = refl

pub loop-byte-preserved : goal.loop-byte-preserved
loop-byte-preserved c =
    joins_next c.loop-byte.is_well c.loop-byte.is_after_space c.args.bytes.now c.loop-byte.byte-index c.loop-byte-test.true ∙ c.loop-byte.invariant

pub returns : goal.returns
returns c =
    sym (joins_end c.loop-byte.is_well c.loop-byte.is_after_space c.args.bytes.now c.loop-byte.byte-index c.loop-byte-test.false)
    ∙ c.loop-byte.invariant
