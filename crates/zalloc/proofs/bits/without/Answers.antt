use Rattle.std.proofs.Common.{◌*◌, ◌%◌, ◌^◌, ◌-◌}
use Rattle.std.proofs.Common.{w64, bit_and}
use Rattle.std.proofs.lemmas.Nat.Bits.{bit_at_clear_same, bit_at_clear_other}
use Rattle.zalloc.proofs.Words.{none_from, same_bit}
use Rattle.zalloc.proofs.bits.without.Goals as goal

pub returns-clause-same : goal.returns-clause-same
returns-clause-same c = none_from (bit_and c.args.word (18446744073709551615 - 1 * 2 ^ c.args.bit % 18446744073709551616)) c.args.bit (bit_at_clear_same w64 c.args.word c.args.bit c.requires)

pub returns-clause-others : goal.returns-clause-others
returns-clause-others c = λ i p q. same_bit (bit_and c.args.word (18446744073709551615 - 1 * 2 ^ c.args.bit % 18446744073709551616)) c.args.word i i (bit_at_clear_other w64 c.args.word c.args.bit c.requires i p q)
