use Rattle.std.proofs.Common.{◌≡◌, ◌*◌, ◌^◌, ap, arith}
use Rattle.stream.proofs.KeyBounds.{end_le, start_before}
use Rattle.stream.proofs.record.first_of.Goals as goal

pub overflow_mul-result : goal.overflow_mul-result
overflow_mul-result c =
    let width : c.args.key.index * c.width.result ≡ c.args.key.index * 16 ^ c.args.key.level = ap (λ n. c.args.key.index * n) c.width.ensures in
    omega (arith, width, end_le c.args.key c.requires, start_before c.args.key)
