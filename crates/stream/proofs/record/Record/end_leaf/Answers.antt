use Rattle.std.proofs.Common.{◌≡◌, ◌+◌, ◌*◌, ◌^◌, ap, subst, arith}
use Rattle.base.specs.Key.{IsKey}
use Rattle.stream.specs.Spelling.{IsRecord}
use Rattle.stream.proofs.KeyBounds.{end_le, index_bound}
use Rattle.stream.proofs.record.Record.end_leaf.Goals as goal

pub overflow_add-result-in-Free : goal.overflow_add-result-in-Free
overflow_add-result-in-Free c =
    let is_key : IsKey c.in-Free.key = subst IsRecord c.in-Free.is c.requires in
    omega (arith, index_bound c.in-Free.key is_key)

pub overflow_mul-result : goal.overflow_mul-result
overflow_mul-result c =
    let is_key : IsKey c.in-Free.key = subst IsRecord c.in-Free.is c.requires in
    let width : (c.in-Free.key.index + 1) * c.width.result ≡ (c.in-Free.key.index + 1) * 16 ^ c.in-Free.key.level = ap (λ n. (c.in-Free.key.index + 1) * n) c.width.ensures in
    omega (arith, width, end_le c.in-Free.key is_key)
