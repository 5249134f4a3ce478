use Rattle.std.proofs.Common.{◌≡◌, ◌*◌, ◌^◌, ap, subst, ◌∙◌, arith}
use Rattle.batch.specs.Updates.{IsOfTree}
use Rattle.batch.proofs.SaidLaws.{key_bound}
use Rattle.batch.proofs.update.Update.first.Goals as goal

pub overflow_mul-result : goal.overflow_mul-result
overflow_mul-result c =
    let k = subst IsOfTree c.in-Punch.is c.requires in
    let b = key_bound c.in-Punch.key.level c.in-Punch.key.index k.level k.index in
    let p : c.span.result ≡ 16 ^ c.in-Punch.key.level = c.span.ensures ∙ ap (λ n. 16 ^ n) c.from.ensures in
    let q : c.in-Punch.key.index * c.span.result ≡ c.in-Punch.key.index * 16 ^ c.in-Punch.key.level = ap (λ n. c.in-Punch.key.index * n) p in
    omega (arith, b, q)
