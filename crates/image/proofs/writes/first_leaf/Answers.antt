use Rattle.std.proofs.Common.{◌≡◌, ℕ, zero, suc, ◌<◌, ◌*◌, ◌^◌, ap, subst, ◌∙◌, arith}
use Rattle.std.proofs.Math.Nat.{pow-suc}
use Rattle.batch.specs.Updates.{IsOfTree}
use Rattle.batch.proofs.SaidLaws.{key_bound}
use Rattle.image.proofs.writes.first_leaf.Goals as goal

positive : (l : ℕ) → 0 < 16 ^ l
positive zero = omega arith
positive (suc l) = let e = pow-suc 16 l in let p = positive l in omega (arith, e, p)

pub overflow_mul-result : goal.overflow_mul-result
overflow_mul-result c =
    let k = subst IsOfTree c.in-Punch.is c.requires in
    let b = key_bound c.in-Punch.key.level c.in-Punch.key.index k.level k.index in
    let p : c.span.result ≡ 16 ^ c.in-Punch.key.level = c.span.ensures ∙ ap (λ n. 16 ^ n) c.from.ensures in
    let q : c.in-Punch.key.index * c.span.result ≡ c.in-Punch.key.index * 16 ^ c.in-Punch.key.level = ap (λ n. c.in-Punch.key.index * n) p in
    omega (arith, b, q)

pub returns-in-Punch-clause-within : goal.returns-in-Punch-clause-within
returns-in-Punch-clause-within c =
    let k = subst IsOfTree c.in-Punch.is c.requires in
    let b = key_bound c.in-Punch.key.level c.in-Punch.key.index k.level k.index in
    let p : c.span.result ≡ 16 ^ c.in-Punch.key.level = c.span.ensures ∙ ap (λ n. 16 ^ n) c.from.ensures in
    let q : c.in-Punch.key.index * c.span.result ≡ c.in-Punch.key.index * 16 ^ c.in-Punch.key.level = ap (λ n. c.in-Punch.key.index * n) p in
    let r = positive c.in-Punch.key.level in
    omega (arith, b, q, r)
