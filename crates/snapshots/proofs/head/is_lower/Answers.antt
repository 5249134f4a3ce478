use Rattle.std.proofs.Common.{◌≡◌, sym, ◌∙◌, arith}
use Rattle.snapshots.specs.Heads.{name_head}
use Rattle.snapshots.proofs.Heads.{by_heads, lower_by_length}
use Rattle.snapshots.proofs.head.is_lower.Goals as goal

pub returns-then-one_head-other_head : goal.returns-then-one_head-other_head
returns-then-one_head-other_head c =
    let differ : name_head c.args.one.now ≡ name_head c.args.other.now → ⊥ = λ same. c.if-one_head-other_head.true (c.requires.one ∙ same ∙ sym c.requires.other) in
    rw (c.requires.one, c.requires.other) (by_heads c.args.one.now c.args.other.now (λ i. omega (arith, c.type_inv.one i)) (λ i. omega (arith, c.type_inv.other i)) differ)

pub returns-then-other-le-HEAD : goal.returns-then-other-le-HEAD
returns-then-other-le-HEAD c =
    let level : name_head c.args.one.now ≡ name_head c.args.other.now = sym c.requires.one ∙ c.if-one_head-other_head.false ∙ c.requires.other in
    lower_by_length c.args.one.now c.args.other.now (λ i. omega (arith, c.type_inv.one i)) (λ i. omega (arith, c.type_inv.other i)) c.if-one-le-HEAD.true c.if-other-le-HEAD.true level
