use Rattle.std.proofs.Common.{◌≡◌, ◌≤◌, length, sym, ◌∙◌, arith}
use Rattle.snapshots.specs.Heads.{name_head}
use Rattle.snapshots.proofs.Heads.{same_by_length}
use Rattle.snapshots.proofs.head.is_same.Goals as goal

pub returns-then-one-other : goal.returns-then-one-other
returns-then-one-other c =
    let level : name_head c.args.one.now ≡ name_head c.args.other.now = sym c.requires.one ∙ c.if-one_head-other_head.false ∙ c.requires.other in
    let few : length c.args.one.now ≤ 8 = c.if-one-le-HEAD.true in
    let alike : length c.args.one.now ≡ length c.args.other.now = c.if-one-other.true in
    sym (same_by_length c.args.one.now c.args.other.now (λ i. omega (arith, c.type_inv.one i)) (λ i. omega (arith, c.type_inv.other i)) few (omega (arith, few, alike)) level alike)
