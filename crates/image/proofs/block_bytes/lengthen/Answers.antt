use Rattle.std.proofs.Common.{◌≡◌, ◌-◌, ◌++◌, take, replicate, length, sym, ap, ◌∙◌, arith}
use Rattle.std.specs.Prelude.{if◌then◌else◌, vec_len}
use Rattle.std.proofs.lemmas.List.{take_all}
use Rattle.image.specs.Image.{padded}
use Rattle.image.proofs.block_bytes.lengthen.Goals as goal

pub returns-else-size-len-clause-items : goal.returns-else-size-len-clause-items
unfolding padded
returns-else-size-len-clause-items c =
    let old = c.args.bytes.now in
    let long : vec_len c.args.bytes.now ≡ length c.args.bytes.now.items = omega (arith, c.args.bytes.now.ok.0) in
    let all : take c.args.size c.args.bytes.now.items ≡ c.args.bytes.now.items = take_all c.args.size c.args.bytes.now.items (omega (arith, long, c.requires.fewer, c.len.ensures)) in
    c.resize-filled.ensures.items
    ∙ ap (λ b. if b then take c.args.size c.args.bytes.now.items ++ replicate (c.args.size - vec_len c.args.bytes.now) 0 else c.args.bytes.now.items) (c.resize-filled.ensures.succeeds c.requires.room)
    ∙ (λ i. all i ++ replicate (c.args.size - long i) 0)

pub returns-then-size-len-clause-items : goal.returns-then-size-len-clause-items
unfolding padded
returns-then-size-len-clause-items c =
    let items = c.args.bytes.now.items in
    let long : vec_len c.args.bytes.now ≡ length c.args.bytes.now.items = omega (arith, c.args.bytes.now.ok.0) in
    let gap : c.args.size - length c.args.bytes.now.items ≡ 512 = omega (arith, long, c.if-size-len.true, c.len.ensures) in
    c.extend_from_slice-longer.ensures.items
    ∙ ap (λ b. if b then c.args.bytes.now.items ++ replicate 512 0 else c.args.bytes.now.items) (c.extend_from_slice-longer.ensures.succeeds (let r = c.requires.room in omega (arith, r, c.if-size-len.true, c.len.ensures, long)))
    ∙ ap (λ n. c.args.bytes.now.items ++ replicate n 0) (sym gap)
