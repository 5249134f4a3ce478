use Rattle.std.proofs.Common.{◌≡◌, ◌+◌, ◌*◌, ◌<◌, true≢false, length, sym, ap, ◌∙◌, arith}
use Rattle.std.proofs.lemmas.Bool.{eqb-true, eq-eqb}
use Rattle.node.proofs.Options.{if_some}
use Rattle.tree.specs.declared.block.Root.{Root}
use Rattle.image.specs.BlockWrites.{bytes_put}
use Rattle.image.specs.Image.{IsOpen}
use Rattle.image.specs.ImageBlocks.{pointer_bytes, maybe_block, root_block}
use Rattle.image.proofs.PathOpen.{writes_made, writes_pointed, writes_moved}
use Rattle.image.proofs.image.Image.write_inner.Goals as goal

pub returns-in_default-old : goal.returns-in_default-old
returns-in_default-old c =
    let here = if_some (λ (r : Root). IsOpen c.args.self.now.kept r.block.0) c.args.new c.in-Some.new c.in-Some.is c.requires.open in
    let within = here.within in
    rw (c.in-Some.is, c.in_default-old.is) (c.point.ensures
    ∙ (λ i. record (c.write_contents.ensures i) { bytes = bytes_put (c.write_contents.ensures i).bytes (512 * c.in-Some.new.block.0 + 32 * c.args.place) (pointer_bytes c.args.level (maybe_block c.args.is)) })
    ∙ ap (λ bs. record c.args.self.now { bytes = bs })
    (writes_made c.args.self.now.bytes c.args.level c.args.place (root_block c.in-Some.new) (root_block c.in-Some.new) (maybe_block c.args.was) (maybe_block c.args.is) c.requires.place (omega (arith, within, c.bytes-written.ensures.size))))

pub returns-then-not-is_same : goal.returns-then-not-is_same
returns-then-not-is_same c =
    let same = eqb-true c.in-Some-old.old.block.0 c.in-Some.new.block.0 (sym c.eq.ensures ∙ c.if-eq.true) in
    let child = sym c.is_same.ensures ∙ c.if-not-is_same.true in
    let here = if_some (λ (r : Root). IsOpen c.args.self.now.kept r.block.0) c.args.new c.in-Some.new c.in-Some.is c.requires.open in
    let within = here.within in
    rw (c.in-Some.is, c.in-Some-old.is) (c.point-then-not-is_same.ensures ∙ ap (λ bs. record c.args.self.now { bytes = bs })
    (writes_pointed c.args.self.now.bytes c.args.level c.args.place (root_block c.in-Some-old.old) (root_block c.in-Some.new) (maybe_block c.args.was) (maybe_block c.args.is) c.requires.place (omega (arith, within, c.bytes-written.ensures.size)) same child))

pub returns : goal.returns
returns c =
    let other = λ (e : c.in-Some-old.old.block.0 ≡ c.in-Some.new.block.0). absurd (true≢false (sym (eq-eqb _ _ e) ∙ sym c.eq.ensures ∙ c.if-eq.false)) in
    let here = if_some (λ (r : Root). IsOpen c.args.self.now.kept r.block.0) c.args.new c.in-Some.new c.in-Some.is c.requires.open in
    let there = if_some (λ (r : Root). r.block.0 < length c.args.self.now.kept) c.args.old c.in-Some-old.old c.in-Some-old.is c.requires.there in
    let within = here.within in
    rw (c.in-Some.is, c.in-Some-old.is) (c.point-2.ensures
    ∙ (λ i. record (c.copy_block.ensures i) { bytes = bytes_put (c.copy_block.ensures i).bytes (512 * c.in-Some.new.block.0 + 32 * c.args.place) (pointer_bytes c.args.level (maybe_block c.args.is)) })
    ∙ ap (λ bs. record c.args.self.now { bytes = bs })
    (writes_moved c.args.self.now.bytes c.args.level c.args.place (root_block c.in-Some-old.old) (root_block c.in-Some.new) (maybe_block c.args.was) (maybe_block c.args.is) c.requires.place (omega (arith, within, c.bytes-written.ensures.size)) other (omega (arith, there, c.bytes-written.ensures.size))))
