use Rattle.std.proofs.Common.{◌*◌, length, ap, arith}
use Rattle.image.specs.Image.{ShownImage, padded, blocks_in}
use Rattle.image.proofs.Copies.{length_block}
use Rattle.image.proofs.Padded.{is_put, length-padded}
use Rattle.image.proofs.image.Image.copy_block.Goals as goal

pub invariant_of-self : goal.invariant_of-self
invariant_of-self c =
    let kept = ap (λ (s : ShownImage). length s.kept) c.self.view_is in
    let all = padded (512 * c.self.inside.blocks) c.self.inside.written.items in
    let size = length_block all (512 * c.args.from.0) (omega (arith, c.requires.there, kept, c.self.invariant.states, length-padded (512 * c.self.inside.blocks) c.self.inside.written.items c.self.invariant.within)) in
    let put = is_put c.self.inside.written c.put_copy.new.written c.self.inside.blocks c.args.to.0 (512 * c.args.to.0) (blocks_in c.self.inside.blocks c.self.inside.written.items c.args.from.0)
    (omega (arith, c.requires.open.within, kept, c.self.invariant.states)) c.self.invariant.whole c.self.invariant.within (omega (arith, size)) c.put_copy.ensures.put in
    record {
      states = c.self.invariant.states;
      few = c.self.invariant.few;
      whole = put.whole;
      within = put.within;
      room = omega (arith, c.self.invariant.room, c.put_copy.ensures.capacity);
    }

pub returns : goal.returns
returns c =
    let kept = ap (λ (s : ShownImage). length s.kept) c.self.view_is in
    let all = padded (512 * c.self.inside.blocks) c.self.inside.written.items in
    let size = length_block all (512 * c.args.from.0) (omega (arith, c.requires.there, kept, c.self.invariant.states, length-padded (512 * c.self.inside.blocks) c.self.inside.written.items c.self.invariant.within)) in
    let put = is_put c.self.inside.written c.put_copy.new.written c.self.inside.blocks c.args.to.0 (512 * c.args.to.0) (blocks_in c.self.inside.blocks c.self.inside.written.items c.args.from.0)
    (omega (arith, c.requires.open.within, kept, c.self.invariant.states)) c.self.invariant.whole c.self.invariant.within (omega (arith, size)) c.put_copy.ensures.put in
    rw (← c.self.view_is) (λ i. record { bytes = put.all i; kept = c.self.inside.kept; keeps = c.self.inside.keeps })
