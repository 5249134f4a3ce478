use Rattle.std.proofs.Common.{◌+◌, ◌*◌, length, ap, arith}
use Rattle.image.specs.Image.{ShownImage}
use Rattle.image.specs.ImageBlocks.{pointer_bytes, maybe_block}
use Rattle.image.proofs.Padded.{is_put}
use Rattle.image.proofs.Pointers.{length-pointer_bytes}
use Rattle.image.proofs.image.Image.point.Goals as goal

pub invariant_of-self : goal.invariant_of-self
invariant_of-self c =
    let kept = ap (λ (s : ShownImage). length s.kept) c.self.view_is in
    let put = is_put c.self.inside.written c.put_pointer.new.written c.self.inside.blocks c.args.b.0 (512 * c.args.b.0 + 32 * c.args.place) (pointer_bytes c.args.level (maybe_block c.args.root)) (omega (arith, c.requires.open.within, kept, c.self.invariant.states)) c.self.invariant.whole c.self.invariant.within
    (omega (arith, length-pointer_bytes c.args.level (maybe_block c.args.root), c.requires.place)) c.put_pointer.ensures.put in
    record {
      states = c.self.invariant.states;
      few = c.self.invariant.few;
      whole = put.whole;
      within = put.within;
      room = omega (arith, c.self.invariant.room, c.put_pointer.ensures.capacity);
    }

pub returns : goal.returns
returns c =
    let kept = ap (λ (s : ShownImage). length s.kept) c.self.view_is in
    let put = is_put c.self.inside.written c.put_pointer.new.written c.self.inside.blocks c.args.b.0 (512 * c.args.b.0 + 32 * c.args.place) (pointer_bytes c.args.level (maybe_block c.args.root)) (omega (arith, c.requires.open.within, kept, c.self.invariant.states)) c.self.invariant.whole c.self.invariant.within
    (omega (arith, length-pointer_bytes c.args.level (maybe_block c.args.root), c.requires.place)) c.put_pointer.ensures.put in
    rw (← c.self.view_is) (λ i. record { bytes = put.all i; kept = c.self.inside.kept; keeps = c.self.inside.keeps })
