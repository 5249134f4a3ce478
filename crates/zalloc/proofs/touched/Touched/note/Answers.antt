use Rattle.std.proofs.Common.{◌≡◌, ◌/◌, ◌∷◌, [], arith, ap, refl, ◌∙◌, Some, false, true, set, length, length-append, length-set, rules}
use Rattle.std.specs.Prelude.{slice_get}
use Rattle.std.proofs.lemmas.Option.{slice_get_read}
use Rattle.zalloc.proofs.Noted.{room_to_note, flag_more, listed_more, within_more}
use Rattle.zalloc.proofs.touched.Touched.note.Goals as goal

pub push_reserved-requires : goal.push_reserved-requires
push_reserved-requires c =
    let xs = c.self.inside.flags.items in
    let w = c.args.number / 64 in
    let off : c.index.result.now ≡ false = search rules in
    let at : slice_get xs w ≡ Some false = slice_get_read xs (length xs) w c.index.result.now refl (omega (arith, c.requires, ap length c.self.view_is)) c.index.ensures ∙ ap Some off in
    omega (arith, room_to_note xs w at, c.self.invariant.count, c.self.invariant.room, c.self.inside.noted.ok.0)

pub invariant_of-self : goal.invariant_of-self
invariant_of-self c =
    let xs = c.self.inside.flags.items in
    let ns = c.self.inside.noted.items in
    let w = c.args.number / 64 in
    let off : c.index.result.now ≡ false = search rules in
    let at : slice_get xs w ≡ Some false = slice_get_read xs (length xs) w c.index.result.now refl (omega (arith, c.requires, ap length c.self.view_is)) c.index.ensures ∙ ap Some off in
    let pushed = c.push_reserved.ensures.items in
    record {
      count = rw pushed (omega (arith, length-append ns (w ∷ []), flag_more xs w at, c.self.invariant.count));
      listed = rw pushed (listed_more xs ns w c.self.invariant.listed);
      within = rw pushed (within_more ns w (length (set xs w true)) (omega (arith, length-set xs w true, c.requires, ap length c.self.view_is)) (λ i h. omega (arith, c.self.invariant.within i h, length-set xs w true)));
      room = rw c.push_reserved.ensures.capacity (omega (arith, length-set xs w true, c.self.invariant.room));
    }
