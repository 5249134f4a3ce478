use Rattle.std.proofs.Common.{arith, sym, false, length}
use Rattle.std.proofs.lemmas.List.{length-replicate}
use Rattle.zalloc.proofs.Noted.{none_flagged, no_flags}
use Rattle.zalloc.proofs.touched.Touched.clear.Goals as goal

pub invariant_of-self : goal.invariant_of-self
invariant_of-self c =
    let n = length c.self.inside.flags.items in
    record {
      count = rw (c.unflag.ensures.flags, c.unflag.ensures.emptied) (sym (no_flags n));
      listed = rw c.unflag.ensures.flags (λ k e. absurd (none_flagged n k e));
      within = rw c.unflag.ensures.emptied (λ i h. absurd (omega (arith, h)));
      room = rw (c.unflag.ensures.flags, c.unflag.ensures.room) (omega (arith, length-replicate n false, c.self.invariant.room));
    }
