-- Numbers that are Free and different can be taken in turn.
use Rattle.std.proofs.Common.{◌≡◌, ℕ, ◌<◌, List, length, map, Some, subst}
use Rattle.std.specs.Prelude.{slice_get}
use Rattle.std.proofs.lemmas.Option.{slice_get_within}
use Rattle.base.specs.declared.number.BlockNo.{BlockNo}
use Rattle.base.specs.Surveys.{AreDifferent}
use Rattle.zalloc.specs.declared.BlockState.{BlockState}
use Rattle.zalloc.specs.declared.BlockState.TheVariants.{Free}
use Rattle.tree.specs.Taking.{AllFree}
use Rattle.tree.proofs.Lists.{in_at}
use Rattle.batch.proofs.Listing.{from_map}
use Rattle.tree.proofs.Committed.{all_free}

pub in_turn : (states : List BlockState) (ns : List BlockNo) → ((i : ℕ) (b : BlockNo) → i < length ns → slice_get ns i ≡ Some b → slice_get states b.0 ≡ Some Free) → AreDifferent (map (λ (b : BlockNo). b.0) ns) → AllFree states (map (λ (b : BlockNo). b.0) ns)
in_turn states ns each = all_free states (map (λ (b : BlockNo). b.0) ns) (λ n h.
    let w = from_map (λ (b : BlockNo). b.0) ns n h in
    let at = in_at ns w.0 w.1 in
    subst (λ k. slice_get states k ≡ Some Free) w.2 (each at.0 w.0 (slice_get_within ns at.0 w.0 at.1) at.1))
