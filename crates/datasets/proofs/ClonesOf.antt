-- The clones of a snapshot, counted.
use Rattle.std.proofs.Common.{◌≡◌, false, List, sym, ap, ◌∙◌, map, length, true≢false}
use Rattle.std.specs.Prelude.{nat_lt}
use Rattle.std.proofs.lemmas.List.{length-map}
use Rattle.model.specs.World.{World, SnapId, clones_of}
use Rattle.world.specs.Dead.{HasNoCloneIn}
use Rattle.world.proofs.steps.States.{positive, in_clones}

-- there is one where their names are some
pub counted : {A B : Type 0} (f : A → B) (xs : List A) (ys : List B) → map f xs ≡ ys → nat_lt 0 (length xs) ≡ nat_lt 0 (length ys)
counted f xs ys is = ap (nat_lt 0) (sym (length-map xs f) ∙ ap length is)

-- where none is counted, none is there
pub none_counted : (w : World) (id : SnapId) → nat_lt 0 (length (clones_of w id)) ≡ false → HasNoCloneIn w.file_systems id
none_counted w id none q x at e = true≢false (sym (positive (clones_of w id) q (in_clones w id q x at e)) ∙ none)
