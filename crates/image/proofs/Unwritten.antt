-- What writes leave where they don't write.
use Rattle.std.proofs.Common.{◌≡◌, ℕ, zero, suc, Bool, true, false, cond, List, [], ◌∷◌, Some, map, take, inl, inr, ⊎_elim, refl, sym, ap, subst, ◌∙◌}
use Rattle.std.specs.Prelude.{◌==◌}
use Rattle.std.specs.FinMap.{get}
use Rattle.std.proofs.lemmas.Bool.{eqb-true, eq-eqb}
use Rattle.base.specs.Surveys.{IsIn, AreDifferent}
use Rattle.base.specs.declared.number.Key.{Key}
use Rattle.base.specs.Map.{Map, Cell}
use Rattle.image.specs.HasBlocks.{HasBlocks}
use Rattle.image.specs.BlockWrites.{block_put, blocks_put, AreOutside, AreSameAt}
use Rattle.batch.proofs.Listing.{in_map}

-- the numbers of a map's blocks are in a set
abbrev pub AreNumbersIn : (ℕ → Type 0) → Map → Type 0
AreNumbersIn kept m = (k : Key) (c : Cell) → get m k ≡ Some c → kept c.number

-- an image that has the same blocks at the numbers of a map's blocks holds the map
pub still_holds : (kept : ℕ → Type 0) (old new : ℕ → List ℕ) (m : Map) → AreNumbersIn kept m → AreSameAt kept old new → HasBlocks old m → HasBlocks new m
still_holds kept old new m among same holds k c there = same c.number (among k c there) ∙ holds k c there

-- a write of another number
put_elsewhere : (image : ℕ → List ℕ) (number q : ℕ) (bytes : List ℕ) → (q ≡ number → ⊥) → block_put image number bytes q ≡ image q
put_elsewhere image number q bytes other = at (q == number) refl
  where
    at : (b : Bool) → (q == number) ≡ b → cond (q == number) bytes (image q) ≡ image q
    at true e = absurd (other (eqb-true q number e))
    at false e = ap (λ b. cond b bytes (image q)) e

-- writes of numbers outside a set leave the blocks at its numbers
pub writes_leave : (kept : ℕ → Type 0) (image : ℕ → List ℕ) (ws : List (ℕ × List ℕ)) → AreOutside kept ws → AreSameAt kept image (blocks_put image ws)
writes_leave kept image [] out b h = refl
writes_leave kept image (w ∷ ws) out b h =
    writes_leave kept (block_put image w.0 w.1) ws out.1 b h ∙ put_elsewhere image w.0 b w.1 (λ e. out.0 (subst kept e h))

-- a number that isn't written keeps its block
pub unwritten : (image : ℕ → List ℕ) (ws : List (ℕ × List ℕ)) (b : ℕ) → ((w : ℕ × List ℕ) → IsIn ws w → w.0 ≡ b → ⊥) → blocks_put image ws b ≡ image b
unwritten image ws b h = writes_leave (λ q. q ≡ b) image ws (outside ws h) b refl
  where
    outside : (ws : List (ℕ × List ℕ)) → ((w : ℕ × List ℕ) → IsIn ws w → w.0 ≡ b → ⊥) → AreOutside (λ q. q ≡ b) ws
    outside [] h = tt
    outside (w ∷ ws) h = (λ e. h w (inl refl) e, outside ws (λ v i. h v (inr i)))

-- one that is written once has what was written
pub written_there : (image : ℕ → List ℕ) (ws : List (ℕ × List ℕ)) (b : ℕ) (bytes : List ℕ) → AreDifferent (map (λ (w : ℕ × List ℕ). w.0) ws) → IsIn ws (b, bytes) → blocks_put image ws b ≡ bytes
written_there image [] b bytes once i = absurd i
written_there image (w ∷ ws) b bytes once i = ⊎_elim
    (λ (e : (b, bytes) ≡ w).
    let number : b ≡ w.0 = ap (λ (p : ℕ × List ℕ). p.0) e in
    let are : bytes ≡ w.1 = ap (λ (p : ℕ × List ℕ). p.1) e in
    unwritten (block_put image w.0 w.1) ws b (λ v j f. once.0 (subst (IsIn (map (λ (w : ℕ × List ℕ). w.0) ws)) (f ∙ number) (in_map (λ (w : ℕ × List ℕ). w.0) ws v j)))
    ∙ ap (λ t. cond t w.1 (image b)) (eq-eqb b w.0 number) ∙ sym are)
    (λ (r : IsIn ws (b, bytes)). written_there (block_put image w.0 w.1) ws b bytes once.1 r) i

-- a beginning of writes outside a set
outside_take : (kept : ℕ → Type 0) (i : ℕ) (ws : List (ℕ × List ℕ)) → AreOutside kept ws → AreOutside kept (take i ws)
outside_take kept zero ws out = tt
outside_take kept (suc i) [] out = tt
outside_take kept (suc i) (w ∷ ws) out = (out.0, outside_take kept i ws out.1)

-- At every moment of writes of numbers outside a set, the image holds each map whose numbers are in the set
pub holds_at_each : (kept : ℕ → Type 0) (image : ℕ → List ℕ) (ws : List (ℕ × List ℕ)) (m : Map) → AreOutside kept ws → AreNumbersIn kept m → HasBlocks image m → (i : ℕ) → HasBlocks (blocks_put image (take i ws)) m
holds_at_each kept image ws m out among holds i =
    still_holds kept image (blocks_put image (take i ws)) m among (writes_leave kept image (take i ws) (outside_take kept i ws out)) holds
