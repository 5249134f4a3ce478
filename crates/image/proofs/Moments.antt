-- At every moment of writes that are allowed, each map whose numbers are kept can be walked.
use Rattle.std.proofs.Common.{◌≡◌, ℕ, zero, suc, ◌*◌, ◌<◌, cond, List, [], ◌∷◌, length, take, Some, refl, ap, subst, ◌∙◌, arith}
use Rattle.std.specs.Prelude.{◌==◌, IfSome, slice_get}
use Rattle.zalloc.specs.declared.BlockState.{BlockState}
use Rattle.zalloc.specs.declared.BlockState.TheVariants.{Allocated}
use Rattle.base.specs.Map.{Map, Cell, IsTree, HasBytes, contents}
use Rattle.tree.specs.Asking.{AreAllocated}
use Rattle.image.specs.ImageBlocks.{block_at}
use Rattle.image.specs.ImageWalk.{walk}
use Rattle.image.specs.HasBlocks.{HasBlocks, IsWritable, root_of}
use Rattle.image.specs.BlockWrites.{bytes_put, block_put, blocks_put, images_put, AreOutside}
use Rattle.image.specs.Image.{AreOpen}
use Rattle.image.proofs.Unwritten.{AreNumbersIn, holds_at_each}
use Rattle.image.proofs.Patches.{block_at_put, length-bytes_put}
use Rattle.image.proofs.Walked.{walked}

-- what is written to a number hangs on no other number
same_put : (f g : ℕ → List ℕ) (ws : List (ℕ × List ℕ)) (q : ℕ) → f q ≡ g q → blocks_put f ws q ≡ blocks_put g ws q
same_put f g [] q e = e
same_put f g (w ∷ ws) q e = same_put (block_put f w.0 w.1) (block_put g w.0 w.1) ws q (ap (cond (q == w.0) w.1) e)

-- the blocks of the bytes after writes
pub blocks_of_put : (kept : List BlockState) (image : List ℕ) (ws : List (ℕ × List ℕ)) (q : ℕ) → length image ≡ 512 * length kept → AreOpen kept ws → q < length kept → block_at (images_put image ws) q ≡ blocks_put (block_at image) ws q
blocks_of_put kept image [] q size allowed within = refl
blocks_of_put kept image (w ∷ ws) q size allowed within =
    let there = allowed.0.0.within in
    let long : length (bytes_put image (512 * w.0) w.1) ≡ length image = length-bytes_put image w.1 (512 * w.0) (let l = allowed.0.1 in omega (arith, there, l)) in
    blocks_of_put kept (bytes_put image (512 * w.0) w.1) ws q (long ∙ size) allowed.1 within
    ∙ same_put (block_at (bytes_put image (512 * w.0) w.1)) (block_put (block_at image) w.0 w.1) ws q (block_at_put image w.1 w.0 q (length kept) size allowed.0.1 there within)

open_take : (kept : List BlockState) (i : ℕ) (ws : List (ℕ × List ℕ)) → AreOpen kept ws → AreOpen kept (take i ws)
open_take kept zero ws allowed = tt
open_take kept (suc i) [] allowed = tt
open_take kept (suc i) (w ∷ ws) allowed = (allowed.0, open_take kept i ws allowed.1)

-- the numbers that are kept
abbrev IsKeptNumber : List BlockState → ℕ → Type 0
IsKeptNumber kept b = slice_get kept b ≡ Some Allocated

outside : (kept : List BlockState) (ws : List (ℕ × List ℕ)) → AreOpen kept ws → AreOutside (IsKeptNumber kept) ws
outside kept [] allowed = tt
outside kept (w ∷ ws) allowed = (λ e. allowed.0.0.unkept e, outside kept ws allowed.1)

-- what holds of the blocks below the size is enough
holds_below : (n : ℕ) (f g : ℕ → List ℕ) (m : Map) → IsTree n m → ((q : ℕ) → q < n → g q ≡ f q) → HasBlocks f m → HasBlocks g m
holds_below n f g m tree same holds k c there =
    same c.number (subst (λ o. IfSome o (λ (c : Cell). (c.number < n) × HasBytes k c)) there (tree.cells k)).0 ∙ holds k c there

are_kept : (kept : List BlockState) (m : Map) → AreAllocated m kept → AreNumbersIn (IsKeptNumber kept) m
are_kept kept m all k c there = subst (λ o. IfSome o (λ (c : Cell). slice_get kept c.number ≡ Some Allocated)) there (all k)

pub holds_at_moment : (kept : List BlockState) (image : List ℕ) (ws : List (ℕ × List ℕ)) (m : Map) → length image ≡ 512 * length kept → AreOpen kept ws → AreAllocated m kept → IsTree (length kept) m
    → HasBlocks (block_at image) m → (i : ℕ) → HasBlocks (block_at (images_put image (take i ws))) m
holds_at_moment kept image ws m size allowed all tree holds i =
    holds_below (length kept) (blocks_put (block_at image) (take i ws)) (block_at (images_put image (take i ws))) m tree
    (λ q within. blocks_of_put kept image (take i ws) q size (open_take kept i ws allowed) within)
    (holds_at_each (IsKeptNumber kept) (block_at image) ws m (outside kept ws allowed) (are_kept kept m all) holds i)

-- The walk from the root of a map that is kept is its contents, after each of the writes
pub walked_at_moment : (kept : List BlockState) (image : List ℕ) (ws : List (ℕ × List ℕ)) (m : Map) → length image ≡ 512 * length kept → AreOpen kept ws → AreAllocated m kept → IsWritable (length kept) m
    → HasBlocks (block_at image) m → (i : ℕ) → walk (block_at (images_put image (take i ws))) (length kept) (root_of m) ≡ Some (contents m)
walked_at_moment kept image ws m size allowed all w holds i =
    walked (block_at (images_put image (take i ws))) (length kept) m (holds_at_moment kept image ws m size allowed all w.tree holds i) w
