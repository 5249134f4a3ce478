-- New blocks written and listed one after the other.
use Rattle.std.proofs.Common.{◌≡◌, ℕ, ◌+◌, ◌*◌, ◌<◌, List, [], ◌∷◌, ◌++◌, length, map, take, get_or, refl, sym, ap, ◌∙◌}
use Rattle.std.proofs.lemmas.List.{map_more}
use Rattle.base.specs.declared.number.BlockNo.{BlockNo}
use Rattle.image.specs.BlockWrites.{bytes_put, images_put, written_pair}

images_push : (image : List ℕ) (ws : List (ℕ × List ℕ)) (w : ℕ × List ℕ) → images_put image (ws ++ w ∷ []) ≡ bytes_put (images_put image ws) (512 * w.0) w.1
images_push image [] w = refl
images_push image (v ∷ ws) w = images_push (bytes_put image (512 * v.0) v.1) ws w

-- one more block is written
pub writes_more : (bs : List (BlockNo × List ℕ)) (i : ℕ) (d : BlockNo × List ℕ) (image : List ℕ) → i < length bs
    → bytes_put (images_put image (map written_pair (take i bs))) (512 * (get_or bs i d).0.0) (get_or bs i d).1 ≡ images_put image (map written_pair (take (i + 1) bs))
writes_more bs i d image h =
    sym (images_push image (map written_pair (take i bs)) (written_pair (get_or bs i d))) ∙ ap (images_put image) (sym (map_more written_pair bs i d h))
