-- Zeros that are written behind other bytes.
use Rattle.std.proofs.Common.{◌≡◌, ℕ, ◌+◌, ◌-◌, ◌*◌, ◌/◌, ◌%◌, ◌≤◌, List, Option, ◌++◌, length, replicate, sym, ap, subst, ◌∙◌, arith}
use Rattle.std.specs.Io.KnownBytes.{Appends}
use Rattle.std.proofs.KnownBytes.{Appends-nil, Appends-trans}
use Rattle.std.proofs.lemmas.List.{replicate-append-replicate}
use Rattle.image.specs.Image.{padded}

abbrev zeros : ℕ → List ℕ
zeros n = replicate n 0

pub no_zeros : (a : Option (List ℕ)) → Appends a a (replicate (512 * 0) 0)
no_zeros a = Appends-nil a

-- those of one block more
pub zeros_more : (a b c : Option (List ℕ)) (n : ℕ) → Appends a b (replicate (512 * n) 0) → Appends b c (replicate 512 0) → Appends a c (replicate (512 * (n + 1)) 0)
zeros_more a b c n so_far more =
    let size : 512 * n + 512 ≡ 512 * (n + 1) = omega arith in
    subst (Appends a c) (replicate-append-replicate (512 * n) 512 0 ∙ ap zeros size) (Appends-trans a b c (zeros (512 * n)) (zeros 512) so_far more)

-- what was written of an image, and the zeros of its other blocks
pub all_written : (a b c : Option (List ℕ)) (written bytes : List ℕ) (blocks count : ℕ) → count ≡ blocks → length written % 512 ≡ 0 → length written ≤ 512 * blocks → bytes ≡ padded (512 * blocks) written
    → Appends a b written → Appends b c (replicate (512 * (count - length written / 512)) 0) → Appends a c bytes
unfolding padded
all_written a b c written bytes blocks count all whole within is first rest =
    let size : 512 * (count - length written / 512) ≡ 512 * blocks - length written = omega (arith, whole, within, all) in
    subst (Appends a c) (ap (λ n. written ++ zeros n) size ∙ sym is) (Appends-trans a b c written (zeros (512 * (count - length written / 512))) first rest)
