-- What stands where after bytes were put in.
use Rattle.std.proofs.Common.{◌≡◌, ℕ, zero, suc, ◌+◌, ◌-◌, ◌*◌, ◌<◌, ◌≤◌, cond, ⊎_elim, List, [], ◌∷◌, ◌++◌, length, take, drop, set, Option, sym, ap, ◌∙◌, arith, length-append, length-take, length-drop, append_assoc}
use Rattle.std.specs.List.{flat_map}
use Rattle.std.proofs.lemmas.List.{drop-drop, drop_at, take_at, drop-append-le, drop-take, take-take, length-take-le}
use Rattle.std.proofs.Math.Seq.{take-append-add}
use Rattle.std.proofs.lemmas.Slice.{take-put_mid_below, drop-put_mid}
use Rattle.std.proofs.lemmas.Bool.{eq-eqb, cases_lt}
use Rattle.node.proofs.Digits.{eq_not}
use borrow.Rule.Slice.PartMut.{put_mid}
use Rattle.base.specs.Map.{Block}
use Rattle.image.specs.ImageBlocks.{block_at, pointer_bytes, pointers_bytes}
use Rattle.image.specs.BlockWrites.{bytes_put, block_put}
use Rattle.image.proofs.Pointers.{length-pointer_bytes}

-- what a write to a part of a slice leaves
pub put_mid_is : (old bytes : List ℕ) (at k : ℕ) → length bytes ≡ k → put_mid at k old bytes ≡ bytes_put old at bytes
unfolding bytes_put
put_mid_is old bytes at k e = ap (λ xs. take at old ++ (bytes ++ xs)) (drop-drop k at old ∙ ap (λ n. drop (at + n) old) (sym e))

pub length-bytes_put : (old bytes : List ℕ) (at : ℕ) → at + length bytes ≤ length old → length (bytes_put old at bytes) ≡ length old
unfolding bytes_put
length-bytes_put old bytes at h = omega (arith, length-append (take at old) (bytes ++ drop (at + length bytes) old), length-append bytes (drop (at + length bytes) old), length-take at old, length-drop (at + length bytes) old)

module _ (old bytes : List ℕ) (at k : ℕ) (size : length bytes ≡ k) (fits : at + k ≤ length old) where
  -- a block that ends before them
  block_before : (q : ℕ) → 512 * q + 512 ≤ at → block_at (bytes_put old at bytes) q ≡ block_at old q
  block_before q h =
      let below : take (512 * q + 512) (put_mid at k old bytes) ≡ take (512 * q + 512) old = take-put_mid_below at k old bytes (512 * q + 512) h (omega arith) in
      ap (λ xs. block_at xs q) (sym (put_mid_is old bytes at k size))
      ∙ sym (drop-take (512 * q) 512 (put_mid at k old bytes)) ∙ ap (drop (512 * q)) below ∙ drop-take (512 * q) 512 old

  -- a block that begins behind them
  block_behind : (q : ℕ) → at + k ≤ 512 * q → block_at (bytes_put old at bytes) q ≡ block_at old q
  block_behind q h =
      ap (λ xs. block_at xs q) (sym (put_mid_is old bytes at k size))
      ∙ ap (take 512) (drop-put_mid at k old bytes (512 * q) h (omega arith) size)

-- the block that they are
block_here : (old bytes : List ℕ) (b : ℕ) → length bytes ≡ 512 → 512 * b + 512 ≤ length old → block_at (bytes_put old (512 * b) bytes) b ≡ bytes
unfolding bytes_put
block_here old bytes b size fits =
    ap (take 512) (drop_at (take (512 * b) old) (bytes ++ drop (512 * b + length bytes) old) (512 * b) (length-take-le (512 * b) old (omega arith)))
    ∙ take_at bytes (drop (512 * b + length bytes) old) 512 size

-- each block after a write of one
pub block_at_put : (old bytes : List ℕ) (b q n : ℕ) → length old ≡ 512 * n → length bytes ≡ 512 → b < n → q < n → block_at (bytes_put old (512 * b) bytes) q ≡ block_put (block_at old) b bytes q
block_at_put old bytes b q n long size hb hq =
    ⊎_elim
    (λ (lt : q < b). block_before old bytes (512 * b) 512 size (omega arith) q (omega arith) ∙ other (λ e. omega arith))
    (λ (ge : b ≤ q). ⊎_elim
    (λ (gt : b < q). block_behind old bytes (512 * b) 512 size (omega arith) q (omega arith) ∙ other (λ e. omega arith))
    (λ (le : q ≤ b).
    let same : q ≡ b = omega arith in
    ap (block_at (bytes_put old (512 * b) bytes)) same ∙ block_here old bytes b size (omega arith) ∙ ap (λ t. cond t bytes (block_at old q)) (sym (eq-eqb q b same)))
    (cases_lt b q))
    (cases_lt q b)
  where
    other : (q ≡ b → ⊥) → block_at old q ≡ block_put (block_at old) b bytes q
    other h = ap (λ t. cond t bytes (block_at old q)) (sym (eq_not q b h))

take_further : {X : Type 0} (xs ys : List X) (n m : ℕ) → length xs ≡ n → take (n + m) (xs ++ ys) ≡ xs ++ take m ys
take_further xs ys n m e = ap (λ k. take (k + m) (xs ++ ys)) (sym e) ∙ take-append-add xs ys m

-- a part of one block put in
pub block_part_put : (old bytes : List ℕ) (b i k : ℕ) → length bytes ≡ k → i + k ≤ 512 → 512 * b + 512 ≤ length old → block_at (bytes_put old (512 * b + i) bytes) b ≡ bytes_put (block_at old b) i bytes
unfolding bytes_put
block_part_put old bytes b i k size fits long =
    let at : ℕ = 512 * b in
    let d = drop (512 * b) old in
    let m : ℕ = 512 - i - k in
    let first : drop (512 * b) (take (512 * b + i) old ++ (bytes ++ drop (512 * b + i + length bytes) old)) ≡ take i (drop (512 * b) old) ++ (bytes ++ drop (512 * b + i + length bytes) old) =
    drop-append-le (512 * b) (take (512 * b + i) old) _ (omega (arith, length-take (512 * b + i) old)) ∙ ap (λ xs. xs ++ (bytes ++ drop (512 * b + i + length bytes) old)) (drop-take (512 * b) i old) in
    let whole : 512 ≡ i + (k + (512 - i - k)) = omega arith in
    let len : length (take i (drop (512 * b) old)) ≡ i = length-take-le i (drop (512 * b) old) (omega (arith, length-drop (512 * b) old)) in
    let rest : drop (512 * b + i + length bytes) old ≡ drop (i + length bytes) (drop (512 * b) old) = ap (λ n. drop n old) (let e : 512 * b + i + length bytes ≡ 512 * b + (i + length bytes) = omega arith in e) ∙ sym (drop-drop (i + length bytes) (512 * b) old) in
    let tail : drop (i + length bytes) (take 512 (drop (512 * b) old)) ≡ take (512 - i - k) (drop (i + length bytes) (drop (512 * b) old)) =
    ap (λ n. drop (i + length bytes) (take n (drop (512 * b) old))) (let e : 512 ≡ (i + length bytes) + (512 - i - k) = omega arith in e) ∙ drop-take (i + length bytes) (512 - i - k) (drop (512 * b) old) in
    ap (take 512) first
    ∙ ap (λ n. take n (take i (drop (512 * b) old) ++ (bytes ++ drop (512 * b + i + length bytes) old))) whole
    ∙ take_further (take i (drop (512 * b) old)) _ i (k + (512 - i - k)) len
    ∙ ap (λ xs. take i (drop (512 * b) old) ++ xs) (take_further bytes (drop (512 * b + i + length bytes) old) k (512 - i - k) size ∙ ap (λ xs. bytes ++ take (512 - i - k) xs) rest ∙ ap (λ xs. bytes ++ xs) (sym tail))
    ∙ ap (λ xs. xs ++ (bytes ++ drop (i + length bytes) (take 512 (drop (512 * b) old)))) (sym (take-take i 512 (drop (512 * b) old) (omega arith)))

-- one pointer of a block put in
pub pointer_put : (l i : ℕ) (ps : List (Option Block)) (p : Option Block) → i < length ps → bytes_put (pointers_bytes l ps) (32 * i) (pointer_bytes l p) ≡ pointers_bytes l (set ps i p)
unfolding pointers_bytes bytes_put
pointer_put l i [] p h = absurd (omega arith)
pointer_put l zero (q ∷ ps) p h =
    let others = flat_map (pointer_bytes l) ps in
    let e : 32 * zero + length (pointer_bytes l p) ≡ 32 = omega (arith, length-pointer_bytes l p) in
    ap (λ n. pointer_bytes l p ++ drop n (pointer_bytes l q ++ others)) e ∙ ap (λ xs. pointer_bytes l p ++ xs) (drop_at (pointer_bytes l q) others 32 (length-pointer_bytes l q))
pointer_put l (suc i) (q ∷ ps) p h =
    let others = flat_map (pointer_bytes l) ps in
    let front = pointer_bytes l q in
    let len = length-pointer_bytes l q in
    let at : 32 * suc i ≡ 32 + 32 * i = omega arith in
    let behind : 32 * suc i + length (pointer_bytes l p) ≡ 32 + (32 * i + length (pointer_bytes l p)) = omega arith in
    let start : take (32 * suc i) (front ++ others) ≡ front ++ take (32 * i) others = ap (λ n. take n (front ++ others)) at ∙ take_further front others 32 (32 * i) len in
    let end : drop (32 * suc i + length (pointer_bytes l p)) (front ++ others) ≡ drop (32 * i + length (pointer_bytes l p)) others =
    ap (λ n. drop n (front ++ others)) behind ∙ sym (drop-drop (32 * i + length (pointer_bytes l p)) 32 (front ++ others)) ∙ ap (drop (32 * i + length (pointer_bytes l p))) (drop_at front others 32 len) in
    (λ z. start z ++ (pointer_bytes l p ++ end z))
    ∙ append_assoc front (take (32 * i) others) _
    ∙ ap (λ xs. front ++ xs) (pointer_put l i ps p (omega arith))
