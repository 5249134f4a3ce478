-- The writes of a change of one path, one level after the other.
use Rattle.std.proofs.Common.{◌≡◌, ℕ, zero, suc, ◌+◌, ◌*◌, ◌/◌, ◌%◌, ◌^◌, ◌<◌, ◌≤◌, inl, inr, ⊎_elim, Bool, true, false, cond, List, [], ◌∷◌, ◌++◌, length, take, drop, set, replicate, Option, Some, None, refl, sym, ap, subst, ◌∙◌, arith, append_assoc, append-nil, length-drop}
use Rattle.std.specs.Prelude.{◌==◌, ◌&&◌, IfSome}
use Rattle.std.specs.List.{flat_map, range_with_len}
use Rattle.std.proofs.lemmas.List.{take-append-drop, take-append-le, drop-append-le, drop-drop, length-take-le, length-set, length-replicate}
use Rattle.std.proofs.Math.Nat.{mod-lt}
use Rattle.std.proofs.Math.Seq.{take-append-add, drop-append-add}
use Rattle.base.specs.Map.{Block}
use Rattle.base.specs.Surveys.{IsIn}
use Rattle.node.proofs.Digits.{eq_not}
use Rattle.zalloc.specs.declared.BlockState.{BlockState}
use Rattle.tree.specs.declared.block.Root.{Root}
use Rattle.image.specs.ImageBlocks.{block_at, pointer_bytes, pointers_bytes, maybe_block, root_block}
use Rattle.image.specs.BlockWrites.{bytes_put, images_put}
use Rattle.image.specs.Image.{IsOpen, AreOpen}
use Rattle.image.specs.PathWrites.{is_same_block, inner_writes, leaf_writes, level_writes, path_writes, AreSourcesApart, IsPathOpen}
use Rattle.image.proofs.Moments.{blocks_of_put}
use Rattle.image.proofs.Patches.{length-bytes_put, pointer_put}
use Rattle.image.proofs.PathHeld.{from_flat, level_number}
use Rattle.image.proofs.Pointers.{length-pointer_bytes, length-pointers_bytes}
use Rattle.image.proofs.Unwritten.{unwritten}

-- what is put into bytes that were put in
pub put_within : (old xs ys : List ℕ) (at i : ℕ) → i + length ys ≤ length xs → at + length xs ≤ length old → bytes_put (bytes_put old at xs) (at + i) ys ≡ bytes_put old at (bytes_put xs i ys)
unfolding bytes_put
put_within old xs ys at i fits there =
    let front : List ℕ = take at old in
    let rest : List ℕ = drop (at + length xs) old in
    let size : length (take at old) ≡ at = length-take-le at old (omega arith) in
    let same : length (take i xs ++ (ys ++ drop (i + length ys) xs)) ≡ length xs = put_size in
    let before : take (at + i) (take at old ++ (xs ++ drop (at + length xs) old)) ≡ take at old ++ take i xs =
    ap (λ n. take (n + i) (take at old ++ (xs ++ drop (at + length xs) old))) (sym size) ∙ take-append-add (take at old) (xs ++ drop (at + length xs) old) i
    ∙ ap (λ zs. take at old ++ zs) (take-append-le i xs (drop (at + length xs) old) (omega arith)) in
    let behind : drop (at + i + length ys) (take at old ++ (xs ++ drop (at + length xs) old)) ≡ drop (i + length ys) xs ++ drop (at + length xs) old =
    ap (λ n. drop n (take at old ++ (xs ++ drop (at + length xs) old))) (let e : at + i + length ys ≡ length (take at old) + (i + length ys) = omega (arith, size) in e)
    ∙ drop-append-add (take at old) (xs ++ drop (at + length xs) old) (i + length ys) ∙ drop-append-le (i + length ys) xs (drop (at + length xs) old) fits in
    (λ z. before z ++ (ys ++ behind z))
    ∙ append_assoc (take at old) (take i xs) (ys ++ (drop (i + length ys) xs ++ drop (at + length xs) old))
    ∙ ap (λ zs. take at old ++ (take i xs ++ zs)) (sym (append_assoc ys (drop (i + length ys) xs) (drop (at + length xs) old)))
    ∙ ap (λ zs. take at old ++ zs) (sym (append_assoc (take i xs) (ys ++ drop (i + length ys) xs) (drop (at + length xs) old)))
    ∙ ap (λ n. take at old ++ ((take i xs ++ (ys ++ drop (i + length ys) xs)) ++ drop (at + n) old)) (sym same)
  where
    put_size : length (take i xs ++ (ys ++ drop (i + length ys) xs)) ≡ length xs
    put_size = length-bytes_put xs ys i fits

-- a block put where it is
put_itself : (old : List ℕ) (b : ℕ) → 512 * b + 512 ≤ length old → bytes_put old (512 * b) (block_at old b) ≡ old
unfolding bytes_put
put_itself old b there =
    let size : length (take 512 (drop (512 * b) old)) ≡ 512 = length-take-le 512 (drop (512 * b) old) (omega (arith, length-drop (512 * b) old)) in
    ap (λ zs. take (512 * b) old ++ (take 512 (drop (512 * b) old) ++ zs)) (ap (λ n. drop (512 * b + n) old) size ∙ sym (drop-drop 512 (512 * b) old))
    ∙ ap (λ zs. take (512 * b) old ++ zs) (take-append-drop 512 (drop (512 * b) old)) ∙ take-append-drop (512 * b) old

pub block_long : (old : List ℕ) (b : ℕ) → 512 * b + 512 ≤ length old → length (block_at old b) ≡ 512
block_long old b there = length-take-le 512 (drop (512 * b) old) (omega (arith, length-drop (512 * b) old))

-- one pointer of a block that stays
pub pointed : (old bytes : List ℕ) (b i : ℕ) → length bytes ≡ 32 → i < 16 → 512 * b + 512 ≤ length old → bytes_put old (512 * b + 32 * i) bytes ≡ bytes_put old (512 * b) (bytes_put (block_at old b) (32 * i) bytes)
pointed old bytes b i size small there =
    let long = block_long old b there in
    ap (λ xs. bytes_put xs (512 * b + 32 * i) bytes) (sym (put_itself old b there))
    ∙ put_within old (block_at old b) bytes (512 * b) (32 * i) (omega (arith, long, size, small)) (omega (arith, long, there))

-- and of one that moves
pub moved : (old bytes : List ℕ) (o b i : ℕ) → length bytes ≡ 32 → i < 16 → 512 * o + 512 ≤ length old → 512 * b + 512 ≤ length old
    → bytes_put (bytes_put old (512 * b) (block_at old o)) (512 * b + 32 * i) bytes ≡ bytes_put old (512 * b) (bytes_put (block_at old o) (32 * i) bytes)
moved old bytes o b i size small was there =
    let long = block_long old o was in
    put_within old (block_at old o) bytes (512 * b) (32 * i) (omega (arith, long, size, small)) (omega (arith, long, there))

-- One level after those below it
flat_more : {A : Type 0} (f : ℕ → List A) (k a : ℕ) → flat_map f (range_with_len a (k + 1)) ≡ flat_map f (range_with_len a k) ++ f (a + k)
flat_more f zero a = append-nil (f a) ∙ (let e : a ≡ a + 0 = omega arith in ap f e)
flat_more f (suc k) a =
    let e : (a + 1) + k ≡ a + suc k = omega arith in
    let n : suc k + 1 ≡ suc (k + 1) = omega arith in
    ap (λ n. flat_map f (range_with_len a n)) n ∙ ap (λ xs. f a ++ xs) (flat_more f k (a + 1) ∙ ap (λ n. flat_map f (range_with_len (a + 1) k) ++ f n) e)
    ∙ sym (append_assoc (f a) (flat_map f (range_with_len (a + 1) k)) (f (a + suc k)))

images_append : (image : List ℕ) (vs ws : List (ℕ × List ℕ)) → images_put image (vs ++ ws) ≡ images_put (images_put image vs) ws
images_append image [] ws = refl
images_append image (v ∷ vs) ws = images_append (bytes_put image (512 * v.0) v.1) vs ws

all_open : (kept : List BlockState) (ws : List (ℕ × List ℕ)) → ((w : ℕ × List ℕ) → IsIn ws w → IsOpen kept w.0 × (length w.1 ≡ 512)) → AreOpen kept ws
all_open kept [] h = tt
all_open kept (w ∷ ws) h = (h w (inl refl), all_open kept ws (λ v i. h v (inr i)))

module _ (image bytes : List ℕ) (kept : List BlockState) (leaf : ℕ) (before after : ℕ → Option Block)
    (size : length image ≡ 512 * length kept) (long : length bytes ≡ 512) (is : IsPathOpen kept before after) where
  abbrev f : ℕ → List (ℕ × List ℕ)
  f = level_writes (block_at image) leaf before after bytes

  abbrev so_far : ℕ → List (ℕ × List ℕ)
  so_far k = path_writes (block_at image) leaf before after bytes k

  inner_long : (l i : ℕ) (b a c d : Option Block) (w : ℕ × List ℕ) → i < 16 → ((o : Block) → b ≡ Some o → o.number < length kept) → IsIn (inner_writes (block_at image) l i b a c d) w → length w.1 ≡ 512
  inner_long l i b None c d w small there h = absurd h
  inner_long l i None (Some n) c d w small there h = ⊎_elim
      (λ (e : w ≡ (n.number, pointers_bytes l (set (replicate 16 None) i d))).
      let sixteen : length (set (replicate 16 None) i d) ≡ 16 = length-set (replicate 16 None) i d in
      ap (λ (w : ℕ × List ℕ). length w.1) e ∙ length-pointers_bytes l (set (replicate 16 None) i d) ∙ ap (λ n. 32 * n) sixteen)
      (λ none. absurd none) h
  inner_long l i (Some o) (Some n) c d w small there h = at ((o.number == n.number) && is_same_block c d) h
    where
      at : (t : Bool) → IsIn (cond t [] ((n.number, bytes_put (block_at image o.number) (32 * i) (pointer_bytes l d)) ∷ [])) w → length w.1 ≡ 512
      at true h = absurd h
      at false h = ⊎_elim
          (λ (e : w ≡ (n.number, bytes_put (block_at image o.number) (32 * i) (pointer_bytes l d))).
          let was = there o refl in
          let block = block_long image o.number (omega (arith, size, was)) in
          ap (λ (w : ℕ × List ℕ). length w.1) e ∙ length-bytes_put (block_at image o.number) (pointer_bytes l d) (32 * i) (omega (arith, block, length-pointer_bytes l d, small)) ∙ block)
          (λ none. absurd none) h

  leaf_long : (a : Option Block) (w : ℕ × List ℕ) → IsIn (leaf_writes a bytes) w → length w.1 ≡ 512
  leaf_long None w h = absurd h
  leaf_long (Some n) w h = ⊎_elim (λ (e : w ≡ (n.number, bytes)). ap (λ (w : ℕ × List ℕ). length w.1) e ∙ long) (λ none. absurd none) h

  level_long : (l : ℕ) (w : ℕ × List ℕ) → l ≤ 5 → IsIn (f l) w → length w.1 ≡ 512
  level_long zero w low i = leaf_long (after 0) w i
  level_long (suc l) w low i = inner_long l ((leaf / 16 ^ l) % 16) (before (suc l)) (after (suc l)) (before l) (after l) w (let p : 0 < 16 = omega arith in mod-lt (leaf / 16 ^ l) p) (λ o e. is.there (suc l) o low e) i

  pub path_open : (k : ℕ) → k ≤ 6 → AreOpen kept (so_far k)
  path_open k small = all_open kept (so_far k) (λ w i.
      let l = from_flat f k 0 w i in
      let high = l.2 in
      let low : l.0 ≤ 5 = omega (arith, high) in
      let n = level_number (block_at image) leaf before after bytes l.0 w l.3 in
      (subst (IsOpen kept) (sym n.2) (is.open_to l.0 n.0 low n.1), level_long l.0 w low l.3))

  -- the block from which a level's is made is still there
  source : AreSourcesApart before after → (l : ℕ) (o n : Block) → suc l ≤ 5 → before (suc l) ≡ Some o → after (suc l) ≡ Some n → block_at (images_put image (so_far (l + 1))) o.number ≡ block_at image o.number
  source apart l o n low was stays =
      blocks_of_put kept image (so_far (l + 1)) o.number size (path_open (l + 1) (omega (arith, low))) (is.there (suc l) o low was)
      ∙ unwritten (block_at image) (so_far (l + 1)) o.number (λ w i same.
      let m = from_flat f (l + 1) 0 w i in
      let high = m.2 in
      let k = level_number (block_at image) leaf before after bytes m.0 w m.3 in
      let level : suc l ≡ m.0 = apart (suc l) m.0 o n k.0 low (omega (arith, high, low)) was stays k.1 (sym k.2 ∙ same) in
      absurd (omega (arith, level, high)))

  same_inner : (image' : ℕ → List ℕ) (l i : ℕ) (b a c d : Option Block) → ((o n : Block) → b ≡ Some o → a ≡ Some n → image' o.number ≡ block_at image o.number) → inner_writes image' l i b a c d ≡ inner_writes (block_at image) l i b a c d
  same_inner image' l i b None c d h = refl
  same_inner image' l i None (Some n) c d h = refl
  same_inner image' l i (Some o) (Some n) c d h = ap (λ bs. cond ((o.number == n.number) && is_same_block c d) [] ((n.number, bytes_put bs (32 * i) (pointer_bytes l d)) ∷ [])) (h o n refl refl)

  pub level_more : AreSourcesApart before after → (l : ℕ) → suc l ≤ 5
      → images_put (images_put image (so_far (l + 1))) (inner_writes (block_at (images_put image (so_far (l + 1)))) l ((leaf / 16 ^ l) % 16) (before (suc l)) (after (suc l)) (before l) (after l)) ≡ images_put image (so_far (l + 1 + 1))
  level_more apart l low =
      let next : 0 + (l + 1) ≡ suc l = omega arith in
      ap (images_put (images_put image (so_far (l + 1)))) (same_inner (block_at (images_put image (so_far (l + 1)))) l ((leaf / 16 ^ l) % 16) (before (suc l)) (after (suc l)) (before l) (after l) (λ o n. source apart l o n low))
      ∙ sym (images_append image (so_far (l + 1)) (f (suc l)))
      ∙ ap (images_put image) (sym (flat_more f (l + 1) 0 ∙ ap (λ n. so_far (l + 1) ++ f n) next))

-- a block of zeros points to no block
no_child : (l : ℕ) → replicate 512 0 ≡ pointers_bytes l (replicate 16 None)
unfolding pointers_bytes
no_child l = refl

-- What is done at one level
and_false : (a b : Bool) → b ≡ false → (a && b) ≡ false
and_false true b e = e
and_false false b e = refl

both_true : (a b : Bool) → a ≡ true → b ≡ true → (a && b) ≡ true
both_true true b e f = f
both_true false b e f = e

module _ (image : List ℕ) (l i : ℕ) (o n : Block) (c d : Option Block) (small : i < 16) (there : 512 * n.number + 512 ≤ length image) where
  abbrev all : List (ℕ × List ℕ)
  all = (n.number, bytes_put (block_at image o.number) (32 * i) (pointer_bytes l d)) ∷ []

  pub writes_pointed : o.number ≡ n.number → is_same_block c d ≡ false → bytes_put image (512 * n.number + 32 * i) (pointer_bytes l d) ≡ images_put image (inner_writes (block_at image) l i (Some o) (Some n) c d)
  writes_pointed same child =
      pointed image (pointer_bytes l d) n.number i (length-pointer_bytes l d) small there
      ∙ ap (λ q. bytes_put image (512 * n.number) (bytes_put (block_at image q) (32 * i) (pointer_bytes l d))) (sym same)
      ∙ ap (λ t. images_put image (cond t [] all)) (sym (and_false (o.number == n.number) (is_same_block c d) child))

  pub writes_moved : (o.number ≡ n.number → ⊥) → 512 * o.number + 512 ≤ length image
      → bytes_put (bytes_put image (512 * n.number) (block_at image o.number)) (512 * n.number + 32 * i) (pointer_bytes l d) ≡ images_put image (inner_writes (block_at image) l i (Some o) (Some n) c d)
  writes_moved other was =
      moved image (pointer_bytes l d) o.number n.number i (length-pointer_bytes l d) small was there
      ∙ ap (λ t. images_put image (cond (t && is_same_block c d) [] all)) (sym (eq_not o.number n.number other))

  pub writes_made : bytes_put (bytes_put image (512 * n.number) (replicate 512 0)) (512 * n.number + 32 * i) (pointer_bytes l d) ≡ images_put image (inner_writes (block_at image) l i None (Some n) c d)
  writes_made =
      put_within image (replicate 512 0) (pointer_bytes l d) (512 * n.number) (32 * i) (omega (arith, length-replicate {A = ℕ} 512 0, length-pointer_bytes l d, small)) (omega (arith, length-replicate {A = ℕ} 512 0, there))
      ∙ ap (λ xs. bytes_put image (512 * n.number) (bytes_put xs (32 * i) (pointer_bytes l d))) (no_child l)
      ∙ ap (bytes_put image (512 * n.number)) (pointer_put l i (replicate 16 None) d (omega (arith, small)))

-- a root that may be none, of which something holds
pub some_root : (P : ℕ → Type 0) (r : Option Root) → ((n : Block) → maybe_block r ≡ Some n → P n.number) → IfSome r (λ r. P r.block.0)
some_root P None h = tt
some_root P (Some r) h = h (root_block r) refl
