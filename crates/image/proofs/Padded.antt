-- Bytes with zeros behind them.
use Rattle.std.proofs.Common.{◌≡◌, ℕ, ◌+◌, ◌-◌, ◌*◌, ◌%◌, ◌<◌, ◌≤◌, List, [], ◌++◌, length, take, drop, replicate, Vec, Global, sym, ap, ◌∙◌, arith, append-nil, append_assoc, length-append}
use Rattle.std.proofs.lemmas.List.{take_all, drop_all, replicate-append-replicate, length-replicate, take-append-le, drop-append-le, take-replicate, drop-replicate, length-drop}
use Rattle.std.proofs.Math.Seq.{drop-append-add}
use Rattle.image.specs.ImageBlocks.{block_at}
use Rattle.image.specs.BlockWrites.{bytes_put}
use Rattle.image.specs.Image.{padded}
use Rattle.image.proofs.Patches.{length-bytes_put}

abbrev zeros : ℕ → List ℕ
zeros n = replicate n 0

-- where there are as many bytes already, there is nothing to add
pub padded_long : (size : ℕ) (bytes : List ℕ) → size ≤ length bytes → padded size bytes ≡ bytes
unfolding padded
padded_long size bytes h = let none : size - length bytes ≡ 0 = omega arith in ap (λ n. bytes ++ zeros n) none ∙ append-nil bytes

pub length-padded : (size : ℕ) (bytes : List ℕ) → length bytes ≤ size → length (padded size bytes) ≡ size
unfolding padded
length-padded size bytes h = omega (arith, length-append bytes (zeros (size - length bytes)), length-replicate {A = ℕ} (size - length bytes) 0)

pub length-padded_any : (size : ℕ) (bytes : List ℕ) → length (padded size bytes) ≡ length bytes + (size - length bytes)
unfolding padded
length-padded_any size bytes = omega (arith, length-append bytes (zeros (size - length bytes)), length-replicate {A = ℕ} (size - length bytes) 0)

-- bytes that were padded are padded further
pub padded_further : (some size : ℕ) (bytes : List ℕ) → some ≤ size → padded size (padded some bytes) ≡ padded size bytes
unfolding padded
padded_further some size bytes h =
    let front : ℕ = some - length bytes in
    let back : ℕ = size - length (bytes ++ zeros (some - length bytes)) in
    let all : (some - length bytes) + (size - length (bytes ++ zeros (some - length bytes))) ≡ size - length bytes =
    omega (arith, h, length-append bytes (zeros (some - length bytes)), length-replicate {A = ℕ} (some - length bytes) 0) in
    append_assoc bytes (zeros (some - length bytes)) (zeros (size - length (bytes ++ zeros (some - length bytes))))
    ∙ ap (λ xs. bytes ++ xs) (replicate-append-replicate (some - length bytes) (size - length (bytes ++ zeros (some - length bytes))) 0 ∙ ap zeros all)

-- what is put into the bytes is put into them with the zeros
pub put_padded : (size : ℕ) (old bytes : List ℕ) (at : ℕ) → at + length bytes ≤ length old → padded size (bytes_put old at bytes) ≡ bytes_put (padded size old) at bytes
unfolding padded bytes_put
put_padded size old bytes at h =
    let long : length (bytes_put old at bytes) ≡ length old = length-bytes_put old bytes at h in
    let rest : List ℕ = zeros (size - length old) in
    ap (λ n. (take at old ++ (bytes ++ drop (at + length bytes) old)) ++ zeros (size - n)) long
    ∙ append_assoc (take at old) (bytes ++ drop (at + length bytes) old) (zeros (size - length old))
    ∙ ap (λ xs. take at old ++ xs) (append_assoc bytes (drop (at + length bytes) old) (zeros (size - length old)))
    ∙ (λ i. sym (take-append-le at old (zeros (size - length old)) (omega arith)) i ++ (bytes ++ sym (drop-append-le (at + length bytes) old (zeros (size - length old)) h) i))

-- what is put right behind the bytes, where there is no more
pub put_behind : (old bytes : List ℕ) (at size : ℕ) → at ≡ length old → size ≡ at + length bytes → bytes_put (padded size old) at bytes ≡ old ++ bytes
unfolding padded bytes_put
put_behind old bytes at size end fits =
    let front : take at (old ++ zeros (size - length old)) ≡ old = take-append-le at old (zeros (size - length old)) (omega arith) ∙ take_all at old (omega arith) in
    let back : drop (at + length bytes) (old ++ zeros (size - length old)) ≡ [] =
    drop_all (at + length bytes) (old ++ zeros (size - length old)) (omega (arith, length-append old (zeros (size - length old)), length-replicate {A = ℕ} (size - length old) 0)) in
    (λ i. front i ++ (bytes ++ back i)) ∙ ap (λ xs. old ++ xs) (append-nil bytes)

-- a block among the bytes
pub block_written : (size : ℕ) (bytes : List ℕ) (b : ℕ) → 512 * b + 512 ≤ length bytes → block_at (padded size bytes) b ≡ block_at bytes b
unfolding padded
block_written size bytes b h =
    ap (take 512) (drop-append-le (512 * b) bytes (zeros (size - length bytes)) (omega arith))
    ∙ take-append-le 512 (drop (512 * b) bytes) (zeros (size - length bytes)) (omega (arith, length-drop (512 * b) bytes))

-- one behind them
pub block_unwritten : (size : ℕ) (bytes : List ℕ) (b : ℕ) → length bytes ≤ 512 * b → 512 * b + 512 ≤ size → block_at (padded size bytes) b ≡ zeros 512
unfolding padded
block_unwritten size bytes b h fits =
    let at : length bytes + (512 * b - length bytes) ≡ 512 * b = omega arith in
    ap (λ n. take 512 (drop n (bytes ++ zeros (size - length bytes)))) (sym at)
    ∙ ap (take 512) (drop-append-add bytes (zeros (size - length bytes)) (512 * b - length bytes) ∙ drop-replicate (512 * b - length bytes) (size - length bytes) 0)
    ∙ take-replicate 512 (size - length bytes - (512 * b - length bytes)) 0 (omega arith)

-- What was put into the blocks that were written leaves them laid out as they were, and is put into all blocks
pub record IsPut (v w : Vec ℕ Global) (blocks at : ℕ) (bytes : List ℕ) : Type 0 where
  pub whole : length w.items % 512 ≡ 0
  pub within : length w.items ≤ 512 * blocks
  pub all : padded (512 * blocks) w.items ≡ bytes_put (padded (512 * blocks) v.items) at bytes

pub is_put : (v w : Vec ℕ Global) (blocks b at : ℕ) (bytes : List ℕ) → b < blocks → length v.items % 512 ≡ 0 → length v.items ≤ 512 * blocks → at + length bytes ≤ 512 * b + 512
    → w.items ≡ bytes_put (padded (512 * b + 512) v.items) at bytes → IsPut v w blocks at bytes
is_put v w blocks b at bytes there whole within fits put =
    let filled : length (padded (512 * b + 512) v.items) ≡ length v.items + (512 * b + 512 - length v.items) = length-padded_any (512 * b + 512) v.items in
    let room : at + length bytes ≤ length (padded (512 * b + 512) v.items) = omega (arith, filled, fits) in
    let long : length w.items ≡ length v.items + (512 * b + 512 - length v.items) = ap length put ∙ length-bytes_put (padded (512 * b + 512) v.items) bytes at room ∙ filled in
    record {
      whole = still_whole (length v.items) b (length w.items) whole long;
      within = omega (arith, long, within, there);
      all = ap (padded (512 * blocks)) put ∙ put_padded (512 * blocks) (padded (512 * b + 512) v.items) bytes at room
          ∙ ap (λ xs. bytes_put xs at bytes) (padded_further (512 * b + 512) (512 * blocks) v.items (omega (arith, there)));
    }
  where
    still_whole : (n b m : ℕ) → n % 512 ≡ 0 → m ≡ n + (512 * b + 512 - n) → m % 512 ≡ 0
    still_whole n b m e f = omega (arith, e, f)

-- a block among the bytes that were filled up as far as another one is that of the whole image
pub block_filled : (n b from : ℕ) (bytes : List ℕ) → length bytes % 512 ≡ 0 → b < n → 512 * from < length (padded (512 * b + 512) bytes)
    → block_at (padded (512 * b + 512) bytes) from ≡ block_at (padded (512 * n) bytes) from
block_filled n b from bytes whole there h =
    sym (block_written (512 * n) (padded (512 * b + 512) bytes) from (omega (arith, whole, h, length-padded_any (512 * b + 512) bytes)))
    ∙ ap (λ xs. block_at xs from) (padded_further (512 * b + 512) (512 * n) bytes (omega (arith, there)))
