-- A pointer is read back as it was written.
use Rattle.std.proofs.Common.{◌≡◌, ℕ, zero, suc, ◌+◌, ◌-◌, ◌*◌, ◌^◌, ◌<◌, ◌≤◌, true, false, List, [], ◌∷◌, ◌++◌, length, map, get_or, drop, Option, Some, None, refl, sym, ap, ◌∙◌, arith, length-append}
use Rattle.std.specs.Prelude.{◌==◌, nat_le}
use Rattle.std.specs.List.{flat_map}
use Rattle.std.specs.Int.{to_be_bytes, w64}
use Rattle.std.proofs.lemmas.List.{drop-drop, drop_at, length-map}
use Rattle.std.proofs.lemmas.Bool.{eq-eqb, le-leb}
use Rattle.node.proofs.Digits.{eq_not}
use Rattle.byteorder.specs.Endian.{big_number}
use Rattle.byteorder.specs.Numbers.{big_number-reads_back}
use Rattle.base.specs.Map.{Block}
use Rattle.tree.specs.declared.block.Block.{Block as Made}
use Rattle.tree.specs.declared.block.Block.TheVariants.{Contents, Pointers}
use Rattle.image.specs.ImageBlocks.{pointer_bytes, pointers_bytes, made_bytes, maybe_block, IsOfTree}
use Rattle.image.specs.ImageWalk.{number_in, said_by, pointer_in}

pub length-pointer_bytes : (l : ℕ) (p : Option Block) → length (pointer_bytes l p) ≡ 32
length-pointer_bytes l None = refl
length-pointer_bytes l (Some b) = refl

pub length-pointers_bytes : (l : ℕ) (ps : List (Option Block)) → length (pointers_bytes l ps) ≡ 32 * length ps
unfolding pointers_bytes
length-pointers_bytes l [] = refl
length-pointers_bytes l (p ∷ ps) = let here = length-pointer_bytes l p in let rest = length-pointers_bytes l ps in let all = length-append (pointer_bytes l p) (flat_map (pointer_bytes l) ps) in omega (arith, here, rest, all)

pub length-made_bytes : (b : Made) → IsOfTree b → length (made_bytes b) ≡ 512
unfolding made_bytes
length-made_bytes (Contents bytes) h = h
length-made_bytes (Pointers level roots) h = length-pointers_bytes (level - 1) (map maybe_block roots) ∙ omega (arith, h.1, length-map roots maybe_block)

-- the bytes of a pointer stand at its place
pub pointer_there : (l i : ℕ) (ps : List (Option Block)) → i < length ps → (rest : List ℕ) × (drop (32 * i) (pointers_bytes l ps) ≡ pointer_bytes l (get_or ps i None) ++ rest)
unfolding pointers_bytes
pointer_there l i [] h = absurd (omega arith)
pointer_there l zero (p ∷ ps) h = (flat_map (pointer_bytes l) ps, refl)
pointer_there l (suc i) (p ∷ ps) h =
    let rest = pointer_there l i ps (omega arith) in
    let others = flat_map (pointer_bytes l) ps in
    let e : 32 * suc i ≡ 32 + 32 * i = omega arith in
    (rest.0, ap (λ n. drop n (pointer_bytes l p ++ others)) e ∙ sym (drop-drop (32 * i) 32 (pointer_bytes l p ++ others)) ∙ ap (drop (32 * i)) (drop_at (pointer_bytes l p) others 32 (length-pointer_bytes l p)) ∙ rest.1)

-- the number so far behind the place where a block has these bytes
number_after : (block bytes : List ℕ) (at d : ℕ) → drop at block ≡ bytes → number_in block (at + d) ≡ big_number 8 (drop d bytes)
number_after block bytes at d e = ap (big_number 8) (sym (drop-drop d at block) ∙ ap (drop d) e)

number_first : (block bytes : List ℕ) (at : ℕ) → drop at block ≡ bytes → number_in block at ≡ big_number 8 bytes
number_first block bytes at e = ap (big_number 8) e

said_some : (n l g : ℕ) (b : Block) → b.number < n → b.birth ≤ g → said_by n l g (b.number + 1) b.birth l 0 ≡ Some (Some b)
said_some n l g b within old =
    let there : (b.number + 1 == 0) ≡ false = eq_not _ _ (λ e. omega arith) in
    let few : nat_le (b.number + 1) n ≡ true = le-leb _ _ (omega arith) in
    let born : nat_le b.birth g ≡ true = le-leb _ _ old in
    let level : (l == l) ≡ true = eq-eqb l l refl in
    let number : b.number + 1 - 1 ≡ b.number = omega arith in
    rw (there, few, born, level) (λ i. Some (Some (record { number = number i; birth = b.birth })))

abbrev eight : ℕ → List ℕ
eight = to_be_bytes w64

-- the four numbers that stand at a place
four_numbers : (block rest : List ℕ) (at a b c d : ℕ) → drop at block ≡ eight a ++ (eight b ++ (eight c ++ (eight d ++ rest))) → a < 2 ^ 64 → b < 2 ^ 64 → c < 2 ^ 64 → d < 2 ^ 64
    → (number_in block at ≡ a) × (number_in block (at + 8) ≡ b) × (number_in block (at + 16) ≡ c) × (number_in block (at + 24) ≡ d)
four_numbers block rest at a b c d e ha hb hc hd = (
  number_first block _ at e ∙ big_number-reads_back 8 a (eight b ++ (eight c ++ (eight d ++ rest))) ha,
  number_after block _ at 8 e ∙ big_number-reads_back 8 b (eight c ++ (eight d ++ rest)) hb,
  number_after block _ at 16 e ∙ big_number-reads_back 8 c (eight d ++ rest) hc,
  number_after block _ at 24 e ∙ big_number-reads_back 8 d rest hd,
)

-- what a pointer that stands at a place says
pub says_none : (n l g i : ℕ) (block rest : List ℕ) → drop (32 * i) block ≡ pointer_bytes l None ++ rest → pointer_in n l g block i ≡ Some None
unfolding pointer_in
says_none n l g i block rest e =
    let zero_fits : 0 < 2 ^ 64 = omega arith in
    let f = four_numbers block rest (32 * i) 0 0 0 0 e zero_fits zero_fits zero_fits zero_fits in
    λ z. said_by n l g (f.0 z) (f.1 z) (f.2 z) (f.3 z)

pub says_some : (n l g i : ℕ) (block rest : List ℕ) (b : Block) → drop (32 * i) block ≡ pointer_bytes l (Some b) ++ rest → l < 2 ^ 64 → n < 2 ^ 64 → g < 2 ^ 64 → b.number < n → b.birth ≤ g → pointer_in n l g block i ≡ Some (Some b)
unfolding pointer_in
says_some n l g i block rest b e low few late within old =
    let f = four_numbers block rest (32 * i) (b.number + 1) b.birth l 0 e (omega arith) (omega arith) low (omega arith) in
    (λ z. said_by n l g (f.0 z) (f.1 z) (f.2 z) (f.3 z)) ∙ said_some n l g b within old
