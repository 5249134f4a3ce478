-- Pointers as they are written one after the other, and bytes put into a `Vec`.
use Rattle.std.proofs.Common.{◌≡◌, ℕ, ◌+◌, ◌*◌, ◌<◌, ◌≤◌, List, [], ◌∷◌, ◌++◌, length, map, take, get_or, Option, Vec, Global, refl, sym, ap, ◌∙◌, arith, append-nil}
use Rattle.std.specs.List.{flat_map}
use Rattle.std.specs.Vec.{with_items}
use Rattle.std.proofs.lemmas.List.{map_more, take_all, with_items_is}
use Rattle.std.proofs.lemmas.List.Concat.{flat_map-append}
use Rattle.std.proofs.lemmas.Slice.{take-put_mid}
use borrow.Rule.Slice.PartMut.{put_mid}
use Rattle.base.specs.Map.{Block}
use Rattle.tree.specs.declared.block.Root.{Root}
use Rattle.image.specs.ImageBlocks.{pointer_bytes, pointers_bytes, maybe_block}
use Rattle.image.specs.BlockWrites.{bytes_put}
use Rattle.image.proofs.Pointers.{length-pointer_bytes}
use Rattle.image.proofs.Patches.{put_mid_is, length-bytes_put}

pub no_pointers : (l : ℕ) → [] ≡ pointers_bytes l []
unfolding pointers_bytes
no_pointers l = refl

one_more : (l : ℕ) (ps : List (Option Block)) (p : Option Block) → pointers_bytes l (ps ++ p ∷ []) ≡ pointers_bytes l ps ++ pointer_bytes l p
unfolding pointers_bytes
one_more l ps p = flat_map-append (pointer_bytes l) ps (p ∷ []) ∙ ap (λ xs. flat_map (pointer_bytes l) ps ++ xs) (append-nil (pointer_bytes l p))

-- one more pointer is written
pub pointers_more : (l i k : ℕ) (out bytes : List ℕ) (roots : List (Option Root)) (d : Option Root) → i < length roots → 32 * i ≤ length out
    → take (32 * i) out ≡ pointers_bytes l (map maybe_block (take i roots)) → bytes ≡ pointer_bytes l (maybe_block (get_or roots i d))
    → take (32 * (i + 1)) (put_mid (32 * i) k out bytes) ≡ pointers_bytes l (map maybe_block (take (i + 1) roots))
pointers_more l i k out bytes roots d small long so_far is =
    let size : length bytes ≡ 32 = ap length is ∙ length-pointer_bytes l (maybe_block (get_or roots i d)) in
    take-put_mid (32 * i) k out bytes (32 * (i + 1)) (omega (arith, size)) long
    ∙ (λ z. so_far z ++ is z)
    ∙ sym (one_more l (map maybe_block (take i roots)) (maybe_block (get_or roots i d)))
    ∙ ap (pointers_bytes l) (sym (map_more maybe_block roots i d small))

-- all of them are
pub pointers_all : (l i : ℕ) (out : List ℕ) (roots : List (Option Root)) → length roots ≡ 16 → length out ≡ 512 → 16 ≤ i
    → take (32 * i) out ≡ pointers_bytes l (map maybe_block (take i roots)) → out ≡ pointers_bytes l (map maybe_block roots)
pointers_all l i out roots sixteen size end so_far =
    sym (take_all (32 * i) out (omega (arith, size, end))) ∙ so_far ∙ ap (λ rs. pointers_bytes l (map maybe_block rs)) (take_all i roots (omega (arith, sixteen, end)))

-- bytes put into a `Vec`
pub put_in : (v : Vec ℕ Global) (old bytes : List ℕ) (at k size : ℕ) → old ≡ v.items → length bytes ≡ size → k ≡ size → at + size ≤ length v.items → (with_items v (put_mid at k old bytes)).items ≡ bytes_put v.items at bytes
put_in v old bytes at k size same len is fits =
    let put : put_mid at k old bytes ≡ bytes_put v.items at bytes = ap (λ xs. put_mid at k xs bytes) same ∙ put_mid_is v.items bytes at k (len ∙ sym is) in
    let long : length (bytes_put v.items at bytes) ≡ length v.items = length-bytes_put v.items bytes at (omega (arith, len, fits)) in
    with_items_is v (put_mid at k old bytes) (ap length put ∙ long ∙ sym v.ok.0) ∙ put

-- a `Vec` whose slice has become other bytes of the same length
pub put_whole : (v : Vec ℕ Global) (old new bytes : List ℕ) (at : ℕ) → old ≡ v.items → new ≡ bytes_put old at bytes → at + length bytes ≤ length old → (with_items v new).items ≡ bytes_put v.items at bytes
put_whole v old new bytes at same is fits =
    with_items_is v new (ap length is ∙ length-bytes_put old bytes at fits ∙ ap length same ∙ sym v.ok.0) ∙ is ∙ ap (λ xs. bytes_put xs at bytes) same
