-- The claims of a way and the blocks that it lets go, level by level.
use Rattle.std.proofs.Common.{◌≡◌, ℕ, zero, suc, ◌+◌, ◌/◌, ◌^◌, ◌<◌, ◌≤◌, true, List, [], ◌∷◌, ◌++◌, length, get_or, take, drop, map, Option, None, refl, sym, ap, ◌∙◌, arith}
use Rattle.std.specs.List.{flat_map, zip}
use Rattle.std.proofs.lemmas.List.{map-append, take_more, flat_map_more}
use Rattle.std.proofs.lemmas.List.FromFn.{get_or-map-range_with_len}
use Rattle.base.specs.declared.number.Dead.{Dead}
use Rattle.base.specs.declared.number.Key.{Key}
use Rattle.base.specs.Key.{path}
use Rattle.batch.specs.declared.findings.Claim.{Claim}
use Rattle.batch.specs.Touch.{let_go, young_one}
use Rattle.batch.specs.Way.{way_claims, way_released}
use Rattle.node.specs.Entries.{key_at}

zip_none : {A B : Type 0} (ks : List A) → zip ks (let vs : List B = [] in vs) ≡ []
zip_none [] = refl
zip_none (k ∷ ks) = refl

zip_more : {A B : Type 0} (n : ℕ) (ks : List A) (vs : List B) (k : A) (v : B) → n < length ks → n < length vs → zip ks (take (suc n) vs) ≡ zip ks (take n vs) ++ (get_or ks n k, get_or vs n v) ∷ []
zip_more n [] vs k v a b = absurd (omega arith)
zip_more n (x ∷ ks) [] k v a b = absurd (omega arith)
zip_more zero (x ∷ ks) (z ∷ vs) k v a b = ap (λ ps. (x, z) ∷ ps) (zip_none ks)
zip_more (suc n) (x ∷ ks) (z ∷ vs) k v a b = ap (λ ps. (x, z) ∷ ps) (zip_more n ks vs k v (omega arith) (omega arith))

zip_split : {A B : Type 0} (n : ℕ) (ks : List A) (vs : List B) → zip ks vs ≡ zip ks (take n vs) ++ zip (drop n ks) (drop n vs)
zip_split zero [] vs = refl
zip_split zero (k ∷ ks) vs = refl
zip_split (suc n) [] vs = refl
zip_split (suc n) (k ∷ ks) [] = sym (zip_none (drop n ks))
zip_split (suc n) (k ∷ ks) (v ∷ vs) = ap (λ ps. (k, v) ∷ ps) (zip_split n ks vs)

path_at : (leaf l : ℕ) (d : Key) → l ≤ 5 → get_or (path leaf) l d ≡ key_at l (leaf / 16 ^ l)
path_at leaf l d h = get_or-map-range_with_len (λ l. key_at l (leaf / 16 ^ l)) 0 6 l l d (omega (arith, h)) (omega arith)

-- one level more
pub way_more : (y leaf : ℕ) (blocks : List (Option Dead)) (n index : ℕ) (own : Option Dead) → n ≤ 5 → n < length blocks → index ≡ leaf / 16 ^ n → own ≡ get_or blocks n None
    → way_claims y leaf (take n blocks) ++ record { key = record { level = n; index = index }; kept = young_one y own } ∷ [] ≡ way_claims y leaf (take (suc n) blocks)
unfolding way_claims
way_more y leaf blocks n index own h l a b =
    let f : Key × Option Dead → Claim = λ p. record { key = p.0; kept = young_one y p.1 } in
    let d : Key = key_at n index in
    let key : d ≡ get_or (path leaf) n d = ap (key_at n) a ∙ sym (path_at leaf n d h) in
    (λ i. map f (zip (path leaf) (take n blocks)) ++ f (key i, b i) ∷ [])
    ∙ sym (ap (map f) (zip_more n (path leaf) blocks d None (omega (arith, h)) l) ∙ map-append f (zip (path leaf) (take n blocks)) ((get_or (path leaf) n d, get_or blocks n None) ∷ []))

pub gone_more : (y : ℕ) (blocks : List (Option Dead)) (n : ℕ) (own : Option Dead) → n < length blocks → own ≡ get_or blocks n None → way_released y (take n blocks) ++ let_go true true y own ≡ way_released y (take (suc n) blocks)
unfolding way_released
gone_more y blocks n own l b =
    let s : n + 1 ≡ suc n = omega arith in
    flat_map_more (let_go true true y) [] (take n blocks) own
    ∙ ap (flat_map (let_go true true y)) ((λ i. take n blocks ++ b i ∷ []) ∙ sym (take_more blocks n None l) ∙ ap (λ k. take k blocks) s)

-- no level yet
pub no_claims : (y leaf : ℕ) (blocks : List (Option Dead)) (cs : List Claim) → way_claims y leaf (take 0 blocks) ++ cs ≡ cs
unfolding way_claims
no_claims y leaf blocks cs = refl

pub none_released : (y : ℕ) (blocks : List (Option Dead)) (ds : List Dead) → way_released y (take 0 blocks) ++ ds ≡ ds
unfolding way_released
none_released y blocks ds = refl

-- and those that are left
pub way_split : (y leaf : ℕ) (blocks : List (Option Dead)) (n : ℕ) → (cs : List Claim) × (way_claims y leaf blocks ≡ way_claims y leaf (take n blocks) ++ cs)
unfolding way_claims
way_split y leaf blocks n =
    let f : Key × Option Dead → Claim = λ p. record { key = p.0; kept = young_one y p.1 } in
    (map f (zip (drop n (path leaf)) (drop n blocks)), ap (map f) (zip_split n (path leaf) blocks) ∙ map-append f (zip (path leaf) (take n blocks)) (zip (drop n (path leaf)) (drop n blocks)))
