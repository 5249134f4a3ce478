-- Where an image holds a map, the walk from the map's root gives its contents.
use Rattle.std.proofs.Common.{◌≡◌, ℕ, Bool, true, false, cond, List, [], ◌∷◌, Option, Some, None, refl, sym, ap, ◌∙◌, inl, inr, ⊎_elim, true≢false}
use Rattle.std.specs.Prelude.{nat_lt}
use Rattle.std.specs.Option.{option_map}
use Rattle.std.specs.Ordering.{nat_cmp, eq_by_cmp, is_eq}
use Rattle.std.specs.Cmp.{nat_cmp_total, Equal-is, tied_itself}
use Rattle.std.specs.FinMap.{find, get, from_entries, get-from_entries, same_map, nat_cmp-IsAntisymmetric}
use Rattle.std.specs.FinMap as finmap
use Rattle.std.proofs.lemmas.Bool.{lt-ltb}
use Rattle.std.proofs.Math.Nat.{div-eq_of_lt}
use Rattle.base.specs.Map.{Map, Cell, block_of, contents}
use Rattle.base.specs.Surveys.{IsIn}
use Rattle.base.proofs.Contents.{leaf_key, get-contents}
use Rattle.image.specs.ImageWalk.{leaves_of, walk}
use Rattle.image.specs.HasBlocks.{HasBlocks, IsWritable, root_key, root_of}
use Rattle.node.proofs.Options.{same_value, not_some}
use Rattle.world.proofs.lists.Maps.{no_value}
use Rattle.image.proofs.Options.{is_there}
use Rattle.image.proofs.LeafPaths.{leaf_small, root_above}
use Rattle.image.proofs.Found.{AreRight, found, within}

-- what is found in a list is an element of it
found_in : (ls : List (ℕ × List ℕ)) (x : ℕ) (b : List ℕ) → find nat_cmp x ls ≡ Some b → IsIn ls (x, b)
found_in [] x b e = absurd (no_value b e)
found_in (l ∷ ls) x b e = at (eq_by_cmp nat_cmp x l.0) refl e (found_in ls x b)
  where
    at : (t : Bool) → eq_by_cmp nat_cmp x l.0 ≡ t → cond t (Some l.1) (find nat_cmp x ls) ≡ Some b → (find nat_cmp x ls ≡ Some b → IsIn ls (x, b)) → IsIn (l ∷ ls) (x, b)
    at true t e rest =
        let same : x ≡ l.0 = nat_cmp-IsAntisymmetric x l.0 ((Equal-is (nat_cmp x l.0)).0 t) in
        let bytes : l.1 ≡ b = same_value l.1 b e in
        inl (λ i. (same i, sym bytes i))
    at false t e rest = inr (rest e)

-- where none is found the list has none
none_in : (ls : List (ℕ × List ℕ)) (x : ℕ) (b : List ℕ) → find nat_cmp x ls ≡ None → IsIn ls (x, b) → ⊥
none_in [] x b e i = i
none_in (l ∷ ls) x b e i = at (eq_by_cmp nat_cmp x l.0) refl e i (none_in ls x b)
  where
    at : (t : Bool) → eq_by_cmp nat_cmp x l.0 ≡ t → cond t (Some l.1) (find nat_cmp x ls) ≡ None → IsIn (l ∷ ls) (x, b) → (find nat_cmp x ls ≡ None → IsIn ls (x, b) → ⊥) → ⊥
    at true t e i rest = no_value l.1 (sym e)
    at false t e i rest = ⊎_elim
        (λ (s : (x, b) ≡ l).
        let same : x ≡ l.0 = ap (λ (p : ℕ × List ℕ). p.0) s in
        let tied : eq_by_cmp nat_cmp x l.0 ≡ true = ap (eq_by_cmp nat_cmp x) (sym same) ∙ ap is_eq (tied_itself nat_cmp_total x) in
        true≢false (sym tied ∙ t))
        (rest e) i

-- leaves that are right and all there are the contents
are_contents : (m : Map) (ls : List (ℕ × List ℕ)) → AreRight m ls → ((x : ℕ) (c : Cell) → get m (leaf_key x) ≡ Some c → IsIn ls (x, c.bytes)) → from_entries ls ≡ contents m
are_contents m ls right all = same_map nat_cmp_total nat_cmp-IsAntisymmetric _ _ (λ x. get-from_entries nat_cmp_total ls x ∙ at x (find nat_cmp x ls) (get m (leaf_key x)) refl refl ∙ sym (get-contents m x))
  where
    at : (x : ℕ) (f : Option (List ℕ)) (o : Option Cell) → find nat_cmp x ls ≡ f → get m (leaf_key x) ≡ o → find nat_cmp x ls ≡ option_map (λ (c : Cell). c.bytes) (get m (leaf_key x))
    at x (Some b) o e there = e ∙ sym (right x b (found_in ls x b e))
    at x None None e there = e ∙ sym (ap (option_map (λ (c : Cell). c.bytes)) there)
    at x None (Some c) e there = absurd (none_in ls x c.bytes e (all x c there))

-- a map without a root has no contents
none_there : (n : ℕ) (m : Map) → IsWritable n m → get m root_key ≡ None → finmap.empty ≡ contents m
none_there n m w e = are_contents m [] (λ x b i. absurd i) (λ x c there. absurd (not_some (get m root_key) e (root_above n m w.tree x (is_there (get m (leaf_key x)) c there))))

pub walked : (image : ℕ → List ℕ) (n : ℕ) (m : Map) → HasBlocks image m → IsWritable n m → walk image n (root_of m) ≡ Some (contents m)
unfolding walk
walked image n m holds w = at (get m root_key) refl
  where
    at : (o : Option Cell) → get m root_key ≡ o → walk image n (root_of m) ≡ Some (contents m)
    at None e = ap (λ o. walk image n (option_map block_of o)) e ∙ ap Some (none_there n m w e)
    at (Some c) e =
        let f = found image n m holds w 5 0 c e in
        let all : (x : ℕ) (d : Cell) → get m (leaf_key x) ≡ Some d → IsIn f.leaves (x, d.bytes) =
        λ x d there. f.all x d (div-eq_of_lt (leaf_small n m w.tree x (is_there (get m (leaf_key x)) d there))) there in
        let few : nat_lt c.number n ≡ true = lt-ltb _ _ (within image n m holds w root_key c e) in
        ap (λ o. walk image n (option_map block_of o)) e
        ∙ ap (λ b. cond b (option_map from_entries (leaves_of image n 5 0 (block_of c))) None) few
        ∙ ap (option_map from_entries) f.is ∙ ap Some (are_contents m f.leaves f.right all)
