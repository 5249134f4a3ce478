-- The contents of a map at a leaf are the bytes of the cell there.
use Rattle.std.proofs.Common.{◌≡◌, ℕ, Bool, true, false, cond, List, [], ◌∷◌, Option, Some, None, refl, sym, ap, ◌∙◌, true≢false}
use Rattle.std.specs.Prelude.{◌==◌}
use Rattle.std.specs.Option.{option_map}
use Rattle.std.specs.List.{filter_map}
use Rattle.std.specs.Ordering.{nat_cmp, eq_by_cmp, is_eq}
use Rattle.std.specs.Cmp.{nat_cmp_total, unsigned_tied, Equal-is, tied_itself}
use Rattle.std.specs.FinMap.{find, get, entries, get-entries, get-from_entries}
use Rattle.std.proofs.lemmas.Bool.{eqb-true, eq-eqb}
use Rattle.base.specs.declared.number.Key.{Key}
use Rattle.base.specs.Key.{key_cmp, key_cmp_total, key_cmp-IsAntisymmetric}
use Rattle.base.specs.Map.{Cell, Map, contents}

-- the key of a leaf
abbrev pub leaf_key : ℕ → Key
leaf_key leaf = record { level = 0; index = leaf }

abbrev leaf_entry : Key × Cell → Option (ℕ × List ℕ)
leaf_entry e = cond (e.0.level == 0) (Some (e.0.index, e.1.bytes)) None

false_from : (b : Bool) → (b ≡ true → ⊥) → b ≡ false
false_from true h = absurd (h refl)
false_from false h = refl

-- a leaf's key is an entry's key just where that one is of level 0 and has the leaf's index
tied_leaf : (leaf : ℕ) (k : Key) → eq_by_cmp key_cmp (leaf_key leaf) k ≡ cond (k.level == 0) (eq_by_cmp nat_cmp leaf k.index) false
tied_leaf leaf k = by_level (k.level == 0) refl
  where
    tied_to : eq_by_cmp key_cmp (leaf_key leaf) k ≡ true → leaf_key leaf ≡ k
    tied_to e = key_cmp-IsAntisymmetric (leaf_key leaf) k ((Equal-is (key_cmp (leaf_key leaf) k)).0 e)

    by_index : k.level ≡ 0 → (b : Bool) → eq_by_cmp nat_cmp leaf k.index ≡ b → eq_by_cmp key_cmp (leaf_key leaf) k ≡ b
    by_index l true e =
        let is : leaf ≡ k.index = eqb-true leaf k.index (sym (unsigned_tied leaf k.index) ∙ e) in
        let same : leaf_key leaf ≡ k = λ i. record { level = sym l i; index = is i } in
        ap (eq_by_cmp key_cmp (leaf_key leaf)) (sym same) ∙ ap is_eq (tied_itself key_cmp_total (leaf_key leaf))
    by_index l false e = false_from _ (λ t. true≢false (sym (unsigned_tied leaf k.index ∙ eq-eqb leaf k.index (ap (λ (x : Key). x.index) (tied_to t))) ∙ e))

    by_level : (b : Bool) → (k.level == 0) ≡ b → eq_by_cmp key_cmp (leaf_key leaf) k ≡ cond (k.level == 0) (eq_by_cmp nat_cmp leaf k.index) false
    by_level true e = by_index (eqb-true k.level 0 e) (eq_by_cmp nat_cmp leaf k.index) refl ∙ ap (λ b. cond b (eq_by_cmp nat_cmp leaf k.index) false) (sym e)
    by_level false e =
        false_from _ (λ t. true≢false (sym (eq-eqb k.level 0 (sym (ap (λ (x : Key). x.level) (tied_to t)))) ∙ e))
        ∙ ap (λ b. cond b (eq_by_cmp nat_cmp leaf k.index) false) (sym e)

find-leaf : (leaf : ℕ) (es : List (Key × Cell)) → find nat_cmp leaf (filter_map leaf_entry es) ≡ option_map (λ (x : Cell). x.bytes) (find key_cmp (leaf_key leaf) es)
find-leaf leaf [] = refl
find-leaf leaf (e ∷ es) = at (e.0.level == 0) refl (eq_by_cmp nat_cmp leaf e.0.index) refl (find-leaf leaf es)
  where
    at : (l : Bool) → (e.0.level == 0) ≡ l → (b : Bool) → eq_by_cmp nat_cmp leaf e.0.index ≡ b
        → find nat_cmp leaf (filter_map leaf_entry es) ≡ option_map (λ (x : Cell). x.bytes) (find key_cmp (leaf_key leaf) es)
        → find nat_cmp leaf (filter_map leaf_entry (e ∷ es)) ≡ option_map (λ (x : Cell). x.bytes) (find key_cmp (leaf_key leaf) (e ∷ es))
    at true l true b ih = rw (tied_leaf leaf e.0, l, b) refl
    at true l false b ih = rw (tied_leaf leaf e.0, l, b) ih
    at false l b f ih = rw (tied_leaf leaf e.0, l) ih

pub get-contents : (m : Map) (leaf : ℕ) → get (contents m) leaf ≡ option_map (λ (x : Cell). x.bytes) (get m (leaf_key leaf))
unfolding contents
get-contents m leaf =
    get-from_entries nat_cmp_total _ leaf ∙ find-leaf leaf (entries m) ∙ ap (option_map (λ (x : Cell). x.bytes)) (sym (get-entries m (leaf_key leaf)))
