-- The clones of one origin stand together.
use Rattle.std.proofs.Common.{◌≡◌, ℕ, zero, suc, ◌+◌, ◌<◌, ◌≤◌, ◌⊎◌, Bool, true, false, cond, List, [], ◌∷◌, length, get_or, take, drop, map, refl, sym, ap, ◌∙◌, inl, inr, ⊎_elim, true≢false, arith}
use Rattle.std.proofs.lemmas.List.{length-map, get_or-drop}
use Rattle.std.proofs.lemmas.Bool.{cases_lt}
use Rattle.std.proofs.Math.ListN.{get_or-map as get_or-map_same}
use Rattle.std.specs.Bool.{passes}
use Rattle.std.specs.List.{filter}
use Rattle.std.specs.List.Sorted.{IsPartitionedBy}
use Rattle.std.specs.declared.cmp.Ordering.{Ordering}
use Rattle.std.specs.declared.cmp.Ordering.TheVariants.{Less, Equal, Greater}
use Rattle.std.specs.Ordering.{is_lt, ordering_then}
use Rattle.std.specs.Cmp.{tied_itself}
use Rattle.std.specs.FinMap.{is_sorted}
use Rattle.base.specs.Names.{name_cmp}
use Rattle.model.specs.World.{SnapId, same_id}
use Rattle.world.proofs.lists.Finding.{same_id_is}
use Rattle.datasets.specs.declared.clones.CloneName.{CloneName}
use Rattle.datasets.specs.CloneNames.{CloneKey, CloneEntry, id_cmp, key_cmp, key_of, key_in, name_of, names_in, IsInOrder}
use Rattle.datasets.proofs.CloneKeys.{id_total, key_order, exact_ids}
use Rattle.snapshots.proofs.Sorted.{sorted_at}

-- ---- what passes a test stands together

module _ {A : Type 0} (p : A → Bool) where
  none_before : (xs : List A) (i : ℕ) → i ≤ length xs → ((j : ℕ) (d : A) → j < i → p (get_or xs j d) ≡ false) → filter p xs ≡ filter p (drop i xs)
  none_before [] zero le h = refl
  none_before [] (suc i) le h = absurd (omega arith)
  none_before (x ∷ xs) zero le h = refl
  none_before (x ∷ xs) (suc i) le h = ap (λ b. cond b (x ∷ filter p xs) (filter p xs)) (h 0 x (omega arith)) ∙ none_before xs i (omega arith) (λ j d lt. h (suc j) d (omega arith))

  then_none : (xs : List A) (n : ℕ) → n ≤ length xs → ((j : ℕ) (d : A) → j < n → p (get_or xs j d) ≡ true) → ((j : ℕ) (d : A) → n ≤ j → j < length xs → p (get_or xs j d) ≡ false) → filter p xs ≡ take n xs
  then_none [] zero le t f = refl
  then_none [] (suc n) le t f = absurd (omega arith)
  then_none (x ∷ xs) zero le t f =
      ap (λ b. cond b (x ∷ filter p xs) (filter p xs)) (f 0 x (omega arith) (omega arith)) ∙ then_none xs zero (omega arith) (λ j d lt. absurd (omega arith)) (λ j d ge lt. f (suc j) d (omega arith) (omega arith)) ∙ nothing xs
    where
      nothing : (ys : List A) → take zero ys ≡ []
      nothing [] = refl
      nothing (y ∷ ys) = refl
  then_none (x ∷ xs) (suc n) le t f =
      ap (λ b. cond b (x ∷ filter p xs) (filter p xs)) (t 0 x (omega arith))
      ∙ ap (λ l. x ∷ l) (then_none xs n (omega arith) (λ j d lt. t (suc j) d (omega arith)) (λ j d ge lt. f (suc j) d (omega arith) (omega arith)))

-- their names
module _ (id : SnapId) where
  named : (xs : List CloneName) → map name_of (filter (λ c. same_id id (key_of c).0) xs) ≡ names_in id (map key_in xs)
  named [] = refl
  named (x ∷ xs) = by (same_id id (key_of x).0) (named xs)
    where
      by : (b : Bool) → map name_of (filter (λ c. same_id id (key_of c).0) xs) ≡ names_in id (map key_in xs)
          → map name_of (cond b (x ∷ filter (λ c. same_id id (key_of c).0) xs) (filter (λ c. same_id id (key_of c).0) xs))
          ≡ map (λ (e : CloneEntry). e.0.1) (cond b (key_in x ∷ filter (λ (e : CloneEntry). same_id id e.0.0) (map key_in xs)) (filter (λ (e : CloneEntry). same_id id e.0.0) (map key_in xs)))
      by true rest = ap (λ l. name_of x ∷ l) rest
      by false rest = rest

  -- ---- in order

  lower : (a b : CloneKey) → key_cmp a b ≡ Less → (id_cmp a.0 b.0 ≡ Less) ⊎ (a.0 ≡ b.0)
  lower a b less = by (id_cmp a.0 b.0) refl
    where
      by : (r : Ordering) → id_cmp a.0 b.0 ≡ r → (id_cmp a.0 b.0 ≡ Less) ⊎ (a.0 ≡ b.0)
      by Less e = inl e
      by Equal e = inr (exact_ids a.0 b.0 e)
      by Greater e = absurd (no (sym (ap (λ r. ordering_then r (name_cmp a.1 b.1)) e) ∙ less))
        where
          no : Greater ≡ Less → ⊥
          no e = cc

  is_less : (r : Ordering) → is_lt r ≡ true → r ≡ Less
  is_less Less h = refl
  is_less Equal h = absurd (true≢false (sym h))
  is_less Greater h = absurd (true≢false (sym h))

  still_before : (a b : SnapId) → (id_cmp a b ≡ Less) ⊎ (a ≡ b) → is_lt (id_cmp b id) ≡ true → is_lt (id_cmp a id) ≡ true
  still_before a b low h = ⊎_elim
      (λ l. ap is_lt (id_total.trans a b id l (is_less (id_cmp b id) h)))
      (λ e. ap (λ x. is_lt (id_cmp x id)) e ∙ h)
      low

  still_has : (a b : SnapId) → (id_cmp a b ≡ Less) ⊎ (a ≡ b) → is_lt (id_cmp a id) ≡ false → same_id id b ≡ true → same_id id a ≡ true
  still_has a b low not_before h = ⊎_elim
      (λ l. absurd (true≢false (sym (ap (λ r. is_lt r) l) ∙ ap (λ x. is_lt (id_cmp a x)) (sym (same_id_is id b h)) ∙ not_before)))
      (λ e. ap (same_id id) e ∙ h)
      low

  module _ (xs : List CloneName) (sorted : IsInOrder xs) where
    rises : (i j : ℕ) (d : CloneName) → i < j → j < length xs → (id_cmp (key_of (get_or xs i d)).0 (key_of (get_or xs j d)).0 ≡ Less) ⊎ ((key_of (get_or xs i d)).0 ≡ (key_of (get_or xs j d)).0)
    rises i j d lt within =
        let ends : j < length (map key_in xs) = omega (arith, length-map xs key_in) in
        let less = sorted_at key_order.total (map key_in xs) (passes (is_sorted key_cmp (map key_in xs)) sorted) i j (key_in d) lt ends in
        lower (key_of (get_or xs i d)) (key_of (get_or xs j d))
        (ap (λ (e : CloneEntry). key_cmp e.0 (key_of (get_or xs j d))) (sym (get_or-map_same key_in xs i d)) ∙ ap (λ (e : CloneEntry). key_cmp (get_or (map key_in xs) i (key_in d)).0 e.0) (sym (get_or-map_same key_in xs j d)) ∙ less)

    -- those of earlier origins stand first
    pub parted_before : IsPartitionedBy (λ c. is_lt (id_cmp (key_of c).0 id)) xs
    parted_before i j d le within h = ⊎_elim
        (λ lt. still_before (key_of (get_or xs i d)).0 (key_of (get_or xs j d)).0 (rises i j d lt within) h)
        (λ ge. let same : i ≡ j = omega arith in ap (λ n. is_lt (id_cmp (key_of (get_or xs n d)).0 id)) same ∙ h)
        (cases_lt i j)

    module _ (k : ℕ) (within : k ≤ length xs) (before : (j : ℕ) (d : CloneName) → 0 ≤ j → j < k → is_lt (id_cmp (key_of (get_or xs j d)).0 id) ≡ true)
        (after : (j : ℕ) (d : CloneName) → k ≤ j → j < length xs → is_lt (id_cmp (key_of (get_or xs j d)).0 id) ≡ false) (ys : List CloneName) (rest : ys ≡ drop k xs) (long : length ys + k ≡ length xs) where
      at_rest : (j : ℕ) (d : CloneName) → get_or ys j d ≡ get_or xs (k + j) d
      at_rest j d = ap (λ l. get_or l j d) rest ∙ get_or-drop k xs j d

      -- and of the others those of this one
      pub parted_origin : IsPartitionedBy (λ c. same_id id (key_of c).0) ys
      parted_origin i j d le lt h = ⊎_elim
          (λ l.
          let low = rises (k + i) (k + j) d (omega arith) (omega arith) in
          ap (λ c. same_id id (key_of c).0) (at_rest i d)
          ∙ still_has (key_of (get_or xs (k + i) d)).0 (key_of (get_or xs (k + j) d)).0 low (after (k + i) d (omega arith) (omega arith)) (ap (λ c. same_id id (key_of c).0) (sym (at_rest j d)) ∙ h))
          (λ ge. let same : i ≡ j = omega arith in ap (λ n. same_id id (key_of (get_or ys n d)).0) same ∙ h)
          (cases_lt i j)

      not_yet : (c : CloneName) → is_lt (id_cmp (key_of c).0 id) ≡ true → same_id id (key_of c).0 ≡ false
      not_yet c h = by (same_id id (key_of c).0) refl
        where
          by : (b : Bool) → same_id id (key_of c).0 ≡ b → b ≡ false
          by false e = refl
          by true e = absurd (true≢false (sym h ∙ ap (λ x. is_lt (id_cmp x id)) (sym (same_id_is id (key_of c).0 e)) ∙ ap is_lt (tied_itself id_total id)))

      -- so these are the clones of it
      pub names_are : (n : ℕ) → n ≤ length ys → ((j : ℕ) (d : CloneName) → 0 ≤ j → j < n → same_id id (key_of (get_or ys j d)).0 ≡ true) → ((j : ℕ) (d : CloneName) → n ≤ j → j < length ys → same_id id (key_of (get_or ys j d)).0 ≡ false)
          → map name_of (take n ys) ≡ names_in id (map key_in xs)
      names_are n le has others =
          ap (map name_of) (sym (then_none (λ c. same_id id (key_of c).0) ys n le (λ j d lt. has j d (omega arith) lt) others) ∙ ap (filter (λ c. same_id id (key_of c).0)) rest
          ∙ sym (none_before (λ c. same_id id (key_of c).0) xs k within (λ j d lt. not_yet (get_or xs j d) (before j d (omega arith) lt))))
          ∙ named xs
