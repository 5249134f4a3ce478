-- Sets from lists that name each key once, as deadlists do.
use Rattle.base.specs.Surveys.{AreDifferent, IsIn}
use Rattle.std.proofs.Common.{◌≡◌, Bool, true, false, cond, ◌⊎◌, inl, inr, ⊎_elim, List, [], ◌∷◌, ◌++◌, length, filter, refl, sym, ap, ◌∙◌, arith, Ordering, true≢false}
use Rattle.std.proofs.lemmas.Bool.{or_cases, or_left, or_right}
use Rattle.std.specs.Cmp.{tied_itself, Equal-is}
use Rattle.std.specs.FinSet.{contains, retain, union, difference, len, from_list, contains-insert, len-empty}
use Rattle.world.specs.Sets.{IsExactOrder, Has}
use Rattle.world.specs.Blocks.{block_order}
use Rattle.world.specs.Reach.{FreeingKeepsReach, LossesAdd}
use Rattle.world.proofs.lists.SetCounts.{no-empty, same_members, Has-cases, in_difference, from_difference, in_union_left, in_union_right, from_union, in_retain, from_retain, len_insert_new}

module _ {K : Type 0} {R : K → K → Ordering} (o : IsExactOrder R) where
  pub from_listed : (ks : List K) (k : K) → Has (from_list {R = R} ks) k → IsIn ks k
  from_listed [] k h = absurd (no-empty o k h)
  from_listed (x ∷ xs) k h = ⊎_elim
      (λ e. inl (o.exact k x ((Equal-is (R k x)).0 e)))
      (λ g. inr (from_listed xs k g))
      (or_cases _ _ (sym (contains-insert o.total (from_list xs) x k) ∙ h))

  pub in_listed : (ks : List K) (k : K) → IsIn ks k → Has (from_list {R = R} ks) k
  in_listed [] k h = absurd h
  in_listed (x ∷ xs) k h = contains-insert o.total (from_list xs) x k ∙ ⊎_elim
      (λ (e : k ≡ x). or_left _ _ ((Equal-is (R k x)).1 (ap (R k) (sym e) ∙ tied_itself o.total k)))
      (λ g. or_right _ _ (in_listed xs k g))
      h

  -- a list that names each key once is as long as its set
  pub len-from_list : (ks : List K) → AreDifferent ks → len (from_list {R = R} ks) ≡ length ks
  len-from_list [] h = len-empty R
  len-from_list (x ∷ xs) h =
      let e = len_insert_new o (from_list xs) x (absent (contains (from_list xs) x) refl) in
      let l = len-from_list xs h.1 in
      omega (arith, e, l)
    where
      absent : (b : Bool) → contains (from_list {R = R} xs) x ≡ b → contains (from_list {R = R} xs) x ≡ false
      absent true e = absurd (h.0 (from_listed xs x e))
      absent false e = e

  pub stands_left : (xs ys : List K) (k : K) → IsIn xs k → IsIn (xs ++ ys) k
  stands_left [] ys k h = absurd h
  stands_left (x ∷ xs) ys k h = ⊎_elim inl (λ g. inr (stands_left xs ys k g)) h

  pub stands_right : (xs ys : List K) (k : K) → IsIn ys k → IsIn (xs ++ ys) k
  stands_right [] ys k h = h
  stands_right (x ∷ xs) ys k h = inr (stands_right xs ys k h)

  pub stands_either : (xs ys : List K) (k : K) → IsIn (xs ++ ys) k → IsIn xs k ⊎ IsIn ys k
  stands_either [] ys k h = inr h
  stands_either (x ∷ xs) ys k h = ⊎_elim (λ e. inl (inl e)) (λ g. ⊎_elim (λ l. inl (inr l)) inr (stands_either xs ys k g)) h

  -- the set of two lists one after the other, and of the keys that pass a test
  pub from_list-append : (xs ys : List K) → from_list {R = R} (xs ++ ys) ≡ union (from_list xs) (from_list ys)
  from_list-append xs ys = same_members o _ _
      (λ k h. ⊎_elim (λ g. in_union_left o _ _ k (in_listed xs k g)) (λ g. in_union_right o _ _ k (in_listed ys k g)) (stands_either xs ys k (from_listed (xs ++ ys) k h)))
      (λ k h. in_listed (xs ++ ys) k (⊎_elim (λ g. stands_left xs ys k (from_listed xs k g)) (λ g. stands_right xs ys k (from_listed ys k g)) (from_union o (from_list xs) (from_list ys) k h)))

  stands_filter : (p : K → Bool) (xs : List K) (k : K) → IsIn xs k → p k ≡ true → IsIn (filter p xs) k
  stands_filter p [] k h e = absurd h
  stands_filter p (x ∷ xs) k h e = go (p x) refl (⊎_elim inl (λ g. inr (stands_filter p xs k g e)) h)
    where
      go : (b : Bool) → p x ≡ b → (k ≡ x) ⊎ IsIn (filter p xs) k → IsIn (cond b (x ∷ filter p xs) (filter p xs)) k
      go true t g = g
      go false t g = ⊎_elim (λ (is : k ≡ x). absurd (true≢false (sym e ∙ ap p is ∙ t))) (λ l. l) g

  pub filter_stands : (p : K → Bool) (xs : List K) (k : K) → IsIn (filter p xs) k → IsIn xs k × (p k ≡ true)
  filter_stands p [] k h = absurd h
  filter_stands p (x ∷ xs) k h = go (filter_stands p xs k) (p x) refl h
    where
      go : (IsIn (filter p xs) k → IsIn xs k × (p k ≡ true)) → (b : Bool) → p x ≡ b → IsIn (cond b (x ∷ filter p xs) (filter p xs)) k → IsIn (x ∷ xs) k × (p k ≡ true)
      go rest true t g = ⊎_elim (λ (is : k ≡ x). (inl is, ap p is ∙ t)) (λ l. let r = rest l in (inr r.0, r.1)) g
      go rest false t g = let r = rest g in (inr r.0, r.1)

  pub from_list-filter : (p : K → Bool) (xs : List K) → from_list {R = R} (filter p xs) ≡ retain (from_list xs) p
  from_list-filter p xs = same_members o _ _
      (λ k h. let r = filter_stands p xs k (from_listed (filter p xs) k h) in in_retain o (from_list xs) p k (in_listed xs k r.0) r.1)
      (λ k h. let r = from_retain o (from_list xs) p k h in in_listed (filter p xs) k (stands_filter p xs k (from_listed xs k r.0) r.1))

pub once_filter : {K : Type 0} {R : K → K → Ordering} (o : IsExactOrder R) (p : K → Bool) (xs : List K) → AreDifferent xs → AreDifferent (filter p xs)
once_filter o p [] h = tt
once_filter o p (x ∷ xs) h = go (p x) (once_filter o p xs h.1)
  where
    go : (b : Bool) → AreDifferent (filter p xs) → AreDifferent (cond b (x ∷ filter p xs) (filter p xs))
    go true r = ((λ k. h.0 (filter_stands o p xs x k).0), r)
    go false r = r

pub once_append : {K : Type 0} {R : K → K → Ordering} (o : IsExactOrder R) (xs ys : List K) → AreDifferent xs → AreDifferent ys → ((k : K) → IsIn xs k → IsIn ys k → ⊥) → AreDifferent (xs ++ ys)
once_append o [] ys h g apart = g
once_append o (x ∷ xs) ys h g apart = ((λ k. ⊎_elim h.0 (λ l. apart x (inl refl) l) (stands_either o xs ys x k)), once_append o xs ys h.1 g (λ k a b. apart k (inr a) b))

pub losses_add : LossesAdd
losses_add a b c f g = same_members block_order _ _
    (λ k h.
    let d = from_difference block_order a c k h in
    ⊎_elim (λ in_b. in_union_right block_order (difference a b) (difference b c) k (in_difference block_order b c k in_b d.1))
    (λ out. in_union_left block_order (difference a b) (difference b c) k (in_difference block_order a b k d.0 out))
    (Has-cases block_order b k))
    (λ k h. ⊎_elim
    (λ x. let d = from_difference block_order a b k x in in_difference block_order a c k d.0 (λ in_c. d.1 (g k in_c)))
    (λ x. let d = from_difference block_order b c k x in in_difference block_order a c k (f k d.0) d.1)
    (from_union block_order (difference a b) (difference b c) k h))

pub freeing_keeps_reach : FreeingKeepsReach
freeing_keeps_reach u u' freeing f apart = (
  same_members block_order _ _
      (λ k h. ⊎_elim
      (λ x. in_union_left block_order u freeing k (f k x))
      (λ x. ⊎_elim (λ y. in_union_right block_order u freeing k y) (λ y. in_union_left block_order u freeing k (from_difference block_order u u' k y).0) (from_union block_order freeing (difference u u') k x))
      (from_union block_order u' (union freeing (difference u u')) k h))
      (λ k h. ⊎_elim
      (λ x. ⊎_elim (λ y. in_union_left block_order u' (union freeing (difference u u')) k y)
      (λ y. in_union_right block_order u' (union freeing (difference u u')) k (in_union_right block_order freeing (difference u u') k (in_difference block_order u u' k x y)))
      (Has-cases block_order u' k))
      (λ x. in_union_right block_order u' (union freeing (difference u u')) k (in_union_left block_order freeing (difference u u') k x))
      (from_union block_order u freeing k h)),
  λ k x y. ⊎_elim (λ z. apart k (f k x) z) (λ z. (from_difference block_order u u' k z).1 x) (from_union block_order freeing (difference u u') k y),
)
