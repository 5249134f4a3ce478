-- Names by their bytes: descendants, parents, and two names exchanged.
use Rattle.std.proofs.Common.{◌≡◌, ℕ, suc, ◌<◌, Bool, true, false, cond, ◌&&◌, ◌||◌, List, [], ◌∷◌, ◌++◌, Option, Some, None, refl, sym, ap, subst, ◌∙◌, ◌⊎◌, inl, inr, ⊎_elim, true≢false, length, drop, arith}
use Rattle.std.specs.Prelude.{◌==◌}
use Rattle.std.specs.Cmp.{both_ways}
use Rattle.std.proofs.lemmas.Bool.{eqb-true, eq-eqb}
use Rattle.base.specs.Names.{slash, root_name, same_name, before_slash, parent_of, is_descendant}
use Rattle.model.specs.Hierarchy.{is_in_family}
use Rattle.world.proofs.lists.Maps.{same_value, no_value}

-- ---- names by their bytes

pub either_way : (a b : ℕ) → (a == b) ≡ (b == a)
either_way a b = both_ways (a == b) (b == a) (λ t. eq-eqb b a (sym (eqb-true a b t))) (λ t. eq-eqb a b (sym (eqb-true b a t)))

pub and_false : (x : Bool) → (x && false) ≡ false
and_false true = refl
and_false false = refl

-- a name with no parent descends from none
pub no_descendant : (name x : List ℕ) → parent_of x ≡ None → is_descendant name x ≡ false
no_descendant [] [] e = refl
no_descendant (a ∷ rest) [] e = refl
no_descendant name (b ∷ bs) e = at (parent_of bs) refl (b == slash) refl e name (λ n. no_descendant n bs)
  where
    at : (p : Option (List ℕ)) → parent_of bs ≡ p → (t : Bool) → (b == slash) ≡ t → before_slash b (parent_of bs) ≡ None
        → (n : List ℕ) → ((n : List ℕ) → parent_of bs ≡ None → is_descendant n bs ≡ false) → is_descendant n (b ∷ bs) ≡ false
    at None h true t f n ih = absurd (no_value [] (sym f ∙ rw (h, t) refl))
    at None h false t f [] ih = ap (λ x. x && true) (either_way slash b ∙ t)
    at None h false t f (a ∷ rest) ih = ap (λ x. (a == b) && x) (ih rest h) ∙ and_false (a == b)
    at (Some front) h t g f n ih = absurd (no_value (b ∷ front) (sym f ∙ ap (before_slash b) h))

-- a descendant's parent is the ancestor or one of its descendants
pub descendant_by_parent : (name x parent : List ℕ) → parent_of x ≡ Some parent → is_descendant name x ≡ is_in_family name parent
descendant_by_parent name [] parent e = absurd (no_value parent e)
descendant_by_parent name (b ∷ bs) parent e = at (parent_of bs) refl (b == slash) refl e name (λ n. descendant_by_parent n bs)
  where
    shared : (s t x y : Bool) → s ≡ t → (s && (x || y)) ≡ ((t && x) || (s && y))
    shared true true x y e = refl
    shared true false x y e = absurd (true≢false e)
    shared false true x y e = absurd (true≢false (sym e))
    shared false false x y e = refl

    at : (p : Option (List ℕ)) → parent_of bs ≡ p → (t : Bool) → (b == slash) ≡ t → before_slash b (parent_of bs) ≡ Some parent
        → (n : List ℕ) → ((n front : List ℕ) → parent_of bs ≡ Some front → is_descendant n bs ≡ is_in_family n front) → is_descendant n (b ∷ bs) ≡ is_in_family n parent
    at None h true t f n ih = subst (λ q. is_descendant n (b ∷ bs) ≡ is_in_family n q) (same_value [] parent (sym (rw (h, t) refl) ∙ f)) (first n)
      where
        first : (n : List ℕ) → is_descendant n (b ∷ bs) ≡ is_in_family n []
        first [] = ap (λ x. x && true) (either_way slash b ∙ t)
        first (a ∷ rest) = ap (λ x. (a == b) && x) (no_descendant rest bs h) ∙ and_false (a == b)
    at None h false t f n ih = absurd (no_value parent (sym (rw (h, t) refl) ∙ f))
    at (Some front) h t g f n ih = subst (λ q. is_descendant n (b ∷ bs) ≡ is_in_family n q) (same_value (b ∷ front) parent (sym (ap (before_slash b) h) ∙ f)) (more n)
      where
        more : (n : List ℕ) → is_descendant n (b ∷ bs) ≡ is_in_family n (b ∷ front)
        more [] = refl
        more (a ∷ rest) = ap (λ x. (a == b) && x) (ih rest front h) ∙ shared (a == b) (b == a) (same_name front rest) (is_descendant rest front) (either_way a b)

-- a parent's name is shorter
pub parent_shorter : (x parent : List ℕ) → parent_of x ≡ Some parent → length parent < length x
parent_shorter [] parent e = absurd (no_value parent e)
parent_shorter (b ∷ bs) parent e = at (parent_of bs) refl (b == slash) e (parent_shorter bs)
  where
    at : (p : Option (List ℕ)) → parent_of bs ≡ p → (t : Bool) → before_slash b (parent_of bs) ≡ Some parent
        → ((q : List ℕ) → parent_of bs ≡ Some q → length q < length bs) → length parent < suc (length bs)
    at None h t f ih = by_slash (b == slash) (sym (ap (before_slash b) h) ∙ f)
      where
        by_slash : (t : Bool) → cond t (Some []) None ≡ Some parent → length parent < suc (length bs)
        by_slash true k = let l = ap length (same_value [] parent k) in omega (arith, l)
        by_slash false k = absurd (no_value parent k)
    at (Some front) h t f ih =
        let l = ap length (same_value (b ∷ front) parent (sym (ap (before_slash b) h) ∙ f)) in
        let m = ih front h in
        omega (arith, l, m)

-- ---- what stands behind a name

-- nothing, or a `/` and more
abbrev pub goes_on : List ℕ → Bool
goes_on [] = true
goes_on (b ∷ bs) = slash == b

-- the family of a name has those that go on behind it
pub goes_on_is : (name rest : List ℕ) → is_in_family name (name ++ rest) ≡ goes_on rest
goes_on_is [] [] = refl
goes_on_is [] (b ∷ bs) = ap (λ x. false || x) (true_right (slash == b))
  where
    true_right : (x : Bool) → (x && true) ≡ x
    true_right true = refl
    true_right false = refl
goes_on_is (a ∷ ps) rest = (λ i. (itself i && same_name (ps ++ rest) ps) || (itself i && is_descendant ps (ps ++ rest))) ∙ goes_on_is ps rest
  where
    itself : (a == a) ≡ true
    itself = eq-eqb a a refl

by_head : (x y : Bool) → x ≡ y → (s d : Bool) → ((x && s) || (y && d)) ≡ true → (y ≡ true) × ((s || d) ≡ true)
by_head true true h s d k = (refl, k)
by_head true false h s d k = absurd (true≢false h)
by_head false true h s d k = absurd (true≢false (sym h))
by_head false false h s d k = absurd (true≢false (sym k))

-- a name of a family is the name and what stands behind it, which goes on
pub behind : (name n : List ℕ) → is_in_family name n ≡ true → (n ≡ name ++ drop (length name) n) × (goes_on (drop (length name) n) ≡ true)
behind [] n e = (refl, sym (goes_on_is [] n) ∙ e)
behind (a ∷ ps) [] e = absurd (true≢false (sym e))
behind (a ∷ ps) (b ∷ bs) e =
    let k = by_head (b == a) (a == b) (either_way b a) (same_name bs ps) (is_descendant ps bs) e in
    let rest = behind ps bs k.1 in
    ((λ i. sym (eqb-true a b k.0) i ∷ rest.0 i), rest.1)

-- a name of a family begins ps the family's does
heads : (a : ℕ) (ps : List ℕ) (c : ℕ) (cs : List ℕ) → is_in_family (a ∷ ps) (c ∷ cs) ≡ true → (c ≡ a) × (is_in_family ps cs ≡ true)
heads a ps c cs e = let k = by_head (c == a) (a == c) (either_way c a) (same_name cs ps) (is_descendant ps cs) e in (sym (eqb-true a c k.0), k.1)

-- a name is of two families only where one is of the other
pub one_in_other : (p q n : List ℕ) → is_in_family p n ≡ true → is_in_family q n ≡ true → (is_in_family p q ≡ true) ⊎ (is_in_family q p ≡ true)
one_in_other [] [] n e f = inl refl
one_in_other [] (b ∷ bs) [] e f = absurd (true≢false (sym f))
one_in_other [] (b ∷ bs) (c ∷ cs) e f = inl (goes_on_is [] (b ∷ bs) ∙ ap (λ x. slash == x) (sym (heads b bs c cs f).0) ∙ sym (goes_on_is [] (c ∷ cs)) ∙ e)
one_in_other (a ∷ ps) [] [] e f = absurd (true≢false (sym e))
one_in_other (a ∷ ps) [] (c ∷ cs) e f = inr (goes_on_is [] (a ∷ ps) ∙ ap (λ x. slash == x) (sym (heads a ps c cs e).0) ∙ sym (goes_on_is [] (c ∷ cs)) ∙ f)
one_in_other (a ∷ ps) (b ∷ bs) [] e f = absurd (true≢false (sym e))
one_in_other (a ∷ ps) (b ∷ bs) (c ∷ cs) e f =
    let x = heads a ps c cs e in
    let y = heads b bs c cs f in
    let same : a ≡ b = sym x.0 ∙ y.0 in
    ⊎_elim (λ k. inl (wider a b same ps bs k)) (λ k. inr (wider b a (sym same) bs ps k)) (one_in_other ps bs cs x.1 y.1)
  where
    wider : (a b : ℕ) → a ≡ b → (ps bs : List ℕ) → is_in_family ps bs ≡ true → is_in_family (a ∷ ps) (b ∷ bs) ≡ true
    wider a b is ps bs k = (λ i. (eq-eqb b a (sym is) i && same_name bs ps) || (eq-eqb a b is i && is_descendant ps bs)) ∙ k

-- ---- two names exchanged, with all below them

-- what was of the one family is of the other
abbrev pub exchanged : List ℕ → List ℕ → List ℕ → List ℕ
exchanged p q n = cond (is_in_family p n) (q ++ drop (length p) n) (cond (is_in_family q n) (p ++ drop (length q) n) n)

after_front : (p rest : List ℕ) → drop (length p) (p ++ rest) ≡ rest
after_front [] rest = refl
after_front (a ∷ ps) rest = after_front ps rest

-- neither is of the other's family
module _ (p q : List ℕ) (apart : is_in_family p q ≡ false) (other : is_in_family q p ≡ false) where
  no_both : (n : List ℕ) → is_in_family p n ≡ true → is_in_family q n ≡ true → ⊥
  no_both n e f = ⊎_elim (λ k. true≢false (sym k ∙ apart)) (λ k. true≢false (sym k ∙ other)) (one_in_other p q n e f)

  not_in : (n : List ℕ) → is_in_family q n ≡ true → is_in_family p n ≡ false
  not_in n f = by_test (is_in_family p n) refl
    where
      by_test : (b : Bool) → is_in_family p n ≡ b → is_in_family p n ≡ false
      by_test true e = absurd (no_both n e f)
      by_test false e = e

  pub exchanged_first : (rest : List ℕ) → goes_on rest ≡ true → exchanged p q (p ++ rest) ≡ q ++ rest
  exchanged_first rest e =
      ap (λ b. cond b (q ++ drop (length p) (p ++ rest)) (cond (is_in_family q (p ++ rest)) (p ++ drop (length q) (p ++ rest)) (p ++ rest))) (goes_on_is p rest ∙ e)
      ∙ ap (λ l. q ++ l) (after_front p rest)

  pub exchanged_second : (rest : List ℕ) → goes_on rest ≡ true → exchanged p q (q ++ rest) ≡ p ++ rest
  exchanged_second rest e =
      let f = goes_on_is q rest ∙ e in
      ap (λ b. cond b (q ++ drop (length p) (q ++ rest)) (cond (is_in_family q (q ++ rest)) (p ++ drop (length q) (q ++ rest)) (q ++ rest))) (not_in (q ++ rest) f)
      ∙ ap (λ b. cond b (p ++ drop (length q) (q ++ rest)) (q ++ rest)) f
      ∙ ap (λ l. p ++ l) (after_front q rest)

  pub exchanged_neither : (n : List ℕ) → is_in_family p n ≡ false → is_in_family q n ≡ false → exchanged p q n ≡ n
  exchanged_neither n e f =
      ap (λ b. cond b (q ++ drop (length p) n) (cond (is_in_family q n) (p ++ drop (length q) n) n)) e
      ∙ ap (λ b. cond b (p ++ drop (length q) n) n) f

  -- of which family a name is, and what stands behind
  pub data Where (n : List ℕ) : Type 0 where
    first : (rest : List ℕ) → n ≡ p ++ rest → goes_on rest ≡ true → Where n
    second : (rest : List ℕ) → n ≡ q ++ rest → goes_on rest ≡ true → Where n
    neither : is_in_family p n ≡ false → is_in_family q n ≡ false → Where n

  pub where_is : (n : List ℕ) → Where n
  where_is n = by_tests (is_in_family p n) refl (is_in_family q n) refl
    where
      by_tests : (b : Bool) → is_in_family p n ≡ b → (c : Bool) → is_in_family q n ≡ c → Where n
      by_tests true e c f = let k = behind p n e in first (drop (length p) n) k.0 k.1
      by_tests false e true f = let k = behind q n f in second (drop (length q) n) k.0 k.1
      by_tests false e false f = neither e f

  -- twice is not at all
  pub exchanged_twice : (n : List ℕ) → exchanged p q (exchanged p q n) ≡ n
  exchanged_twice n = by_place (where_is n)
    where
      by_place : Where n → exchanged p q (exchanged p q n) ≡ n
      by_place (first rest is e) = ap (λ x. exchanged p q (exchanged p q x)) is ∙ ap (exchanged p q) (exchanged_first rest e) ∙ exchanged_second rest e ∙ sym is
      by_place (second rest is e) = ap (λ x. exchanged p q (exchanged p q x)) is ∙ ap (exchanged p q) (exchanged_second rest e) ∙ exchanged_first rest e ∙ sym is
      by_place (neither e f) = ap (exchanged p q) (exchanged_neither n e f) ∙ exchanged_neither n e f

-- ---- parents

-- the parent of what stands behind a name stands behind that name
pub parent_behind : (name rest front : List ℕ) → parent_of rest ≡ Some front → parent_of (name ++ rest) ≡ Some (name ++ front)
parent_behind [] rest front e = e
parent_behind (a ∷ ps) rest front e = ap (before_slash a) (parent_behind ps rest front e)

-- what goes on has a parent, which goes on, or is nothing
pub goes_up : (rest : List ℕ) → goes_on rest ≡ true → (rest ≡ []) ⊎ ((front : List ℕ) × (parent_of rest ≡ Some front) × (goes_on front ≡ true))
goes_up [] e = inl refl
goes_up (b ∷ bs) e = by_parent (parent_of bs) refl
  where
    by_parent : (x : Option (List ℕ)) → parent_of bs ≡ x → ((b ∷ bs) ≡ []) ⊎ ((front : List ℕ) × (parent_of (b ∷ bs) ≡ Some front) × (goes_on front ≡ true))
    by_parent None h = inr ([], (ap (before_slash b) h ∙ ap (λ t. cond t (Some []) None) (either_way b slash ∙ e)), refl)
    by_parent (Some front) h = inr (b ∷ front, ap (before_slash b) h, e)

-- the root is of no other family
pub root_apart : (name : List ℕ) → same_name root_name name ≡ false → is_in_family name root_name ≡ false
root_apart name other = (λ i. other i || no_descendant name root_name refl i)
