-- Births against a cut: in one segment, and in all segments beyond it.
use Rattle.std.proofs.Common.{◌≡◌, ℕ, ◌+◌, ◌≤◌, ◌<◌, ◌⊎◌, inl, inr, Bool, true, false, cond, leb, ltb, List, [], ◌∷◌, ◌++◌, filter, arith, refl, ap}
use Rattle.std.specs.Prelude.{min, max}
use Rattle.std.proofs.lemmas.Bool.{lt-ltb, le-ltb, lt-leb, le-leb, cases_lt}
use Rattle.std.proofs.lemmas.Bool.Decides.{leb_tells}
use Rattle.std.proofs.lemmas.List.{append_assoc}
use Rattle.base.specs.declared.number.Dead.{Dead}
use Rattle.deadlist.specs.Spans.{Span}
use Rattle.deadlist.specs.Entries.{is_after, is_upto}
use Rattle.deadlist.specs.Segments.{AreCut, AreBornFrom, AreBornBy, upper_of, uppers, entries_in}

-- a test of order, with what it says
pub ltb_tells : (a b : ℕ) → ((ltb a b ≡ true) × (a < b)) ⊎ ((ltb a b ≡ false) × (b ≤ a))
ltb_tells a b = elim (cases_lt a b) [ inl h ↦ inl (lt-ltb a b h, h) | inr h ↦ inr (le-ltb a b h, h) ]

-- ---- entries of one segment
pub upto_born_by : (to cut : ℕ) (p : List Dead) → AreBornBy to p → to ≤ cut → filter (is_upto cut) p ≡ p
upto_born_by to cut [] h le = refl
upto_born_by to cut (d ∷ ds) h le =
    let e = le-leb d.birth.0 cut (omega (arith, h.0)) in
    rw e (ap (λ (xs : List Dead). d ∷ xs) (upto_born_by to cut ds h.1 le))

pub after_born_by : (to cut : ℕ) (p : List Dead) → AreBornBy to p → to ≤ cut → filter (is_after cut) p ≡ []
after_born_by to cut [] h le = refl
after_born_by to cut (d ∷ ds) h le =
    let e = le-ltb cut d.birth.0 (omega (arith, h.0)) in
    rw e (after_born_by to cut ds h.1 le)

pub upto_born_from : (from cut : ℕ) (p : List Dead) → AreBornFrom from p → cut < from → filter (is_upto cut) p ≡ []
upto_born_from from cut [] h lt = refl
upto_born_from from cut (d ∷ ds) h lt =
    let e = lt-leb d.birth.0 cut (omega (arith, h.0)) in
    rw e (upto_born_from from cut ds h.1 lt)

pub after_born_from : (from cut : ℕ) (p : List Dead) → AreBornFrom from p → cut < from → filter (is_after cut) p ≡ p
after_born_from from cut [] h lt = refl
after_born_from from cut (d ∷ ds) h lt =
    let e = lt-ltb cut d.birth.0 (omega (arith, h.0)) in
    rw e (ap (λ (xs : List Dead). d ∷ xs) (after_born_from from cut ds h.1 lt))

pub born_from_weaker : (from low : ℕ) (p : List Dead) → AreBornFrom from p → low ≤ from → AreBornFrom low p
born_from_weaker from low [] h le = tt
born_from_weaker from low (d ∷ ds) h le = (omega (arith, h.0), born_from_weaker from low ds h.1 le)

pub born_by_weaker : (to high : ℕ) (p : List Dead) → AreBornBy to p → to ≤ high → AreBornBy high p
born_by_weaker to high [] h le = tt
born_by_weaker to high (d ∷ ds) h le = (omega (arith, h.0), born_by_weaker to high ds h.1 le)

-- two bounds at once
pub born_from_both : (a b low : ℕ) (p : List Dead) → AreBornFrom a p → AreBornFrom b p → low ≤ max a b → AreBornFrom low p
born_from_both a b low [] h k le = tt
born_from_both a b low (d ∷ ds) h k le = (omega (arith, h.0, k.0), born_from_both a b low ds h.1 k.1 le)

pub born_by_both : (a b high : ℕ) (p : List Dead) → AreBornBy a p → AreBornBy b p → min a b ≤ high → AreBornBy high p
born_by_both a b high [] h k le = tt
born_by_both a b high (d ∷ ds) h k le = (omega (arith, h.0, k.0), born_by_both a b high ds h.1 k.1 le)

pub born_from_append : (from : ℕ) (p q : List Dead) → AreBornFrom from p → AreBornFrom from q → AreBornFrom from (p ++ q)
born_from_append from [] q h k = k
born_from_append from (d ∷ ds) q h k = (h.0, born_from_append from ds q h.1 k)

pub born_by_append : (to : ℕ) (p q : List Dead) → AreBornBy to p → AreBornBy to q → AreBornBy to (p ++ q)
born_by_append to [] q h k = k
born_by_append to (d ∷ ds) q h k = (h.0, born_by_append to ds q h.1 k)

-- what a filter keeps
pub born_from_filter : (from : ℕ) (t : Dead → Bool) (p : List Dead) → AreBornFrom from p → AreBornFrom from (filter t p)
born_from_filter from t [] h = tt
born_from_filter from t (d ∷ ds) h = elim (t d) as (λ b. AreBornFrom from (cond b (d ∷ filter t ds) (filter t ds))) [ true ↦ (h.0, born_from_filter from t ds h.1) | false ↦ born_from_filter from t ds h.1 ]

pub born_by_filter : (to : ℕ) (t : Dead → Bool) (p : List Dead) → AreBornBy to p → AreBornBy to (filter t p)
born_by_filter to t [] h = tt
born_by_filter to t (d ∷ ds) h = elim (t d) as (λ b. AreBornBy to (cond b (d ∷ filter t ds) (filter t ds))) [ true ↦ (h.0, born_by_filter to t ds h.1) | false ↦ born_by_filter to t ds h.1 ]

-- all that is kept by the cut, and all that is kept after it
pub born_by_cut : (cut : ℕ) (p : List Dead) → AreBornBy cut (filter (is_upto cut) p)
born_by_cut cut [] = tt
born_by_cut cut (d ∷ ds) =
    elim (leb_tells d.birth.0 cut) [
      | inl h ↦ rw h.0 (h.1, born_by_cut cut ds)
      | inr h ↦ rw h.0 (born_by_cut cut ds)
    ]

pub born_after_cut : (cut : ℕ) (p : List Dead) → AreBornFrom (cut + 1) (filter (is_after cut) p)
born_after_cut cut [] = tt
born_after_cut cut (d ∷ ds) =
    elim (ltb_tells cut d.birth.0) [
      | inl h ↦ rw h.0 (omega (arith, h.1), born_after_cut cut ds)
      | inr h ↦ rw h.0 (born_after_cut cut ds)
    ]

pub born_from_zero : (p : List Dead) → AreBornFrom 0 p
born_from_zero [] = tt
born_from_zero (d ∷ ds) = (omega arith, born_from_zero ds)

-- ---- segments beyond the cut
pub born_from_all : (xs : List Span) (from : ℕ) (last : List Dead) → AreCut from xs last → AreBornFrom from (entries_in xs ++ last)
born_from_all [] from last c = c
born_from_all (s ∷ ss) from last c =
    let k = born_from_weaker (upper_of s + 1) from (entries_in ss ++ last) (born_from_all ss (upper_of s + 1) last c.3) (omega (arith, c.0)) in
    rw append_assoc (born_from_append from s.pile (entries_in ss ++ last) c.1 k)

pub none_upto : (xs : List Span) (from cut : ℕ) (last : List Dead) → AreCut from xs last → cut < from → filter (is_upto cut) (entries_in xs ++ last) ≡ []
none_upto xs from cut last c lt = upto_born_from from cut (entries_in xs ++ last) (born_from_all xs from last c) lt

pub all_after : (xs : List Span) (from cut : ℕ) (last : List Dead) → AreCut from xs last → cut < from → filter (is_after cut) (entries_in xs ++ last) ≡ entries_in xs ++ last
all_after xs from cut last c lt = after_born_from from cut (entries_in xs ++ last) (born_from_all xs from last c) lt

pub none_cuts : (xs : List Span) (from cut : ℕ) (last : List Dead) → AreCut from xs last → cut < from → filter (λ c. leb c cut) (uppers xs) ≡ []
none_cuts [] from cut last c lt = refl
none_cuts (s ∷ ss) from cut last c lt =
    let e = lt-leb (upper_of s) cut (omega (arith, c.0)) in
    rw e (none_cuts ss (upper_of s + 1) cut last c.3 (omega (arith, c.0)))

pub all_cuts : (xs : List Span) (from cut : ℕ) (last : List Dead) → AreCut from xs last → cut < from → filter (λ c. ltb cut c) (uppers xs) ≡ uppers xs
all_cuts [] from cut last c lt = refl
all_cuts (s ∷ ss) from cut last c lt =
    let e = lt-ltb cut (upper_of s) (omega (arith, c.0)) in
    rw e (ap (λ (us : List ℕ). upper_of s ∷ us) (all_cuts ss (upper_of s + 1) cut last c.3 (omega (arith, c.0))))
