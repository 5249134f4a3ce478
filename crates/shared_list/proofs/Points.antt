-- The place of the first element that a test doesn't pass, among chunks.
use Rattle.std.proofs.Common.{◌≡◌, ℕ, zero, suc, ◌+◌, ◌-◌, ◌<◌, ◌≤◌, Bool, true, false, List, [], ◌∷◌, ◌++◌, length, take, drop, get_or, slice_get, None, Some, refl, sym, ap, ◌∙◌, arith, true≢false, inl, inr}
use Rattle.std.proofs.lemmas.Bool.{cases_lt}
use Rattle.std.proofs.lemmas.List.{take_all, length-map, length-append, length-drop, length-take-le, get_or_default, get_or_append_left, get_or-append-add, get_or-take}
use Rattle.std.proofs.lemmas.Option.{get_or_from_slice_get, slice_get_within}
use Rattle.std.specs.List.Sorted.{IsPartitionedBy, IsPartitionPoint}
use Rattle.std.specs.List.{flat_map}
use Rattle.std.specs.Fn.{Called, AlwaysReturns}
use Rattle.std.specs.Global.{Global}
use Rattle.std.specs.declared.sync.Arc.{Arc}
use denote.Param.Members.{Mut}
use Rattle.shared_list.specs.Elements.{values}
use Rattle.shared_list.specs.Cuts.{IsCut}
use Rattle.shared_list.specs.Places.{ends}
use Rattle.shared_list.proofs.Chunks.{whole, is_there, got_within}

-- one call of a test
pub answered : {F A R : Type 0} (g : Mut F A R) (P : A → R → Type 0) (f : F) (a : A) (r : R) (f' : F) → Called g f a r f' → AlwaysReturns g P f → P a r
answered g P f a r f' c h = (h.at (a ∷ []) r f' c).0

from_not : (b : Bool) → (b ≡ true → ⊥) → b ≡ false
from_not true f = absurd (f refl)
from_not false f = refl

-- a cut of elements of which those that pass come first is their partition point
pub point_of : {X : Type 0} (p : X → Bool) (ys : List X) (i : ℕ) → IsPartitionedBy p ys → IsCut p ys i → IsPartitionPoint (λ y. p y ≡ true) (λ y. p y ≡ false) ys i
point_of p ys i parts cut = (
  (λ k d ge lt. let within = cut.within in parts k (i - 1) d (omega arith) (omega arith) (cut.before (i - 1) d (omega arith))),
  (λ k d ge lt. from_not (p (get_or ys k d)) (λ s. true≢false (sym (parts i k d ge lt s) ∙ cut.after d (omega arith)))),
)

-- a read of what items own
value_at : {X : Type 0} (p : X → Bool) (items : List (Arc X Global)) (j : ℕ) (d : X) (a : Arc X Global) → j < length items → a ≡ get_or items j a → p (get_or (values items) j d) ≡ p a.value
value_at p [] j d a lt read = absurd (omega arith)
value_at p (x ∷ xs) zero d a lt read = ap (λ (b : Arc _ Global). p b.value) (sym read)
value_at p (x ∷ xs) (suc j) d a lt read = value_at p xs j d a (omega arith) read

-- the last element
pub ends_at : {X : Type 0} (p : X → Bool) (v : List X) (d : X) → 0 < length v → ends p v ≡ p (get_or v (length v - 1) d)
ends_at p [] d h = absurd (omega arith)
ends_at p (x ∷ []) d h = refl
ends_at p (x ∷ (y ∷ ys)) d h =
    let next : length (x ∷ (y ∷ ys)) - 1 ≡ suc (length (y ∷ ys) - 1) = omega arith in
    ends_at p (y ∷ ys) d (omega arith) ∙ ap (λ n. p (get_or (x ∷ (y ∷ ys)) n d)) (sym next)

pub ends_last : {X : Type 0} (p : X → Bool) (v : List X) (x : X) → slice_get v (length v - 1) ≡ Some x → ends p v ≡ p x
ends_last p [] x e = cc
ends_last p (y ∷ []) x e = let same : y ≡ x = cc in ap p same
ends_last p (y ∷ (z ∷ zs)) x e =
    let next : length (y ∷ (z ∷ zs)) - 1 ≡ suc (length (z ∷ zs) - 1) = omega arith in
    ends_last p (z ∷ zs) x (sym (ap (slice_get (y ∷ (z ∷ zs))) next) ∙ e)

ends_some : {X : Type 0} (p : X → Bool) (v : List X) → ends p v ≡ true → 0 < length v
ends_some p [] e = absurd (true≢false (sym e))
ends_some p (x ∷ xs) e = omega arith

-- an element of a chunk, among all
element : {A X : Type 0} (f : A → List X) (xs : List A) (k i : ℕ) (a : A) (d : X) → k < length xs → a ≡ get_or xs k a → i < length (f a) → get_or (flat_map f xs) (length (flat_map f (take k xs)) + i) d ≡ get_or (f a) i d
element f xs k i a d h read within =
    ap (λ ys. get_or ys (length (flat_map f (take k xs)) + i) d) (whole f xs k a h read)
    ∙ get_or-append-add (flat_map f (take k xs)) ((f a) ++ flat_map f (drop (suc k) xs)) i d
    ∙ get_or_append_left (f a) (flat_map f (drop (suc k) xs)) d i within

pub long : {A X : Type 0} (f : A → List X) (xs : List A) (k : ℕ) (a : A) → k < length xs → a ≡ get_or xs k a → length (flat_map f (take k xs)) + length (f a) ≤ length (flat_map f xs)
long f xs k a h read = omega (arith, ap length (whole f xs k a h read), length-append (flat_map f (take k xs)) ((f a) ++ flat_map f (drop (suc k) xs)), length-append (f a) (flat_map f (drop (suc k) xs)))

pub inside : {A X : Type 0} (f : A → List X) (xs : List A) (k i : ℕ) → k < length xs → ((a : A) → i < length (f (get_or xs k a))) → length (flat_map f (take k xs)) + i < length (flat_map f xs)
inside f [] k i h within = absurd (omega arith)
inside f (x ∷ xs) k i h within =
    let a = get_or (x ∷ xs) k x in
    omega (arith, long f (x ∷ xs) k a h (get_or_default (x ∷ xs) k x a h), within x)

pub taken_more : {A X : Type 0} (f : A → List X) (xs : List A) (j : ℕ) (a : A) → j < length xs → a ≡ get_or xs j a → length (flat_map f (take (suc j) xs)) ≡ length (flat_map f (take j xs)) + length (f a)
taken_more f [] j a h read = absurd (omega arith)
taken_more f (x ∷ xs) zero a h read = length-append (f x) [] ∙ ap (λ b. length (f b) + 0) (sym read) ∙ omega arith
taken_more f (x ∷ xs) (suc j) a h read =
    let rest = taken_more f xs j a (omega arith) read in
    omega (arith, rest, length-append (f x) (flat_map f (take (suc j) xs)), length-append (f x) (flat_map f (take j xs)))

-- a place without an element is behind all
pub behind_all : {X : Type 0} (xs : List X) (i : ℕ) → slice_get xs i ≡ None → length xs ≤ i
behind_all [] i is = omega arith
behind_all (x ∷ xs) zero is = cc
behind_all (x ∷ xs) (suc i) is = let rest = behind_all xs i is in omega arith

-- where there is no last element there is none
pub none_last : {X : Type 0} (xs : List X) → slice_get xs (length xs - 1) ≡ None → xs ≡ []
none_last [] is = refl
none_last (x ∷ xs) is = absurd (omega (arith, behind_all (x ∷ xs) (length (x ∷ xs) - 1) is))

-- the last element of the last chunk is the last of all
pub last_within : {A X : Type 0} (f : A → List X) (xs : List A) (k : ℕ) (a : A) (y : X) → k + 1 ≡ length xs → a ≡ get_or xs k a → slice_get (f a) (length (f a) - 1) ≡ Some y → slice_get (flat_map f xs) (length (flat_map f xs) - 1) ≡ Some y
last_within f xs k a y end read is =
    let i = length (f a) - 1 in
    let lt : i < length (f a) = slice_get_within (f a) i y is in
    let h : k < length xs = omega arith in
    let all = ap (λ ys. length (flat_map f ys)) (take_all (suc k) xs (omega arith)) in
    let at : length (flat_map f xs) - 1 ≡ length (flat_map f (take k xs)) + i = omega (arith, taken_more f xs k a h read, all, lt) in
    ap (slice_get (flat_map f xs)) at ∙ got_within f xs k i a y h read lt is

-- where a walk over chunks has come
pub reached : {X : Type 0} (xs : List X) (k : ℕ) (x : X) (ys : List X) → drop k xs ≡ x ∷ ys → (k < length xs) × (x ≡ get_or xs k x) × (drop (suc k) xs ≡ ys)
reached [] zero x ys e = cc
reached [] (suc k) x ys e = cc
reached (z ∷ xs) zero x ys e = (omega arith, cc, cc)
reached (z ∷ xs) (suc k) x ys e = let r = reached xs k x ys e in (omega arith, r.1, r.2)

-- a walk that is over
pub walked : {X : Type 0} (xs : List X) (k : ℕ) → drop k xs ≡ [] → length xs ≤ k
walked xs k e = omega (arith, ap length e, length-drop k xs)

-- a read of a list, whatever stands for what isn't there
pub read_of : {X : Type 0} (xs : List X) (k : ℕ) (x : X) → slice_get xs k ≡ Some x → (d : X) → x ≡ get_or xs k d
read_of xs k x e d = sym (get_or_from_slice_get xs k x d e)

module _ {A X : Type 0} (f : A → List X) (p : X → Bool) (xs : List A) (k : ℕ) (cut : IsCut (λ a. ends p (f a)) xs k) where
  -- the last element before the chunk at a cut passes
  before_chunk : (j : ℕ) (d : X) → length (flat_map f (take k xs)) ≡ j + 1 → p (get_or (flat_map f xs) j d) ≡ true
  before_chunk j d e = by k refl (cut.within) cut.before e
    where
      by : (n : ℕ) → n ≡ k → n ≤ length xs → ((m : ℕ) (a : A) → n ≡ m + 1 → ends p (f (get_or xs m a)) ≡ true) → length (flat_map f (take n xs)) ≡ j + 1 → p (get_or (flat_map f xs) j d) ≡ true
      by zero is le passes e = absurd (omega arith)
      by (suc m) is le passes e = there (is_there xs m (omega arith))
        where
          there : (a : A) × (slice_get xs m ≡ Some a) → p (get_or (flat_map f xs) j d) ≡ true
          there (a, is) =
              let read = read_of xs m a is a in
              let within : m < length xs = omega arith in
              let last : ends p (f a) ≡ true = ap (λ b. ends p (f b)) read ∙ passes m a (omega arith) in
              let some = ends_some p (f a) last in
              let at : j ≡ length (flat_map f (take m xs)) + (length (f a) - 1) = omega (arith, taken_more f xs m a within read) in
              ap (λ i. p (get_or (flat_map f xs) i d)) at ∙ ap p (element f xs m (length (f a) - 1) a d within read (omega arith)) ∙ sym (ends_at p (f a) d some) ∙ last

  -- where all pass
  pub none_left : length xs ≤ k → IsCut p (flat_map f xs) (length (flat_map f xs))
  none_left end =
      let all : flat_map f (take k xs) ≡ flat_map f xs = ap (flat_map f) (take_all k xs end) in
      record {
        within = omega arith;
        before = λ j d e. before_chunk j d (ap length all ∙ e);
        after = λ d lt. absurd (omega arith);
      }

  module _ (a : A) (h : k < length xs) (read : a ≡ get_or xs k a) where
    -- the chunk at a cut ends with one that doesn't pass
    pub last_fails : ends p (f a) ≡ false
    last_fails = ap (λ b. ends p (f b)) read ∙ cut.after a h

    -- a cut of it is one of all
    pub cut_within : (i : ℕ) → i < length (f a) → IsCut p (f a) i → IsCut p (flat_map f xs) (length (flat_map f (take k xs)) + i)
    cut_within i lt inner = record {
      within = omega (arith, long f xs k a h read);
      before = λ j d e. from i refl j d e;
      after = λ d more. ap p (element f xs k i a d h read lt) ∙ inner.after d lt;
    }
      where
        from : (n : ℕ) → n ≡ i → (j : ℕ) (d : X) → length (flat_map f (take k xs)) + n ≡ j + 1 → p (get_or (flat_map f xs) j d) ≡ true
        from zero is j d e = before_chunk j d (omega arith)
        from (suc m) is j d e =
            let at : j ≡ length (flat_map f (take k xs)) + m = omega arith in
            ap (λ z. p (get_or (flat_map f xs) z d)) at ∙ ap p (element f xs k m a d h read (omega arith)) ∙ inner.before m d (omega arith)

-- a cut of the items but the last, which doesn't pass, is one of what all own
pub cut_of_values : {X : Type 0} (p : X → Bool) (items : List (Arc X Global)) (n i : ℕ) → length items ≡ n + 1 → ends p (values items) ≡ false → IsCut (λ a. p a.value) (take n items) i → IsCut p (values items) i
cut_of_values {X} p items n i long last cut =
    let short : length (take n items) ≡ n = length-take-le n items (omega arith) in
    let le : i ≤ n = omega (arith, cut.within) in
    let same : length (values items) ≡ n + 1 = length-map items (λ (a : Arc X Global). a.value) ∙ long in
    record {
      within = omega arith;
      before = λ j d e. at j d (is_there items j (omega arith)) (omega arith) (λ z. cut.before j z e);
      after = λ d lt. elim (cases_lt i n) [
        | inl less ↦ at i d (is_there items i (omega arith)) less (λ z. cut.after z (omega arith))
        | inr ge ↦
            let end : length (values items) - 1 ≡ i = omega arith in
            sym (ap (λ z. p (get_or (values items) z d)) end) ∙ sym (ends_at p (values items) d (omega arith)) ∙ last
      ];
    }
  where
    at : {b : Bool} (j : ℕ) (d : X) → (a : Arc X Global) × (slice_get items j ≡ Some a) → j < n → ((z : Arc X Global) → p (get_or (take n items) j z).value ≡ b) → p (get_or (values items) j d) ≡ b
    at j d (a, is) lt h =
        let read = read_of items j a is a in
        value_at p items j d a (omega arith) read
        ∙ ap (λ (c : Arc X Global). p c.value) (read ∙ sym (get_or-take n items j a lt))
        ∙ h a
