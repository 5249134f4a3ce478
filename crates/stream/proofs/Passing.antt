-- Bytes that pass one after the other, and what they tell of those before.
use Rattle.std.proofs.Common.{◌≡◌, ℕ, List, [], ◌++◌, Option, None, Some, IfSome, Result, Ok, Err, arith, sym, ap, subst, ◌∙◌, append_assoc, append-nil}
use Rattle.std.specs.Io.KnownBytes.{Consumes}
use Rattle.std.proofs.KnownBytes.{Consumes-trans, Appends-trans}
use Rattle.sha2.specs.declared.Sha256.{Sha256}
use Rattle.sha2.specs.Hashers.{Holds256}
use Rattle.std.specs.Result.{IsErrOf, IsErrAnd}
use Rattle.std.proofs.lemmas.List.{nil_from_length}
use Rattle.stream.specs.Reading.{Passes, ComesShort}
use Rattle.stream.specs.Writing.{Puts}

pub hashed_trans : (h i j : Sha256) (x y : List ℕ) → ((m : List ℕ) → Holds256 h m → Holds256 i (m ++ x)) → ((m : List ℕ) → Holds256 i m → Holds256 j (m ++ y))
    → (m : List ℕ) → Holds256 h m → Holds256 j (m ++ (x ++ y))
hashed_trans h i j x y f g m holds = subst (Holds256 j) (append_assoc m x y) (g (m ++ x) (f m holds))

pub Passes-trans : (a b c : Option (List ℕ)) (h i j : Sha256) (x y : List ℕ) → Passes a b h i x → Passes b c i j y → Passes a c h j (x ++ y)
Passes-trans a b c h i j x y p q = record { taken = Consumes-trans a b c x y p.taken q.taken; hashed = hashed_trans h i j x y p.hashed q.hashed }

pub Puts-trans : (a b c : Option (List ℕ)) (h i j : Sha256) (x y : List ℕ) → Puts a b h i x → Puts b c i j y → Puts a c h j (x ++ y)
Puts-trans a b c h i j x y p q = record { written = Appends-trans a b c x y p.written q.written; hashed = hashed_trans h i j x y p.hashed q.hashed }

-- what is told of the bytes that are left, in front of which some were taken
pub told_before : (told later : Option (List ℕ)) (bs : List ℕ) (P Q : List ℕ → Type 0) → Consumes told later bs → ((rest : List ℕ) → P rest → Q (bs ++ rest)) → IfSome later P → IfSome told Q
told_before None later bs P Q p f h = tt
told_before (Some xs) None bs P Q p f h = absurd p
told_before (Some xs) (Some ys) bs P Q p f h = subst Q (sym p) (f ys h)

pub told_weaker : (told : Option (List ℕ)) (P Q : List ℕ → Type 0) → ((bytes : List ℕ) → P bytes → Q bytes) → IfSome told P → IfSome told Q
told_weaker None P Q f h = tt
told_weaker (Some xs) P Q f h = f xs h

-- what was taken tells of the bytes before, whatever is left
pub told_taken : (told later : Option (List ℕ)) (bs : List ℕ) (Q : List ℕ → Type 0) → Consumes told later bs → ((rest : List ℕ) → Q (bs ++ rest)) → IfSome told Q
told_taken None later bs Q p f = tt
told_taken (Some xs) None bs Q p f = absurd p
told_taken (Some xs) (Some ys) bs Q p f = subst Q (sym p) (f ys)

-- not one byte was there
pub none_left : (told mid later : Option (List ℕ)) (bs : List ℕ) → Consumes told mid bs → ComesShort mid later 1 → Consumes told later bs
none_left told mid later bs p s =
    let fewer = s.fewer in
    let none : s.bytes ≡ [] = nil_from_length s.bytes (omega arith) in
    subst (Consumes told later) (ap (λ (l : List ℕ). bs ++ l) none ∙ append-nil bs) (Consumes-trans told mid later bs s.bytes p s.taken)

-- an error that is passed on is the error that came
pub passed_on : {T U E : Type 0} (r : Result T E) (came error : E) (P : Type 0) → IsErrAnd r (λ e. e ≡ came) → (IsErrOf {T = U} (Err came) error → P) → IsErrOf r error → P
passed_on (Ok x) came error P q f e = absurd q
passed_on (Err y) came error P q f e = let same : came ≡ error = cc in f (ap (λ x. Err x) same)
