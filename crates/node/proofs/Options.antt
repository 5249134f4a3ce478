-- Values that may be absent.
use Rattle.std.proofs.Common.{◌≡◌, true, Option, Some, None, refl, sym, ap, subst, ◌∙◌, true≢false}
use Rattle.std.specs.Prelude.{is_some, IfSome}
use Rattle.std.specs.Option.{option_map}

pub same_value : {A : Type 0} (x y : A) → Some x ≡ Some y → x ≡ y
same_value x y e = cc

pub some_of : {A : Type 0} (o : Option A) → is_some o ≡ true → (a : A) × (o ≡ Some a)
some_of None h = absurd (true≢false (sym h))
some_of (Some a) h = (a, refl)

pub not_some : {A : Type 0} (o : Option A) → o ≡ None → is_some o ≡ true → ⊥
not_some o e h = true≢false (sym h ∙ ap is_some e)

pub if_some : {A : Type 0} (P : A → Type 0) (o : Option A) (a : A) → o ≡ Some a → IfSome o P → P a
if_some P o a e h = subst (λ x. IfSome x P) e h

pub for_some : {A : Type 0} (P : A → Type 0) (o : Option A) → ((a : A) → o ≡ Some a → P a) → IfSome o P
for_some P None h = tt
for_some P (Some a) h = h a refl

pub mapped : {A B : Type 0} (f : A → B) (o : Option A) (b : B) → option_map f o ≡ Some b → (a : A) × (o ≡ Some a) × (f a ≡ b)
mapped f None b e = cc
mapped f (Some a) b e = (a, refl, same_value (f a) b e)

pub twice : {A B D : Type 0} (f : A → B) (h : B → D) (o : Option A) → option_map (λ x. h (f x)) o ≡ option_map h (option_map f o)
twice f h None = refl
twice f h (Some x) = refl

pub some_mapped : {A B : Type 0} (f : A → B) (o : Option A) → is_some (option_map f o) ≡ is_some o
some_mapped f None = refl
some_mapped f (Some x) = refl
