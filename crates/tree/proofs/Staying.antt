-- A node that stays, whatever becomes of the place on the way to one leaf.
use Rattle.std.proofs.Common.{◌≡◌, ℕ, suc, Bool, true, List, length, get_or, Option, Some, None, refl, ap, subst, ◌∙◌, ◌⊎◌, inl, inr, arith}
use Rattle.std.specs.Option.{option_map, OnSome}
use Rattle.std.specs.Prelude.{is_some, IsTrue, IfNone, false}
use Rattle.node.specs.Kid.{IsKid, places, places_of}
use Rattle.node.specs.Shape.{Part, Forest, forest_of}
use Rattle.node.proofs.Places.{length-places}
use Rattle.batch.specs.Said.{Said, IsWay}
use Rattle.batch.specs.Touch.{touched, stays}
use Rattle.batch.proofs.OneLeaf.{place_at, stays_written, stays_beside}
use Rattle.batch.specs.Others.{HasOther}

is_some-map : {A B : Type 0} (f : A → B) (x : Option A) → is_some (option_map f x) ≡ is_some x
is_some-map f None = refl
is_some-map f (Some x) = refl

pub surely : {A : Type 0} (s : ℕ → Said) (l g j p : ℕ) (writes : Bool) (way : IsWay s l j p writes) (f : A → Part) (o : Part) (kids : List (Option A)) → IsKid (suc l) g (Some o)
    → touched s (suc l) j (Some o) ≡ true → o.below ≡ forest_of f kids → IsTrue writes ⊎ HasOther p kids → stays s (suc l) j (Some o) ≡ true
surely s l g j p writes way f o kids k t e (inl w) = stays_written s l g j p (subst (IsWay s l j p) w way) (Some o) k
surely s l g j p writes way f o kids k t e (inr h) =
    let within = h.within in
    let wide : length (places_of (Some o)) ≡ length kids = ap (λ (x : Forest). length (places x)) e ∙ length-places f kids in
    let here : get_or (places_of (Some o)) h.at None ≡ option_map f (get_or kids h.at None) = ap (λ (x : Forest). get_or (places x) h.at None) e ∙ place_at f kids h.at None h.within in
    stays_beside s l g j p writes way (Some o) k h.at t h.other (omega (arith, within, wide)) (ap is_some here ∙ is_some-map f (get_or kids h.at None) ∙ h.there)

-- a part that is there after all, or isn't
pub if_none : {A : Type 0} (P : Type 0) (o : Option A) → is_some o ≡ false → IfNone o P → P
if_none P None e h = h
if_none P (Some x) e h = cc

pub on_some : {A : Type 0} (P : Type 0) (o : Option A) (a : A) → o ≡ Some a → OnSome o P → P
on_some P None a e h = cc
on_some P (Some x) a e h = h
