-- A list of names as it is written.
use Rattle.std.proofs.Common.{◌≡◌, ◌≤◌, ℕ, List, [], ◌∷◌, ◌++◌, Option, length, take, take_all, subst, sym}
use Rattle.std.specs.Prelude.{codes}
use Rattle.std.specs.List.{flat_map}
use Rattle.std.specs.Io.KnownBytes.{Appends}
use Rattle.std.proofs.KnownBytes.{Appends-trans}
use Rattle.script.specs.Text.{names_text}

-- the first name, each other one after a space, and the line feed
pub names-written :
    (a b c d : Option (List ℕ)) (first : List ℕ) (others : List (List ℕ)) (names : List (List ℕ)) (n : ℕ)
    → names ≡ first ∷ others → length others ≤ n → Appends a b first
    → Appends b c (flat_map (λ x. codes " " ++ x) (take n others)) → Appends c d (10 ∷ [])
    → Appends a d (names_text names ++ 10 ∷ [])
names-written a b c d first others names n is all one more last =
    let rest = flat_map (λ x. codes " " ++ x) others in
    let more' = subst (λ xs. Appends b c (flat_map (λ x. codes " " ++ x) xs)) (take_all n others all) more in
    subst (λ xs. Appends a d (names_text xs ++ 10 ∷ [])) (sym is)
    (Appends-trans a c d (first ++ rest) (10 ∷ []) (Appends-trans a b c first rest one more') last)
