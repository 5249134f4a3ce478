-- Names joined by a byte.
use Rattle.std.proofs.Common.{◌≡◌, ℕ, List, [], ◌∷◌, ◌++◌, sym, ap, ◌∙◌}
use Rattle.std.proofs.lemmas.List.{append_assoc}
use Rattle.std.specs.List.{flat_map, join_with_byte}
use Rattle.world.proofs.lists.Finding.{append_none}

-- the byte before each of these
abbrev pub each_after : ℕ → List (List ℕ) → List ℕ
each_after b xs = flat_map (λ x. b ∷ x) xs

pub joined_first : (b : ℕ) (x : List ℕ) (xs : List (List ℕ)) → x ++ each_after b xs ≡ join_with_byte b (x ∷ xs)
joined_first b x [] = append_none x
joined_first b x (y ∷ ys) = ap (λ l. x ++ b ∷ l) (joined_first b y ys)

-- one name more, of those that are left
pub joined_next : (b : ℕ) (text x after all : List ℕ) (left rest : List (List ℕ)) → text ++ each_after b left ≡ all → left ≡ x ∷ rest
    → after ≡ (text ++ b ∷ []) ++ x → after ++ each_after b rest ≡ all
joined_next b text x after all left rest so_far here made =
    ap (λ l. l ++ each_after b rest) made
    ∙ append_assoc (text ++ b ∷ []) x (each_after b rest)
    ∙ append_assoc text (b ∷ []) (x ++ each_after b rest)
    ∙ ap (λ xs. text ++ each_after b xs) (sym here) ∙ so_far
