-- What a snapshot has that the one before hasn't, where there is no such snapshot.
use Rattle.std.proofs.Common.{◌≡◌, ℕ, ◌*◌, Bool, true, false, cond, List, [], ◌∷◌, Option, Some, None, refl, ap}
use Rattle.std.specs.List.{find}
use Rattle.std.specs.Option.{option_map, option_and_then}
use Rattle.base.specs.Map.{BlockSet, blocks}
use Rattle.base.specs.Names.{same_name}
use Rattle.model.specs.Sums.{size_without}
use Rattle.model.specs.World.{Snap}
use Rattle.model.specs.declared.reply.Value.TheVariants.{Size}
use Rattle.datasets.specs.Dead.{written_from}

none_written : (bs : BlockSet) (ts : List Snap) (name : List ℕ) → find (λ t. same_name t.name name) ts ≡ None → written_from bs ts name ≡ None
none_written bs [] name none = refl
none_written bs (t ∷ ts) name none = by_test (same_name t.name name) none (none_written (blocks t.map) ts name)
  where
    by_test : (b : Bool) → cond b (Some t) (find (λ u. same_name u.name name) ts) ≡ None
        → (find (λ u. same_name u.name name) ts ≡ None → written_from (blocks t.map) ts name ≡ None)
        → cond b (Some (size_without (blocks t.map) bs)) (written_from (blocks t.map) ts name) ≡ None
    by_test true k ih = absurd cc
    by_test false k ih = ih k

pub written_there : (bs : BlockSet) (ts : List Snap) (name : List ℕ)
    → option_map (λ n. Size (512 * n)) (written_from bs ts name)
    ≡ option_and_then (λ u. option_map (λ n. Size (512 * n)) (written_from bs ts name)) (find (λ u. same_name u.name name) ts)
written_there bs ts name = by_found (find (λ u. same_name u.name name) ts) refl
  where
    by_found : (o : Option Snap) → find (λ u. same_name u.name name) ts ≡ o
        → option_map (λ n. Size (512 * n)) (written_from bs ts name) ≡ option_and_then (λ u. option_map (λ n. Size (512 * n)) (written_from bs ts name)) o
    by_found None e = ap (option_map (λ n. Size (512 * n))) (none_written bs ts name e)
    by_found (Some u) e = refl
