-- The keys of a map.
use Rattle.std.proofs.Common.{◌≡◌, List, [], ◌∷◌, Some, map, refl, inl, inr, ⊎_elim, Ordering}
use Rattle.std.specs.FinMap.{FinMap, get, entries, keys}
use Rattle.base.specs.Surveys.{IsIn, AreDifferent}
use Rattle.world.specs.Sets.{IsExactOrder}
use Rattle.world.specs.Usage.{IsEntry, AreApart}
use Rattle.world.proofs.lists.Maps.{entry_of, at_entry, entries_apart}

module _ {K X : Type 0} where
  key_entry : (es : List (K × X)) (k : K) → IsIn (map (λ e. e.0) es) k → (x : X) × IsEntry es k x
  key_entry [] k i = absurd i
  key_entry (e ∷ es) k i = ⊎_elim (λ is. (e.1, inl (is, refl))) (λ r. let x = key_entry es k r in (x.0, inr x.1)) i

  entry_key : (es : List (K × X)) (k : K) (x : X) → IsEntry es k x → IsIn (map (λ e. e.0) es) k
  entry_key [] k x i = absurd i
  entry_key (e ∷ es) k x i = ⊎_elim (λ w. inl w.0) (λ r. inr (entry_key es k x r)) i

  keys_apart : (es : List (K × X)) → AreApart es → AreDifferent (map (λ e. e.0) es)
  keys_apart [] a = tt
  keys_apart (e ∷ es) a = ((λ i. let r = key_entry es e.0 i in a.0 e.0 r.0 r.1 refl), keys_apart es a.1)

module _ {K X : Type 0} {R : K → K → Ordering} (o : IsExactOrder R) (m : FinMap R X) where
  pub from_keys : (k : K) → IsIn (keys m) k → (x : X) × (get m k ≡ Some x)
  from_keys k i = let x = key_entry (entries m) k i in (x.0, at_entry o m k x.0 x.1)

  pub in_keys : (k : K) (x : X) → get m k ≡ Some x → IsIn (keys m) k
  in_keys k x e = entry_key (entries m) k x (entry_of o m k x e)

  pub keys_once : AreDifferent (keys m)
  keys_once = keys_apart (entries m) (entries_apart o m)
