-- Limits as facts, and where it is enough to ask some file systems.
use Rattle.std.proofs.Common.{◌≡◌, ℕ, Bool, true, List, [], ◌∷◌, Option, Some, None, refl, ap, ◌∙◌, inl, inr, ⊎_elim}
use Rattle.std.specs.Prelude.{nat_le, ◌&&◌}
use Rattle.std.specs.List.{list_all}
use Rattle.std.specs.Option.{option_map_or}
use Rattle.std.specs.FinMap.{entries}
use Rattle.std.proofs.lemmas.Bool.{leb-true, le-leb, and_parts, and_from}
use Rattle.model.specs.World.{World, FileSystem, Live}
use Rattle.model.specs.State.{State}
use Rattle.model.specs.Sums.{used_of, referenced_of}
use Rattle.model.specs.Fits.{quotas_hold, refquotas_hold, pool_holds, limits_hold}
use Rattle.world.specs.Usage.{IsEntry}
use Rattle.world.specs.Shapes.{name_order}
use Rattle.world.proofs.lists.Maps.{entry_of, at_entry}
use Rattle.limits.specs.Limits.{IsWithin, IsQuotaMet, IsRefquotaMet, AreQuotasMet}

from_within : (n : ℕ) (x : Option ℕ) → option_map_or (nat_le n) x true ≡ true → IsWithin n x
from_within n None e = tt
from_within n (Some limit) e = leb-true n limit e

to_within : (n : ℕ) (x : Option ℕ) → IsWithin n x → option_map_or (nat_le n) x true ≡ true
to_within n None h = refl
to_within n (Some limit) h = le-leb n limit h

module _ (p : List ℕ × FileSystem → Bool) where
  from_every : (es : List (List ℕ × FileSystem)) → list_all p es ≡ true → (name : List ℕ) (s : FileSystem) → IsEntry es name s → p (name, s) ≡ true
  from_every [] h name s i = absurd i
  from_every (e ∷ es) h name s i =
      let k = and_parts (p e) (list_all p es) h in
      ⊎_elim (λ is. ap p (λ j. (is.0 j, is.1 j)) ∙ k.0) (λ r. from_every es k.1 name s r) i

  to_every : (es : List (List ℕ × FileSystem)) → ((name : List ℕ) (s : FileSystem) → IsEntry es name s → p (name, s) ≡ true) → list_all p es ≡ true
  to_every [] h = refl
  to_every (e ∷ es) h = and_from (p e) (list_all p es) (h e.0 e.1 (inl (refl, refl))) (to_every es (λ name s i. h name s (inr i)))

module _ (w : World) where
  pub quotas_met : quotas_hold w ≡ true → (name : List ℕ) → IsQuotaMet w name
  unfolding quotas_hold
  quotas_met h name s at = from_within _ s.limits.quota (from_every (λ e. option_map_or (nat_le (used_of w e.0)) e.1.limits.quota true) (entries w.file_systems) h name s (entry_of name_order w.file_systems name s at))

  pub met_quotas : ((name : List ℕ) → IsQuotaMet w name) → quotas_hold w ≡ true
  unfolding quotas_hold
  met_quotas h = to_every (λ e. option_map_or (nat_le (used_of w e.0)) e.1.limits.quota true) (entries w.file_systems)
      (λ name s i. to_within _ s.limits.quota (h name s (at_entry name_order w.file_systems name s i)))

  pub refquotas_met : refquotas_hold w ≡ true → (name : List ℕ) → IsRefquotaMet w name
  unfolding refquotas_hold
  refquotas_met h name s at = from_within _ s.limits.refquota (from_every (λ e. option_map_or (nat_le (referenced_of w (Live e.0))) e.1.limits.refquota true) (entries w.file_systems) h name s (entry_of name_order w.file_systems name s at))

  pub met_refquotas : ((name : List ℕ) → IsRefquotaMet w name) → refquotas_hold w ≡ true
  unfolding refquotas_hold
  met_refquotas h = to_every (λ e. option_map_or (nat_le (referenced_of w (Live e.0))) e.1.limits.refquota true) (entries w.file_systems)
      (λ name s i. to_within _ s.limits.refquota (h name s (at_entry name_order w.file_systems name s i)))

  -- as the refusal row asks
  pub are_met : quotas_hold w ≡ true → refquotas_hold w ≡ true → AreQuotasMet w
  are_met a b = record { quotas = quotas_met a; refquotas = refquotas_met b }

-- all limits hold where every quota and refquota holds and the pool has room
module _ (s : State) where
  pub limits_met : limits_hold s ≡ true → AreQuotasMet s.now × (pool_holds s ≡ true)
  limits_met h =
      let a = and_parts (quotas_hold s.now) (refquotas_hold s.now && pool_holds s) h in
      let b = and_parts (refquotas_hold s.now) (pool_holds s) a.1 in
      (are_met s.now a.0 b.0, b.1)

-- ---- it is enough to ask the changed file systems and those above them
