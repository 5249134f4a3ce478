-- A snapshot of a live map in worlds that are alike: what is asked of the one holds of the other.
use Rattle.std.proofs.Common.{◌≡◌, ℕ, [], ◌∷◌, Some, sym, ap, subst, ◌∙◌, ⊎_elim, arith}
use Rattle.std.specs.Prelude.{unwrap_or}
use Rattle.std.specs.FinMap.{get}
use Rattle.base.specs.declared.name.member.Member.{Member}
use Rattle.model.specs.World.{World, FileSystem, Live}
use Rattle.model.specs.Edits.{with_next_group}
use Rattle.model.specs.Sums.{used_of, referenced_of}
use Rattle.model.specs.requests.Snapshot.{with_snapshot}
use Rattle.world.specs.Shapes.{Name, name_order}
use Rattle.world.specs.Takings.{AreTakable}
use Rattle.world.specs.Worlds.{AreFileSystems}
use Rattle.world.proofs.lists.Maps.{same_value, key_cases}
use Rattle.limits.specs.Asked.{AreLiveAlike, AreWorldsAlike}
use Rattle.limits.specs.Levels.{IsSameHere}
use Rattle.limits.specs.Limits.{IsWithin, AreQuotasMet}
use Rattle.limits.proofs.Asked.{same_here, same_size, by_written}
use Rattle.limits.proofs.Depth.{used_away}
use Rattle.limits.proofs.Taken.{taken_systems, taken_there, taken_others, taken_here, taken_others_here, taken_reserved, taken_referenced}

module _ (v w : World) (good : AreFileSystems v.file_systems v.group) (good' : AreFileSystems w.file_systems w.group) (alike : AreWorldsAlike v w)
    (m : Member) (guid : ℕ) (can : AreTakable v.file_systems (m ∷ [])) (can' : AreTakable w.file_systems (m ∷ [])) where
  abbrev name : Name
  name = m.file_system

  abbrev s : FileSystem
  s = can.0.0

  abbrev t : FileSystem
  t = can'.0.0

  abbrev after : World
  after = with_next_group (with_snapshot v m guid)

  abbrev after' : World
  after' = with_next_group (with_snapshot w m guid)

  live_alike : AreLiveAlike v.group s t
  live_alike = let k = alike.each name t can'.0.1 in subst (λ x. AreLiveAlike v.group x t) (same_value k.0 s (sym k.1 ∙ can.0.1)) k.2

  own : IsSameHere after after' name
  own =
      let a = taken_here v good m guid can in
      let b = taken_here w good' m guid can' in
      let c = same_here v w good good' alike name in
      let h = c.here in
      let r : unwrap_or t.limits.refreservation 0 ≡ unwrap_or s.limits.refreservation 0 = ap (λ l. unwrap_or l.refreservation 0) live_alike.limits in
      let n = by_written v w good good' alike name s t can.0.1 can'.0.1 live_alike in
      record {
        here = omega (arith, a, b, h, r, n);
        reserved = taken_reserved w good' m guid can' name ∙ c.reserved ∙ sym (taken_reserved v good m guid can name);
      }

  others : (q : Name) → ¬ (q ≡ name) → IsSameHere after after' q
  others q apart =
      let out = λ (i : _). ⊎_elim apart (λ z. z) i in
      let a = taken_others_here v good m guid can q out in
      let b = taken_others_here w good' m guid can' q out in
      let c = same_here v w good good' alike q in
      record { here = b.here ∙ c.here ∙ sym a.here; reserved = b.reserved ∙ c.reserved ∙ sym a.reserved }

  each_here : (q : Name) → IsSameHere after after' q
  each_here q = ⊎_elim (λ (e : q ≡ name). subst (IsSameHere after after') (sym e) own) (others q) (key_cases name_order q name)

  same_used : (q : Name) → used_of after' q ≡ used_of after q
  same_used q = used_away after after' (taken_systems v good m guid can).hierarchy (taken_systems w good' m guid can').hierarchy [] (λ p n. each_here p) q (λ p i. absurd i)

  same_referenced : (q : Name) → referenced_of after' (Live q) ≡ referenced_of after (Live q)
  same_referenced q = taken_referenced w good' m guid can' q ∙ same_size v w good good' alike q ∙ sym (taken_referenced v good m guid can q)

  -- each file system has the limits that it has in the other world
  same_limits : (q : Name) (y : FileSystem) → get after'.file_systems q ≡ Some y → (x : FileSystem) × (get after.file_systems q ≡ Some x) × (y.limits ≡ x.limits)
  same_limits q y at = ⊎_elim
      (λ (e : q ≡ name). (
        record s { snaps = _ },
        ap (get after.file_systems) e ∙ taken_there v good m guid can,
        ap (λ (z : FileSystem). z.limits) (sym (same_value _ y (sym (taken_there w good' m guid can') ∙ ap (get after'.file_systems) (sym e) ∙ at))) ∙ live_alike.limits,
      ))
      (λ apart.
      let out = λ (i : _). ⊎_elim apart (λ z. z) i in
      let k = alike.each q y (sym (taken_others w good' m guid can' q out) ∙ at) in
      (k.0, taken_others v good m guid can q out ∙ k.1, k.2.limits))
      (key_cases name_order q name)

  -- so the limits of the one hold of the other
  pub taken_holds : AreQuotasMet (with_next_group (with_snapshot v m guid)) → AreQuotasMet (with_next_group (with_snapshot w m guid))
  taken_holds met = record {
    quotas = λ q y at.
        let x = same_limits q y at in
        subst (λ l. IsWithin (used_of after' q) l.quota) (sym x.2) (subst (λ n. IsWithin n x.0.limits.quota) (sym (same_used q)) (met.quotas q x.0 x.1));
    refquotas = λ q y at.
        let x = same_limits q y at in
        subst (λ l. IsWithin (referenced_of after' (Live q)) l.refquota) (sym x.2) (subst (λ n. IsWithin n x.0.limits.refquota) (sym (same_referenced q)) (met.refquotas q x.0 x.1));
  }
