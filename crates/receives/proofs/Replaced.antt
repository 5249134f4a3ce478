-- A file system that is emptied but for its limits.
use Rattle.std.proofs.Common.{◌≡◌, ℕ, false, map, List, [], ◌∷◌, Option, Some, None, Result, Ok, Err, ◌⊎◌, sym, ap, subst, ◌∙◌, ⊎_elim}
use Rattle.std.specs.Prelude.{IfErr}
use Rattle.base.specs.declared.refusal.Refusal.{Refusal}
use Rattle.base.specs.declared.refusal.Refusal.TheVariants.{NoDataset, NoMemory}
use Rattle.std.specs.List.{list_any}
use Rattle.std.specs.Option.{option_map_or}
use Rattle.std.specs.FinMap.{get, insert}
use Rattle.base.specs.Surveys.{IsIn}
use Rattle.model.specs.declared.limits.Limit.{Limit}
use Rattle.model.specs.declared.limits.Limit.TheVariants.{Quota, RefQuota, Reservation, RefReservation}
use Rattle.model.specs.Limits.{limit_of, limited}
use Rattle.model.specs.World.{FileSystem, Limits, maps_of, empty_file_system, union_of, id_of}
use Rattle.model.specs.Edits.{with_losses}
use Rattle.model.specs.requests.Destroy.{snaps_within}
use Rattle.model.specs.requests.Receive.{vacated}
use Rattle.model.specs.requests.Rollback.{snaps_after, has_clone_outside}
use Rattle.datasets.specs.Limits.{with_limit_of}
use Rattle.world.specs.Blocks.{block_order as o}
use Rattle.world.specs.Sets.{IsSubset}
use Rattle.world.specs.Shapes.{name_order}
use Rattle.world.specs.Tables.{Datasets, world_of, with_system}
use Rattle.world.specs.Worlds.{AreFileSystems}
use Rattle.world.proofs.lineage.Bridge.{in_union_of, from_union_of}
use Rattle.world.proofs.lineage.Put.{put_here, put_other, put_cases}
use Rattle.world.proofs.lists.Maps.{same_value, no_value, key_cases}
use Rattle.world.proofs.lists.SetCounts.{same_members}
use Rattle.removals.specs.Needs.{has_clone, has_clone_and_is_later}
use Rattle.removals.proofs.Clones.{outside_is}
use Rattle.world.proofs.removals.Rollbacks.{insert_twice}
use Rattle.removals.proofs.Seen.{any_later}
use Rattle.receives.specs.Requests.{replaced, with_limits}
use Rattle.receives.proofs.Leaving.{all_go}

-- ---- limits of one file system

module _ (t : Datasets) (name : List ℕ) (f : FileSystem) (at : get t.file_systems name ≡ Some f) where
  pub limits_put : (limits : Limits) → with_limits t name limits ≡ record t { file_systems = insert t.file_systems name (record f { limits = limits }) }
  limits_put limits = ap (λ x. record t { file_systems = (option_map_or (λ (g : FileSystem). record (world_of t) { file_systems = insert t.file_systems name (record g { limits = limits }) }) x (world_of t)).file_systems }) at

  one_limit : (limit : Limit) (amount : Option ℕ) → with_limit_of t name limit amount ≡ record t { file_systems = insert t.file_systems name (limited f limit amount) }
  one_limit limit amount = ap (λ x. record t { file_systems = (option_map_or (λ (g : FileSystem). record (world_of t) { file_systems = insert t.file_systems name (limited g limit amount) }) x (world_of t)).file_systems }) at

-- one after another
next_limit : (t : Datasets) (name : List ℕ) (g : FileSystem) (limit : Limit) (amount : Option ℕ)
    → with_limit_of (record t { file_systems = insert t.file_systems name g }) name limit amount ≡ record t { file_systems = insert t.file_systems name (limited g limit amount) }
next_limit t name g limit amount =
    one_limit (record t { file_systems = insert t.file_systems name g }) name g (put_here t.file_systems name g) limit amount
    ∙ ap (λ ss. record t { file_systems = ss }) (insert_twice t.file_systems name g (limited g limit amount))

-- all four
pub four_limits : (t : Datasets) (name : List ℕ) (f : FileSystem) → get t.file_systems name ≡ Some f → (limits : Limits)
    → with_limit_of (with_limit_of (with_limit_of (with_limit_of t name Quota (limit_of limits Quota)) name RefQuota (limit_of limits RefQuota)) name Reservation (limit_of limits Reservation)) name RefReservation (limit_of limits RefReservation)
    ≡ with_limits t name limits
four_limits t name f at limits =
    let a = limited f Quota limits.quota in
    let b = limited a RefQuota limits.refquota in
    let c = limited b Reservation limits.reservation in
    ap (λ (u : Datasets). with_limit_of (with_limit_of (with_limit_of u name RefQuota limits.refquota) name Reservation limits.reservation) name RefReservation limits.refreservation) (one_limit t name f at Quota limits.quota)
    ∙ ap (λ (u : Datasets). with_limit_of (with_limit_of u name Reservation limits.reservation) name RefReservation limits.refreservation) (next_limit t name a RefQuota limits.refquota)
    ∙ ap (λ (u : Datasets). with_limit_of u name RefReservation limits.refreservation) (next_limit t name b Reservation limits.reservation)
    ∙ next_limit t name c RefReservation limits.refreservation
    ∙ sym (limits_put t name f at limits)

-- a limit leaves the file system there
pub limit_there : (t : Datasets) (name : List ℕ) (f : FileSystem) → get t.file_systems name ≡ Some f → (limit : Limit) (amount : Option ℕ)
    → get (with_limit_of t name limit amount).file_systems name ≡ Some (limited f limit amount)
limit_there t name f at limit amount = ap (λ (u : Datasets). get u.file_systems name) (one_limit t name f at limit amount) ∙ put_here t.file_systems name (limited f limit amount)

-- a limit of a file system that is there is refused for want of memory alone
pub only_memory : (r : Result (Unit {0}) Refusal) (x : Option FileSystem) (f : FileSystem) → x ≡ Some f → (r ≡ Err NoDataset → x ≡ None) → IfErr r (λ e. (e ≡ NoDataset) ⊎ (e ≡ NoMemory))
    → IfErr r (λ e. e ≡ NoMemory)
only_memory (Ok u) x f at missing only = tt
only_memory (Err e) x f at missing only = ⊎_elim (λ k. absurd (no_value f (sym (missing (ap Err k)) ∙ at))) (λ k. k) only

-- ---- the datasets

module _ (t : Datasets) (name : List ℕ) (f : FileSystem) (at : get t.file_systems name ≡ Some f) where
  pub replaced_is : with_limits (with_system t name empty_file_system) name f.limits ≡ replaced t name
  replaced_is =
      limits_put (with_system t name empty_file_system) name empty_file_system (put_here t.file_systems name empty_file_system) f.limits
      ∙ ap (λ ss. record t { file_systems = ss }) (insert_twice t.file_systems name empty_file_system (vacated f))
      ∙ sym (ap (λ x. record t { file_systems = (with_losses (world_of t) (option_map_or (λ (g : FileSystem). record (world_of t) { file_systems = insert t.file_systems name (vacated g) }) x (world_of t))).file_systems }) at)

  -- limits have no block
  pub limits_union : (limits : Limits) → union_of (world_of (with_limits t name limits)) ≡ union_of (world_of t)
  limits_union limits = ap (λ (u : Datasets). union_of (world_of u)) (limits_put t name f at limits) ∙ same_members o _ _ fewer more
    where
      g : FileSystem
      g = record f { limits = limits }

      new : Datasets
      new = record t { file_systems = insert t.file_systems name (record f { limits = limits }) }

      fewer : IsSubset (union_of (world_of new)) (union_of (world_of t))
      fewer b h =
          let r = from_union_of (world_of new) b h in
          ⊎_elim
          (λ k. in_union_of (world_of t) name f r.2 b at (subst (λ (x : FileSystem). IsIn (maps_of x) r.2) k.1 r.4) r.5)
          (λ k. in_union_of (world_of t) r.0 r.1 r.2 b k.1 r.4 r.5)
          (put_cases t.file_systems name (record f { limits = limits }) r.0 r.1 r.3)

      more : IsSubset (union_of (world_of t)) (union_of (world_of new))
      more b h =
          let r = from_union_of (world_of t) b h in
          ⊎_elim
          (λ (same : r.0 ≡ name). in_union_of (world_of new) name (record f { limits = limits }) r.2 b (put_here t.file_systems name (record f { limits = limits }))
          (subst (λ (x : FileSystem). IsIn (maps_of x) r.2) (same_value r.1 f (sym r.3 ∙ ap (get t.file_systems) same ∙ at)) r.4) r.5)
          (λ (other : ¬ (r.0 ≡ name)). in_union_of (world_of new) r.0 r.1 r.2 b (put_other t.file_systems name (record f { limits = limits }) r.0 other ∙ r.3) r.4 r.5)
          (key_cases name_order r.0 name)

  -- none of its snapshots has a clone
  pub replaced_uncloned : AreFileSystems t.file_systems t.group → has_clone_outside (world_of t) [] (snaps_within (world_of t) (name ∷ [])) ≡ false → list_any (has_clone_and_is_later t 0) f.snaps ≡ false
  replaced_uncloned good alone =
      sym (any_later (has_clone t) 0 f.snaps)
      ∙ sym (outside_is t (map id_of (snaps_after f 0)))
      ∙ ap (has_clone_outside (world_of t) []) (sym (all_go t good name f at))
      ∙ alone
