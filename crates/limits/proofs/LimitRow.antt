-- The row of a state's limits, by the lines of its ledger.
use Rattle.std.proofs.Common.{◌≡◌, ℕ, zero, ◌+◌, ◌<◌, Bool, true, false, List, [], ◌∷◌, length, get_or, map, Some, None, refl, sym, ap, ◌∙◌, arith}
use Rattle.std.specs.Prelude.{not, nat_le, slice_get}
use Rattle.std.specs.List.{list_all}
use Rattle.std.specs.FinMap.{get, entries}
use Rattle.std.proofs.lemmas.List.Folds.{list_all-map}
use Rattle.base.specs.declared.refusal.Refusal.TheVariants.{Quota, RefQuota, NoSpace}
use Rattle.base.specs.Names.{root_name}
use Rattle.model.specs.World.{World, FileSystem}
use Rattle.model.specs.Hierarchy.{IsHierarchy}
use Rattle.model.specs.State.{State}
use Rattle.model.specs.Sums.{used_of}
use Rattle.model.specs.Fits.{quotas_hold, refquotas_hold, pool_holds}
use Rattle.model.specs.Rule.{first_of}
use Rattle.model.specs.requests.Change.{limit_row}
use Rattle.world.proofs.lists.Maps.{same_value, no_value}
use Rattle.limits.proofs.Levels.{reserved_is}
use Rattle.limits.proofs.Pool.{pool_holds_is}
use Rattle.limits.specs.declared.line.Line.{Line}
use Rattle.limits.specs.declared.pool_space.Space.{Space}
use Rattle.limits.specs.Lines.{reserved_in, charge_in, is_in_quota, is_in_refquota}
use Rattle.limits.specs.Ledgers.{line_in, ledger_of, IsSpaceOf}
use Rattle.limits.proofs.Order.{no_entry, keys_long, key_is, entry_at, not_empty, root_first}

module _ (w : World) where
  pub quotas_are : quotas_hold w ≡ list_all is_in_quota (ledger_of w)
  unfolding quotas_hold used_of ledger_of
  quotas_are = sym (list_all-map is_in_quota (line_in w) (entries w.file_systems))

  pub refquotas_are : refquotas_hold w ≡ list_all is_in_refquota (ledger_of w)
  unfolding refquotas_hold ledger_of
  refquotas_are = sym (list_all-map is_in_refquota (line_in w) (entries w.file_systems))

-- the root's line
first_line : {A B : Type 0} (f : A → B) (xs : List A) (d : A) → zero < length xs → slice_get (map f xs) zero ≡ Some (f (get_or xs zero d))
first_line f [] d lt = absurd (omega (arith, lt))
first_line f (x ∷ xs) d lt = refl

module _ (s : State) (good : IsHierarchy s.now.file_systems) where
  abbrev root : List ℕ × FileSystem
  root = get_or (entries s.now.file_systems) zero no_entry

  root_there : get s.now.file_systems root_name ≡ Some root.1
  root_there = ap (get s.now.file_systems) (sym (root_first s.now.file_systems good)) ∙ entry_at s.now.file_systems zero (not_empty s.now.file_systems good)

  root_named : root.0 ≡ root_name
  root_named = sym (key_is s.now.file_systems zero (not_empty s.now.file_systems good)) ∙ root_first s.now.file_systems good

  pub root_line : slice_get (ledger_of s.now) zero ≡ Some (line_in s.now (root_name, root.1))
  unfolding ledger_of
  root_line =
      let l = keys_long s.now.file_systems in
      let n = not_empty s.now.file_systems good in
      first_line (line_in s.now) (entries s.now.file_systems) no_entry (omega (arith, l, n)) ∙ (λ i. Some (line_in s.now (root_named i, root.1)))

  module _ (space : Space) (is : IsSpaceOf s space) (lines : List Line) (all : lines ≡ ledger_of s.now) where
    pub room_is : (l : Line) → slice_get lines zero ≡ Some l → pool_holds s ≡ nat_le (charge_in l + space.freeing + space.waiting) space.size
    room_is l e =
        let same : line_in s.now (root_name, root.1) ≡ l = same_value (line_in s.now (root_name, root.1)) l (sym root_line ∙ ap (λ ls. slice_get ls zero) (sym all) ∙ e) in
        pool_holds_is s l.account.here l.children (reserved_in l) space.freeing space.waiting (ap (λ (x : Line). x.account.here) same) (ap (λ (x : Line). x.children) same)
        (reserved_is s.now root_name root.1 root_there ∙ ap reserved_in same) (sym is.freeing) (sym is.waiting)
        ∙ ap (nat_le (charge_in l + space.freeing + space.waiting)) (sym is.size)

    -- which of the row stands first
    pub over_quota : list_all is_in_quota lines ≡ false → first_of (limit_row s) ≡ Some Quota
    over_quota e = ap (λ b. first_of ((not b, Quota) ∷ (not (refquotas_hold s.now), RefQuota) ∷ (not (pool_holds s), NoSpace) ∷ [])) (quotas_are s.now ∙ ap (list_all is_in_quota) (sym all) ∙ e)

    module _ (met : list_all is_in_quota lines ≡ true) where
      within_quota : first_of (limit_row s) ≡ first_of ((not (refquotas_hold s.now), RefQuota) ∷ (not (pool_holds s), NoSpace) ∷ [])
      within_quota = ap (λ b. first_of ((not b, Quota) ∷ (not (refquotas_hold s.now), RefQuota) ∷ (not (pool_holds s), NoSpace) ∷ [])) (quotas_are s.now ∙ ap (list_all is_in_quota) (sym all) ∙ met)

      pub over_refquota : list_all is_in_refquota lines ≡ false → first_of (limit_row s) ≡ Some RefQuota
      over_refquota e = within_quota ∙ ap (λ b. first_of ((not b, RefQuota) ∷ (not (pool_holds s), NoSpace) ∷ [])) (refquotas_are s.now ∙ ap (list_all is_in_refquota) (sym all) ∙ e)

      module _ (within : list_all is_in_refquota lines ≡ true) where
        by_room : first_of (limit_row s) ≡ first_of ((not (pool_holds s), NoSpace) ∷ [])
        by_room = within_quota ∙ ap (λ b. first_of ((not b, RefQuota) ∷ (not (pool_holds s), NoSpace) ∷ [])) (refquotas_are s.now ∙ ap (list_all is_in_refquota) (sym all) ∙ within)

        -- by the root's line
        pub told_by_room : (l : Line) → slice_get lines zero ≡ Some l → (charge : ℕ) → charge ≡ charge_in l → (b : Bool) → b ≡ nat_le (charge + space.freeing + space.waiting) space.size
            → first_of (limit_row s) ≡ first_of ((not b, NoSpace) ∷ [])
        told_by_room l e charge is b room =
            by_room
            ∙ ap (λ x. first_of ((not x, NoSpace) ∷ [])) (room_is l e ∙ ap (λ n. nat_le (n + space.freeing + space.waiting) space.size) (sym is) ∙ sym room)

    -- the root has a line
    pub has_root : slice_get lines zero ≡ None → ⊥
    has_root e = no_value (line_in s.now (root_name, root.1)) (sym e ∙ ap (λ ls. slice_get ls zero) all ∙ root_line)
