-- A snapshot with other tags: what that keeps of a pool's state.
use Rattle.std.proofs.Common.{◌≡◌, ℕ, Bool, true, false, cond, map, List, Option, Some, None, refl, sym, ap, subst, ◌∙◌, inl, inr}
use Rattle.std.specs.Option.{option_map_or}
use Rattle.std.specs.FinMap.{get}
use Rattle.std.proofs.lemmas.Bool.{false_from_ne_true}
use Rattle.base.specs.Surveys.{IsIn}
use Rattle.base.specs.declared.name.target.Target.{Target}
use Rattle.model.specs.World.{World, FileSystem, Snap, SnapId, id_of, same_id}
use Rattle.model.specs.State.{State}
use Rattle.model.specs.Edits.{with_now, with_tags}
use Rattle.model.specs.requests.Rollback.{placed}
use Rattle.world.specs.Shapes.{Name}
use Rattle.world.specs.Tables.{world_of}
use Rattle.world.proofs.lineage.Bridge.{one_snap}
use Rattle.world.proofs.lists.Finding.{same_id_is}
use Rattle.world.proofs.lists.Listed.{in_map}
use Rattle.world.proofs.views.Viewed.{IsSafe, kept_of, safe_same, one_tagged}
use Rattle.world.proofs.views.ViewedRequests.{from_placed}
use Rattle.steps.specs.Steady.{IsSteady}
use Rattle.steps.specs.Edits.{datasets_of, with_datasets}
use Rattle.steps.proofs.requests.Labelling.{from_changed, one_changed, changed_shape, changed_maps, changed_tidy, IsLabelled, same_label, label}
use Rattle.steps.proofs.requests.Seeing.{once, closed}
use Rattle.steps.proofs.quotas.Unlimited.{IsKnown, AreKnown, same_known}

-- the snapshot of this identity with these tags, and each other as it is
abbrev pub tagged_by : SnapId → List (List ℕ) → Snap → Snap
tagged_by id tags t = cond (same_id (id_of t) id) (record t { tags = tags }) t

module _ (id : SnapId) (tags : List (List ℕ)) where
  tagged_kept : (t : Snap) → kept_of (tagged_by id tags t) ≡ kept_of t
  tagged_kept t = by_test (same_id (id_of t) id)
    where
      by_test : (b : Bool) → kept_of (cond b (record t { tags = tags }) t) ≡ kept_of t
      by_test true = refl
      by_test false = refl

  tagged_only : (t : Snap) → ¬ (id_of t ≡ id) → tagged_by id tags t ≡ t
  tagged_only t other = ap (λ b. cond b (record t { tags = tags }) t) (false_from_ne_true (same_id (id_of t) id) (λ e. other (same_id_is (id_of t) id e)))

-- ---- of a snapshot that is there

module _ (s : State) (steady : IsSteady s) (name : Name) (p : FileSystem × Snap) (at : get s.now.file_systems name ≡ Some p.0) (here : IsIn p.0.snaps p.1) (tags : List (List ℕ)) where
  abbrev change : Snap → Snap
  change = tagged_by (id_of p.1) tags

  tags_label : IsLabelled s (with_tags s.now (id_of p.1) tags).file_systems
  tags_label =
      let kept = tagged_kept (id_of p.1) tags in
      subst (IsLabelled s) (sym (one_changed s.now s.now.group steady.good.now.systems change name p.0 at p.1 here (tagged_only (id_of p.1) tags)))
      (label s steady name p.0 (record p.0 { snaps = map {A = Snap} change p.0.snaps }) at (changed_shape change kept p.0) (changed_maps change kept p.0)
      (changed_tidy change kept s.now.group p.0 (steady.good.now.systems.tidy name p.0 at)) refl)

  -- where its destroy isn't deferred, each other is as it was
  tags_known : p.1.deferred ≡ false → AreKnown s.now.file_systems (with_tags s.now (id_of p.1) tags).file_systems
  tags_known undeferred q x t x_at h =
      let f = from_changed s.now change q x x_at in
      let v = in_map change f.0.snaps t (subst (λ (y : FileSystem). IsIn y.snaps t) f.2 h) in
      by_test f.0 f.1 v.0 v.1 (same_id (id_of v.0) (id_of p.1)) refl v.2
    where
      by_test : (f : FileSystem) → get s.now.file_systems q ≡ Some f → (v : Snap) → IsIn f.snaps v → (b : Bool) → same_id (id_of v) (id_of p.1) ≡ b
          → t ≡ cond (same_id (id_of v) (id_of p.1)) (record v { tags = tags }) v → IsKnown s.now.file_systems t
      by_test f f_at v i true e k =
          let one = one_snap s.now.file_systems s.now.group steady.good.now.systems.lines q name f p.0 v p.1 f_at at i here (same_id_is (id_of v) (id_of p.1) e) in
          inl (ap (λ (y : Snap). y.deferred) (k ∙ ap (λ b. cond b (record v { tags = tags }) v) e) ∙ ap (λ (y : Snap). y.deferred) one.1 ∙ undeferred)
      by_test f f_at v i false e k = inr (q, f, f_at, subst (IsIn f.snaps) (sym (k ∙ ap (λ b. cond b (record v { tags = tags }) v) e)) i)

-- ---- of one that may not be there, with tags by what it is

abbrev pub tagged : World → Target → (Snap → List (List ℕ)) → World
tagged w target tags = option_map_or (λ (p : FileSystem × Snap). with_tags w (id_of p.1) (tags p.1)) (placed w target) w

module _ (s : State) (target : Target) (tags : Snap → List (List ℕ)) where
  -- the state after it is of the datasets after it
  pub tagged_state : with_now s (tagged s.now target tags) ≡ with_datasets s (record (datasets_of s) { file_systems = (tagged (world_of (datasets_of s)) target tags).file_systems })
  tagged_state = by_place (placed s.now target)
    where
      by_place : (x : Option (FileSystem × Snap))
          → with_now s (option_map_or (λ (p : FileSystem × Snap). with_tags s.now (id_of p.1) (tags p.1)) x s.now)
          ≡ with_datasets s (record (datasets_of s) { file_systems = (option_map_or (λ (p : FileSystem × Snap). with_tags (world_of (datasets_of s)) (id_of p.1) (tags p.1)) x (world_of (datasets_of s))).file_systems })
      by_place None = refl
      by_place (Some p) = refl

  module _ (steady : IsSteady s) where
    pub tagged_label : IsLabelled s (tagged (world_of (datasets_of s)) target tags).file_systems
    tagged_label = by_place (placed s.now target) refl
      where
        by_place : (x : Option (FileSystem × Snap)) → placed s.now target ≡ x
            → IsLabelled s (option_map_or (λ (p : FileSystem × Snap). with_tags (world_of (datasets_of s)) (id_of p.1) (tags p.1)) x (world_of (datasets_of s))).file_systems
        by_place None e = same_label s steady
        by_place (Some p) e = let r = from_placed s.now target p e in tags_label s steady r.0 p r.1 r.2 (tags p.1)

    pub tagged_known : option_map_or (λ (p : FileSystem × Snap). p.1.deferred) (placed s.now target) false ≡ false
        → AreKnown s.now.file_systems (tagged (world_of (datasets_of s)) target tags).file_systems
    tagged_known undeferred = by_place (placed s.now target) refl undeferred
      where
        by_place : (x : Option (FileSystem × Snap)) → placed s.now target ≡ x → option_map_or (λ (p : FileSystem × Snap). p.1.deferred) x false ≡ false
            → AreKnown s.now.file_systems (option_map_or (λ (p : FileSystem × Snap). with_tags (world_of (datasets_of s)) (id_of p.1) (tags p.1)) x (world_of (datasets_of s))).file_systems
        by_place None e d = same_known s.now.file_systems
        by_place (Some p) e d = let r = from_placed s.now target p e in tags_known s steady r.0 p r.1 r.2 (tags p.1) d

    -- each view's snapshot stays
    pub tagged_safe : IsSafe s.views s.now (tagged s.now target tags)
    tagged_safe = by_place (placed s.now target)
      where
        by_place : (x : Option (FileSystem × Snap)) → IsSafe s.views s.now (option_map_or (λ (p : FileSystem × Snap). with_tags s.now (id_of p.1) (tags p.1)) x s.now)
        by_place None = safe_same s.views s.now (once s.size s.now steady.good.now) (closed s.size s.now steady.good.now)
        by_place (Some p) = one_tagged s.now (id_of p.1) (tags p.1) s.views (once s.size s.now steady.good.now) (closed s.size s.now steady.good.now)
