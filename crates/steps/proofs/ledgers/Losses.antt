-- Where a snapshot or a file system goes, datasets differ at its file system's name alone.
use Rattle.std.proofs.Common.{◌≡◌, ℕ, ◌++◌, ◌∷◌, ◌&&◌, ◌||◌, Bool, true, false, not, map, List, [], Option, Some, None, is_some, refl, sym, ap, subst, ◌∙◌, inl, ⊎_elim}
use Rattle.std.specs.List.{filter}
use Rattle.std.specs.Option.{option_map, option_map_or, option_and_then}
use Rattle.std.specs.FinMap.{get, remove}
use Rattle.base.specs.Map.{Map}
use Rattle.base.specs.Surveys.{IsIn}
use Rattle.base.specs.declared.name.member.Member.{Member}
use Rattle.base.specs.declared.name.target.Target.{Target}
use Rattle.base.specs.declared.name.target.Target.TheVariants.{Snapshot as OfSnapshot}
use Rattle.model.specs.declared.destroy_target.DestroyTarget.{DestroyTarget}
use Rattle.model.specs.declared.destroy_target.DestroyTarget.TheVariants.{FileSystem as SystemGoes, Snapshots as SnapshotsGo}
use Rattle.model.specs.World.{FileSystem, Snap, SnapId, id_of, same_id, snap_named}
use Rattle.model.specs.Outcome.{is_needed}
use Rattle.model.specs.State.{State}
use Rattle.model.specs.Edits.{with_tags, without_snaps}
use Rattle.model.specs.requests.Destroy.{is_one_of, snaps_named, with_deferred}
use Rattle.model.specs.requests.Release.{without_tag}
use Rattle.model.specs.requests.Rollback.{placed}
use Rattle.world.specs.Shapes.{Name, name_order}
use Rattle.world.specs.Tables.{Datasets, world_of, tagged_snap, without_snap, without_system}
use Rattle.world.specs.Worlds.{AreFileSystems}
use Rattle.world.proofs.changes.Views.{same_maps_mapped}
use Rattle.world.proofs.lineage.Bridge.{from_snap_at, one_snap}
use Rattle.world.proofs.lists.Finding.{filter_all, same_id_is}
use Rattle.world.proofs.lists.Maps.{no_value, same_value, key_cases, get-remove_same, get-remove_other}
use Rattle.world.proofs.removals.Sweep.{get-with_file_systems}
use Rattle.world.proofs.removals.WithoutSnaps.{without_at, from_without}
use Rattle.limits.specs.Limits.{AreShrunk}
use Rattle.limits.proofs.Steps.{shrunk_snaps, kept_trans, kept_without, kept_deferred, kept_shrunk}
use Rattle.limits.specs.declared.line.Line.{Line}
use Rattle.limits.proofs.Recounted.{IsAlike, AreAlikeBut, alike_itself, alike_less, alike_from, kept_origins}
use Rattle.lookups.specs.Accounted.{IsAccounted}
use Rattle.marks.specs.Requests.{released_in}
use Rattle.marks.proofs.Placed.{placed_at}
use Rattle.marks.proofs.Tagged.{tagged_stays, tagged_goes}
use Rattle.removals.specs.Families.{unneeded, has_deferred_origin}
use Rattle.removals.specs.Requests.{swept, destroyed, gone_with, IsSweptBy}
use Rattle.removals.proofs.Alone.{nothing_swept}
use Rattle.removals.proofs.Closed.{none_goes, one_goes}
use Rattle.removals.proofs.Deferring.{marked_by, in_before}
use Rattle.removals.proofs.Needed.{named_there, unneeded_parts}
use Rattle.removals.proofs.Swept.{none_without, none_swept}
use Rattle.removals.proofs.SystemsGone.{one_gone}
use Rattle.steps.specs.Limiting.{CanRecount}
use Rattle.steps.specs.Steady.{IsSteady}
use Rattle.steps.specs.Edits.{datasets_of}
use Rattle.steps.proofs.requests.Releasing.{release_can}
use Rattle.steps.proofs.ledgers.Kept.{alike_same, can_recount}
use Rattle.steps.proofs.ledgers.Labels.{tagged_alike}

-- ---- snapshots of one file system go

abbrev maps_in : List Snap → List Map
maps_in ts = map (λ (t : Snap). t.map) ts

module _ (t : Datasets) (name : Name) (goes : Snap → Bool)
    (only : (q : Name) (f : FileSystem) (u : Snap) → ¬ (q ≡ name) → get t.file_systems q ≡ Some f → IsIn f.snaps u → goes u ≡ false) where
  stay : (q : Name) (f : FileSystem) → ¬ (q ≡ name) → get t.file_systems q ≡ Some f → filter (λ u. not (goes u)) f.snaps ≡ f.snaps
  stay q f ne at = filter_all (λ u. not (goes u)) f.snaps (λ u i. ap not (only q f u ne at i))

  -- and others are deferred
  module _ (some : Snap → Bool) where
    abbrev new : Datasets
    new = record t { file_systems = (with_deferred (without_snaps (world_of t) goes) some).file_systems }

    deferred_shrunk : AreShrunk (world_of t) (world_of new)
    deferred_shrunk = kept_shrunk (world_of t) (world_of new)
        (kept_trans (world_of t) (without_snaps (world_of t) goes) (world_of new) (kept_without (world_of t) goes) (kept_deferred (without_snaps (world_of t) goes) some))

    deferred_there : (q : Name) (f : FileSystem) → get t.file_systems q ≡ Some f → is_some (get new.file_systems q) ≡ true
    deferred_there q f at = ap is_some
        (get-with_file_systems (without_snaps (world_of t) goes) (λ _ f. record f { snaps = map (marked_by some) f.snaps }) q
        ∙ ap (option_map (λ (x : FileSystem). record x { snaps = map (marked_by some) x.snaps })) (without_at (world_of t) goes q f at))

    deferred_each : (q : Name) (g : FileSystem) → get new.file_systems q ≡ Some g
        → (f : FileSystem) × (get t.file_systems q ≡ Some f) × (g.limits ≡ f.limits) × (¬ (IsIn (name ∷ []) q) → IsAlike f g)
    deferred_each q g at' =
        let a = in_before (without_snaps (world_of t) goes) some q g at' in
        let b = from_without (world_of t) goes q a.0 a.1 in
        let limits = ap (λ (x : FileSystem). x.limits) a.2 ∙ ap (λ (x : FileSystem). x.limits) b.2 in (
          b.0,
          b.1,
          limits,
          λ out. record {
            live = ap (λ (x : FileSystem). x.live) a.2 ∙ ap (λ (x : FileSystem). x.live) b.2;
            maps = ap (λ (x : FileSystem). maps_in x.snaps) a.2 ∙ same_maps_mapped (marked_by some) (λ u. refl) a.0.snaps
                ∙ ap (λ (x : FileSystem). maps_in x.snaps) b.2 ∙ ap maps_in (stay q b.0 (λ e. out (inl e)) b.1);
            origin = ap (λ (x : FileSystem). x.origin) a.2 ∙ ap (λ (x : FileSystem). x.origin) b.2;
            limits = limits;
          },
        )

    pub deferred_one : AreAlikeBut t (record t { file_systems = (with_deferred (without_snaps (world_of t) goes) some).file_systems }) (name ∷ [])
    deferred_one = alike_from t new (name ∷ []) deferred_shrunk deferred_there deferred_each

  -- or none is
  abbrev left : Datasets
  left = record t { file_systems = (without_snaps (world_of t) goes).file_systems }

  gone_shrunk : AreShrunk (world_of t) (world_of left)
  gone_shrunk = kept_shrunk (world_of t) (world_of left) (kept_without (world_of t) goes)

  gone_there : (q : Name) (f : FileSystem) → get t.file_systems q ≡ Some f → is_some (get left.file_systems q) ≡ true
  gone_there q f at = ap is_some (without_at (world_of t) goes q f at)

  gone_each : (q : Name) (g : FileSystem) → get left.file_systems q ≡ Some g
      → (f : FileSystem) × (get t.file_systems q ≡ Some f) × (g.limits ≡ f.limits) × (¬ (IsIn (name ∷ []) q) → IsAlike f g)
  gone_each q g at' =
      let b = from_without (world_of t) goes q g at' in
      let limits = ap (λ (x : FileSystem). x.limits) b.2 in (
        b.0,
        b.1,
        limits,
        λ out. record {
          live = ap (λ (x : FileSystem). x.live) b.2;
          maps = ap (λ (x : FileSystem). maps_in x.snaps) b.2 ∙ ap maps_in (stay q b.0 (λ e. out (inl e)) b.1);
          origin = ap (λ (x : FileSystem). x.origin) b.2;
          limits = limits;
        },
      )

  pub gone_one : AreAlikeBut t (record t { file_systems = (without_snaps (world_of t) goes).file_systems }) (name ∷ [])
  gone_one = alike_from t left (name ∷ []) gone_shrunk gone_there gone_each

module _ (t : Datasets) (good : AreFileSystems t.file_systems t.group) (name : Name) (f : FileSystem) (u : Snap) (at : get t.file_systems name ≡ Some f) (among : IsIn f.snaps u) where
  elsewhere : (q : Name) (g : FileSystem) (v : Snap) → ¬ (q ≡ name) → get t.file_systems q ≡ Some g → IsIn g.snaps v → same_id (id_of v) (id_of u) ≡ false
  elsewhere q g v ne at' i = by_test (same_id (id_of v) (id_of u)) refl
    where
      by_test : (b : Bool) → same_id (id_of v) (id_of u) ≡ b → same_id (id_of v) (id_of u) ≡ false
      by_test true e = absurd (ne (one_snap t.file_systems t.group good.lines q name g f v u at' at i among (same_id_is (id_of v) (id_of u) e)).0)
      by_test false e = e

  -- a snapshot goes from its file system
  pub without_one : AreAlikeBut t (without_snap t (id_of u)) (name ∷ [])
  without_one = gone_one t name (λ v. same_id (id_of v) (id_of u)) (λ q g v ne at' i. elsewhere q g v ne at' i)

-- ---- a file system goes

module _ (t : Datasets) (name : Name) where
  abbrev fewer : Datasets
  fewer = without_system t name

  left_same : (q : Name) (g : FileSystem) → ¬ (q ≡ name) → get fewer.file_systems q ≡ Some g → get t.file_systems q ≡ Some g
  left_same q g ne at = sym (get-remove_other name_order t.file_systems name q ne) ∙ at

  left_before : (q : Name) (g : FileSystem) → get fewer.file_systems q ≡ Some g → get t.file_systems q ≡ Some g
  left_before q g at = ⊎_elim
      (λ (is : q ≡ name). absurd (no_value g (sym (ap (get fewer.file_systems) is ∙ get-remove_same name_order t.file_systems name) ∙ at)))
      (λ (ne : ¬ (q ≡ name)). left_same q g ne at)
      (key_cases name_order q name)

  pub without_alike : AreAlikeBut t (without_system t name) (name ∷ [])
  without_alike = record {
    there = λ q out. ap is_some (get-remove_other name_order t.file_systems name q (λ e. out (inl e)));
    others = λ q f g out at at'. subst (λ (x : FileSystem). IsAlike f x) (same_value f g (sym at ∙ left_before q g at')) (alike_itself f);
    origins = kept_origins t fewer (name ∷ []) (λ q f at. inl (f, left_before q f at, shrunk_snaps f f refl refl refl (λ u i. (u, i, refl, refl))));
  }

-- ---- by requests

module _ (s : State) (steady : IsSteady s) where
  abbrev t : Datasets
  t = datasets_of s

  good : AreFileSystems t.file_systems t.group
  good = steady.good.now.systems

  clean : IsSweptBy t s.views
  clean = steady.swept

  swept_already : swept t s.views ≡ t
  swept_already = none_without t (λ u. u.deferred && not (is_needed (world_of t) s.views u)) (λ n f u at i. by_mark n f u at i u.deferred refl)
    where
      by_mark : (n : Name) (f : FileSystem) (u : Snap) → get t.file_systems n ≡ Some f → IsIn f.snaps u → (d : Bool) → u.deferred ≡ d → (u.deferred && not (is_needed (world_of t) s.views u)) ≡ false
      by_mark n f u at i true d = (λ j. d j && not (clean n f u at i d j))
      by_mark n f u at i false d = ap (λ b. b && not (is_needed (world_of t) s.views u)) d

  -- a release
  pub release_one : (tag : List ℕ) (m : Member) → AreAlikeBut (datasets_of s) (swept (released_in (datasets_of s) tag (OfSnapshot m)) s.views) (m.file_system ∷ [])
  release_one tag m = by_place (placed (world_of t) (OfSnapshot m)) refl
    where
      released_by : Option (FileSystem × Snap) → Datasets
      released_by x = record t { file_systems = (option_map_or (λ (p : FileSystem × Snap). with_tags (world_of t) (id_of p.1) (without_tag p.1.tags tag)) x (world_of t)).file_systems }

      by_due : (p : FileSystem × Snap) → get t.file_systems m.file_system ≡ Some p.0 → IsIn p.0.snaps p.1
          → (b : Bool) → (p.1.deferred && not (is_needed (world_of t) s.views (record p.1 { tags = without_tag p.1.tags tag }))) ≡ b
          → AreAlikeBut t (swept (tagged_snap t (id_of p.1) (without_tag p.1.tags tag)) s.views) (m.file_system ∷ [])
      by_due p at among true due = subst (λ (d : Datasets). AreAlikeBut t d (m.file_system ∷ []))
          (sym (tagged_goes t good s.views clean m.file_system p.0 p.1 at among (without_tag p.1.tags tag) due))
          (without_one t good m.file_system p.0 p.1 at among)
      by_due p at among false due = subst (λ (d : Datasets). AreAlikeBut t d (m.file_system ∷ []))
          (sym (tagged_stays t good s.views clean m.file_system p.0 p.1 at among (without_tag p.1.tags tag) due))
          (alike_less t (tagged_snap t (id_of p.1) (without_tag p.1.tags tag)) (m.file_system ∷ []) (tagged_alike t (id_of p.1) (without_tag p.1.tags tag)))

      by_place : (x : Option (FileSystem × Snap)) → placed (world_of t) (OfSnapshot m) ≡ x → AreAlikeBut t (swept (released_in t tag (OfSnapshot m)) s.views) (m.file_system ∷ [])
      by_place None e = subst (λ (d : Datasets). AreAlikeBut t d (m.file_system ∷ []))
          (sym (ap (λ x. swept (released_by x) s.views) e ∙ swept_already)) (alike_same t (m.file_system ∷ []))
      by_place (Some p) e =
          let k = placed_at t m p.1 (ap (option_map (λ (q : FileSystem × Snap). q.1)) e) in
          let same = ap (λ x. swept (released_by x) s.views) k.found in
          subst (λ (d : Datasets). AreAlikeBut t d (m.file_system ∷ [])) (sym same) (by_due (k.system, p.1) k.at k.among _ refl)

  -- a destroy of one snapshot
  pub destroy_one : (m : Member) (defer : Bool) → AreAlikeBut (datasets_of s) (swept (destroyed (datasets_of s) s.views (SnapshotsGo (m ∷ [])) false defer) s.views) (m.file_system ∷ [])
  destroy_one m defer = subst (λ (d : Datasets). AreAlikeBut t d (m.file_system ∷ [])) (sym (none_swept t s.views clean (m ∷ []) false defer))
      (deferred_one t m.file_system goes (λ q f u ne at i. ap (λ b. b && not (needed u)) (another q f u ne at i (snap_named (world_of t) m) refl)) (λ u. is_one_of (snaps_named (world_of t) (m ∷ []) false) u && needed u))
    where
      needed : Snap → Bool
      needed u = defer && is_needed (world_of t) s.views u

      goes : Snap → Bool
      goes u = is_one_of (snaps_named (world_of t) (m ∷ []) false) u && not (needed u)

      or_none : (b : Bool) → b ≡ false → (b || false) ≡ false
      or_none true e = e
      or_none false e = refl

      another : (q : Name) (f : FileSystem) (u : Snap) → ¬ (q ≡ m.file_system) → get t.file_systems q ≡ Some f → IsIn f.snaps u
          → (x : Option Snap) → snap_named (world_of t) m ≡ x → is_one_of (snaps_named (world_of t) (m ∷ []) false) u ≡ false
      another q f u ne at i None e = ap (λ x. is_one_of (option_map_or (λ (v : Snap). id_of v ∷ []) x [] ++ []) u) e
      another q f u ne at i (Some v) e =
          let k = named_there t m v e in
          ap (λ x. is_one_of (option_map_or (λ (v : Snap). id_of v ∷ []) x [] ++ []) u) e
          ∙ or_none (same_id (id_of u) (id_of v)) (elsewhere t good m.file_system k.0 v k.1 k.2 q f u ne at i)

  -- a destroy of a file system that nothing goes with
  destroy_alone : (name : Name) (defer : Bool) → has_deferred_origin (datasets_of s) name ≡ false
      → AreAlikeBut (datasets_of s) (swept (destroyed (datasets_of s) s.views (SystemGoes name) false defer) s.views) (name ∷ [])
  destroy_alone name defer stays = subst (λ (d : Datasets). AreAlikeBut t d (name ∷ [])) alone
      (without_alike t name)
    where
      alone : without_system t name ≡ swept (destroyed t s.views (SystemGoes name) false defer) s.views
      alone = sym (nothing_swept t good s.views clean name stays) ∙ ap (λ v. swept v s.views) (one_gone t name)

  -- the close of a view
  module _ (number : ℕ) where
    pub close_none : gone_with (datasets_of s) s.views number ≡ None → swept (datasets_of s) (remove s.views number) ≡ datasets_of s
    close_none none = none_goes t good s.views clean number none

    pub close_one : (p : Name × Snap) → gone_with (datasets_of s) s.views number ≡ Some p → AreAlikeBut (datasets_of s) (swept (datasets_of s) (remove s.views number)) (p.0 ∷ [])
    close_one p is = subst (λ (d : Datasets). AreAlikeBut t d (p.0 ∷ [])) (one_goes t good s.views clean number p is) (by_view (get s.views number) refl is)
      where
        by_view : (x : Option SnapId) → get s.views number ≡ x → option_and_then (unneeded t (remove s.views number)) x ≡ Some p → AreAlikeBut t (without_snap t (id_of p.1)) (p.0 ∷ [])
        by_view None a e = absurd (no_value p e)
        by_view (Some id) a e =
            let k = unneeded_parts t (remove s.views number) id p e in
            let there = from_snap_at (world_of t) id p k.0 in
            without_one t good p.0 there.0 p.1 there.1 there.2

  -- so the ledger is that of the datasets afterwards once one account is counted anew
  pub release_counted : (tag : List ℕ) (target : Target) (m : Member) → target ≡ OfSnapshot m → (to : Datasets) → to ≡ swept (released_in (datasets_of s) tag target) s.views
      → (lines : Option (List Line)) → IsAccounted (datasets_of s) lines → CanRecount (datasets_of s) to m.file_system lines
  release_counted tag target m is to led lines kept =
      let new = led ∙ ap (λ x. swept (released_in t tag x) s.views) is in
      subst (λ (d : Datasets). CanRecount t d m.file_system lines) (sym new)
      (can_recount t (swept (released_in t tag (OfSnapshot m)) s.views) good (release_can s tag (OfSnapshot m) steady).steady.good.now.systems m.file_system (release_one tag m) lines kept)

  pub destroy_counted : (target : DestroyTarget) (recursive defer : Bool) (m : Member) → target ≡ SnapshotsGo (m ∷ []) → recursive ≡ false
      → (to : Datasets) → AreFileSystems to.file_systems to.group → to ≡ swept (destroyed (datasets_of s) s.views target recursive defer) s.views
      → (lines : Option (List Line)) → IsAccounted (datasets_of s) lines → CanRecount (datasets_of s) to m.file_system lines
  destroy_counted target recursive defer m is alone to there led lines kept =
      let new = led ∙ (λ i. swept (destroyed t s.views (is i) (alone i) defer) s.views) in
      can_recount t to good there m.file_system (subst (λ (d : Datasets). AreAlikeBut t d (m.file_system ∷ [])) (sym new) (destroy_one m defer)) lines kept

  pub alone_counted : (target : DestroyTarget) (recursive defer : Bool) (name : Name) → target ≡ SystemGoes name → recursive ≡ false → has_deferred_origin (datasets_of s) name ≡ false
      → (to : Datasets) → AreFileSystems to.file_systems to.group → to ≡ swept (destroyed (datasets_of s) s.views target recursive defer) s.views
      → (lines : Option (List Line)) → IsAccounted (datasets_of s) lines → CanRecount (datasets_of s) to name lines
  alone_counted target recursive defer name is alone stays to there led lines kept =
      let new = led ∙ (λ i. swept (destroyed t s.views (is i) (alone i) defer) s.views) in
      can_recount t to good there name (subst (λ (d : Datasets). AreAlikeBut t d (name ∷ [])) (sym new) (destroy_alone name defer stays)) lines kept

  module _ (number : ℕ) (to : Datasets) (there : AreFileSystems to.file_systems to.group) (led : to ≡ swept (datasets_of s) (remove s.views number)) (lines : Option (List Line))
      (kept : IsAccounted (datasets_of s) lines) where
    pub close_kept : option_map (λ (p : Name × Snap). p.0) (gone_with (datasets_of s) s.views number) ≡ None → IsAccounted to lines
    close_kept none = subst (λ (d : Datasets). IsAccounted d lines) (sym (led ∙ close_none number (by (gone_with (datasets_of s) s.views number) refl none))) kept
      where
        by : (x : Option (Name × Snap)) → gone_with (datasets_of s) s.views number ≡ x → option_map (λ (p : Name × Snap). p.0) x ≡ None → gone_with (datasets_of s) s.views number ≡ None
        by None e n = e
        by (Some p) e n = absurd (no_value p.0 (sym n))

    pub gone_counted : (name : Name) → option_map (λ (p : Name × Snap). p.0) (gone_with (datasets_of s) s.views number) ≡ Some name → CanRecount (datasets_of s) to name lines
    gone_counted name is = by (gone_with (datasets_of s) s.views number) refl is
      where
        by : (x : Option (Name × Snap)) → gone_with (datasets_of s) s.views number ≡ x → option_map (λ (p : Name × Snap). p.0) x ≡ Some name → CanRecount (datasets_of s) to name lines
        by None e n = absurd (no_value name n)
        by (Some p) e n = can_recount t to good there name
            (subst (λ (q : Name). AreAlikeBut t to (q ∷ [])) (same_value p.0 name n) (subst (λ (d : Datasets). AreAlikeBut t d (p.0 ∷ [])) (sym led) (close_one number p e))) lines kept
