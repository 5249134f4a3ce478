-- Tags and bookmarks leave each account as it is, and so the ledger.
use Rattle.std.proofs.Common.{◌≡◌, ℕ, ◌++◌, ◌∷◌, Bool, true, false, cond, map, List, [], Option, Some, None, is_some, refl, sym, ap, subst, ◌∙◌}
use Rattle.std.specs.Option.{option_map, option_map_or}
use Rattle.std.specs.FinMap.{FinMap, insert, remove}
use Rattle.base.specs.Names.{name_cmp}
use Rattle.base.specs.declared.name.member.Member.{Member}
use Rattle.base.specs.declared.name.target.Target.{Target}
use Rattle.model.specs.declared.destroy_target.DestroyTarget.TheVariants.{Bookmark as MarkGoes}
use Rattle.model.specs.World.{FileSystem, Snap, SnapId, Bookmark, id_of, same_id}
use Rattle.model.specs.State.{State}
use Rattle.model.specs.Edits.{with_tags, with_file_system}
use Rattle.model.specs.requests.Bookmark.{bookmark_of_snap}
use Rattle.model.specs.requests.Rollback.{placed}
use Rattle.world.specs.Shapes.{Name}
use Rattle.world.specs.Tables.{Datasets, world_of, tagged_snap}
use Rattle.world.specs.Worlds.{AreFileSystems}
use Rattle.world.proofs.changes.Views.{same_maps_mapped}
use Rattle.world.proofs.removals.Sweep.{get-with_file_systems}
use Rattle.limits.proofs.Steps.{shrunk_snaps, kept_changed, kept_marks, kept_shrunk}
use Rattle.limits.specs.declared.line.Line.{Line}
use Rattle.limits.proofs.Recounted.{IsAlike, AreAlikeBut, alike_from}
use Rattle.lookups.specs.Accounted.{IsAccounted}
use Rattle.marks.specs.Requests.{hold_refusal, held_in, bookmarked_in}
use Rattle.marks.specs.Naming.{snap_naming_refusal, snaps_renamed_in}
use Rattle.world.proofs.changes.SnapNames.{renames, renames_kept, with_names, named_was, named_here}
use Rattle.removals.specs.Requests.{with_marks, destroyed, swept}
use Rattle.removals.proofs.Marked.{in_marks, from_marks, marks_swept}
use Rattle.steps.specs.Steady.{IsSteady}
use Rattle.steps.specs.Edits.{datasets_of}
use Rattle.steps.proofs.requests.Holding.{hold_can}
use Rattle.steps.proofs.requests.Labelling.{from_changed}
use Rattle.steps.proofs.requests.Marking.{bookmark_can}
use Rattle.steps.proofs.requests.Naming.{naming_label, naming_can}
use Rattle.steps.proofs.requests.Tagging.{tagged_by}
use Rattle.steps.proofs.ledgers.Kept.{alike_same, accounted_alike}

-- ---- tags

module _ (t : Datasets) (id : SnapId) (tags : List (List ℕ)) where
  abbrev change : Snap → Snap
  change = tagged_by id tags

  same_map : (u : Snap) → (tagged_by id tags u).map ≡ u.map
  same_map u = by_test (same_id (id_of u) id)
    where
      by_test : (b : Bool) → (cond b (record u { tags = tags }) u).map ≡ u.map
      by_test true = refl
      by_test false = refl

  same_id_of : (u : Snap) → id_of (tagged_by id tags u) ≡ id_of u
  same_id_of u = by_test (same_id (id_of u) id)
    where
      by_test : (b : Bool) → id_of (cond b (record u { tags = tags }) u) ≡ id_of u
      by_test true = refl
      by_test false = refl

  changed_alike : (f : FileSystem) → IsAlike f (record f { snaps = map {A = Snap} change f.snaps })
  changed_alike f = record { live = refl; maps = same_maps_mapped change same_map f.snaps; origin = refl; limits = refl }

  -- a snapshot with other tags
  pub tagged_alike : AreAlikeBut t (tagged_snap t id tags) []
  tagged_alike = alike_from t (tagged_snap t id tags) []
      (kept_shrunk (world_of t) (world_of (tagged_snap t id tags)) (kept_marks (world_of t) change (λ u. (same_id_of u, same_map u))))
      (λ q f at. ap is_some (get-with_file_systems (world_of t) (λ _ f. record f { snaps = map {A = Snap} change f.snaps }) q ∙ ap (option_map (λ (x : FileSystem). record x { snaps = map {A = Snap} change x.snaps })) at))
      (λ q g at'.
      let k = from_changed (world_of t) change q g at' in
      let a = subst (λ (x : FileSystem). IsAlike k.0 x) (sym k.2) (changed_alike k.0) in
      (k.0, k.1, a.limits, λ out. a))

pub hold_accounted : (s : State) (tag : List ℕ) (target : Target) → IsSteady s → hold_refusal (datasets_of s) tag target ≡ None → (lines : Option (List Line)) → IsAccounted (datasets_of s) lines
    → IsAccounted (held_in (datasets_of s) tag target) lines
hold_accounted s tag target steady none = accounted_alike (datasets_of s) (held_in (datasets_of s) tag target) steady.good.now.systems (hold_can s tag target steady none).steady.good.now.systems
    (by_place (placed (world_of (datasets_of s)) target))
  where
    by_place : (x : Option (FileSystem × Snap))
        → AreAlikeBut (datasets_of s) (record (datasets_of s) { file_systems = (option_map_or (λ (p : FileSystem × Snap). with_tags (world_of (datasets_of s)) (id_of p.1) (p.1.tags ++ tag ∷ [])) x (world_of (datasets_of s))).file_systems }) []
    by_place None = alike_same (datasets_of s) []
    by_place (Some p) = tagged_alike (datasets_of s) (id_of p.1) (p.1.tags ++ tag ∷ [])

-- ---- names of snapshots

module _ (s : State) (m : Member) (to : List ℕ) (recursive : Bool) (steady : IsSteady s) (none : snap_naming_refusal (datasets_of s) s.views m to recursive ≡ None) where
  abbrev named : Datasets
  named = snaps_renamed_in (datasets_of s) m to recursive

  named_alike : (q : Name) (f : FileSystem) → IsAlike f (with_names m to recursive q f)
  named_alike q f = record { live = refl; maps = same_maps_mapped (renames m to recursive q) (λ u. (renames_kept m to recursive q u).1) f.snaps; origin = refl; limits = refl }

  pub naming_accounted : (lines : Option (List Line)) → IsAccounted (datasets_of s) lines → IsAccounted (snaps_renamed_in (datasets_of s) m to recursive) lines
  naming_accounted =
      accounted_alike (datasets_of s) named steady.good.now.systems (naming_can s m to recursive steady none).steady.good.now.systems
      (alike_from (datasets_of s) named []
      (kept_shrunk (world_of (datasets_of s)) (world_of named) (naming_label s m to recursive steady none).kept)
      (λ q f at. ap is_some (named_here m to recursive (world_of (datasets_of s)) q f at))
      (λ q g at'.
      let k = named_was m to recursive (world_of (datasets_of s)) q g at' in
      let a = subst (λ (x : FileSystem). IsAlike k.0 x) (sym k.2) (named_alike q k.0) in
      (k.0, k.1, a.limits, λ out. a)))

-- ---- bookmarks

module _ (t : Datasets) (name : Name) (change : FinMap name_cmp Bookmark → FinMap name_cmp Bookmark) where
  -- those of a file system changed
  pub marks_alike : AreAlikeBut t (with_marks t name change) []
  marks_alike = alike_from t (with_marks t name change) []
      (kept_shrunk (world_of t) (world_of (with_marks t name change))
      (kept_changed (world_of t) name (λ f. record f { bookmarks = change f.bookmarks }) (λ f. shrunk_snaps f (record f { bookmarks = change f.bookmarks }) refl refl refl (λ u i. (u, i, refl, refl)))))
      (λ q f at. ap is_some (in_marks t name change q f at).1)
      (λ q g at'.
      let k = from_marks t name change q g at' in (
        k.0,
        k.1,
        ap (λ (x : FileSystem). x.limits) k.2,
        λ out. record {
          live = ap (λ (x : FileSystem). x.live) k.2;
          maps = ap (λ (x : FileSystem). map (λ (u : Snap). u.map) x.snaps) k.2;
          origin = ap (λ (x : FileSystem). x.origin) k.2;
          limits = ap (λ (x : FileSystem). x.limits) k.2;
        },
      ))

pub bookmark_accounted : (s : State) (target : Target) (mark : Member) → IsSteady s → (lines : Option (List Line)) → IsAccounted (datasets_of s) lines
    → IsAccounted (bookmarked_in (datasets_of s) target mark) lines
bookmark_accounted s target mark steady = accounted_alike (datasets_of s) (bookmarked_in (datasets_of s) target mark) steady.good.now.systems (bookmark_can s target mark steady).steady.good.now.systems
    (by_place (placed (world_of (datasets_of s)) target))
  where
    by_place : (x : Option (FileSystem × Snap))
        → AreAlikeBut (datasets_of s) (record (datasets_of s) { file_systems = (option_map_or (λ (p : FileSystem × Snap). with_file_system (world_of (datasets_of s)) mark.file_system (λ f. record f { bookmarks = insert f.bookmarks mark.component (bookmark_of_snap p.1) })) x (world_of (datasets_of s))).file_systems }) []
    by_place None = alike_same (datasets_of s) []
    by_place (Some p) = marks_alike (datasets_of s) mark.file_system (λ marks. insert marks mark.component (bookmark_of_snap p.1))

-- one that goes
pub unmarked_accounted : (s : State) (m : Member) (recursive defer : Bool) → IsSteady s
    → AreFileSystems (swept (destroyed (datasets_of s) s.views (MarkGoes m) recursive defer) s.views).file_systems s.now.group
    → (lines : Option (List Line)) → IsAccounted (datasets_of s) lines
    → IsAccounted (swept (destroyed (datasets_of s) s.views (MarkGoes m) recursive defer) s.views) lines
unmarked_accounted s m recursive defer steady good lines kept =
    accounted_alike (datasets_of s) (swept (destroyed (datasets_of s) s.views (MarkGoes m) recursive defer) s.views) steady.good.now.systems good
    (subst (λ (d : Datasets). AreAlikeBut (datasets_of s) d []) (sym (marks_swept (datasets_of s) m.file_system (λ marks. remove marks m.component) s.views steady.swept))
    (marks_alike (datasets_of s) m.file_system (λ marks. remove marks m.component))) lines kept
