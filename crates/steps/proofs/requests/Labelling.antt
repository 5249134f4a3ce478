-- File systems whose maps stay, with other tags, other bookmarks, or snapshots whose destroy is deferred: what that keeps of a pool's
-- state.
use Rattle.std.proofs.Common.{◌≡◌, ℕ, List, [], ◌∷◌, map, Option, Some, None, refl, sym, ap, subst, ◌∙◌, inl, inr, ⊎_elim}
use Rattle.std.specs.Option.{option_map}
use Rattle.std.specs.FinMap.{get, insert, same_map}
use Rattle.std.specs.FinSet.{union, difference}
use Rattle.base.specs.Map.{Map, blocks}
use Rattle.base.specs.Surveys.{IsIn}
use Rattle.model.specs.World.{World, FileSystem, Snap, id_of, maps_of, union_of}
use Rattle.model.specs.State.{State}
use Rattle.model.specs.Edits.{with_now, with_file_systems}
use Rattle.world.specs.Sets.{Has, IsSubset}
use Rattle.world.specs.Blocks.{block_order as o}
use Rattle.world.specs.Shapes.{Name, Shape, SnapShape, IsAmong, name_order}
use Rattle.world.specs.Tables.{Datasets}
use Rattle.world.specs.Worlds.{FileSystems, snap_shape, shape_of, IsTidy, AreFileSystems, IsPoolState, IsSwept, AreMapsFrom}
use Rattle.world.proofs.lineage.Bridge.{among, from_among, one_snap, no_block, in_union_of, from_union_of}
use Rattle.world.proofs.steps.Groups.{same_maps}
use Rattle.world.proofs.changes.Kept.{reach_is}
use Rattle.world.proofs.lists.Listed.{in_map}
use Rattle.world.proofs.lists.Maps.{same_value, no_value, key_cases}
use Rattle.world.proofs.lineage.Put.{put_here, put_other}
use Rattle.world.proofs.lists.SetCounts.{same_members}
use Rattle.world.proofs.steps.StateSteps.{now_keeps}
use Rattle.world.proofs.removals.Sweep.{get-with_file_systems, with_losses-same}
use Rattle.world.proofs.views.Viewed.{kept_of}
use Rattle.world.proofs.changes.Views.{snaps_in_put, label_from, label_world, label_pairs, same_shapes_mapped, same_maps_mapped}
use Rattle.limits.specs.Limits.{IsShrunk}
use Rattle.limits.specs.Steps.{AreKept}
use Rattle.limits.proofs.Steps.{shrunk_snaps, kept_same, kept_put, kept_shrunk}
use Rattle.steps.specs.Steady.{IsSteady}
use Rattle.steps.specs.Edits.{datasets_of, with_datasets, lose, StaysUnlimited, CanPut}
use Rattle.steps.proofs.numbers.Putting.{put_none}
use Rattle.steps.proofs.quotas.Limits.{kept_limits, unlimited_kept}
use Rattle.steps.proofs.quotas.Unlimited.{AreKnown, AreOriginsIn, same_origins, put_origins, still_swept}

-- ---- snapshots changed

-- a file system with its snapshots changed
abbrev pub with_changed : (Snap → Snap) → FileSystem → FileSystem
with_changed change f = record f { snaps = map {A = Snap} change f.snaps }

-- each of a world's is changed
pub from_changed : (w : World) (change : Snap → Snap) (q : Name) (x : FileSystem)
    → get (with_file_systems w (λ _ f. record f { snaps = map {A = Snap} change f.snaps })).file_systems q ≡ Some x
    → (f : FileSystem) × (get w.file_systems q ≡ Some f) × (x ≡ record f { snaps = map {A = Snap} change f.snaps })
from_changed w change q x at = by_system (get w.file_systems q) refl (sym (get-with_file_systems w (λ _ f. with_changed change f) q) ∙ at)
  where
    by_system : (y : Option FileSystem) → get w.file_systems q ≡ y → option_map (with_changed change) y ≡ Some x
        → (f : FileSystem) × (get w.file_systems q ≡ Some f) × (x ≡ record f { snaps = map {A = Snap} change f.snaps })
    by_system None e k = absurd (no_value x k)
    by_system (Some f) e k = (f, e, sym (same_value (with_changed change f) x k))

map_idle : (change : Snap → Snap) (ts : List Snap) → ((t : Snap) → IsIn ts t → change t ≡ t) → map change ts ≡ ts
map_idle change [] each = refl
map_idle change (t ∷ ts) each = λ i. each t (inl refl) i ∷ map_idle change ts (λ u k. each u (inr k)) i

-- where the change is of one snapshot, it is of its file system alone
module _ (w : World) (g : ℕ) (good : AreFileSystems w.file_systems g) (change : Snap → Snap) (name : Name) (f : FileSystem) (at : get w.file_systems name ≡ Some f)
    (u : Snap) (here : IsIn f.snaps u) (only : (t : Snap) → ¬ (id_of t ≡ id_of u) → change t ≡ t) where
  by_name : (n : Name) → option_map (with_changed change) (get w.file_systems n) ≡ get (insert w.file_systems name (with_changed change f)) n
  by_name n = ⊎_elim
      (λ (same : n ≡ name).
      ap (option_map (with_changed change)) (ap (get w.file_systems) same ∙ at)
      ∙ sym (put_here w.file_systems name (with_changed change f)) ∙ ap (get (insert w.file_systems name (with_changed change f))) (sym same))
      (λ (other : ¬ (n ≡ name)). others n other (get w.file_systems n) refl ∙ sym (put_other w.file_systems name (with_changed change f) n other))
      (key_cases name_order n name)
    where
      others : (n : Name) → ¬ (n ≡ name) → (y : Option FileSystem) → get w.file_systems n ≡ y → option_map (with_changed change) (get w.file_systems n) ≡ get w.file_systems n
      others n other None e = ap (option_map (with_changed change)) e ∙ sym e
      others n other (Some x) e =
          ap (option_map (with_changed change)) e
          ∙ ap (λ l. Some (record x { snaps = l }))
          (map_idle change x.snaps (λ t i. only t (λ ids. other (one_snap w.file_systems g good.lines n name x f t u e at i here ids).0)))
          ∙ sym e

  pub one_changed : (with_file_systems w (λ _ f. record f { snaps = map {A = Snap} change f.snaps })).file_systems ≡ insert w.file_systems name (record f { snaps = map {A = Snap} change f.snaps })
  one_changed = same_map name_order.total name_order.exact _ _ (λ n. get-with_file_systems w (λ _ f. with_changed change f) n ∙ by_name n)

-- where each keeps its identity, its map and its name
module _ (change : Snap → Snap) (same : (t : Snap) → kept_of (change t) ≡ kept_of t) where
  shape_is : (t : Snap) → snap_shape (change t) ≡ snap_shape t
  shape_is t = λ i. record { id = (same t i).0; blocks = blocks (same t i).1 }

  name_is : (t : Snap) → (change t).name ≡ t.name
  name_is t = λ i. (same t i).2

  map_is : (t : Snap) → (change t).map ≡ t.map
  map_is t = λ i. (same t i).1

  pub changed_shape : (f : FileSystem) → shape_of (record f { snaps = map {A = Snap} change f.snaps }) ≡ shape_of f
  changed_shape f = ap (λ l. record { live = blocks f.live; snapshots = l; origin = f.origin }) (same_shapes_mapped change shape_is f.snaps)

  pub changed_maps : (f : FileSystem) → maps_of (record f { snaps = map {A = Snap} change f.snaps }) ≡ maps_of f
  changed_maps f = ap (λ l. f.live ∷ l) (same_maps_mapped change map_is f.snaps)

  pub changed_tidy : (g : ℕ) (f : FileSystem) → IsTidy g f → IsTidy g (record f { snaps = map {A = Snap} change f.snaps })
  changed_tidy g f tidy = record {
    names = λ a b h k e.
        let v = in_map change f.snaps a h in
        let x = in_map change f.snaps b k in
        let one = tidy.names v.0 x.0 v.1 x.1 (sym (name_is v.0) ∙ ap (λ (t : Snap). t.name) (sym v.2) ∙ e ∙ ap (λ (t : Snap). t.name) x.2 ∙ name_is x.0) in
        v.2 ∙ ap change one ∙ sym x.2;
    bookmarks = tidy.bookmarks;
  }

-- ---- the state after it

-- a world each of whose maps is another's has no other blocks
pub maps_fewer : (w v : World) → AreMapsFrom w.file_systems v.file_systems → IsSubset (union_of v) (union_of w)
maps_fewer w v from b h =
    let r = from_union_of v b h in ⊎_elim
    (λ e. absurd (no_block b (subst (λ m. Has (blocks m) b) e r.5)))
    (λ k. in_union_of w k.0 k.1 r.2 b k.2 k.3 r.5)
    (from r.0 r.1 r.2 r.3 r.4)

-- lists of maps that are the same have the same first one, and the same others
same_first : (x y : Map) (xs ys : List Map) → x ∷ xs ≡ y ∷ ys → x ≡ y
same_first x y xs ys e = cc

same_rest : (x y : Map) (xs ys : List Map) → x ∷ xs ≡ y ∷ ys → xs ≡ ys
same_rest x y xs ys e = cc

-- snapshots of the same identities and maps, one by one
paired : (ts us : List Snap) → map snap_shape ts ≡ map snap_shape us → map (λ t. t.map) ts ≡ map (λ t. t.map) us
    → (t : Snap) → IsIn ts t → (u : Snap) × IsIn us u × (id_of t ≡ id_of u) × (t.map ≡ u.map)
paired [] us shapes maps t h = absurd h
paired (x ∷ xs) [] shapes maps t h = absurd (cc)
paired (x ∷ xs) (y ∷ ys) shapes maps t h =
    let shape : snap_shape x ≡ snap_shape y = cc in
    let others : map snap_shape xs ≡ map snap_shape ys = cc in
    ⊎_elim
    (λ (is : t ≡ x). (y, inl refl, ap id_of is ∙ ap (λ (z : SnapShape). z.id) shape, ap (λ (z : Snap). z.map) is ∙ same_first x.map y.map (map (λ t. t.map) xs) (map (λ t. t.map) ys) maps))
    (λ i. let r = paired xs ys others (same_rest x.map y.map (map (λ (z : Snap). z.map) xs) (map (λ (z : Snap). z.map) ys) maps) t i in (r.0, inr r.1, r.2, r.3))
    h

-- What holds of file systems in the place of the present ones, where their maps are the same
pub record IsLabelled (s : State) (ss : FileSystems) : Type 0 where
  pub good : IsPoolState (with_now s (record s.now { file_systems = ss }))
  pub from : AreMapsFrom s.now.file_systems ss
  pub union : union_of (record s.now { file_systems = ss }) ≡ union_of s.now
  pub kept : AreKept s.now (record s.now { file_systems = ss })
  pub origins : AreOriginsIn s.now.file_systems ss

-- the present ones themselves
pub same_label : (s : State) → IsSteady s → IsLabelled s s.now.file_systems
same_label s steady = record {
  good = steady.good;
  from = same_maps s.now.file_systems;
  union = refl;
  kept = kept_same s.now s.now refl;
  origins = same_origins s.now.file_systems;
}

-- one of the same shape put in its place
module _ (s : State) (steady : IsSteady s) (name : Name) (f x : FileSystem) (at : get s.now.file_systems name ≡ Some f) (shape : shape_of x ≡ shape_of f)
    (maps : maps_of x ≡ maps_of f) (tidy : IsTidy s.now.group x) where
  abbrev new : World
  new = record s.now { file_systems = insert s.now.file_systems name x }

  inside : (m : Map) → IsIn (maps_of x) m → IsIn (maps_of f) m
  inside m h = subst (λ l. IsIn l m) maps h

  -- a snapshot of each identity is there
  snap_there : (y : FileSystem) (u : Snap) → get s.now.file_systems name ≡ Some y → IsIn y.snaps u → (v : Snap) × IsIn x.snaps v × (id_of v ≡ id_of u)
  snap_there y u e h =
      let k = among f.snaps u (subst (λ (z : FileSystem). IsIn z.snaps u) (same_value y f (sym e ∙ at)) h) in
      let r = from_among x.snaps (snap_shape u) (subst (λ l. IsAmong l (snap_shape u)) (sym (ap (λ (z : Shape). z.snapshots) shape)) k) in
      (r.0, r.1, sym (ap (λ (z : SnapShape). z.id) r.2))

  from_new : AreMapsFrom (insert s.now.file_systems name x) s.now.file_systems
  from_new q y m e h = ⊎_elim
      (λ (same : q ≡ name).
      let one = same_value y f (sym e ∙ ap (get s.now.file_systems) same ∙ at) in
      inr (name, x, put_here s.now.file_systems name x, subst (λ l. IsIn l m) (sym maps) (subst (λ z. IsIn (maps_of z) m) one h)))
      (λ (other : ¬ (q ≡ name)). inr (q, y, put_other s.now.file_systems name x q other ∙ e, h))
      (key_cases name_order q name)

  from_old : AreMapsFrom s.now.file_systems (insert s.now.file_systems name x)
  from_old = label_from s.now.file_systems s.now.group steady.good.now.systems name f x at shape inside tidy

  -- it is a pool's state
  pub label_good : IsPoolState (with_now s (record s.now { file_systems = insert s.now.file_systems name x }))
  label_good = now_keeps s steady.good new
      (label_world s.size s.now steady.good.now name f x at shape inside tidy)
      (label_pairs s.size s.now steady.good.now name f x at shape inside tidy s.last steady.good.pair)
      (snaps_in_put s.now.file_systems name x snap_there)

  -- whose datasets have the same blocks
  pub label_union : union_of (record s.now { file_systems = insert s.now.file_systems name x }) ≡ union_of s.now
  label_union = same_members o (union_of new) (union_of s.now) (maps_fewer s.now new from_old) (maps_fewer new s.now from_new)

  pub label_origins : AreOriginsIn s.now.file_systems (insert s.now.file_systems name x)
  label_origins = put_origins s.now.file_systems s.now.file_systems (same_origins s.now.file_systems) name f x at (ap (λ (z : Shape). z.origin) shape)

  -- where its limits are the same too
  module _ (limits : x.limits ≡ f.limits) where
    shrunk : IsShrunk f x
    shrunk = shrunk_snaps f x
        (same_first x.live f.live (map (λ t. t.map) x.snaps) (map (λ t. t.map) f.snaps) maps)
        (ap (λ (z : Shape). z.origin) shape) limits
        (paired x.snaps f.snaps (ap (λ (z : Shape). z.snapshots) shape) (same_rest x.live f.live (map (λ t. t.map) x.snaps) (map (λ t. t.map) f.snaps) maps))

    pub label : IsLabelled s (insert s.now.file_systems name x)
    label = record { good = label_good; from = from_old; union = label_union; kept = kept_put s.now name f x at shrunk; origins = label_origins }

-- ---- what can be put in place

module _ (s : State) (steady : IsSteady s) (ss : FileSystems) (l : IsLabelled s ss) where
  abbrev after : State
  after = with_now s (record s.now { file_systems = ss })

  abbrev to : Datasets
  to = record (datasets_of s) { file_systems = ss }

  -- where nothing is left to sweep
  pub label_can_swept : IsSwept after → CanPut s (record (datasets_of s) { file_systems = ss }) 0
  label_can_swept swept = record {
    steady = subst IsSteady (sym (put_none s to)) (record {
      good = l.good;
      swept = swept;
      limits = kept_limits s after steady l.good refl (kept_shrunk s.now after.now l.kept);
    });
    reach = reach_is after.now ∙ ap (λ u. union u s.now.freeing) l.union ∙ sym (reach_is s.now);
  }

  -- as where no snapshot is deferred that wasn't
  pub label_can : AreKnown s.now.file_systems ss → CanPut s (record (datasets_of s) { file_systems = ss }) 0
  label_can known = label_can_swept (still_swept s after steady refl known l.origins)

  -- where there was no limit, there is none
  pub label_unlimited : StaysUnlimited s (record (datasets_of s) { file_systems = ss })
  label_unlimited = unlimited_kept s.now after.now l.kept

  -- nothing is lost
  pub label_loses : lose s (record (datasets_of s) { file_systems = ss }) ≡ with_datasets s (record (datasets_of s) { file_systems = ss })
  label_loses =
      ap (λ u. with_now s (record after.now { freeing = union s.now.freeing (difference u (union_of after.now)) })) (sym l.union)
      ∙ ap (with_now s) (with_losses-same after.now)
