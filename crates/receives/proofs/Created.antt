-- A new file system has no block of its own, a clone only those of its origin.
use Rattle.std.proofs.Common.{◌≡◌, ℕ, List, Some, None, Result, Ok, Err, refl, sym, ap, subst, ◌∙◌, inr, ⊎_elim}
use Rattle.std.specs.Prelude.{IfOk, IfSome}
use Rattle.std.specs.Option.{option_map_or}
use Rattle.std.specs.FinMap.{get}
use Rattle.std.specs.FinMap as finmap
use Rattle.base.specs.declared.refusal.Refusal.{Refusal}
use Rattle.base.specs.Map.{Map, Block, BlockSet, blocks}
use Rattle.base.specs.Surveys.{IsIn}
use Rattle.base.specs.declared.name.member.Member.{Member}
use Rattle.datasets.specs.Clones.{with_clone_of}
use Rattle.model.specs.World.{FileSystem, Snap, id_of, snap_named, maps_of, map_of_snap, empty_file_system, union_of}
use Rattle.model.specs.requests.Clone.{with_clone}
use Rattle.world.specs.Blocks.{block_order as o}
use Rattle.world.specs.Sets.{Has, IsSubset, AreDisjoint}
use Rattle.world.specs.Tables.{Datasets, world_of, with_system}
use Rattle.world.specs.Worlds.{AreFileSystems}
use Rattle.world.proofs.lineage.Bridge.{in_union_of, from_union_of, map_of_kept, no_block}
use Rattle.world.proofs.lists.Listed.{map_in}
use Rattle.world.proofs.views.ViewedReceives.{from_named}
use Rattle.world.proofs.lists.Maps.{no_value}
use Rattle.world.proofs.lineage.Put.{put_cases, put_other}
use Rattle.world.proofs.lists.SetCounts.{same_members}
use Rattle.removals.specs.declared.working_copy.WorkingCopy.{WorkingCopy}
use Rattle.removals.specs.Edits.{HasLost}
use Rattle.removals.proofs.Losses.{lost_none, lost_alike}
use Rattle.receives.specs.Requests.{cloned}

-- a new file system, each of whose blocks some dataset has
module _ (t : Datasets) (name : List ℕ) (absent : get t.file_systems name ≡ None) (f : FileSystem)
    (own : (m : Map) (b : Block) → IsIn (maps_of f) m → Has (blocks m) b → Has (union_of (world_of t)) b) where
  abbrev made : Datasets
  made = with_system t name f

  fewer : IsSubset (union_of (world_of made)) (union_of (world_of t))
  fewer b h =
      let r = from_union_of (world_of made) b h in
      ⊎_elim
      (λ k. own r.2 b (subst (λ (x : FileSystem). IsIn (maps_of x) r.2) k.1 r.4) r.5)
      (λ k. in_union_of (world_of t) r.0 r.1 r.2 b k.1 r.4 r.5)
      (put_cases t.file_systems name f r.0 r.1 r.3)

  more : IsSubset (union_of (world_of t)) (union_of (world_of made))
  more b h =
      let r = from_union_of (world_of t) b h in
      in_union_of (world_of made) r.0 r.1 r.2 b
      (put_other t.file_systems name f r.0 (λ same. no_value r.1 (sym absent ∙ ap (get t.file_systems) (sym same) ∙ r.3)) ∙ r.3) r.4 r.5

  -- nothing is lost with it
  lost_with_made : (freeing : BlockSet) → AreDisjoint (union_of (world_of t)) freeing → HasLost t freeing (with_system t name f) freeing
  lost_with_made freeing apart = lost_alike t t made freeing freeing (same_members o _ _ fewer more) (lost_none t freeing apart)

-- an empty one
pub lost_with_new : (t : Datasets) (name : List ℕ) → get t.file_systems name ≡ None → (freeing : BlockSet) → AreDisjoint (union_of (world_of t)) freeing
    → HasLost t freeing (with_system t name empty_file_system) freeing
lost_with_new t name absent = lost_with_made t name absent empty_file_system
    (λ m b i h. ⊎_elim (λ (e : m ≡ finmap.empty). absurd (no_block b (subst (λ (y : Map). Has (blocks y) b) e h))) (λ x. absurd x) i)

-- and a clone of a snapshot that is there
pub lost_with_clone : (t : Datasets) → AreFileSystems t.file_systems t.group → (name : List ℕ) → get t.file_systems name ≡ None → (origin : Member) (v : Snap) → snap_named (world_of t) origin ≡ Some v
    → (freeing : BlockSet) → AreDisjoint (union_of (world_of t)) freeing → HasLost t freeing (record t { file_systems = (with_clone (world_of t) (id_of v) name).file_systems }) freeing
lost_with_clone t good name absent origin v is = lost_with_made t name absent (record empty_file_system { live = map_of_snap (world_of t) (Some (id_of v)); origin = Some (id_of v) })
    (λ m b i h. ⊎_elim
    (λ (e : m ≡ map_of_snap (world_of t) (Some (id_of v))).
    let k = from_named (world_of t) origin v is in
    let map_is = map_of_kept (world_of t) t.group good.lines origin.file_system k.0 v (id_of v) k.1 k.2 refl in
    in_union_of (world_of t) origin.file_system k.0 v.map b k.1 (inr (map_in (λ (u : Snap). u.map) k.0.snaps v k.2)) (subst (λ (y : Map). Has (blocks y) b) (e ∙ map_is) h))
    (λ x. absurd x)
    i)

-- which is the clone that the receive begins with
pub cloned_is : (t : Datasets) (name : List ℕ) (origin : Member) (v : Snap) → snap_named (world_of t) origin ≡ Some v → with_clone_of t (id_of v) name ≡ cloned t name origin
cloned_is t name origin v is = sym (ap (λ x. record t { file_systems = (option_map_or (λ (u : Snap). with_clone (world_of t) (id_of u) name) x (world_of t)).file_systems }) is)

-- on a copy of the datasets
pub cloned_by : (t e u : Datasets) (name : List ℕ) (origin : Member) (v : Snap) → snap_named (world_of t) origin ≡ Some v → e ≡ t
    → IfSome (snap_named (world_of e) origin) (λ s. u ≡ with_clone_of e (id_of s) name) → u ≡ with_clone_of t (id_of v) name
cloned_by t e u name origin v is same made =
    subst (λ x. IfSome x (λ (s : Snap). u ≡ with_clone_of t (id_of s) name)) is
    (subst (λ (d : Datasets). IfSome (snap_named (world_of d) origin) (λ (s : Snap). u ≡ with_clone_of d (id_of s) name)) same made)

-- nor with a copy
pub lost_with_copy : (t : Datasets) (freeing : BlockSet) → AreDisjoint (union_of (world_of t)) freeing → (r : Result WorkingCopy Refusal)
    → IfOk r (λ e. (e.to ≡ t) × (e.freeing ≡ freeing)) → IfOk r (λ e. HasLost t freeing e.to e.freeing)
lost_with_copy t freeing apart (Ok e) is = subst (λ (p : Datasets × BlockSet). HasLost t freeing p.0 p.1) (λ i. (sym is.0 i, sym is.1 i)) (lost_none t freeing apart)
lost_with_copy t freeing apart (Err e) is = tt
