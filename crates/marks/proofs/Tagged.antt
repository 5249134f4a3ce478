-- Other tags of a snapshot: what is there then, and what goes.
use Rattle.std.proofs.Common.{◌≡◌, ℕ, Bool, true, false, cond, not, ◌&&◌, ◌||◌, List, [], ◌∷◌, map, length, Option, Some, None, refl, sym, ap, subst, ◌∙◌, inl, inr}
use Rattle.std.specs.Prelude.{nat_lt}
use Rattle.std.specs.List.{filter}
use Rattle.std.specs.Option.{option_map}
use Rattle.std.specs.FinMap.{get, same_map}
use Rattle.std.specs.FinSet.{union, difference}
use Rattle.base.specs.Map.{BlockSet}
use Rattle.base.specs.Surveys.{IsIn}
use Rattle.model.specs.World.{FileSystem, Snap, SnapId, id_of, same_id, maps_of, union_of}
use Rattle.model.specs.State.{Views, is_viewed}
use Rattle.model.specs.Outcome.{is_needed}
use Rattle.world.specs.Blocks.{block_order as o}
use Rattle.world.specs.Sets.{IsSubset, AreDisjoint}
use Rattle.world.specs.Shapes.{Name, name_order}
use Rattle.world.specs.Worlds.{AreFileSystems}
use Rattle.world.specs.Tables.{Datasets, world_of, tagged_snap, without_snap}
use Rattle.world.proofs.lineage.Bridge.{in_union_of, from_union_of, one_snap}
use Rattle.world.proofs.lists.Finding.{same_id_is}
use Rattle.world.proofs.lists.Listed.{in_map}
use Rattle.world.proofs.lists.Maps.{no_value, same_value}
use Rattle.world.proofs.lists.SetCounts.{same_members}
use Rattle.world.proofs.removals.Sweep.{get-with_file_systems}
use Rattle.world.proofs.changes.Views.{same_maps_mapped}
use Rattle.world.proofs.removals.WithoutSnaps.{get-without, without_none}
use Rattle.removals.specs.Edits.{HasLost}
use Rattle.removals.specs.Requests.{swept, IsSweptBy}
use Rattle.removals.proofs.Losses.{lost_none}
use Rattle.removals.proofs.Swept.{same_clones}

module _ (t : Datasets) (id : SnapId) (tags : List (List ℕ)) where
  -- a snapshot, with these tags where it is the one
  abbrev tagged : Snap → Snap
  tagged u = cond (same_id (id_of u) id) (record u { tags = tags }) u

  abbrev system_after : FileSystem → FileSystem
  system_after f = record f { snaps = map tagged f.snaps }

  abbrev after : Datasets
  after = tagged_snap t id tags

  at_name : (n : Name) → get after.file_systems n ≡ option_map system_after (get t.file_systems n)
  at_name n = get-with_file_systems (world_of t) (λ _ f. system_after f) n

  before : (n : Name) (f : FileSystem) → get after.file_systems n ≡ Some f → (g : FileSystem) × (get t.file_systems n ≡ Some g) × (f ≡ system_after g)
  before n f at = by_system (get t.file_systems n) refl
    where
      by_system : (x : Option FileSystem) → get t.file_systems n ≡ x → (g : FileSystem) × (get t.file_systems n ≡ Some g) × (f ≡ system_after g)
      by_system None e = absurd (no_value f (sym (at_name n ∙ ap (option_map system_after) e) ∙ at))
      by_system (Some g) e = (g, e, same_value f (system_after g) (sym at ∙ at_name n ∙ ap (option_map system_after) e))

  -- ---- the blocks stay

  same_map_of : (b : Bool) (u : Snap) → (cond b (record u { tags = tags }) u).map ≡ u.map
  same_map_of true u = refl
  same_map_of false u = refl

  maps_stay : (f : FileSystem) → maps_of (system_after f) ≡ maps_of f
  maps_stay f = ap (λ l. f.live ∷ l) (same_maps_mapped tagged (λ u. same_map_of (same_id (id_of u) id) u) f.snaps)

  union_stays : union_of (world_of after) ≡ union_of (world_of t)
  union_stays = same_members o _ _
      (λ b h. let r = from_union_of (world_of after) b h in
      let g = before r.0 r.1 r.3 in
      in_union_of (world_of t) r.0 g.0 r.2 b g.1 (subst (λ l. IsIn l r.2) (ap maps_of g.2 ∙ maps_stay g.0) r.4) r.5)
      (λ b h. let r = from_union_of (world_of t) b h in
      in_union_of (world_of after) r.0 (system_after r.1) r.2 b (at_name r.0 ∙ ap (option_map system_after) r.3) (subst (λ l. IsIn l r.2) (sym (maps_stay r.1)) r.4) r.5)

  -- so nothing is lost
  pub lost_tagged : (freeing : BlockSet) → AreDisjoint (union_of (world_of t)) freeing → HasLost t freeing after freeing
  lost_tagged freeing apart =
      let none = lost_none t freeing apart in
      record {
        fewer = subst (λ s. IsSubset s (union_of (world_of t))) (sym union_stays) none.fewer;
        joined = none.joined ∙ ap (λ s. union freeing (difference (union_of (world_of t)) s)) (sym union_stays);
        apart = subst (λ s. AreDisjoint s freeing) (sym union_stays) none.apart;
      }

  -- ---- the clones stay

  origins_stay : (n : Name) → option_map (λ (f : FileSystem). f.origin) (get after.file_systems n) ≡ option_map (λ (f : FileSystem). f.origin) (get t.file_systems n)
  origins_stay n = ap (option_map (λ (f : FileSystem). f.origin)) (at_name n) ∙ by_system (get t.file_systems n)
    where
      by_system : (x : Option FileSystem) → option_map (λ (f : FileSystem). f.origin) (option_map system_after x) ≡ option_map (λ (f : FileSystem). f.origin) x
      by_system None = refl
      by_system (Some f) = refl

  needed_stays : (views : Views) (u : Snap) → is_needed (world_of after) views u ≡ is_needed (world_of t) views u
  needed_stays views u = ap (λ b. nat_lt 0 (length u.tags) || (is_viewed views (id_of u) || b)) (same_clones t after origins_stay (id_of u))

-- ---- what goes

module _ (t : Datasets) (good : AreFileSystems t.file_systems t.group) (views : Views) (clean : IsSweptBy t views) (name : Name) (f : FileSystem) (u : Snap)
    (at : get t.file_systems name ≡ Some f) (among : IsIn f.snaps u) (tags : List (List ℕ)) where
  abbrev new : Datasets
  new = tagged_snap t (id_of u) tags

  abbrev is_it : Snap → Bool
  is_it v = same_id (id_of v) (id_of u)

  abbrev goes : Snap → Bool
  goes v = v.deferred && not (is_needed (world_of new) views v)

  -- with these tags nothing needs it, and it is to go
  abbrev is_due : Bool
  is_due = u.deferred && not (is_needed (world_of t) views (record u { tags = tags }))

  -- nothing else goes
  each : (n : Name) (g : FileSystem) (v : Snap) → get t.file_systems n ≡ Some g → IsIn g.snaps v → goes (tagged t (id_of u) tags v) ≡ (is_it v && is_due)
  each n g v at' i = by_test (is_it v) refl
    where
      by_mark : (d : Bool) → v.deferred ≡ d → (d && not (is_needed (world_of t) views v)) ≡ false
      by_mark true d = ap not (clean n g v at' i d)
      by_mark false d = refl

      by_test : (b : Bool) → is_it v ≡ b → goes (tagged t (id_of u) tags v) ≡ (is_it v && is_due)
      by_test true e =
          let one : v ≡ u = (one_snap t.file_systems t.group good.lines n name g f v u at' at i among (same_id_is (id_of v) (id_of u) e)).1 in
          ap (λ b. goes (cond b (record v { tags = tags }) v)) e
          ∙ ap (λ (w : Snap). goes (record w { tags = tags })) one
          ∙ ap (λ b. u.deferred && not b) (needed_stays t (id_of u) tags views (record u { tags = tags }))
          ∙ ap (λ b. b && is_due) (sym e)
      by_test false e =
          ap (λ b. goes (cond b (record v { tags = tags }) v)) e
          ∙ ap (λ b. v.deferred && not b) (needed_stays t (id_of u) tags views v)
          ∙ by_mark v.deferred refl
          ∙ ap (λ b. b && is_due) (sym e)

  and_none : (b : Bool) → (b && false) ≡ false
  and_none true = refl
  and_none false = refl

  and_all : (b : Bool) → (b && true) ≡ b
  and_all true = refl
  and_all false = refl

  -- it stays
  pub tagged_stays : is_due ≡ false → swept new views ≡ new
  tagged_stays stays = ap (λ ss. record new { file_systems = ss }) (without_none (world_of new) goes (λ n g v at' i.
      let k = before t (id_of u) tags n g at' in
      let w = in_map (tagged t (id_of u) tags) k.0.snaps v (subst (λ (x : FileSystem). IsIn x.snaps v) k.2 i) in
      ap goes w.2 ∙ each n k.0 w.0 k.1 w.1 ∙ ap (λ b. is_it w.0 && b) stays ∙ and_none (is_it w.0)))

  -- it goes
  filter_tagged : (vs : List Snap) → ((v : Snap) → IsIn vs v → goes (tagged t (id_of u) tags v) ≡ is_it v) → filter (λ v. not (goes v)) (map (tagged t (id_of u) tags) vs) ≡ filter (λ v. not (is_it v)) vs
  filter_tagged [] each = refl
  filter_tagged (v ∷ vs) each =
      let rest = filter_tagged vs (λ w i. each w (inr i)) in
      (λ i. cond (not (each v (inl refl) i)) (tagged t (id_of u) tags v ∷ rest i) (rest i)) ∙ by_test (is_it v)
    where
      by_test : (b : Bool) → cond (not b) (cond b (record v { tags = tags }) v ∷ filter (λ v. not (is_it v)) vs) (filter (λ v. not (is_it v)) vs) ≡ cond (not b) (v ∷ filter (λ v. not (is_it v)) vs) (filter (λ v. not (is_it v)) vs)
      by_test true = refl
      by_test false = refl

  pub tagged_goes : is_due ≡ true → swept new views ≡ without_snap t (id_of u)
  tagged_goes due = ap (λ ss. record t { file_systems = ss })
      (same_map name_order.total name_order.exact _ _ (λ n.
      get-without (world_of new) goes n
      ∙ ap (option_map (λ (g : FileSystem). record g { snaps = filter (λ v. not (goes v)) g.snaps })) (at_name t (id_of u) tags n)
      ∙ by_system n (get t.file_systems n) refl
      ∙ sym (get-without (world_of t) is_it n)))
    where
      by_system : (n : Name) (x : Option FileSystem) → get t.file_systems n ≡ x
          → option_map (λ (g : FileSystem). record g { snaps = filter (λ v. not (goes v)) g.snaps }) (option_map (system_after t (id_of u) tags) x)
          ≡ option_map (λ (g : FileSystem). record g { snaps = filter (λ v. not (is_it v)) g.snaps }) x
      by_system n None at' = refl
      by_system n (Some g) at' = ap (λ l. Some (record g { snaps = l })) (filter_tagged g.snaps (λ v i. each n g v at' i ∙ ap (λ b. is_it v && b) due ∙ and_all (is_it v)))
