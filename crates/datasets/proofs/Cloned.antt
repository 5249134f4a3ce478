-- A clone of a snapshot in a table.
use Rattle.std.proofs.Common.{◌≡◌, Option, Some, None, refl, sym, ap, subst, ◌∙◌, inr, ⊎_elim, map}
use Rattle.std.specs.List.{find}
use Rattle.std.specs.Option.{option_map, option_and_then}
use Rattle.std.specs.FinMap.{get, insert}
use Rattle.base.specs.Surveys.{IsIn}
use Rattle.base.specs.declared.name.member.Member.{Member}
use Rattle.base.specs.Names.{same_name}
use Rattle.model.specs.World.{FileSystem, Snap, id_of, empty_file_system, snap_named, map_of_snap}
use Rattle.model.specs.requests.Create.{create_refusal}
use Rattle.world.specs.Shapes.{Name, before_next}
use Rattle.world.specs.Worlds.{snap_shape, shape_of, shapes}
use Rattle.world.specs.Tables.{Datasets, world_of}
use Rattle.datasets.specs.Clones.{all_snaps, snap_in, IsTied}
use Rattle.file_system.specs.Promotions.{clone_row, clone_system}
use Rattle.world.proofs.lists.Maps.{no_value}
use Rattle.world.proofs.lists.Finding.{from_find}
use Rattle.world.proofs.lists.Listed.{map_in}
use Rattle.world.proofs.lineage.Requests.{lineage_facts}
use Rattle.world.proofs.lineage.Bridge.{shape_at, among, map_of_kept, snap_is_at}
use Rattle.world.proofs.lineage.Put.{put_maps}
use Rattle.world.proofs.changes.Creations.{make_systems}
use Rattle.datasets.specs.Table.{IsTable}
use Rattle.datasets.specs.Clones.{with_clone_of}
use Rattle.datasets.proofs.Kept.{numbers_from, can_add}
use Rattle.datasets.proofs.Above.{alone_is}

-- a snapshot that has this name, and its file system
module _ (t : Datasets) (m : Member) (u : Snap) (found : snap_named (world_of t) m ≡ Some u) where
  pub record IsNamed : Type 0 where
    pub system : FileSystem
    pub at : get t.file_systems m.file_system ≡ Some system
    pub among : IsIn system.snaps u

  pub named : IsNamed
  named = by_system (get t.file_systems m.file_system) refl
    where
      by_system : (x : Option FileSystem) → get t.file_systems m.file_system ≡ x → IsNamed
      by_system None e = absurd (no_value u (sym (ap (option_and_then (λ (f : FileSystem). find (λ (v : Snap). same_name v.name m.component) f.snaps)) e) ∙ found))
      by_system (Some f) e = record {
        system = f;
        at = e;
        among = (from_find (λ (v : Snap). same_name v.name m.component) f.snaps u
            (sym (ap (option_and_then (λ (f : FileSystem). find (λ (v : Snap). same_name v.name m.component) f.snaps)) e) ∙ found)).0;
      }

module _ (t : Datasets) (sound : IsTable t) (name : Name) (can : create_refusal t.file_systems name ≡ None) (m : Member) (u : Snap) (found : snap_named (world_of t) m ≡ Some u) where
  abbrev n : IsNamed t m u found
  n = named t m u found

  pub absent : get t.file_systems name ≡ None
  absent = (can_add t.file_systems name can).absent

  -- it is the one of its identity
  origin_in : snap_in t.file_systems (id_of u) ≡ Some u
  origin_in =
      sym (alone_is (world_of t) (id_of u))
      ∙ ap (option_map {T = Name × Snap} {U = Snap} (λ p. p.1)) (snap_is_at (world_of t) t.group sound.systems.lines m.file_system n.system u (id_of u) n.at n.among refl)

  -- a clone stands above its map
  pub origin_tied : IsTied (all_snaps t.file_systems) (clone_row name u)
  origin_tied = ap (option_map (λ (v : Snap). v.map)) origin_in

  map_is : map_of_snap (world_of t) (Some (id_of u)) ≡ u.map
  map_is = map_of_kept (world_of t) t.group sound.systems.lines m.file_system n.system u (id_of u) n.at n.among refl

  pub cloned_table : IsTable (record t { file_systems = insert t.file_systems name (clone_system u) })
  cloned_table =
      let c = can_add t.file_systems name can in
      record {
        systems = make_systems t.file_systems t.group sound.systems name c.absent c.parent c.room u.map (Some (id_of u)) (before_next (snap_shape u))
            (snap_shape u, (m.file_system, shape_of n.system, shape_at t.file_systems m.file_system n.system n.at, among n.system.snaps u n.among, refl), refl)
            ((lineage_facts (shapes t.file_systems) t.group sound.systems.lines).1 (id_of u) (snap_shape u)
            (m.file_system, shape_of n.system, shape_at t.file_systems m.file_system n.system n.at, among n.system.snaps u n.among, refl))
            (λ b h. h);
        numbers = numbers_from t (record t { file_systems = insert t.file_systems name (clone_system u) }) sound.systems
            (put_maps t.file_systems name (clone_system u)
            (λ x h. ⊎_elim
            (λ (e : x ≡ u.map). inr (m.file_system, n.system, n.at, inr (subst (λ y. IsIn (map (λ (v : Snap). v.map) n.system.snaps) y) (sym e) (map_in (λ (v : Snap). v.map) n.system.snaps u n.among))))
            (λ k. absurd k)
            h)) sound.numbers;
      }

  pub cloned_is : record t { file_systems = insert t.file_systems name (clone_system u) } ≡ with_clone_of t (id_of u) name
  cloned_is = ap (λ x. record t { file_systems = insert t.file_systems name (record empty_file_system { live = x; origin = Some (id_of u) }) }) (sym map_is)
