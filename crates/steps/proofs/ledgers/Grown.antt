-- A receive changes the file system of one name alone, or makes it, and its snapshots stay, but for some that have no clone.
use Rattle.std.proofs.Common.{◌≡◌, ◌⊎◌, ℕ, Bool, true, false, ◌∷◌, [], Option, Some, None, is_some, map, refl, sym, ap, subst, ◌∙◌, inl, inr, ⊎_elim}
use Rattle.std.specs.Prelude.{◌==◌, nat_le, nat_lt, if◌then◌else◌}
use Rattle.std.specs.Option.{option_map_or}
use Rattle.std.specs.FinMap.{get, insert}
use Rattle.std.proofs.lemmas.Bool.{lt-ltb, leb-false}
use Rattle.base.specs.Surveys.{IsIn}
use Rattle.base.specs.declared.name.member.Member.{Member}
use Rattle.stream.specs.Spelling.{Sending}
use Rattle.model.specs.declared.receiving.Receiving.{Receiving}
use Rattle.model.specs.declared.receiving.Receiving.TheVariants.{Plain, Back, Past, Origin, Replace}
use Rattle.model.specs.Edits.{with_file_system, with_losses}
use Rattle.model.specs.Hierarchy.{FileSystems}
use Rattle.model.specs.Rule.{first_of}
use Rattle.model.specs.State.{State}
use Rattle.model.specs.World.{World, FileSystem, Snap, SnapId, id_of, snap_named, map_of_snap, empty_file_system}
use Rattle.model.specs.requests.Clone.{with_clone}
use Rattle.model.specs.requests.Destroy.{snaps_within}
use Rattle.model.specs.requests.Receive.{newest_of, source_of, back_to_newest, forced_back, back_past, cloned_from, vacated, emptied, before_full, before_incremental, before_receive, snaps_past, full_row, incremental_row, stream_row}
use Rattle.model.specs.requests.Rollback.{snaps_after, back_at, has_clone_outside}
use Rattle.world.specs.Dead.{HasNoCloneIn}
use Rattle.world.specs.Shapes.{Name, name_order}
use Rattle.world.specs.Tables.{Datasets, world_of}
use Rattle.world.specs.Worlds.{AreFileSystems}
use Rattle.world.proofs.lineage.Bridge.{map_of_kept}
use Rattle.world.proofs.lineage.Put.{put_here, put_other}
use Rattle.world.proofs.lists.Finding.{in_filter}
use Rattle.world.proofs.lists.Listed.{map_in}
use Rattle.world.proofs.lists.Maps.{no_value, same_value, key_cases}
use Rattle.world.proofs.views.ViewedReceives.{no_full, no_incremental, new_absent, origin_absent, replaced_alone, past_alone, from_source, snap_within}
use Rattle.limits.proofs.Older.{origin_there}
use Rattle.limits.proofs.Recounted.{IsAlike, AreAlikeBut, alike_itself}
use Rattle.steps.specs.Steady.{IsSteady}
use Rattle.steps.proofs.requests.Beginning.{none_cloned}

-- the file systems of other names are the same, and that of this name has the snapshots that it had
pub record IsGrown (t u : FileSystems) (name : Name) : Type 0 where
  pub others : (q : Name) → ¬ (q ≡ name) → get u q ≡ get t q
  pub kept : (f : FileSystem) (v : Snap) → get t name ≡ Some f → IsIn f.snaps v → (g : FileSystem) × (get u name ≡ Some g) × IsIn g.snaps v

-- and here those of them that have a clone
pub record IsPruned (t u : FileSystems) (name : Name) : Type 0 where
  pub others : (q : Name) → ¬ (q ≡ name) → get u q ≡ get t q
  pub kept : (f : FileSystem) (v : Snap) → get t name ≡ Some f → IsIn f.snaps v → HasNoCloneIn t (id_of v) ⊎ ((g : FileSystem) × (get u name ≡ Some g) × IsIn g.snaps v)

pub grown_same : (t : FileSystems) (name : Name) → IsGrown t t name
grown_same t name = record { others = λ q ne. refl; kept = λ f v at i. (f, at, i) }

pub grown_then : (t u v : FileSystems) (name : Name) → IsGrown t u name → IsGrown u v name → IsGrown t v name
grown_then t u v name a b = record {
  others = λ q ne. b.others q ne ∙ a.others q ne;
  kept = λ f s at i. let k = a.kept f s at i in b.kept k.0 s k.1 k.2;
}

pub pruned_same : (t : FileSystems) (name : Name) → IsPruned t t name
pruned_same t name = record { others = λ q ne. refl; kept = λ f v at i. inr (f, at, i) }

-- and the one after the other
pub pruned_then : (t u v : FileSystems) (name : Name) → IsPruned t u name → IsGrown u v name → IsPruned t v name
pruned_then t u v name a b = record {
  others = λ q ne. b.others q ne ∙ a.others q ne;
  kept = λ f s at i. ⊎_elim inl (λ k. inr (b.kept k.0 s k.1 k.2)) (a.kept f s at i);
}

pub pruned_put : (t : FileSystems) (name : Name) (g : FileSystem)
    → ((f : FileSystem) (v : Snap) → get t name ≡ Some f → IsIn f.snaps v → HasNoCloneIn t (id_of v) ⊎ IsIn g.snaps v) → IsPruned t (insert t name g) name
pruned_put t name g all = record {
  others = λ q ne. put_other t name g q ne;
  kept = λ f v at i. ⊎_elim inl (λ k. inr (g, put_here t name g, k)) (all f v at i);
}

-- where another is put there
pub grown_put : (t : FileSystems) (name : Name) (g : FileSystem) → ((f : FileSystem) (v : Snap) → get t name ≡ Some f → IsIn f.snaps v → IsIn g.snaps v) → IsGrown t (insert t name g) name
grown_put t name g all = record {
  others = λ q ne. put_other t name g q ne;
  kept = λ f v at i. (g, put_here t name g, all f v at i);
}

-- so they differ at that name alone
pub pruned_alike : (t u : Datasets) (name : Name) → IsPruned t.file_systems u.file_systems name → AreAlikeBut t u (name ∷ [])
pruned_alike t u name g = record {
  there = λ q out. ap is_some (g.others q (λ e. out (inl e)));
  others = λ q f h out at at'. subst (λ (x : FileSystem). IsAlike f x) (same_value f h (sym at ∙ sym (g.others q (λ e. out (inl e))) ∙ at')) (alike_itself f);
  origins = origins;
}
  where
    origins : AreFileSystems t.file_systems t.group → AreFileSystems u.file_systems u.group → (q : Name) (h : FileSystem) → ¬ (IsIn (name ∷ []) q) → get u.file_systems q ≡ Some h
        → map_of_snap (world_of u) h.origin ≡ map_of_snap (world_of t) h.origin
    origins good good' q h out at = by_origin h.origin refl
      where
        by_origin : (x : Option SnapId) → h.origin ≡ x → map_of_snap (world_of u) x ≡ map_of_snap (world_of t) x
        by_origin None e = refl
        by_origin (Some id) e =
            let was_at = sym (g.others q (λ e. out (inl e))) ∙ at in
            let k = origin_there (world_of t) good q h was_at id e in
            let was = sym (map_of_kept (world_of t) t.group good.lines k.0 k.1 k.2 id k.3 k.4 k.5) in
            ⊎_elim
            (λ (is : k.0 ≡ name). ⊎_elim
            (λ none. absurd (none q h was_at (e ∙ ap Some (sym k.5))))
            (λ l. map_of_kept (world_of u) u.group good'.lines name l.0 k.2 id l.1 l.2 k.5 ∙ was)
            (g.kept k.1 k.2 (ap (get t.file_systems) (sym is) ∙ k.3) k.4))
            (λ (ne : ¬ (k.0 ≡ name)). map_of_kept (world_of u) u.group good'.lines k.0 k.1 k.2 id (g.others k.0 ne ∙ k.3) k.4 k.5 ∙ was)
            (key_cases name_order k.0 name)

-- ---- what a receive begins with

module _ (s : State) (steady : IsSteady s) (name : Name) where
  abbrev old : FileSystems
  old = s.now.file_systems

  -- a file system is made
  made_pruned : (f : FileSystem) → get s.now.file_systems name ≡ None → IsPruned s.now.file_systems (insert s.now.file_systems name f) name
  made_pruned f absent = pruned_put old name f (λ g v at i. absurd (no_value g (sym absent ∙ at)))

  forced_pruned : IsPruned s.now.file_systems (forced_back s.now name).file_systems name
  forced_pruned = by_newest (newest_of s.now name)
    where
      by_newest : (x : Option Snap) → IsPruned s.now.file_systems (option_map_or (λ t. with_losses s.now (with_file_system s.now name (back_to_newest t))) x s.now).file_systems name
      by_newest None = pruned_same old name
      by_newest (Some t) = by_system (get s.now.file_systems name) refl
        where
          by_system : (x : Option FileSystem) → get s.now.file_systems name ≡ x
              → IsPruned s.now.file_systems (option_map_or (λ (f : FileSystem). record s.now { file_systems = insert s.now.file_systems name (back_to_newest t f) }) x s.now).file_systems name
          by_system None e = pruned_same old name
          by_system (Some f) e = pruned_put old name (back_to_newest t f) (λ g v at i. inr (subst (λ (y : FileSystem). IsIn y.snaps v) (same_value g f (sym at ∙ e)) i))

  past_pruned : (guid : ℕ) → has_clone_outside s.now [] (snaps_past s.now name guid) ≡ false → IsPruned s.now.file_systems (back_past s.now name guid).file_systems name
  past_pruned guid = by_source (source_of s.now name guid) refl
    where
      by_source : (x : Option (FileSystem × Snap)) → source_of s.now name guid ≡ x
          → has_clone_outside s.now [] (option_map_or (λ (p : FileSystem × Snap). map id_of (snaps_after p.0 p.1.group)) x []) ≡ false
          → IsPruned s.now.file_systems (option_map_or (λ (p : FileSystem × Snap). with_losses s.now (with_file_system s.now name (λ f. back_at f p.1))) x s.now).file_systems name
      by_source None e alone = pruned_same old name
      by_source (Some p) e alone =
          let k = from_source s.now name guid p e in
          subst (λ (x : World). IsPruned s.now.file_systems x.file_systems name)
          (sym (ap (λ x. option_map_or (λ (f : FileSystem). record s.now { file_systems = insert s.now.file_systems name (back_at f p.1) }) x s.now) k.0))
          (pruned_put old name (back_at p.0 p.1) (λ g v at i. by_group v (subst (λ (y : FileSystem). IsIn y.snaps v) (same_value g p.0 (sym at ∙ k.0)) i) (nat_le v.group p.1.group) refl))
        where
          by_group : (v : Snap) → IsIn p.0.snaps v → (b : Bool) → nat_le v.group p.1.group ≡ b → HasNoCloneIn s.now.file_systems (id_of v) ⊎ IsIn (back_at p.0 p.1).snaps v
          by_group v i true t = inr (in_filter (λ (u : Snap). nat_le u.group p.1.group) p.0.snaps v i t)
          by_group v i false t = inl (none_cloned s steady (map id_of (snaps_after p.0 p.1.group)) alone (id_of v)
              (map_in (λ (u : Snap). id_of u) (snaps_after p.0 p.1.group) v
              (in_filter (λ (u : Snap). nat_lt p.1.group u.group) p.0.snaps v i (lt-ltb p.1.group v.group (leb-false v.group p.1.group t)))))

  cloned_pruned : (origin : Member) → get s.now.file_systems name ≡ None → IsPruned s.now.file_systems (cloned_from s.now name origin).file_systems name
  cloned_pruned origin absent = by_snap (snap_named s.now origin)
    where
      by_snap : (x : Option Snap) → IsPruned s.now.file_systems (option_map_or (λ (t : Snap). with_clone s.now (id_of t) name) x s.now).file_systems name
      by_snap None = pruned_same old name
      by_snap (Some t) = made_pruned (record empty_file_system { live = map_of_snap s.now (Some (id_of t)); origin = Some (id_of t) }) absent

  emptied_pruned : has_clone_outside s.now [] (snaps_within s.now (name ∷ [])) ≡ false → IsPruned s.now.file_systems (emptied s.now name).file_systems name
  emptied_pruned alone = by_system (get s.now.file_systems name) refl
    where
      by_system : (x : Option FileSystem) → get s.now.file_systems name ≡ x
          → IsPruned s.now.file_systems (option_map_or (λ (f : FileSystem). record s.now { file_systems = insert s.now.file_systems name (vacated f) }) x s.now).file_systems name
      by_system None e = pruned_same old name
      by_system (Some f) e = pruned_put old name (vacated f)
          (λ g v at i. inl (none_cloned s steady (snaps_within s.now (name ∷ [])) alone (id_of v) (snap_within s.now name g at v i)))

module _ (s : State) (steady : IsSteady s) (m : Member) where
  full_pruned : (mode : Receiving) → first_of (full_row s.now s.views m mode) ≡ None → IsPruned s.now.file_systems (before_full s.now m.file_system mode).file_systems m.file_system
  full_pruned Plain e = made_pruned s steady m.file_system empty_file_system (new_absent s.now m.file_system e)
  full_pruned Back e = made_pruned s steady m.file_system empty_file_system (new_absent s.now m.file_system e)
  full_pruned Past e = made_pruned s steady m.file_system empty_file_system (new_absent s.now m.file_system e)
  full_pruned (Origin origin) e = no_full s.now s.views m origin e
  full_pruned Replace e = emptied_pruned s steady m.file_system (replaced_alone s.now s.views m.file_system e)

  incremental_pruned : (source : ℕ) (mode : Receiving) → first_of (incremental_row s.now s.views m source mode) ≡ None
      → IsPruned s.now.file_systems (before_incremental s.now m.file_system source mode).file_systems m.file_system
  incremental_pruned source Plain e = pruned_same s.now.file_systems m.file_system
  incremental_pruned source Back e = forced_pruned s steady m.file_system
  incremental_pruned source Past e = past_pruned s steady m.file_system source (past_alone s.now s.views m source e)
  incremental_pruned source (Origin origin) e = cloned_pruned s steady m.file_system origin (origin_absent s.now m.file_system origin source e)
  incremental_pruned source Replace e = no_incremental s.now s.views m source e

  pub begun_pruned : (sent : Sending) (mode : Receiving) → first_of (stream_row s.now s.views m sent mode) ≡ None
      → IsPruned s.now.file_systems (before_receive s.now m.file_system sent mode).file_systems m.file_system
  begun_pruned sent mode none = by_source (sent.source == 0) none
    where
      by_source : (b : Bool) → first_of (if b then full_row s.now s.views m mode else incremental_row s.now s.views m sent.source mode) ≡ None
          → IsPruned s.now.file_systems (if b then before_full s.now m.file_system mode else before_incremental s.now m.file_system sent.source mode).file_systems m.file_system
      by_source true e = full_pruned mode e
      by_source false e = incremental_pruned sent.source mode e
