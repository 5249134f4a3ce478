-- What a receive begins with takes the snapshot.
use Rattle.std.proofs.Common.{◌≡◌, ℕ, List, inl, inr, ◌+◌, ◌<◌, ◌≤◌, ◌^◌, Bool, true, false, not, ◌||◌, [], ◌∷◌, Option, Some, None, Result, Ok, Err, refl, sym, ap, subst, ◌∙◌, true≢false, length, arith}
use Rattle.std.specs.Prelude.{IfOk, is_some, nat_lt, nat_le, ◌==◌, if◌then◌else◌}
use Rattle.std.proofs.lemmas.Bool.{ltb-false, not-false}
use Rattle.std.specs.List.{find}
use Rattle.std.specs.Option.{option_map_or, option_and_then}
use Rattle.std.specs.FinMap.{get, insert, contains_key, len}
use Rattle.base.specs.declared.refusal.Refusal.{Refusal}
use Rattle.base.specs.declared.refusal.Refusal.TheVariants.{NoDataset, Exists, TooMany, WrongSource}
use Rattle.base.specs.Map.{Map}
use Rattle.base.specs.Surveys.{IsIn}
use Rattle.base.specs.declared.name.member.Member.{Member}
use Rattle.base.specs.Names.{same_name}
use Rattle.stream.specs.Spelling.{Sending}
use Rattle.model.specs.declared.receiving.Receiving.{Receiving}
use Rattle.model.specs.declared.receiving.Receiving.TheVariants.{Plain, Back, Past, Origin, Replace}
use Rattle.model.specs.State.{Views}
use Rattle.model.specs.Hierarchy.{FileSystems, file_system_limit}
use Rattle.model.specs.Rule.{first_of}
use Rattle.model.specs.World.{World, FileSystem, Snap, id_of, snaps_of, snap_named, map_of_snap, empty_file_system}
use Rattle.model.specs.Targets.{snap_limit, has_no_next_group, number_limit}
use Rattle.model.specs.Edits.{with_file_system, with_losses}
use Rattle.model.specs.requests.Clone.{with_clone}
use Rattle.model.specs.requests.Destroy.{snaps_within}
use Rattle.model.specs.requests.Receive.{newest_of, source_of, back_to_newest, vacated, before_full, before_incremental, has_no_room, stays_past, snaps_past, new_row, replace_row, newest_row, past_row, origin_row, full_row, incremental_row}
use Rattle.model.specs.requests.Rollback.{back_at}
use Rattle.datasets.specs.Rows.{with_live}
use Rattle.world.specs.Takings.{AreTakable}
use Rattle.world.specs.Tables.{Datasets, world_of}
use Rattle.world.specs.Worlds.{AreFileSystems}
use Rattle.world.proofs.lists.Finding.{or_none, from_filter, from_find, found_none, name_itself, one_name}
use Rattle.world.proofs.lists.Maps.{some_of}
use Rattle.world.proofs.lineage.Put.{put_here}
use Rattle.world.proofs.views.ViewedReceives.{no_full, no_incremental, replaced_there, from_source}
use Rattle.world.proofs.views.ViewedRequests.{row_false}
use Rattle.removals.specs.declared.working_copy.WorkingCopy.{WorkingCopy}
use Rattle.receives.specs.Ends.{CanFinish}
use Rattle.receives.specs.Requests.{begun, back, past, cloned, replaced, receive_refusal}
use Rattle.datasets.proofs.Rows.{none_from as no_value_of}

-- a file system that has no snapshot of the name
takable_at : (ss : FileSystems) (m : Member) (f : FileSystem) → get ss m.file_system ≡ Some f → ((u : Snap) → IsIn f.snaps u → u.name ≡ m.component → ⊥) → AreTakable ss (m ∷ [])
takable_at ss m f at new = ((f, at, new), (λ k i. absurd i), tt)

-- and has another instead
takable_put : (ss : FileSystems) (m : Member) (f : FileSystem) → ((u : Snap) → IsIn f.snaps u → u.name ≡ m.component → ⊥) → AreTakable (insert ss m.file_system f) (m ∷ [])
takable_put ss m f = takable_at (insert ss m.file_system f) m f (put_here ss m.file_system f)

-- after a write it has the same snapshots
pub takable_written : (ss : FileSystems) (m : Member) (new : Map) → AreTakable ss (m ∷ []) → AreTakable (with_live ss m.file_system new) (m ∷ [])
takable_written ss m new can =
    subst (λ x. AreTakable x (m ∷ [])) (sym (ap (λ x. option_map_or (λ (f : FileSystem). insert ss m.file_system (record f { live = new })) x ss) can.0.1))
    (takable_put ss m (record can.0.0 { live = new }) can.0.2)

-- and back at its newest snapshot too
takable_back : (t : Datasets) (m : Member) → AreTakable t.file_systems (m ∷ []) → AreTakable (back t m.file_system).file_systems (m ∷ [])
takable_back t m can = by_newest (newest_of w m.file_system)
  where
    w : World
    w = world_of t

    by_newest : (x : Option Snap) → AreTakable (option_map_or (λ (u : Snap). with_losses w (with_file_system w m.file_system (back_to_newest u))) x w).file_systems (m ∷ [])
    by_newest None = can
    by_newest (Some s) = subst (λ ss. AreTakable ss (m ∷ []))
        (sym (ap (λ x. (option_map_or (λ (f : FileSystem). record w { file_systems = insert w.file_systems m.file_system (back_to_newest s f) }) x w).file_systems) can.0.1))
        (takable_put t.file_systems m (back_to_newest s can.0.0) can.0.2)

-- ---- what the rows say

-- the open group can be closed
can_close : (t : Datasets) (going : ℕ) → has_no_room (world_of t) going ≡ false → t.group + 1 < 2 ^ 64
can_close t going e =
    let k : t.group + 1 ≤ number_limit = ltb-false number_limit (t.group + 1) (or_none (nat_lt (snap_limit + going) (length (snaps_of (world_of t)) + 1)) (has_no_next_group (world_of t)) e).1 in
    Prim.omega arith

new_opens : (t : Datasets) (name : List ℕ) → first_of (new_row (world_of t) name) ≡ None → t.group + 1 < 2 ^ 64
new_opens t name none = can_close t 0 (or_none (nat_le file_system_limit (len t.file_systems)) (has_no_room (world_of t) 0)
    (row_false (new_row (world_of t) name) none (nat_le file_system_limit (len t.file_systems) || has_no_room (world_of t) 0, TooMany) (inr (inr (inl refl))))).1

takable_now : (ss : FileSystems) (m : Member) → contains_key ss m.file_system ≡ true → is_some (option_and_then (λ (f : FileSystem). find (λ (u : Snap). same_name u.name m.component) f.snaps) (get ss m.file_system)) ≡ false → AreTakable ss (m ∷ [])
takable_now ss m there new =
    let f = some_of (get ss m.file_system) there in
    let none : find (λ (u : Snap). same_name u.name m.component) f.0.snaps ≡ None =
    sym (ap (option_and_then (λ (g : FileSystem). find (λ (u : Snap). same_name u.name m.component) g.snaps)) f.1) ∙ no_value_of _ new in
    takable_at ss m f.0 f.1 (λ u i e. found_none (λ (v : Snap). same_name v.name m.component) f.0.snaps none u i (ap (λ n. same_name n m.component) e ∙ name_itself m.component))

-- ---- the datasets that it begins with

module _ (t : Datasets) (good : AreFileSystems t.file_systems t.group) (views : Views) (m : Member) where
  abbrev w : World
  w = world_of t

  abbrev name : List ℕ
  name = m.file_system

  -- where the file system's newest snapshot has to be the source
  newest_can : (source : ℕ) (force : Bool) → first_of (newest_row (world_of t) m source force) ≡ None → AreTakable t.file_systems (m ∷ [])
  newest_can source force none = takable_now t.file_systems m
      (not-false (contains_key t.file_systems name) (row_false (newest_row w m source force) none (not (contains_key t.file_systems name), NoDataset) (inl refl)))
      (row_false (newest_row w m source force) none (is_some (snap_named w m), Exists) (inr (inl refl)))

  newest_opens : (source : ℕ) (force : Bool) → first_of (newest_row (world_of t) m source force) ≡ None → t.group + 1 < 2 ^ 64
  newest_opens source force none = can_close t 0 (row_false (newest_row w m source force) none (has_no_room w 0, TooMany) (inr (inr (inr (inr (inl refl))))))

  -- a snapshot of the name that goes is the only one of that name
  gone_name : (p : FileSystem × Snap) → get t.file_systems m.file_system ≡ Some p.0 → option_map_or (λ (v : Snap). nat_le v.group p.1.group) (snap_named (world_of t) m) false ≡ false
      → (u : Snap) → IsIn (back_at p.0 p.1).snaps u → u.name ≡ m.component → ⊥
  gone_name p at gone u i same = by_found (find (λ (v : Snap). same_name v.name m.component) p.0.snaps) refl
      (sym (ap (λ x. option_map_or (λ (v : Snap). nat_le v.group p.1.group) (option_and_then (λ (f : FileSystem). find (λ (v : Snap). same_name v.name m.component) f.snaps) x) false) at) ∙ gone)
    where
      here : IsIn p.0.snaps u × (nat_le u.group p.1.group ≡ true)
      here = from_filter (λ (v : Snap). nat_le v.group p.1.group) p.0.snaps u i

      by_found : (y : Option Snap) → find (λ (v : Snap). same_name v.name m.component) p.0.snaps ≡ y → option_map_or (λ (v : Snap). nat_le v.group p.1.group) y false ≡ false → ⊥
      by_found None e k = found_none (λ (v : Snap). same_name v.name m.component) p.0.snaps e u here.0 (ap (λ n. same_name n m.component) same ∙ name_itself m.component)
      by_found (Some v) e k =
          let r = from_find (λ (v : Snap). same_name v.name m.component) p.0.snaps v e in
          let one = (good.tidy name p.0 at).names u v here.0 r.0 (same ∙ sym (one_name v.name m.component r.1)) in
          true≢false (sym here.1 ∙ ap (λ (x : Snap). nat_le x.group p.1.group) one ∙ k)

  past_ready : (source : ℕ) → first_of (past_row (world_of t) views m source) ≡ None → CanFinish (past t m.file_system source) m
  past_ready source none = by_source (source_of w name source) refl (row_false (past_row w views m source) none (stays_past w m source, Exists) (inr (inr (inl refl))))
    where
      opens : t.group + 1 < 2 ^ 64
      opens = can_close t (length (snaps_past w name source))
          (row_false (past_row w views m source) none (has_no_room w (length (snaps_past w name source)), TooMany) (inr (inr (inr (inr (inr (inl refl)))))))

      by_source : (x : Option (FileSystem × Snap)) → source_of (world_of t) m.file_system source ≡ x
          → option_map_or (λ (p : FileSystem × Snap). option_map_or (λ (v : Snap). nat_le v.group p.1.group) (snap_named (world_of t) m) false) x false ≡ false
          → CanFinish (record t { file_systems = (option_map_or (λ (p : FileSystem × Snap). with_losses (world_of t) (with_file_system (world_of t) m.file_system (λ f. back_at f p.1))) x (world_of t)).file_systems }) m
      by_source None e gone = absurd (true≢false (sym (ap (λ (x : Option (FileSystem × Snap)). not (is_some x)) e)
          ∙ row_false (past_row w views m source) none (not (is_some (source_of w name source)), WrongSource) (inr (inl refl))))
      by_source (Some p) e gone =
          let k = from_source w name source p e in
          record {
            takable = subst (λ (x : World). AreTakable x.file_systems (m ∷ []))
                (sym (ap (λ x. option_map_or (λ (f : FileSystem). record w { file_systems = insert w.file_systems name (back_at f p.1) }) x w) k.0))
                (takable_put t.file_systems m (back_at p.0 p.1) (gone_name p k.0 gone));
            opens = opens;
          }

  origin_ready : (origin : Member) (source : ℕ) → first_of (origin_row (world_of t) m.file_system origin source) ≡ None → CanFinish (cloned t m.file_system origin) m
  origin_ready origin source none = by_snap (snap_named w origin) refl
    where
      by_snap : (x : Option Snap) → snap_named (world_of t) origin ≡ x
          → CanFinish (record t { file_systems = (option_map_or (λ (v : Snap). with_clone (world_of t) (id_of v) m.file_system) x (world_of t)).file_systems }) m
      by_snap None e = absurd (true≢false (sym (ap (λ (x : Option Snap). not (is_some x)) e) ∙ row_false (origin_row w name origin source) none (not (is_some (snap_named w origin)), NoDataset) (inl refl)))
      by_snap (Some v) e = record {
        takable = takable_put t.file_systems m (record empty_file_system { live = map_of_snap w (Some (id_of v)); origin = Some (id_of v) }) (λ u i. absurd i);
        opens = can_close t 0 (or_none (nat_le file_system_limit (len t.file_systems)) (has_no_room w 0)
            (row_false (origin_row w name origin source) none (nat_le file_system_limit (len t.file_systems) || has_no_room w 0, TooMany) (inr (inr (inr (inr (inr (inl refl)))))))).1;
      }

  replace_ready : first_of (replace_row (world_of t) views m.file_system) ≡ None → CanFinish (replaced t m.file_system) m
  replace_ready none = by_system (get t.file_systems name) refl
    where
      by_system : (x : Option FileSystem) → get t.file_systems m.file_system ≡ x
          → CanFinish (record t { file_systems = (option_map_or (λ (f : FileSystem). record (world_of t) { file_systems = insert t.file_systems m.file_system (vacated f) }) x (world_of t)).file_systems }) m
      by_system None e = absurd (true≢false (sym (replaced_there w views name none) ∙ ap is_some e))
      by_system (Some f) e = record {
        takable = takable_put t.file_systems m (vacated f) (λ u i. absurd i);
        opens = can_close t (length (snaps_within w (name ∷ [])))
            (row_false (replace_row w views name) none (has_no_room w (length (snaps_within w (name ∷ []))), TooMany) (inr (inr (inr (inr (inl refl))))));
      }

  new_ready : first_of (new_row (world_of t) m.file_system) ≡ None → CanFinish (record t { file_systems = insert t.file_systems m.file_system empty_file_system }) m
  new_ready none = record { takable = takable_put t.file_systems m empty_file_system (λ u i. absurd i); opens = new_opens t name none }

  full_ready : (mode : Receiving) → first_of (full_row (world_of t) views m mode) ≡ None → CanFinish (record t { file_systems = (before_full (world_of t) m.file_system mode).file_systems }) m
  full_ready Plain e = new_ready e
  full_ready Back e = new_ready e
  full_ready Past e = new_ready e
  full_ready (Origin origin) e = no_full w views m origin e
  full_ready Replace e = replace_ready e

  incremental_ready : (source : ℕ) (mode : Receiving) → first_of (incremental_row (world_of t) views m source mode) ≡ None
      → CanFinish (record t { file_systems = (before_incremental (world_of t) m.file_system source mode).file_systems }) m
  incremental_ready source Plain e = record { takable = newest_can source false e; opens = newest_opens source false e }
  incremental_ready source Back e = record { takable = takable_back t m (newest_can source true e); opens = newest_opens source true e }
  incremental_ready source Past e = past_ready source e
  incremental_ready source (Origin origin) e = origin_ready origin source e
  incremental_ready source Replace e = no_incremental w views m source e

  pub ready : (s : Sending) (mode : Receiving) → receive_refusal t views m s mode ≡ None → CanFinish (begun t m.file_system s mode) m
  ready s mode none = by_source (s.source == 0) none
    where
      by_source : (b : Bool) → first_of (if b then full_row (world_of t) views m mode else incremental_row (world_of t) views m s.source mode) ≡ None
          → CanFinish (record t { file_systems = (if b then before_full (world_of t) m.file_system mode else before_incremental (world_of t) m.file_system s.source mode).file_systems }) m
      by_source true e = full_ready mode e
      by_source false e = incremental_ready s.source mode e

pub ready_after : (r : Result WorkingCopy Refusal) (t : Datasets) (m : Member) → IfOk r (λ e. e.to ≡ t) → CanFinish t m → IfOk r (λ e. CanFinish e.to m)
ready_after (Ok e) t m is can = subst (λ (u : Datasets). CanFinish u m) (sym is) can
ready_after (Err e) t m is can = tt
