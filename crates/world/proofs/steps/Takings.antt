-- A request for snapshots that nothing refuses: what it asks of its names, and what the snapshots leave alone.
use Rattle.std.proofs.Common.{◌≡◌, ◌≤◌, ℕ, ◌+◌, Bool, true, false, not, cond, ◌&&◌, ◌||◌, List, [], ◌∷◌, Option, Some, None, refl, sym, ap, subst, ◌∙◌, true≢false, inl, inr, ⊎_elim, length, ◌++◌}
use Rattle.std.specs.Prelude.{IsSome, is_some, nat_lt}
use Rattle.std.specs.List.{find, list_any}
use Rattle.std.specs.Option.{option_map_or, option_and_then}
use Rattle.std.specs.FinMap.{get, keys, entries, contains_key, insert}
use Rattle.std.proofs.lemmas.Bool.{not-false, ltb-false}
use Rattle.base.specs.declared.refusal.Refusal.{Refusal}
use Rattle.base.specs.declared.refusal.Refusal.TheVariants.{NoDataset, BadName, Exists, TooMany}
use Rattle.base.specs.declared.name.member.Member.{Member}
use Rattle.base.specs.Names.{same_name, is_descendant, whole_length}
use Rattle.base.specs.Surveys.{IsIn}
use Rattle.model.specs.World.{World, FileSystem, Snap, snap_named, family_of}
use Rattle.model.specs.Targets.{name_limit}
use Rattle.model.specs.Rule.{first_of}
use Rattle.model.specs.requests.Snapshot.{snap_of_live, named_with, snapshot_names, with_snapshots, has_twice, has_no_room_for, taking_row}
use Rattle.world.specs.Shapes.{Name, name_order}
use Rattle.world.specs.Takings.{AreTakable}
use Rattle.world.proofs.lists.Maps.{some_of, at_entry}
use Rattle.world.proofs.lineage.Bridge.{from_entries}
use Rattle.world.proofs.lists.Listed.{in_map}
use Rattle.world.proofs.lists.Finding.{or_none, found_none, any_none, from_filter, from_flat, name_itself}

-- ---- what the row says

-- each name's file system is there, no snapshot has one of all names already, no file system stands twice, and there is room for them
pub record MayTake (w : World) (next_guid : ℕ) (names all : List Member) : Type 0 where
  pub there : (m : Member) → IsIn names m → IsSome (get w.file_systems m.file_system)
  pub short : (m : Member) → IsIn all m → whole_length m ≤ name_limit
  pub new : (m : Member) → IsIn all m → snap_named w m ≡ None
  pub apart : has_twice all ≡ false
  pub room : nat_lt 0 (length all) ≡ true → has_no_room_for w next_guid (length all) ≡ false

none_holds : (a b c d : Bool)
    → cond {A = Option Refusal} a (Some NoDataset) (cond b (Some BadName) (cond c (Some Exists) (cond d (Some TooMany) None))) ≡ None
    → (a ≡ false) × (b ≡ false) × (c ≡ false) × (d ≡ false)
none_holds true b c d e = absurd cc
none_holds false true c d e = absurd cc
none_holds false false true d e = absurd cc
none_holds false false false true e = absurd cc
none_holds false false false false e = (refl, refl, refl, refl)

no_value_of : {A : Type 0} (x : Option A) → is_some x ≡ false → x ≡ None
no_value_of None e = refl
no_value_of (Some a) e = absurd (true≢false e)

right_none : (a b : Bool) → (a && b) ≡ false → a ≡ true → b ≡ false
right_none true b e t = e
right_none false b e t = absurd (true≢false (sym t))

pub may_take : (w : World) (next_guid : ℕ) (names all : List Member) → first_of (taking_row w next_guid names all) ≡ None → MayTake w next_guid names all
may_take w next_guid names all none =
    let r = none_holds _ _ _ _ none in
    let e = or_none _ _ r.2 in
    record {
      there = λ m i. not-false (contains_key w.file_systems m.file_system) (any_none (λ m. not (contains_key w.file_systems m.file_system)) names r.0 m i);
      short = λ m i. ltb-false name_limit (whole_length m) (any_none (λ m. nat_lt name_limit (whole_length m)) all r.1 m i);
      new = λ m i. no_value_of (snap_named w m) (any_none (λ m. is_some (snap_named w m)) all e.0 m i);
      apart = e.1;
      room = right_none _ _ r.3;
    }

-- ---- what a list of names stands for

-- the members of a family are there
family_there : (w : World) (name n : Name) → IsIn (family_of w name) n → IsSome (get w.file_systems n)
family_there w name n h =
    let k = from_filter (λ n. same_name n name || is_descendant name n) (keys w.file_systems) n h in
    let e = in_map (λ (e : Name × FileSystem). e.0) (entries w.file_systems) n k.0 in
    ap is_some (ap (get w.file_systems) e.2 ∙ at_entry name_order w.file_systems e.0.0 e.0.1 (from_entries (entries w.file_systems) e.0 e.1))

-- each stands for a file system that is there, where each of the names does
pub named_there : (w : World) (names : List Member) (recursive : Bool) → ((m : Member) → IsIn names m → IsSome (get w.file_systems m.file_system))
    → (m : Member) → IsIn (snapshot_names w names recursive) m → IsSome (get w.file_systems m.file_system)
named_there w names recursive there m h =
    let r = from_flat (named_with w recursive) names m h in
    by_kind r.0 (there r.0 r.1) recursive r.2
  where
    by_kind : (n : Member) → IsSome (get w.file_systems n.file_system) → (recursive : Bool) → IsIn (named_with w recursive n) m → IsSome (get w.file_systems m.file_system)
    by_kind n is true i =
        let e = in_map {B = Member} (λ name. record { file_system = name; component = n.component }) (family_of w n.file_system) m i in
        subst (λ (x : Member). IsSome (get w.file_systems x.file_system)) (sym e.2) (family_there w n.file_system e.0 e.1)
    by_kind n is false i = ⊎_elim (λ (e : m ≡ n). subst (λ (x : Member). IsSome (get w.file_systems x.file_system)) (sym e) is) (λ k. absurd k) i

-- ---- they may be taken

module _ (w : World) where
  -- no snapshot of the file system has the name
  unnamed : (m : Member) (f : FileSystem) → get w.file_systems m.file_system ≡ Some f → snap_named w m ≡ None → (u : Snap) → IsIn f.snaps u → u.name ≡ m.component → ⊥
  unnamed m f at none u i e =
      found_none (λ (t : Snap). same_name t.name m.component) f.snaps
      (sym (ap (option_and_then (λ (f : FileSystem). find (λ t. same_name t.name m.component) f.snaps)) at) ∙ none) u i
      (ap (λ n. same_name n m.component) e ∙ name_itself m.component)

  each_takable : (ms : List Member) → ((m : Member) → IsIn ms m → IsSome (get w.file_systems m.file_system)) → ((m : Member) → IsIn ms m → snap_named w m ≡ None)
      → has_twice ms ≡ false → AreTakable w.file_systems ms
  each_takable [] there new apart = tt
  each_takable (m ∷ ms) there new apart =
      let f = some_of (get w.file_systems m.file_system) (there m (inl refl)) in
      let k = or_none (list_any (λ n. same_name n.file_system m.file_system) ms) (has_twice ms) apart in (
        (f.0, f.1, unnamed m f.0 f.1 (new m (inl refl))),
        λ n i e. true≢false (sym (ap (λ x. same_name x m.file_system) e ∙ name_itself m.file_system) ∙ any_none (λ n. same_name n.file_system m.file_system) ms k.0 n i),
        each_takable ms (λ n i. there n (inr i)) (λ n i. new n (inr i)) k.1,
      )

  pub takable : (next_guid : ℕ) (names : List Member) (recursive : Bool) → first_of (taking_row w next_guid names (snapshot_names w names recursive)) ≡ None
      → AreTakable w.file_systems (snapshot_names w names recursive)
  takable next_guid names recursive none =
      let may = may_take w next_guid names (snapshot_names w names recursive) none in
      each_takable (snapshot_names w names recursive) (named_there w names recursive may.there) may.new may.apart

-- ---- what they leave alone

-- snapshots change neither the open group nor what is to be freed
pub snapshots_leave : (ms : List Member) (guid : ℕ) (w : World) → ((with_snapshots w guid ms).group ≡ w.group) × ((with_snapshots w guid ms).freeing ≡ w.freeing)
snapshots_leave [] guid w = (refl, refl)
snapshots_leave (m ∷ ms) guid w = by_name (λ v. snapshots_leave ms (guid + 1) v) (get w.file_systems m.file_system)
  where
    longer : FileSystem → World
    longer s = record w { file_systems = insert w.file_systems m.file_system (record s { snaps = s.snaps ++ snap_of_live w s m.component guid ∷ [] }) }

    by_name : ((v : World) → ((with_snapshots v (guid + 1) ms).group ≡ v.group) × ((with_snapshots v (guid + 1) ms).freeing ≡ v.freeing))
        → (x : Option FileSystem) → ((with_snapshots (option_map_or longer x w) (guid + 1) ms).group ≡ w.group) × ((with_snapshots (option_map_or longer x w) (guid + 1) ms).freeing ≡ w.freeing)
    by_name rest None = rest w
    by_name rest (Some s) = rest (longer s)
