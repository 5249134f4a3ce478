-- Snapshots of a table under another name.
use Rattle.std.proofs.Common.{◌≡◌, ◌⊎◌, ℕ, Bool, true, false, not, cond, ◌&&◌, ◌||◌, T, List, [], ◌∷◌, ◌++◌, map, Option, Some, None, refl, sym, ap, subst, ◌∙◌, inl, inr, ⊎_elim, true≢false, Ordering, is_lt, suc, ◌+◌, ◌<◌, ◌≤◌, length, take, drop, get_or, Bor, Result, Ok, Err}
use Rattle.std.specs.Prelude.{◌==◌, is_some, IfErr}
use Rattle.std.specs.Result.{IsErrAnd}
use Rattle.std.specs.Arc.{arc_value}
use Rattle.std.specs.declared.sync.Arc.{Arc}
use Rattle.std.specs.declared.alloc.Global.{Global}
use Rattle.std.proofs.lemmas.List.{map-append, take_all, take_more}
use Rattle.std.proofs.lemmas.List.Folds.{list_any-append}
use Rattle.std.proofs.Math.Seq.{split_at}
use Rattle.std.specs.List.{find, list_any}
use Rattle.std.specs.Option.{option_map, option_map_or, option_and_then, option_copied}
use Rattle.std.specs.Cmp.{tied_itself}
use Rattle.std.specs.FinMap.{get, insert, entries, entries_sorted, same_map}
use Rattle.std.specs.FinMap.Entries.{is_sorted}
use Rattle.std.proofs.lemmas.Bool.{eqb-true, eq-eqb}
use Rattle.base.specs.Names.{name_cmp, same_name}
use Rattle.base.specs.Surveys.{IsIn}
use Rattle.base.specs.declared.name.member.Member.{Member}
use Rattle.base.specs.declared.refusal.Refusal.{Refusal}
use Rattle.base.specs.declared.refusal.Refusal.TheVariants.{NoDataset, BadName, Exists, Busy, NoMemory}
use Rattle.model.specs.World.{FileSystem, Snap, SnapId, id_of, snap_named}
use Rattle.model.specs.Lengths.{is_long}
use Rattle.model.specs.State.{Views, is_viewed}
use Rattle.model.specs.Rule.{first_of}
use Rattle.model.specs.requests.RenameSnapshot.{is_in_scope, is_renamed, any_renamed, snapshot_renaming_row}
use Rattle.world.specs.Shapes.{Name, name_order}
use Rattle.world.specs.Tables.{Datasets, world_of}
use Rattle.world.proofs.changes.SnapNames.{renames, with_names, named_at}
use Rattle.world.proofs.lineage.Bridge.{in_entries, from_entries, rising_once}
use Rattle.world.proofs.lineage.Put.{put_here, put_other}
use Rattle.world.proofs.lists.Finding.{from_find, find_none, found_none, any_none, in_right, name_itself, one_name}
use Rattle.removals.proofs.Families.{before_there}
use Rattle.removals.proofs.Needed.{found_there}
use Rattle.removals.proofs.Swept.{any_in}
use Rattle.world.proofs.lists.Maps.{at_entry, entry_of, no_value, key_cases}
use Rattle.world.proofs.views.ViewedRequests.{row_false}
use Rattle.datasets.specs.Renames.{with_snap_named}
use Rattle.datasets.specs.Rows.{Entry, Row, entry_in, snaps_at}
use Rattle.datasets.specs.Holders.{snap_in_system, snapshot_place}
use Rattle.datasets.specs.Clones.{row_in}
use Rattle.snap.proofs.Shared.{any_value, shared_are}
use Rattle.datasets.specs.Table.{IsTable}
use Rattle.datasets.proofs.Removed.{rising_at}
use Rattle.marks.specs.Naming.{snaps_renamed_in, snap_naming_refusal, renamed_at, is_long_at, is_taken_at, is_viewed_at}
use Rattle.removals.proofs.Needed.{any_alike as any_same}
use Rattle.removals.proofs.Emptying.{none_any as any_false}

-- ---- the snapshot of a group under another name

-- a snapshot, where it is of that group
abbrev named_if : List ℕ → ℕ → Snap → Snap
named_if to group t = cond (t.group == group) (record t { name = to }) t

-- a file system, where it has one of that group
abbrev named_in : List ℕ → FileSystem → ℕ → FileSystem
named_in to f group = record f { snaps = map (named_if to group) f.snaps }

-- ---- tests of lists

-- where only one is named, a test of those that are is a test of the one
any_named : (named test : Snap → Bool) (ts : List Snap) → ((v w : Snap) → IsIn ts v → IsIn ts w → named v ≡ true → named w ≡ true → v ≡ w)
    → list_any (λ v. named v && test v) ts ≡ option_map_or test (find named ts) false
any_named named test ts one = by_found (find named ts) refl
  where
    no_test : (w : Snap) (b : Bool) → named w ≡ b → (b ≡ true → test w ≡ false) → (named w && test w) ≡ false
    no_test w true e h = (λ i. e i && h refl i)
    no_test w false e h = ap (λ b. b && test w) e

    by_test : (v : Snap) → IsIn ts v → named v ≡ true → (b : Bool) → test v ≡ b → list_any (λ v. named v && test v) ts ≡ b
    by_test v i e true is = any_in (λ v. named v && test v) ts v i (λ j. e j && is j)
    by_test v i e false is = any_false (λ v. named v && test v) ts (λ w k. no_test w (named w) refl (λ f. ap test (one w v k i f e) ∙ is))

    by_found : (o : Option Snap) → find named ts ≡ o → list_any (λ v. named v && test v) ts ≡ option_map_or test o false
    by_found None e = any_false (λ v. named v && test v) ts (λ w k. no_test w (named w) refl (λ f. absurd (found_none named ts e w k f)))
    by_found (Some v) e = let k = from_find named ts v e in by_test v k.0 k.1 (test v) refl

-- ---- one file system

module _ (t : Datasets) (sound : IsTable t) (n : Name) (f : FileSystem) (at : get t.file_systems n ≡ Some f) where
  names_once : (v w : Snap) → IsIn f.snaps v → IsIn f.snaps w → v.name ≡ w.name → v ≡ w
  names_once = (sound.systems.tidy n f at).names

  groups_once : (v w : Snap) → IsIn f.snaps v → IsIn f.snaps w → v.group ≡ w.group → v ≡ w
  groups_once v w h k e = rising_once 0 f.snaps v w (rising_at t sound n f at) h k e

  module _ (m : Member) (recursive : Bool) where
    -- a test of the snapshot that it renames is one of the file system's that it renames
    tested : (test : Snap → Bool) → list_any (λ (v : Snap). is_renamed m recursive n v && test v) f.snaps ≡ option_map_or test (renamed_at m recursive (n, f)) false
    tested test = by_scope (is_in_scope m recursive n)
      where
        by_scope : (b : Bool) → list_any (λ (v : Snap). (b && same_name v.name m.component) && test v) f.snaps
            ≡ option_map_or test (cond b (find (λ (v : Snap). same_name v.name m.component) f.snaps) None) false
        by_scope true = any_named (λ (v : Snap). same_name v.name m.component) test f.snaps
            (λ v w h k a b. names_once v w h k (one_name v.name m.component a ∙ sym (one_name w.name m.component b)))
        by_scope false = any_false (λ (v : Snap). false && test v) f.snaps (λ v k. refl)

    -- where it renames none, the file system stays
    module _ (to : List ℕ) where
      stays_here : renamed_at m recursive (n, f) ≡ None → with_names m to recursive n f ≡ f
      stays_here e = ap (λ l. record f { snaps = l }) (each f.snaps (λ v k. unnamed v k))
        where
          unnamed : (v : Snap) → IsIn f.snaps v → is_renamed m recursive n v ≡ false
          unnamed v k = by_scope (is_in_scope m recursive n) e
            where
              by_name : (c : Bool) → same_name v.name m.component ≡ c → find (λ (v : Snap). same_name v.name m.component) f.snaps ≡ None → c ≡ false
              by_name true is none = absurd (found_none (λ (v : Snap). same_name v.name m.component) f.snaps none v k is)
              by_name false is none = refl

              by_scope : (b : Bool) → cond b (find (λ (v : Snap). same_name v.name m.component) f.snaps) None ≡ None → (b && same_name v.name m.component) ≡ false
              by_scope true none = by_name (same_name v.name m.component) refl none
              by_scope false none = refl

          each : (ts : List Snap) → ((v : Snap) → IsIn ts v → is_renamed m recursive n v ≡ false) → map (renames m to recursive n) ts ≡ ts
          each [] h = refl
          each (v ∷ ts) h = λ i. cond (h v (inl refl) i) (record v { name = to }) v ∷ each ts (λ w k. h w (inr k)) i

      -- where it renames one, that is the one of its group
      goes_here : (u : Snap) → renamed_at m recursive (n, f) ≡ Some u → named_in to f u.group ≡ with_names m to recursive n f
      goes_here u e = ap (λ l. record f { snaps = l }) (each f.snaps (λ v k. same v k))
        where
          it : (b : Bool) → is_in_scope m recursive n ≡ b → cond b (find (λ (v : Snap). same_name v.name m.component) f.snaps) None ≡ Some u → (is_in_scope m recursive n ≡ true) × IsIn f.snaps u × (same_name u.name m.component ≡ true)
          it true is k = let g = from_find (λ (v : Snap). same_name v.name m.component) f.snaps u k in (is, g.0, g.1)
          it false is k = absurd (no_value u k)

          found : (is_in_scope m recursive n ≡ true) × IsIn f.snaps u × (same_name u.name m.component ≡ true)
          found = it (is_in_scope m recursive n) refl e

          same : (v : Snap) → IsIn f.snaps v → (v.group == u.group) ≡ is_renamed m recursive n v
          same v k = by_group (v.group == u.group) refl (same_name v.name m.component) refl ∙ ap (λ b. b && same_name v.name m.component) (sym found.0)
            where
              by_group : (b : Bool) → (v.group == u.group) ≡ b → (c : Bool) → same_name v.name m.component ≡ c → (v.group == u.group) ≡ same_name v.name m.component
              by_group true p true q = p ∙ sym q
              by_group true p false q = absurd (true≢false (sym found.2 ∙ ap (λ (x : Snap). same_name x.name m.component) (sym (groups_once v u k found.1 (eqb-true v.group u.group p))) ∙ q))
              by_group false p true q = absurd (true≢false (sym (eq-eqb v.group u.group (ap (λ (x : Snap). x.group) (names_once v u k found.1 (one_name v.name m.component q ∙ sym (one_name u.name m.component found.2))))) ∙ p))
              by_group false p false q = p ∙ sym q

          each : (ts : List Snap) → ((v : Snap) → IsIn ts v → (v.group == u.group) ≡ is_renamed m recursive n v) → map (named_if to u.group) ts ≡ map (renames m to recursive n) ts
          each [] h = refl
          each (v ∷ ts) h = λ i. cond (h v (inl refl) i) (record v { name = to }) v ∷ each ts (λ w k. h w (inr k)) i

-- ---- the file systems one after another

-- one of these has that name
abbrev pub has_one : List Entry → Name → Bool
has_one es n = list_any (λ (e : Entry). same_name e.0 n) es

any_joined : {A : Type 0} (p : A → Bool) (xs : List A) (x : A) → list_any p (xs ++ x ∷ []) ≡ (list_any p xs || p x)
any_joined p xs x = list_any-append p xs (x ∷ []) ∙ ap (λ b. list_any p xs || b) (or_idle (p x))
  where
    or_idle : (b : Bool) → (b || false) ≡ b
    or_idle true = refl
    or_idle false = refl

module _ (t : Datasets) (m : Member) (to : List ℕ) (recursive : Bool) where
  -- the snapshots of these file systems have their new names, and all else is as it is in the table
  pub record IsUpto (es : List Entry) (copy : Datasets) : Type 0 where
    pub at : (n : Name) → get copy.file_systems n ≡ option_map (λ f. cond (has_one es n) (with_names m to recursive n f) f) (get t.file_systems n)
    pub group : copy.group ≡ t.group

  pub none_yet : IsUpto [] t
  none_yet = record { at = λ n. sym (idle (get t.file_systems n)); group = refl }
    where
      idle : (o : Option FileSystem) → option_map (λ f. f) o ≡ o
      idle None = refl
      idle (Some f) = refl

  -- all have them
  pub all_named : (copy : Datasets) → IsUpto (entries t.file_systems) copy → copy ≡ snaps_renamed_in t m to recursive
  all_named copy upto = λ i. record { file_systems = systems i; group = upto.group i }
    where
      full : (n : Name) (o : Option FileSystem) → get t.file_systems n ≡ o → option_map (λ f. cond (has_one (entries t.file_systems) n) (with_names m to recursive n f) f) o ≡ option_map (with_names m to recursive n) o
      full n None e = refl
      full n (Some f) e = ap (λ b. Some (cond b (with_names m to recursive n f) f))
          (any_in (λ (e : Entry). same_name e.0 n) (entries t.file_systems) (n, f) (in_entries (entries t.file_systems) n f (entry_of name_order t.file_systems n f e)) (name_itself n))

      systems : copy.file_systems ≡ (snaps_renamed_in t m to recursive).file_systems
      systems = same_map name_order.total name_order.exact _ _ (λ n. upto.at n ∙ full n (get t.file_systems n) refl ∙ sym (named_at m to recursive (world_of t) n))

  module _ (sound : IsTable t) (done rest : List Entry) (r : Entry) (parts : entries t.file_systems ≡ done ++ r ∷ rest) (copy : Datasets) (upto : IsUpto done copy) where
    here : get t.file_systems r.0 ≡ Some r.1
    here = at_entry name_order t.file_systems r.0 r.1 (from_entries (entries t.file_systems) r (subst (λ l. IsIn l r) (sym parts) (in_right done (r ∷ rest) r (inl refl))))

    fresh : has_one done r.0 ≡ false
    fresh = any_false (λ (e : Entry). same_name e.0 r.0) done (λ e k. by_test e k (same_name e.0 r.0) refl)
      where
        by_test : (e : Entry) → IsIn done e → (b : Bool) → same_name e.0 r.0 ≡ b → same_name e.0 r.0 ≡ false
        by_test e k true is = absurd (subst (λ (o : Ordering). T (is_lt o)) (ap (λ x. name_cmp x r.0) (one_name e.0 r.0 is) ∙ tied_itself name_order.total r.0)
            (before_there done r rest (subst (λ l. T (is_sorted name_cmp l)) parts (entries_sorted t.file_systems)) e k))
        by_test e k false is = is

    pub copy_here : get copy.file_systems r.0 ≡ Some r.1
    copy_here = upto.at r.0 ∙ ap (option_map (λ f. cond (has_one done r.0) (with_names m to recursive r.0 f) f)) here ∙ ap (λ b. Some (cond b (with_names m to recursive r.0 r.1) r.1)) fresh

    -- this one, once it has its new name, and no other
    more : (copy' : Datasets) → copy'.group ≡ copy.group → get copy'.file_systems r.0 ≡ Some (with_names m to recursive r.0 r.1)
        → ((n : Name) → ¬ (n ≡ r.0) → get copy'.file_systems n ≡ get copy.file_systems n) → IsUpto (done ++ r ∷ []) copy'
    more copy' group at_it others = record {
      at = λ n. ⊎_elim
          (λ (is : n ≡ r.0).
          ap (get copy'.file_systems) is ∙ at_it
          ∙ sym (ap (λ x. option_map (λ f. cond (has_one (done ++ r ∷ []) x) (with_names m to recursive x f) f) (get t.file_systems x)) is
          ∙ ap (option_map (λ f. cond (has_one (done ++ r ∷ []) r.0) (with_names m to recursive r.0 f) f)) here
          ∙ ap (λ b. Some (cond b (with_names m to recursive r.0 r.1) r.1)) (any_in (λ (e : Entry). same_name e.0 r.0) (done ++ r ∷ []) r (in_right done (r ∷ []) r (inl refl)) (name_itself r.0))))
          (λ (ne : ¬ (n ≡ r.0)).
          others n ne ∙ upto.at n
          ∙ ap (λ b. option_map (λ f. cond b (with_names m to recursive n f) f) (get t.file_systems n)) (sym (any_joined (λ (e : Entry). same_name e.0 n) done r ∙ elsewhere n ne (has_one done n) (same_name r.0 n) refl)))
          (key_cases name_order n r.0);
      group = group ∙ upto.group;
    }
      where
        elsewhere : (n : Name) → ¬ (n ≡ r.0) → (a b : Bool) → same_name r.0 n ≡ b → (a || b) ≡ a
        elsewhere n ne true b e = refl
        elsewhere n ne false true e = absurd (ne (sym (one_name r.0 n e)))
        elsewhere n ne false false e = refl

    pub passed : renamed_at m recursive r ≡ None → IsUpto (done ++ r ∷ []) copy
    passed none = more copy refl (copy_here ∙ ap Some (sym (stays_here t sound r.0 r.1 here m recursive to none))) (λ n ne. refl)

    pub named_one : (u : Snap) → renamed_at m recursive r ≡ Some u → (copy' : Datasets) → copy' ≡ with_snap_named copy r.0 u.group to → IsUpto (done ++ r ∷ []) copy'
    named_one u is copy' made = more copy' (ap (λ (x : Datasets). x.group) made)
        (ap (λ (x : Datasets). get x.file_systems r.0) made ∙ ap (λ x. get x r.0) put ∙ put_here copy.file_systems r.0 (named_in to r.1 u.group) ∙ ap Some (goes_here t sound r.0 r.1 here m recursive to u is))
        (λ n ne. ap (λ (x : Datasets). get x.file_systems n) made ∙ ap (λ x. get x n) put ∙ put_other copy.file_systems r.0 (named_in to r.1 u.group) n ne)
      where
        put : (with_snap_named copy r.0 u.group to).file_systems ≡ insert copy.file_systems r.0 (named_in to r.1 u.group)
        put = ap (λ o. option_map_or (λ f. insert copy.file_systems r.0 (named_in to f u.group)) o copy.file_systems) copy_here

    -- the new name is free, and the snapshot is there
    module _ (u : Snap) (is : renamed_at m recursive r ≡ Some u) where
      snaps_here : snaps_at copy.file_systems r.0 ≡ r.1.snaps
      snaps_here = ap (λ o. option_map_or (λ (f : FileSystem). f.snaps) o []) copy_here

      pub free_here : list_any (is_taken_at m to recursive) (entries t.file_systems) ≡ false → find (λ (v : Snap). same_name v.name to) (snaps_at copy.file_systems r.0) ≡ None
      free_here free =
          ap (find (λ (v : Snap). same_name v.name to)) snaps_here
          ∙ find_none (λ (v : Snap). same_name v.name to) r.1.snaps (λ v k e. true≢false (sym e ∙ any_none (λ (v : Snap). same_name v.name to) r.1.snaps untaken v k))
        where
          untaken : list_any (λ (v : Snap). same_name v.name to) r.1.snaps ≡ false
          untaken =
              sym (ap (λ o. option_map_or (λ (v : Snap). list_any (λ (w : Snap). same_name w.name to) r.1.snaps) o false) is)
              ∙ any_none (is_taken_at m to recursive) (entries t.file_systems) free r (subst (λ l. IsIn l r) (sym parts) (in_right done (r ∷ rest) r (inl refl)))

      among : IsIn r.1.snaps u
      among = by_scope (is_in_scope m recursive r.0) is
        where
          by_scope : (b : Bool) → cond b (find (λ (v : Snap). same_name v.name m.component) r.1.snaps) None ≡ Some u → IsIn r.1.snaps u
          by_scope true e = (from_find (λ (v : Snap). same_name v.name m.component) r.1.snaps u e).0
          by_scope false e = absurd (no_value u e)

      pub there_here : is_some (snap_in_system copy r.0 (id_of u)) ≡ true
      there_here = found_there copy r.0 r.1 u copy_here among

-- ---- the rows of a table

pub split_rows : (es : List Entry) (rows : List (Arc Row Global)) (i : ℕ) (x : Arc Row Global) → map entry_in rows ≡ es → i < length rows → x ≡ get_or rows i x
    → es ≡ map entry_in (take i rows) ++ entry_in x ∷ map entry_in (drop (suc i) rows)
split_rows es rows i x are lt is =
    sym are ∙ ap (map entry_in) (split_at rows i x lt ∙ ap (λ z. take i rows ++ z ∷ drop (suc i) rows) (sym is)) ∙ map-append entry_in (take i rows) (x ∷ drop (suc i) rows)

pub more_rows : (rows : List (Arc Row Global)) (i : ℕ) (x : Arc Row Global) → i < length rows → x ≡ get_or rows i x → map entry_in (take i rows) ++ entry_in x ∷ [] ≡ map entry_in (take (i + 1) rows)
more_rows rows i x lt is = sym (map-append entry_in (take i rows) (x ∷ [])) ∙ ap (map entry_in) (sym (take_more rows i x lt ∙ ap (λ z. take i rows ++ z ∷ []) (sym is)))

-- a test finds one exactly where one passes it
pub any_found : {A : Type 0} (p : A → Bool) (xs : List A) → is_some (find p xs) ≡ list_any p xs
any_found p [] = refl
any_found p (x ∷ xs) = by_test (p x) (any_found p xs)
  where
    by_test : (b : Bool) → is_some (find p xs) ≡ list_any p xs → is_some (cond b (Some x) (find p xs)) ≡ (b || list_any p xs)
    by_test true e = refl
    by_test false e = e

pub copied_some : {B : Type 0} (r : Option (Bor B)) (x : Option B) → option_copied r ≡ x → is_some x ≡ is_some r
copied_some None x e = ap is_some (sym e)
copied_some (Some a) x e = ap is_some (sym e)

-- a test of what a table's rows stand for
pub row_any : (t : Datasets) (p : Entry → Bool) (rows : List (Arc Row Global)) → map (arc_value {X = Row}) rows ≡ map (row_in t.file_systems) (entries t.file_systems) → (b : Bool)
    → b ≡ list_any (λ a. p (entry_in a)) rows → list_any p (entries t.file_systems) ≡ b
row_any t p rows are b is = sym (is ∙ any_value entry_in p rows ∙ ap (list_any p) (shared_are t.file_systems rows are))

pub all_rows : (es : List Entry) (rows : List (Arc Row Global)) (i : ℕ) → map entry_in rows ≡ es → length rows ≤ i → map entry_in (take i rows) ≡ es
all_rows es rows i are le = ap (map entry_in) (take_all i rows le) ∙ are

pub found_at : {B : Type 0} (r : Option (Bor B)) (a : Bor B) (x : Option B) → option_copied r ≡ x → r ≡ Some a → x ≡ Some a.now
found_at r a x e is = sym e ∙ ap option_copied is

-- ---- why it is refused

pub err_is : {T : Type 0} (r : Result T Refusal) (e : Refusal) → IsErrAnd r (λ y. y ≡ e) → e ≡ NoMemory → IfErr r (λ y. y ≡ NoMemory)
err_is (Ok v) e is only = tt
err_is (Err y) e is only = is ∙ only

pub only_err : {T : Type 0} (r : Result T Refusal) (e : Refusal) → IfErr r (λ y. ⊥ ⊎ (y ≡ NoMemory)) → r ≡ Err e → e ≡ NoMemory
only_err (Ok v) e h is = absurd (cc)
only_err (Err y) e (inl k) is = absurd k
only_err (Err y) e (inr k) is = let same : y ≡ e = cc in sym same ∙ k

module _ (t : Datasets) (sound : IsTable t) (m : Member) (to : List ℕ) (recursive : Bool) where
  -- a test of each snapshot that it renames is one of each file system's
  pub any_is : (test : Name → FileSystem → Snap → Bool)
      → any_renamed (world_of t) m recursive test ≡ list_any (λ (e : Entry). option_map_or (test e.0 e.1) (renamed_at m recursive e) false) (entries t.file_systems)
  any_is test = any_same _ _ (entries t.file_systems) (λ e k. tested t sound e.0 e.1 (at_entry name_order t.file_systems e.0 e.1 (from_entries (entries t.file_systems) e k)) m recursive (test e.0 e.1))

  module _ (views : Views) where
    abbrev by_row : Bool → Bool → Bool → Bool → Option Refusal
    by_row there long taken seen = first_of ((not there, NoDataset) ∷ (long, BadName) ∷ (taken, Exists) ∷ (seen, Busy) ∷ [])

    pub refusal_is : (there long taken seen : Bool) → is_some (snap_named (world_of t) m) ≡ there
        → list_any (is_long_at m to recursive) (entries t.file_systems) ≡ long → list_any (is_taken_at m to recursive) (entries t.file_systems) ≡ taken
        → list_any (is_viewed_at views m recursive) (entries t.file_systems) ≡ seen → snap_naming_refusal t views m to recursive ≡ by_row there long taken seen
    refusal_is there long taken seen a b c d = λ i. by_row (a i)
        ((any_is (λ n f v. is_long (length n) to) ∙ b) i)
        ((any_is (λ n f v. list_any (λ (w : Snap). same_name w.name to) f.snaps) ∙ c) i)
        ((any_is (λ n f v. is_viewed views (id_of v)) ∙ d) i)

    -- nothing refuses it, so the new name is free
    pub untaken : snap_naming_refusal t views m to recursive ≡ None → list_any (is_taken_at m to recursive) (entries t.file_systems) ≡ false
    untaken none = sym (any_is (λ n f v. list_any (λ (w : Snap). same_name w.name to) f.snaps))
        ∙ row_false (snapshot_renaming_row (world_of t) views m to recursive) none (any_renamed (world_of t) m recursive (λ n f v. list_any (λ (w : Snap). same_name w.name to) f.snaps), Exists) (inr (inr (inl refl)))

-- ---- the snapshot that is named, alone

-- the snapshot of this name, and its file system
pub record IsOwn (t : Datasets) (m : Member) (f : FileSystem) (u : Snap) : Type 0 where
  pub at : get t.file_systems m.file_system ≡ Some f
  pub found : find (λ (v : Snap). same_name v.name m.component) f.snaps ≡ Some u

own_in : (t : Datasets) (m : Member) (x : Option FileSystem) → get t.file_systems m.file_system ≡ x → (u : Snap)
    → option_and_then (λ (f : FileSystem). find (λ (v : Snap). same_name v.name m.component) f.snaps) x ≡ Some u → (f : FileSystem) × IsOwn t m f u
own_in t m None at u e = absurd (no_value u e)
own_in t m (Some f) at u e = (f, record { at = at; found = e })

pub own_named : (t : Datasets) (m : Member) (id : SnapId) → option_map {T = Snap} id_of (snap_named (world_of t) m) ≡ Some id → (f : FileSystem) × (u : Snap) × IsOwn t m f u × (id_of u ≡ id)
own_named t m id e = by_snap (snap_named (world_of t) m) refl e
  where
    by_snap : (x : Option Snap) → snap_named (world_of t) m ≡ x → option_map {T = Snap} id_of x ≡ Some id → (f : FileSystem) × (u : Snap) × IsOwn t m f u × (id_of u ≡ id)
    by_snap None is k = absurd (no_value id k)
    by_snap (Some u) is k = let own = own_in t m (get t.file_systems m.file_system) refl u is in (own.0, u, own.1, ap (λ o. option_map_or (λ (d : SnapId). d) o id) k)

-- its row
abbrev pair : Row → Snap → Row × Snap
pair r u = (r, u)

abbrev placed_by : Datasets → Member → FileSystem → Option Snap → Option (Row × Snap)
placed_by t m f y = option_map (λ v. (row_in t.file_systems (m.file_system, f), v)) y

abbrev place_in : Datasets → Member → Option FileSystem → Option (Row × Snap)
place_in t m x = option_and_then (λ f. placed_by t m f (find (λ (v : Snap). same_name v.name m.component) f.snaps)) x

pub own_placed : (t : Datasets) (m : Member) (r : Row) (u : Snap) → Some (r, u) ≡ snapshot_place t m → (r.name ≡ m.file_system) × IsOwn t m r.system u
own_placed t m r u e = by_system (get t.file_systems m.file_system) refl e
  where
    by_system : (x : Option FileSystem) → get t.file_systems m.file_system ≡ x → Some (r, u) ≡ place_in t m x → (r.name ≡ m.file_system) × IsOwn t m r.system u
    by_system None at k = absurd (no_value (pair r u) (sym k))
    by_system (Some f) at k = by_snap (find (λ (v : Snap). same_name v.name m.component) f.snaps) refl k
      where
        by_snap : (y : Option Snap) → find (λ (v : Snap). same_name v.name m.component) f.snaps ≡ y → Some (r, u) ≡ placed_by t m f y → (r.name ≡ m.file_system) × IsOwn t m r.system u
        by_snap None is j = absurd (no_value (pair r u) (sym j))
        by_snap (Some v) is j =
            let row : r ≡ row_in t.file_systems (m.file_system, f) = ap (λ (o : Option (Row × Snap)). option_map_or (λ (p : Row × Snap). p.0) o r) j in
            let snap : u ≡ v = ap (λ (o : Option (Row × Snap)). option_map_or (λ (p : Row × Snap). p.1) o u) j in (
              ap (λ (x : Row). x.name) row,
              record {
                at = at ∙ ap Some (sym (ap (λ (x : Row). x.system) row));
                found = ap (λ (x : Row). find (λ (v : Snap). same_name v.name m.component) x.system.snaps) row ∙ is ∙ ap Some (sym snap);
              },
            )

module _ (t : Datasets) (sound : IsTable t) (m : Member) (f : FileSystem) (u : Snap) (own : IsOwn t m f u) where
  abbrev entry : Entry
  entry = (m.file_system, f)

  entry_there : IsIn (entries t.file_systems) entry
  entry_there = in_entries (entries t.file_systems) m.file_system f (entry_of name_order t.file_systems m.file_system f own.at)

  pub there_named : is_some (snap_named (world_of t) m) ≡ true
  there_named = ap (λ (o : Option FileSystem). is_some (option_and_then (λ (s : FileSystem). find (λ (v : Snap). same_name v.name m.component) s.snaps) o)) own.at ∙ ap is_some own.found

  pub has_own : is_some (snap_in_system t m.file_system (id_of u)) ≡ true
  has_own = found_there t m.file_system f u own.at (from_find (λ (v : Snap). same_name v.name m.component) f.snaps u own.found).0

  renamed_own : renamed_at m false entry ≡ Some u
  renamed_own = ap (λ b. cond b (find (λ (v : Snap). same_name v.name m.component) f.snaps) None) (name_itself m.file_system) ∙ own.found

  -- a test of each file system's snapshot that it renames is one of this one
  abbrev tested_at : (Entry → Snap → Bool) → Entry → Bool
  tested_at test e = option_map_or (test e) (renamed_at m false e) false

  only_own : (test : Entry → Snap → Bool) → list_any (tested_at test) (entries t.file_systems) ≡ test entry u
  only_own test = by_value (tested_at test entry) refl ∙ ap (λ o. option_map_or (test entry) o false) renamed_own
    where
      by_value : (b : Bool) → tested_at test entry ≡ b → list_any (tested_at test) (entries t.file_systems) ≡ tested_at test entry
      by_value true is = any_in (tested_at test) (entries t.file_systems) entry entry_there is ∙ sym is
      by_value false is = any_false (tested_at test) (entries t.file_systems) (λ e k. by_name e k (same_name e.0 m.file_system) refl) ∙ sym is
        where
          by_name : (e : Entry) → IsIn (entries t.file_systems) e → (b : Bool) → same_name e.0 m.file_system ≡ b → tested_at test e ≡ false
          by_name e k true here =
              let name = one_name e.0 m.file_system here in
              let system : e.1 ≡ f = ap (λ o. option_map_or (λ (x : FileSystem). x) o f)
              (sym (at_entry name_order t.file_systems e.0 e.1 (from_entries (entries t.file_systems) e k)) ∙ ap (get t.file_systems) name ∙ own.at) in
              (λ i. tested_at test (name i, system i)) ∙ is
          by_name e k false here = ap (λ b. option_map_or (test e) (cond b (find (λ (v : Snap). same_name v.name m.component) e.1.snaps) None) false) here

  module _ (to : List ℕ) where
    -- why it is refused
    pub refusal_own : (views : Views) (name : Name) → name ≡ m.file_system
        → first_of ((is_long (length name) to, BadName) ∷ (list_any (λ (w : Snap). same_name w.name to) f.snaps, Exists) ∷ (is_viewed views (id_of u), Busy) ∷ []) ≡ snap_naming_refusal t views m to false
    refusal_own views name is =
        ap (λ n. first_of ((is_long (length n) to, BadName) ∷ (list_any (λ (w : Snap). same_name w.name to) f.snaps, Exists) ∷ (is_viewed views (id_of u), Busy) ∷ [])) is
        ∙ sym (refusal_is t sound m to false views true (is_long (length m.file_system) to) (list_any (λ (w : Snap). same_name w.name to) f.snaps) (is_viewed views (id_of u))
        there_named (only_own (λ e v. is_long (length e.0) to)) (only_own (λ e v. list_any (λ (w : Snap). same_name w.name to) e.1.snaps)) (only_own (λ e v. is_viewed views (id_of v))))

    -- where nothing refuses it no snapshot of the file system has the new name
    pub free_own : list_any (is_taken_at m to false) (entries t.file_systems) ≡ false → find (λ (v : Snap). same_name v.name to) (snaps_at t.file_systems m.file_system) ≡ None
    free_own free =
        ap (λ o. find (λ (v : Snap). same_name v.name to) (option_map_or (λ (g : FileSystem). g.snaps) o [])) own.at
        ∙ find_none (λ (v : Snap). same_name v.name to) f.snaps (λ v k e. true≢false (sym e
        ∙ any_none (λ (w : Snap). same_name w.name to) f.snaps (sym (only_own (λ e v. list_any (λ (w : Snap). same_name w.name to) e.1.snaps)) ∙ free) v k))

    -- the datasets after it
    pub named_own : with_snap_named t m.file_system u.group to ≡ snaps_renamed_in t m to false
    named_own = λ i. record { file_systems = systems i; group = t.group }
      where
        put : (with_snap_named t m.file_system u.group to).file_systems ≡ insert t.file_systems m.file_system (named_in to f u.group)
        put = ap (λ o. option_map_or (λ (g : FileSystem). insert t.file_systems m.file_system (named_in to g u.group)) o t.file_systems) own.at

        other : (n : Name) → ¬ (n ≡ m.file_system) → (b : Bool) → same_name n m.file_system ≡ b → (g : FileSystem) → renamed_at m false (n, g) ≡ None
        other n ne true is g = absurd (ne (one_name n m.file_system is))
        other n ne false is g = ap (λ b. cond b (find (λ (v : Snap). same_name v.name m.component) g.snaps) None) is

        stays : (n : Name) → ¬ (n ≡ m.file_system) → (o : Option FileSystem) → get t.file_systems n ≡ o → o ≡ option_map (with_names m to false n) o
        stays n ne None e = refl
        stays n ne (Some g) e = ap Some (sym (stays_here t sound n g e m false to (other n ne (same_name n m.file_system) refl g)))

        at_key : (n : Name) → get (with_snap_named t m.file_system u.group to).file_systems n ≡ option_map (with_names m to false n) (get t.file_systems n)
        at_key n = ap (λ x. get x n) put ∙ ⊎_elim
            (λ (is : n ≡ m.file_system).
            ap (get (insert t.file_systems m.file_system (named_in to f u.group))) is ∙ put_here t.file_systems m.file_system (named_in to f u.group)
            ∙ ap Some (goes_here t sound m.file_system f own.at m false to u renamed_own) ∙ ap (option_map (with_names m to false m.file_system)) (sym own.at)
            ∙ sym (ap (λ x. option_map (with_names m to false x) (get t.file_systems x)) is))
            (λ (ne : ¬ (n ≡ m.file_system)). put_other t.file_systems m.file_system (named_in to f u.group) n ne ∙ stays n ne (get t.file_systems n) refl)
            (key_cases name_order n m.file_system)

        systems : (with_snap_named t m.file_system u.group to).file_systems ≡ (snaps_renamed_in t m to false).file_systems
        systems = same_map name_order.total name_order.exact _ _ (λ n. at_key n ∙ sym (named_at m to false (world_of t) n))
