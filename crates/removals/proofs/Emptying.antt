-- The file systems of a family are emptied, those first whose origins are of the latest groups.
use Rattle.std.proofs.Common.{◌≡◌, ◌⊎◌, ◌<◌, ◌≤◌, ◌+◌, ◌-◌, ℕ, zero, suc, Bool, true, false, cond, ◌&&◌, ◌||◌, List, [], ◌∷◌, map, length, drop, get_or, Option, Some, None, Result, Ok, Err, refl, sym, ap, subst, ◌∙◌, true≢false, inl, inr, ⊎_elim, arith}
use Rattle.std.specs.Prelude.{IsSome, OnOk, is_some, nat_lt}
use Rattle.std.specs.List.{filter, list_any}
use Rattle.std.specs.List.Sorted.{IsPermutation, IsNonDecreasingBy}
use Rattle.std.specs.Option.{option_map, option_map_or}
use Rattle.std.specs.FinMap.{get, insert, entries, same_map}
use Rattle.std.specs.FinSet.{union}
use Rattle.std.proofs.lemmas.List.Sorted.{IsPermutation-sym}
use Rattle.base.specs.Map.{BlockSet}
use Rattle.base.specs.Surveys.{IsIn}
use Rattle.model.specs.World.{FileSystem, Snap, SnapId, id_of, empty_file_system, union_of}
use Rattle.datasets.specs.Origins.{origin_group}
use Rattle.datasets.specs.Rows.{Entry, snaps_at}
use Rattle.model.specs.Hierarchy.{is_in_family}
use Rattle.snap.proofs.Rests.{next_left, none_left}
use Rattle.world.specs.Sets.{IsSubset, AreDisjoint}
use Rattle.world.specs.Shapes.{Name, name_order}
use Rattle.world.specs.Worlds.{AreFileSystems, AreRising}
use Rattle.world.specs.Tables.{Datasets, world_of, with_system, lost_between}
use Rattle.world.proofs.lineage.Bridge.{from_entries, start, starts, start_is, rising, rising_above}
use Rattle.world.proofs.changes.Drawn.{union_from}
use Rattle.world.proofs.lists.Finding.{from_filter, in_filter}
use Rattle.world.proofs.lists.Listed.{map_in}
use Rattle.world.proofs.lists.Maps.{key_cases, no_value, same_value, entry_of, at_entry}
use Rattle.world.proofs.lineage.Put.{put_here, put_other, put_maps}
use Rattle.world.proofs.lineage.Shuffled.{stays_in}
use Rattle.world.proofs.removals.Sweep.{get-with_file_systems}
use Rattle.removals.specs.Edits.{HasLost, with_snaps_upto}
use Rattle.removals.specs.Families.{emptied, AreClonesInside, IsBareFamily}
use Rattle.removals.specs.Needs.{has_clone, has_clone_and_is_later}
use Rattle.removals.specs.Requests.{without_family}
use Rattle.removals.proofs.Clones.{is_uncloned}
use Rattle.removals.proofs.Losses.{has_lost}
use Rattle.removals.proofs.Once.{name_in, names_once, once_filtered, not_again}
use Rattle.world.proofs.removals.Rollbacks.{insert_twice}
use Rattle.removals.proofs.Rolled.{all_later, upto_at}
use Rattle.removals.proofs.SystemsGone.{in_entries, get-family}

-- ---- one file system

-- the datasets where this row's file system has no snapshot
abbrev pub bare_at : Datasets → Entry → Datasets
bare_at t r = record t { file_systems = insert t.file_systems r.0 (record r.1 { snaps = [] }) }

-- all its snapshots are of a later group than 0
bare_is : (t : Datasets) (good : AreFileSystems t.file_systems t.group) (r : Entry) → get t.file_systems r.0 ≡ Some r.1 → with_snaps_upto t r.0 0 ≡ bare_at t r
bare_is t good r at =
    upto_at t r at 0
    ∙ ap (λ l. record t { file_systems = insert t.file_systems r.0 (record r.1 { snaps = l }) })
    (all_later 0 (start t.file_systems t.group good.lines r.0 r.1 at).base r.1.snaps (omega arith) (rising t.file_systems t.group good.lines r.0 r.1 at)).0

module _ (t : Datasets) (good : AreFileSystems t.file_systems t.group) (r : Entry) (at : get t.file_systems r.0 ≡ Some r.1) (u : Datasets) (to : u ≡ with_snaps_upto t r.0 0) where
  pub one_there : IsSome (get u.file_systems r.0)
  one_there = ap (λ (v : Datasets). is_some (get v.file_systems r.0)) (to ∙ bare_is t good r at) ∙ ap is_some (put_here t.file_systems r.0 (record r.1 { snaps = [] }))

  pub one_bare : snaps_at u.file_systems r.0 ≡ []
  one_bare =
      ap (λ (v : Datasets). snaps_at v.file_systems r.0) (to ∙ bare_is t good r at)
      ∙ ap (λ (x : Option FileSystem). option_map_or (λ (f : FileSystem). f.snaps) x []) (put_here t.file_systems r.0 (record r.1 { snaps = [] }))

  pub one_emptied : (v : Datasets) → v ≡ with_system u r.0 empty_file_system → v ≡ with_system t r.0 empty_file_system
  one_emptied v is =
      is ∙ ap (λ (w : Datasets). with_system w r.0 empty_file_system) (to ∙ bare_is t good r at)
      ∙ ap (λ ss. record t { file_systems = ss }) (insert_twice t.file_systems r.0 (record r.1 { snaps = [] }) empty_file_system)

-- an empty file system has no block of its own
fewer_vacated : (t : Datasets) → AreFileSystems t.file_systems t.group → (name : Name) → IsSubset (union_of (world_of (with_system t name empty_file_system))) (union_of (world_of t))
fewer_vacated t good name = union_from (world_of t) (world_of (with_system t name empty_file_system)) t.group good.lines
    (put_maps t.file_systems name empty_file_system (λ m i. inl (⊎_elim (λ e. e) (λ k. absurd k) i)))

pub lost_vacated : {T E : Type 0} (r : Result T E) (t u : Datasets) (freeing after : BlockSet) (lost : BlockSet) → AreFileSystems t.file_systems t.group → AreDisjoint (union_of (world_of t)) freeing → (name : Name)
    → u ≡ with_system t name empty_file_system → lost ≡ lost_between t u → OnOk r (after ≡ union freeing lost) → OnOk r (HasLost t freeing u after)
lost_vacated (Ok x) t u freeing after lost good apart name to is joined =
    has_lost t u freeing after (subst (λ v. IsSubset (union_of (world_of v)) (union_of (world_of t))) (sym to) (fewer_vacated t good name)) apart (joined ∙ ap (union freeing) is)
lost_vacated (Err e) t u freeing after lost good apart name to is joined = tt

-- ---- some of the family are empty

-- What is left where these of the family have been emptied
pub record IsStage (t : Datasets) (name : Name) (u : Datasets) (rows : List Entry) : Type 0 where
  pub each : (n : Name) → (get u.file_systems n ≡ get t.file_systems n) ⊎ ((is_in_family name n ≡ true) × IsSome (get t.file_systems n) × (get u.file_systems n ≡ Some empty_file_system) × IsIn (map name_in rows) n)
  pub done : (r : Entry) → IsIn rows r → get u.file_systems r.0 ≡ Some empty_file_system
  pub group : u.group ≡ t.group

pub first_stage : (t : Datasets) (name : Name) (u : Datasets) → u ≡ t → IsStage t name u []
first_stage t name u is = record { each = λ n. inl (ap (λ (v : Datasets). get v.file_systems n) is); done = λ r i. absurd i; group = ap (λ (v : Datasets). v.group) is }

pub next_stage : (t : Datasets) (name : Name) (u : Datasets) (done : List Entry) → IsStage t name u done → (r : Entry) → get t.file_systems r.0 ≡ Some r.1 → is_in_family name r.0 ≡ true
    → (v : Datasets) → v ≡ with_system u r.0 empty_file_system → IsStage t name v (r ∷ done)
next_stage t name u done s r at within v is = subst (λ w. IsStage t name w (r ∷ done)) (sym is) (record {
  each = λ n. ⊎_elim
      (λ (same : n ≡ r.0). inr (
        ap (is_in_family name) same ∙ within,
        ap (λ m. is_some (get t.file_systems m)) same ∙ ap is_some at,
        ap (get (insert u.file_systems r.0 empty_file_system)) same ∙ put_here u.file_systems r.0 empty_file_system,
        inl same,
      ))
      (λ (ne : ¬ (n ≡ r.0)). ⊎_elim
      (λ e. inl (put_other u.file_systems r.0 empty_file_system n ne ∙ e))
      (λ e. inr (e.0, e.1, put_other u.file_systems r.0 empty_file_system n ne ∙ e.2, inr e.3))
      (s.each n))
      (key_cases name_order n r.0);
  done = λ q i. ⊎_elim
      (λ (same : q.0 ≡ r.0). ap (get (insert u.file_systems r.0 empty_file_system)) same ∙ put_here u.file_systems r.0 empty_file_system)
      (λ (ne : ¬ (q.0 ≡ r.0)). put_other u.file_systems r.0 empty_file_system q.0 ne ∙ s.done q (⊎_elim (λ (e : q ≡ r). absurd (ne (ap (λ (x : Entry). x.0) e))) (λ k. k) i))
      (key_cases name_order q.0 r.0);
  group = s.group;
})

pub last_stage : (t : Datasets) (name : Name) (u : Datasets) (all : List Entry) → IsStage t name u all → ((r : Entry) → IsIn (entries t.file_systems) r → is_in_family name r.0 ≡ true → IsIn all r) → u ≡ emptied t name
last_stage t name u all s whole = λ i. record { file_systems = systems i; group = s.group i }
  where
    none_there : (n : Name) → get t.file_systems n ≡ None → IsSome (get t.file_systems n) → ⊥
    none_there n at some = true≢false (sym some ∙ ap is_some at)

    by_family : (n : Name) (b : Bool) → is_in_family name n ≡ b → (x : Option FileSystem) → get t.file_systems n ≡ x
        → get u.file_systems n ≡ option_map (λ (f : FileSystem). cond b empty_file_system f) x
    by_family n true e None at = ⊎_elim (λ k. k ∙ at) (λ k. absurd (none_there n at k.1)) (s.each n)
    by_family n true e (Some f) at = s.done (n, f) (whole (n, f) (in_entries (entries t.file_systems) n f (entry_of name_order t.file_systems n f at)) e)
    by_family n false e None at = ⊎_elim (λ k. k ∙ at) (λ k. absurd (none_there n at k.1)) (s.each n)
    by_family n false e (Some f) at = ⊎_elim (λ k. k ∙ at) (λ k. absurd (true≢false (sym k.0 ∙ e))) (s.each n)

    systems : u.file_systems ≡ (emptied t name).file_systems
    systems = same_map name_order.total name_order.exact _ _ (λ n.
        by_family n (is_in_family name n) refl (get t.file_systems n) refl
        ∙ sym (get-with_file_systems (world_of t) (λ n f. cond (is_in_family name n) empty_file_system f) n))

-- ---- whose turn it is

-- a snapshot is later than the origin of its file system
later_than_origin : (t : Datasets) (good : AreFileSystems t.file_systems t.group) (n : Name) (f : FileSystem) → get t.file_systems n ≡ Some f → (s : Snap) → IsIn f.snaps s → origin_group f.origin < s.group
later_than_origin t good n f at s i =
    let q = start t.file_systems t.group good.lines n f at in
    rising_above (origin_group f.origin) f.snaps s
    (subst (λ g. AreRising g f.snaps) (start_is (world_of t) t.group good.lines f.origin q (starts t.file_systems t.group good.lines n f at)).1 (rising t.file_systems t.group good.lines n f at)) i

pub none_any : {A : Type 0} (p : A → Bool) (xs : List A) → ((x : A) → IsIn xs x → p x ≡ false) → list_any p xs ≡ false
none_any p [] each = refl
none_any p (x ∷ xs) each = ap (λ b. b || list_any p xs) (each x (inl refl)) ∙ none_any p xs (λ y i. each y (inr i))

-- of those that are left this one has the origin of the latest group: no snapshot of it has a clone any more
module _ (t : Datasets) (good : AreFileSystems t.file_systems t.group) (name : Name) (inside : AreClonesInside t name) (u : Datasets) (done : List Entry) (stage : IsStage t name u done)
    (r : Entry) (at : get t.file_systems r.0 ≡ Some r.1) (within : is_in_family name r.0 ≡ true)
    (left : (q : Entry) → IsIn (entries t.file_systems) q → is_in_family name q.0 ≡ true → IsIn done q ⊎ (origin_group q.1.origin ≤ origin_group r.1.origin)) where
  no_origin : (f : FileSystem) (id : SnapId) → ◌≡◌ {A = Option FileSystem} (Some empty_file_system) (Some f) → f.origin ≡ Some id → ⊥
  no_origin f id e o = no_value id (ap (λ (y : FileSystem). y.origin) (same_value empty_file_system f e) ∙ o)

  uncloned : (s : Snap) → IsIn r.1.snaps s → has_clone u (id_of s) ≡ false
  uncloned s i = is_uncloned u (id_of s) (λ n f h o. ⊎_elim (λ e. as_then n f h o e) (λ k. no_origin f (id_of s) (sym k.2 ∙ h) o) (stage.each n))
    where
      as_then : (n : Name) (f : FileSystem) → get u.file_systems n ≡ Some f → f.origin ≡ Some (id_of s) → get u.file_systems n ≡ get t.file_systems n → ⊥
      as_then n f h o e =
          let there : get t.file_systems n ≡ Some f = sym e ∙ h in
          let of_family = inside r.0 n r.1 f s at there i o within in
          let later = later_than_origin t good r.0 r.1 at s i in
          let group : origin_group f.origin ≡ s.group = ap origin_group o in
          ⊎_elim
          (λ d. no_origin f (id_of s) (sym (stage.done (n, f) d) ∙ h) o)
          (λ l. absurd (omega (arith, l, later, group)))
          (left (n, f) (in_entries (entries t.file_systems) n f (entry_of name_order t.file_systems n f there)) of_family)

  pub none_cloned : list_any (has_clone_and_is_later u 0) r.1.snaps ≡ false
  none_cloned = none_any (has_clone_and_is_later u 0) r.1.snaps (λ s i. ap (λ b. nat_lt 0 s.group && b) (uncloned s i) ∙ and_false (nat_lt 0 s.group))
    where
      and_false : (b : Bool) → (b && false) ≡ false
      and_false true = refl
      and_false false = refl

-- ---- in order

-- one of a list stands behind a place, or before it
before_or_behind : {A B : Type 0} (value : A → B) (d : A) (xs : List A) (k : ℕ) (q : B) → IsIn (map value xs) q
    → IsIn (map value (drop k xs)) q ⊎ ((j : ℕ) × (j < k) × (j < length xs) × (q ≡ value (get_or xs j d)))
before_or_behind value d [] k q i = absurd i
before_or_behind value d (x ∷ xs) zero q i = inl i
before_or_behind value d (x ∷ xs) (suc k) q i = ⊎_elim
    (λ e. inr (zero, omega arith, omega arith, e))
    (λ h. ⊎_elim
    (λ b. inl b)
    (λ b. let l = b.1 in let m = b.2 in inr (suc b.0, omega arith, omega arith, b.3))
    (before_or_behind value d xs k q h))
    i

one_head : {A : Type 0} (x a : A) (xs rest : List A) → x ∷ xs ≡ a ∷ rest → x ≡ a
one_head x a xs rest e = cc

in_drop : {A : Type 0} (xs : List A) (i : ℕ) (a : A) (rest : List A) → drop i xs ≡ a ∷ rest → IsIn xs a
in_drop [] zero a rest e = absurd cc
in_drop [] (suc i) a rest e = absurd cc
in_drop (x ∷ xs) zero a rest e = inl (sym (one_head x a xs rest e))
in_drop (x ∷ xs) (suc i) a rest e = inr (in_drop xs i a rest e)

-- the rows of the family in order, of which those from `left` on have been emptied
module _ {A : Type 0} (value : A → Entry) (t : Datasets) (good : AreFileSystems t.file_systems t.group) (name : Name) (inside : AreClonesInside t name) (xs : List A)
    (all : IsPermutation (filter (λ (r : Entry). is_in_family name r.0) (entries t.file_systems)) (map value xs))
    (order : IsNonDecreasingBy (λ x. origin_group (value x).1.origin) xs) where
  abbrev family : List Entry
  family = filter (λ (r : Entry). is_in_family name r.0) (entries t.file_systems)

  pub init_stage : (n : ℕ) → n ≡ length xs → (u : Datasets) → u ≡ t → IsStage t name u (map value (drop n xs))
  init_stage n is u same = subst (λ (l : List A). IsStage t name u (map value l)) (sym (none_left xs n (omega (arith, is)))) (first_stage t name u same)

  pub end_stage : (u : Datasets) → IsStage t name u (map value (drop 0 xs)) → u ≡ emptied t name
  end_stage u s = last_stage t name u (map value xs) s (λ r i e. stays_in family (map value xs) r all (in_filter (λ (r : Entry). is_in_family name r.0) (entries t.file_systems) r i e))

  module _ (left : ℕ) (some : 0 < left) (fits : left ≤ length xs) (a : A) (item : a ≡ get_or xs (left - 1) a) where
    here : drop (left - 1) xs ≡ a ∷ drop (left - 1 + 1) xs
    here = next_left xs (left - 1) a (omega (arith, some, fits)) item

    its : IsIn (entries t.file_systems) (value a) × (is_in_family name (value a).0 ≡ true)
    its = from_filter (λ (r : Entry). is_in_family name r.0) (entries t.file_systems) (value a)
        (stays_in (map value xs) family (value a) (IsPermutation-sym family (map value xs) all) (map_in value xs a (in_drop xs (left - 1) a (drop (left - 1 + 1) xs) here)))

    there : get t.file_systems (value a).0 ≡ Some (value a).1
    there = at_entry name_order t.file_systems (value a).0 (value a).1 (from_entries (entries t.file_systems) (value a) its.0)

    next : left - 1 + 1 ≡ left
    next = omega (arith, some)

    latest : (q : Entry) → IsIn (entries t.file_systems) q → is_in_family name q.0 ≡ true → IsIn (map value (drop left xs)) q ⊎ (origin_group q.1.origin ≤ origin_group (value a).1.origin)
    latest q i e = ⊎_elim
        (λ b. inl b)
        (λ b. inr (before b.0 b.1 b.2 b.3))
        (before_or_behind value a xs left q (stays_in family (map value xs) q all (in_filter (λ (r : Entry). is_in_family name r.0) (entries t.file_systems) q i e)))
      where
        before : (j : ℕ) → j < left → j < length xs → q ≡ value (get_or xs j a) → origin_group q.1.origin ≤ origin_group (value a).1.origin
        before j l m is =
            let le = order j (left - 1) a (omega (arith, l, some)) (omega (arith, some, fits)) in
            subst (λ n. n ≤ origin_group (value a).1.origin) (sym (ap (λ (x : Entry). origin_group x.1.origin) is))
            (subst (λ y. origin_group (value (get_or xs j a)).1.origin ≤ origin_group (value y).1.origin) (sym item) le)

    module _ (u : Datasets) (stage : IsStage t name u (map value (drop left xs))) where
      pub turn_as : get u.file_systems (value a).0 ≡ Some (value a).1
      turn_as = ⊎_elim
          (λ e. e ∙ there)
          (λ k. absurd (not_again value family xs (once_filtered name_in (λ (r : Entry). is_in_family name r.0) (entries t.file_systems) (names_once t.file_systems)) all
          (left - 1) a (drop left xs) (here ∙ ap (λ n. a ∷ drop n xs) next) k.3))
          (stage.each (value a).0)

      pub turn_uncloned : list_any (has_clone_and_is_later u 0) (value a).1.snaps ≡ false
      turn_uncloned = none_cloned t good name inside u (map value (drop left xs)) stage (value a) there its.1 latest

      pub turn_stage : (v : Datasets) → v ≡ with_system u (value a).0 empty_file_system → IsStage t name v (map value (drop (left - 1) xs))
      turn_stage v is = subst (λ (l : List A). IsStage t name v (map value l)) (sym (here ∙ ap (λ n. a ∷ drop n xs) next))
          (next_stage t name u (map value (drop left xs)) stage (value a) there its.1 v is)

-- ---- once all are empty

module _ (t : Datasets) (name : Name) where
  emptied_at : (n : Name) → get (emptied t name).file_systems n ≡ option_map (λ (f : FileSystem). cond (is_in_family name n) empty_file_system f) (get t.file_systems n)
  emptied_at n = get-with_file_systems (world_of t) (λ n f. cond (is_in_family name n) empty_file_system f) n

  pub emptied_bare : (u : Datasets) → u ≡ emptied t name → IsBareFamily u name
  emptied_bare u is n f at within = by_system (get t.file_systems n)
      (sym (ap (λ b. option_map (λ (f : FileSystem). cond b empty_file_system f) (get t.file_systems n)) within) ∙ sym (emptied_at n) ∙ ap (λ (v : Datasets). get v.file_systems n) (sym is) ∙ at)
    where
      by_system : (x : Option FileSystem) → option_map (λ (f : FileSystem). empty_file_system) x ≡ Some f → f.snaps ≡ []
      by_system None e = absurd (no_value f e)
      by_system (Some g) e = ap (λ (y : FileSystem). y.snaps) (sym (same_value empty_file_system f e))

  pub emptied_gone : without_family (emptied t name) name true ≡ without_family t name true
  emptied_gone = ap (λ ss. record t { file_systems = ss }) (same_map name_order.total name_order.exact _ _ (λ n.
      get-family (emptied t name) name n
      ∙ ap (λ x. cond (is_in_family name n) None x) (emptied_at n)
      ∙ by_family (is_in_family name n) (get t.file_systems n)
      ∙ sym (get-family t name n)))
    where
      by_family : (b : Bool) (x : Option FileSystem) → cond b None (option_map (λ (f : FileSystem). cond b empty_file_system f) x) ≡ cond b None x
      by_family true x = refl
      by_family false None = refl
      by_family false (Some f) = refl
