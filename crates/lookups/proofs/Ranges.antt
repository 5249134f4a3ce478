-- A range of the snapshots of a file system, as a stretch of them.
use Rattle.std.proofs.Common.{◌≡◌, ℕ, zero, suc, ◌+◌, ◌<◌, ◌≤◌, ◌&&◌, ◌||◌, Bool, true, false, cond, List, [], ◌∷◌, ◌++◌, Option, Some, None, map, drop, length, refl, sym, ap, subst, ◌∙◌, true≢false, inl, inr, ⊎_elim, arith, append_assoc}
use Rattle.std.specs.Prelude.{not, is_some, nat_lt, nat_le}
use Rattle.std.specs.List.{filter, find, list_any, sum_by, last_or}
use Rattle.std.specs.Option.{option_map, option_map_or, option_and_then}
use Rattle.std.specs.FinMap.{get}
use Rattle.std.specs.FinSet.{len, difference}
use Rattle.std.proofs.lemmas.Bool.{lt-ltb, le-ltb, le-leb, lt-leb, ltb-true, and_from}
use Rattle.base.specs.Map.{BlockSet, blocks}
use Rattle.base.specs.Surveys.{IsIn}
use Rattle.base.specs.declared.refusal.Refusal.TheVariants.{NoDataset, NotAncestor, HasClones}
use Rattle.base.specs.Names.{same_name}
use Rattle.model.specs.World.{FileSystem, Snap, Snapped, id_of, snap_named, clones_of}
use Rattle.model.specs.Rule.{first_of}
use Rattle.model.specs.Sums.{would_free}
use Rattle.model.specs.requests.Rollback.{has_clone_outside}
use Rattle.model.specs.requests.WouldFree.{within}
use Rattle.world.specs.Blocks.{after, block_order as o}
use Rattle.world.specs.Dead.{HasNoCloneIn, dead_of, next_in}
use Rattle.world.specs.Sets.{Has}
use Rattle.world.specs.Sums.{dead_since}
use Rattle.world.specs.Tables.{Datasets, world_of}
use Rattle.world.specs.Worlds.{AreRising}
use Rattle.world.proofs.lineage.Bridge.{rising_above}
use Rattle.world.proofs.lineage.Lineage.{from_after}
use Rattle.world.proofs.lists.Maps.{same_value, no_value}
use Rattle.world.proofs.lists.SetCounts.{from_difference, some_member}
use Rattle.datasets.specs.Dead.{newest_blocks}
use Rattle.datasets.specs.Gone.{Gone, dead_between, lists_reach}
use Rattle.datasets.specs.Origins.{origin_group}
use Rattle.datasets.specs.Rows.{Row}
use Rattle.datasets.specs.Clones.{row_in, below_in}
use Rattle.datasets.specs.Writes.{newest_group as group_before}
use Rattle.datasets.specs.Table.{IsTable}
use Rattle.datasets.proofs.ClonesOf.{none_counted}
use Rattle.datasets.proofs.Above.{snap_above}
use Rattle.datasets.proofs.Removed.{are_above}
use Rattle.limits.specs.Space.{newest_group, on_path, with_next}
use Rattle.limits.proofs.Ranges.{three_parts, would_free_is}
use Rattle.limits.proofs.Walks.{on_path_range}
use Rattle.lookups.specs.Ranges.{group_at, lacks, is_in_range, range_ids, range_refusal, is_cloned, has_clone_between, group_after, older_than, newer_than, after_first, range_reach, IsRange}
use Rattle.lookups.specs.Since.{dead_reach}
use Rattle.lookups.proofs.Between.{IsStretch, first, first_group, stretch_until, dead_snap, gone_reach, gone_since}

-- ---- rising snapshots, parted by two groups

-- those that come after it are above it
rest_rises : (g : ℕ) (us vs : List Snap) → AreRising g (us ++ vs) → AreRising (newest_group g us) vs
rest_rises g [] vs up = up
rest_rises g (u ∷ us) vs up = rest_rises u.group us vs up.1

-- those of a filter pass its test
passes : (p : Snap → Bool) (us : List Snap) (u : Snap) → IsIn (filter p us) u → p u ≡ true
passes p [] u i = absurd i
passes p (v ∷ vs) u i = by_test (p v) refl i (λ k. passes p vs u k)
  where
    by_test : (b : Bool) → p v ≡ b → IsIn (cond b (v ∷ filter p vs) (filter p vs)) u → (IsIn (filter p vs) u → p u ≡ true) → p u ≡ true
    by_test true e k ih = ⊎_elim (λ (is : u ≡ v). ap p is ∙ e) ih k
    by_test false e k ih = ih k

-- the first of a filter is what is found
found_first : (p : Snap → Bool) (us : List Snap) → find p us ≡ first (filter p us)
found_first p [] = refl
found_first p (u ∷ us) = by_test (p u) (found_first p us)
  where
    by_test : (b : Bool) → find p us ≡ first (filter p us) → cond b (Some u) (find p us) ≡ first (cond b (u ∷ filter p us) (filter p us))
    by_test true ih = refl
    by_test false ih = ih

-- ---- as a stretch

-- the range begins with the snapshot of its first group
begins : (g a b : ℕ) (us : List Snap) → AreRising g us → a ≤ b → (v : Snap) → IsIn us v → v.group ≡ a → (u : Snap) × (rest : List Snap) × (filter (is_in_range a b) us ≡ u ∷ rest) × (u.group ≡ a)
begins g a b [] up order v i at = absurd i
begins g a b (w ∷ ws) up order v i at = ⊎_elim
    (λ (is : v ≡ w).
    let here : w.group ≡ a = ap (λ (x : Snap). x.group) (sym is) ∙ at in
    let inside : is_in_range a b w ≡ true = and_from (nat_le a w.group) (nat_le w.group b) (le-leb a w.group (omega (arith, here))) (le-leb w.group b (omega (arith, here, order))) in
    (w, filter (is_in_range a b) ws, ap (λ c. cond c (w ∷ filter (is_in_range a b) ws) (filter (is_in_range a b) ws)) inside, here))
    (λ k.
    let below = rising_above w.group ws v up.1 k in
    let outside : is_in_range a b w ≡ false = ap (λ c. c && nat_le w.group b) (lt-leb a w.group (omega (arith, below, at))) in
    let rest = begins w.group a b ws up.1 order v k at in
    (rest.0, rest.1, ap (λ c. cond c (w ∷ filter (is_in_range a b) ws) (filter (is_in_range a b) ws)) outside ∙ rest.2, rest.3))
    i

-- the snapshot of a group that was told is there
told_there : (p : Snap → Bool) (us : List Snap) (a : ℕ) → option_map (λ (u : Snap). u.group) (find p us) ≡ Some a → (v : Snap) × IsIn us v × (v.group ≡ a)
told_there p [] a e = absurd (no_value a e)
told_there p (u ∷ us) a e = by_test (p u) e (λ k. told_there p us a k)
  where
    by_test : (c : Bool) → option_map (λ (x : Snap). x.group) (cond c (Some u) (find p us)) ≡ Some a → (option_map (λ (x : Snap). x.group) (find p us) ≡ Some a → (v : Snap) × IsIn us v × (v.group ≡ a))
        → (v : Snap) × IsIn (u ∷ us) v × (v.group ≡ a)
    by_test true k ih = (u, inl refl, same_value u.group a k)
    by_test false k ih = let r = ih k in (r.0, inr r.1, r.2)

-- the two words for the group of the newest
groups_agree : (g : ℕ) (us : List Snap) → group_before g us ≡ newest_group g us
groups_agree g [] = refl
groups_agree g (u ∷ us) = last u us
  where
    last : (v : Snap) (vs : List Snap) → option_map_or (λ (x : Snap). x.group) (last_or (Some v) vs) g ≡ newest_group v.group vs
    last v [] = refl
    last v (w ∷ ws) = last w ws

module _ (g : ℕ) (us : List Snap) (up : AreRising g us) (a b : ℕ) (order : a ≤ b) where
  abbrev older : List Snap
  older = older_than a us

  abbrev newer : List Snap
  newer = filter (λ (u : Snap). nat_lt b u.group) us

  next_is : group_after b us ≡ first_group newer
  next_is = ap (option_map (λ (u : Snap). u.group)) (found_first (λ (u : Snap). nat_lt b u.group) us)

  -- after the first of the range
  module _ (u : Snap) (rest : List Snap) (range_is : filter (is_in_range a b) us ≡ u ∷ rest) (at : u.group ≡ a) where
    pub around_first : us ≡ older_than a us ++ u ∷ (rest ++ filter (λ (x : Snap). nat_lt b x.group) us)
    around_first = three_parts a b order g us up ∙ ap (λ l. older ++ (l ++ newer)) range_is

    pub past_first : us ≡ (older_than a us ++ u ∷ []) ++ (rest ++ filter (λ (x : Snap). nat_lt b x.group) us)
    past_first = around_first ∙ sym (append_assoc older (u ∷ []) (rest ++ newer))

    later_up : AreRising u.group (rest ++ newer)
    later_up = (rest_rises g older (u ∷ (rest ++ newer)) (subst (AreRising g) around_first up)).1

    not_later : (x : Snap) → IsIn (older ++ u ∷ []) x → nat_lt a x.group ≡ false
    not_later x i = by_list older (λ y k. let l = ltb-true y.group a (passes (λ (z : Snap). nat_lt z.group a) us y k) in le-ltb a y.group (omega (arith, l))) i
      where
        by_list : (ys : List Snap) → ((y : Snap) → IsIn ys y → nat_lt a y.group ≡ false) → IsIn (ys ++ u ∷ []) x → nat_lt a x.group ≡ false
        by_list [] each k = ⊎_elim (λ (is : x ≡ u). let e = ap (λ (z : Snap). z.group) is in le-ltb a x.group (omega (arith, e, at))) (λ none. absurd none) k
        by_list (y ∷ ys) each k = ⊎_elim (λ (is : x ≡ y). each x (inl is)) (λ more. by_list ys (λ z n. each z (inr n)) more) k

    pub rest_stretch : IsStretch (Some a) (group_after b us) (older_than a us ++ u ∷ []) rest (filter (λ (x : Snap). nat_lt b x.group) us)
    rest_stretch = stretch_until g (Some a) (group_after b us) (older ++ u ∷ []) rest newer (subst (AreRising g) past_first up) next_is not_later
        (λ x i. let l = rising_above u.group (rest ++ newer) x later_up i in lt-ltb a x.group (omega (arith, l, at)))

-- ---- no clone of the range

any_none : (p : Snap → Bool) (us : List Snap) → list_any p us ≡ false → (u : Snap) → IsIn us u → p u ≡ false
any_none p [] e u i = absurd i
any_none p (v ∷ vs) e u i = by_test (p v) refl e (λ h j. any_none p vs h u j)
  where
    by_test : (b : Bool) → p v ≡ b → (b || list_any p vs) ≡ false → (list_any p vs ≡ false → IsIn vs u → p u ≡ false) → p u ≡ false
    by_test true k h ih = absurd (true≢false h)
    by_test false k h ih = ⊎_elim (λ (is : u ≡ v). ap p is ∙ k) (ih h) i

in_source : (p : Snap → Bool) (us : List Snap) (u : Snap) → IsIn (filter p us) u → IsIn us u
in_source p [] u i = absurd i
in_source p (v ∷ vs) u i = by_test (p v) i (λ k. in_source p vs u k)
  where
    by_test : (b : Bool) → IsIn (cond b (v ∷ filter p vs) (filter p vs)) u → (IsIn (filter p vs) u → IsIn vs u) → IsIn (v ∷ vs) u
    by_test true k ih = ⊎_elim inl (λ j. inr (ih j)) k
    by_test false k ih = inr (ih k)

-- the model's words for it
counted_any : {A : Type 0} (xs : List A) → list_any (λ x. true) xs ≡ nat_lt 0 (length xs)
counted_any [] = refl
counted_any (x ∷ xs) = sym (lt-ltb 0 (length (x ∷ xs)) (omega arith))

cloned_is : (t : Datasets) (a b : ℕ) (us : List Snap) → has_clone_outside (world_of t) [] (map id_of (filter (is_in_range a b) us)) ≡ list_any (has_clone_between t a b) us
cloned_is t a b [] = refl
cloned_is t a b (u ∷ us) = by_test (is_in_range a b u) (cloned_is t a b us)
  where
    by_test : (c : Bool) → has_clone_outside (world_of t) [] (map id_of (filter (is_in_range a b) us)) ≡ list_any (has_clone_between t a b) us
        → has_clone_outside (world_of t) [] (map id_of (cond c (u ∷ filter (is_in_range a b) us) (filter (is_in_range a b) us))) ≡ ((c && is_cloned t u) || list_any (has_clone_between t a b) us)
    by_test true ih = λ i. counted_any (clones_of (world_of t) (id_of u)) i || ih i
    by_test false ih = ih

-- ---- why it is refused

-- the group that was told is that of a snapshot
told_some : (x : Option Snap) (g : ℕ) → Some g ≡ option_map (λ (u : Snap). u.group) x → (is_some x ≡ true) × (option_map_or (λ (u : Snap). u.group) x 0 ≡ g)
told_some None g e = absurd (no_value g (sym e))
told_some (Some u) g e = (refl, sym (same_value g u.group e))

module _ (t : Datasets) (name fst lst : List ℕ) where
  abbrev outside : Bool
  outside = has_clone_outside (world_of t) [] (range_ids t name fst lst)

  module _ (f : FileSystem) (at : get t.file_systems name ≡ Some f) where
    abbrev the_named : List ℕ → Option Snap
    the_named component = find (λ (u : Snap). same_name u.name component) f.snaps

    named_is : (component : List ℕ) → snap_named (world_of t) (within name component) ≡ find (λ (u : Snap). same_name u.name component) f.snaps
    named_is component = ap (option_and_then (λ (x : FileSystem). find (λ (u : Snap). same_name u.name component) x.snaps)) at

    module _ (a b : ℕ) (a_is : Some a ≡ option_map (λ (u : Snap). u.group) (find (λ (u : Snap). same_name u.name fst) f.snaps))
        (b_is : Some b ≡ option_map (λ (u : Snap). u.group) (find (λ (u : Snap). same_name u.name lst) f.snaps)) where
      from : group_at t name fst ≡ a
      from = ap (λ x. option_map_or (λ (u : Snap). u.group) x 0) (named_is fst) ∙ (told_some (the_named fst) a a_is).1

      to : group_at t name lst ≡ b
      to = ap (λ x. option_map_or (λ (u : Snap). u.group) x 0) (named_is lst) ∙ (told_some (the_named lst) b b_is).1

      ids_are : range_ids t name fst lst ≡ map id_of (filter (is_in_range a b) f.snaps)
      ids_are =
          ap (λ x. option_map_or (λ (f : FileSystem). map id_of (filter (is_in_range (group_at t name fst) (group_at t name lst)) f.snaps)) x []) at
          ∙ (λ i. map id_of (filter (is_in_range (from i) (to i)) f.snaps))

      pub refusal_is : range_refusal t name fst lst ≡ first_of ((nat_lt b a, NotAncestor) ∷ (list_any (has_clone_between t a b) f.snaps, HasClones) ∷ [])
      refusal_is =
          let here : lacks t name fst ≡ false = ap (λ x. not (is_some x)) (named_is fst) ∙ ap not (told_some (the_named fst) a a_is).0 in
          let there : lacks t name lst ≡ false = ap (λ x. not (is_some x)) (named_is lst) ∙ ap not (told_some (the_named lst) b b_is).0 in
          let cloned : outside ≡ list_any (has_clone_between t a b) f.snaps = ap (has_clone_outside (world_of t) []) ids_are ∙ cloned_is t a b f.snaps in
          λ i. first_of ((here i || there i, NoDataset) ∷ (nat_lt (to i) (from i), NotAncestor) ∷ (cloned i, HasClones) ∷ [])

      module _ (order : a ≤ b) where
        rest_is : range_refusal t name fst lst ≡ first_of ((list_any (has_clone_between t a b) f.snaps, HasClones) ∷ [])
        rest_is = refusal_is ∙ ap (λ c. first_of ((c, NotAncestor) ∷ (list_any (has_clone_between t a b) f.snaps, HasClones) ∷ [])) (le-ltb b a order)

        pub is_cloned_there : list_any (has_clone_between t a b) f.snaps ≡ true → range_refusal t name fst lst ≡ Some HasClones
        is_cloned_there e = rest_is ∙ ap (λ c. first_of ((c, HasClones) ∷ [])) e

        pub is_range : (r : Row) → r ≡ row_in t.file_systems (name, f) → r.system ≡ f → list_any (has_clone_between t a b) f.snaps ≡ false → IsRange t name fst lst r a b
        is_range r row same none = record {
          allowed = rest_is ∙ ap (λ c. first_of ((c, HasClones) ∷ [])) none;
          row = row ∙ ap (λ (x : FileSystem). row_in t.file_systems (name, x)) (sym same);
          at = at ∙ ap Some (sym same);
          from = from;
          to = to;
          first_at = ap (λ (x : FileSystem). option_map (λ (u : Snap). u.group) (find (λ (u : Snap). same_name u.name fst) x.snaps)) same ∙ sym a_is;
          order = order;
          uncloned = ap (λ (x : FileSystem). list_any (has_clone_between t a b) x.snaps) same ∙ none;
        }

-- ---- what would be freed

module _ (t : Datasets) (sound : IsTable t) (name fst lst : List ℕ) (r : Row) (a b : ℕ) (is : IsRange t name fst lst r a b) where
  abbrev snaps : List Snap
  snaps = r.system.snaps

  ups : AreRising (origin_group r.system.origin) r.system.snaps
  ups = (are_above t sound name r.system is.at).rising

  uncloned : (u : Snap) → IsIn (filter (is_in_range a b) snaps) u → HasNoCloneIn t.file_systems (id_of u)
  uncloned u i =
      let none = any_none (has_clone_between t a b) snaps is.uncloned u (in_source (is_in_range a b) snaps u i) in
      none_counted (world_of t) (id_of u) (sym (ap (λ c. c && is_cloned t u) (passes (is_in_range a b) snaps u i)) ∙ none)

  ranged_ids : range_ids t name fst lst ≡ map id_of (filter (is_in_range a b) r.system.snaps)
  ranged_ids =
      ap (λ x. option_map_or (λ (f : FileSystem). map id_of (filter (is_in_range (group_at t name fst) (group_at t name lst)) f.snaps)) x []) is.at
      ∙ (λ i. map id_of (filter (is_in_range (is.from i) (is.to i)) r.system.snaps))

  -- the first of the range, and the rest of it
  parts : (u : Snap) × (rest : List Snap) × (filter (is_in_range a b) r.system.snaps ≡ u ∷ rest) × (u.group ≡ a)
  parts =
      let v = told_there (λ (x : Snap). same_name x.name fst) snaps a is.first_at in
      begins (origin_group r.system.origin) a b snaps ups is.order v.0 v.1 v.2

  abbrev oldest : Snap
  oldest = parts.0

  abbrev rest : List Snap
  rest = parts.1

  abbrev low_ones : List Snap
  low_ones = older_than a r.system.snaps

  abbrev newer_ones : List Snap
  newer_ones = filter (λ (u : Snap). nat_lt b u.group) r.system.snaps

  all_are : snaps ≡ low_ones ++ oldest ∷ (rest ++ newer_ones)
  all_are = around_first (origin_group r.system.origin) snaps ups a b is.order oldest rest parts.2 parts.3

  cut_after : snaps ≡ (low_ones ++ oldest ∷ []) ++ (rest ++ newer_ones)
  cut_after = past_first (origin_group r.system.origin) snaps ups a b is.order oldest rest parts.2 parts.3

  stretch_is : (next : Option ℕ) → next ≡ group_after b r.system.snaps → IsStretch (Some a) next (low_ones ++ oldest ∷ []) rest newer_ones
  stretch_is next next_is =
      subst (λ x. IsStretch (Some a) x (low_ones ++ oldest ∷ []) rest newer_ones) (sym next_is)
      (rest_stretch (origin_group r.system.origin) snaps ups a b is.order oldest rest parts.2 parts.3)

  -- what the sums over the dead lists that are asked for add to the count of segments
  pub reach_is : (next : Option ℕ) → next ≡ group_after b r.system.snaps → lists_reach (dead_between (Some a) next r) ≡ range_reach t name fst lst
  reach_is next next_is =
      ap (λ x. lists_reach (dead_between (Some a) next x)) is.row
      ∙ gone_reach t sound name r.system is.at (Some a) next (low_ones ++ oldest ∷ []) rest newer_ones cut_after (stretch_is next next_is)
      ∙ sym by_names
    where
      ids : range_ids t name fst lst ≡ map id_of (oldest ∷ rest)
      ids = ranged_ids ∙ ap (map id_of) parts.2

      by_names : range_reach t name fst lst ≡ dead_reach (world_of t) (with_next name rest newer_ones)
      by_names =
          ap (λ x. option_map_or (λ (f : FileSystem). dead_reach (world_of t) (after_first t name fst lst f)) x 0) is.at
          ∙ (λ i. dead_reach (world_of t) (on_path (drop 1 (ids i)) (next_in name (newer_than (is.to i) r.system.snaps))))
          ∙ ap (dead_reach (world_of t)) (on_path_range name rest newer_ones)

  -- what has gone with the first of the range was there before it
  none_after : (n : ℕ) → (0 < n → ⊥) → n ≡ 0
  none_after zero f = refl
  none_after (suc n) f = absurd (f (omega arith))

  none_first : len (after (newest_group (origin_group r.system.origin) low_ones) (dead_of (world_of t) (Snapped (id_of oldest)))) ≡ 0
  none_first = none_after _ (λ some.
      let base = newest_group (origin_group r.system.origin) low_ones in
      let found = some_member o (after base (dead_of (world_of t) (Snapped (id_of oldest)))) some in
      let here = from_after base (dead_of (world_of t) (Snapped (id_of oldest))) found.0 found.1 in
      let bs = newest_blocks (blocks (below_in t.file_systems r.system.origin)) low_ones in
      let gone : Has (difference bs (blocks oldest.map)) found.0 = subst (λ (s : BlockSet). Has s found.0) (dead_snap t sound name r.system is.at low_ones oldest (rest ++ newer_ones) all_are) here.0 in
      let born = (snap_above t sound name r.system is.at low_ones (rest ++ newer_ones) oldest all_are).closed found.0 (from_difference o bs (blocks oldest.map) found.0 gone).0 in
      let same = groups_agree (origin_group r.system.origin) low_ones in
      let late = here.1 in
      absurd (omega (arith, born, same, late)))

  -- what the dead lists count is what would be freed
  pub freed_is : (before : ℕ) (next : Option ℕ) → before ≡ newest_group (origin_group r.system.origin) (older_than a r.system.snaps) → next ≡ group_after b r.system.snaps
      → sum_by (λ (g : Gone). len (after before g.blocks)) (dead_between (Some a) next r) ≡ would_free (world_of t) (range_ids t name fst lst)
  freed_is before next before_is next_is =
      let base = newest_group (origin_group r.system.origin) low_ones in
      let cut = three_parts a b is.order (origin_group r.system.origin) snaps ups in
      let left = dead_since (world_of t) base (with_next name rest newer_ones) in
      let with_none : left ≡ 0 + left = omega arith in
      ap (λ x. sum_by (λ (g : Gone). len (after before g.blocks)) (dead_between (Some a) next x)) is.row
      ∙ gone_since t sound name r.system is.at before (Some a) next (low_ones ++ oldest ∷ []) rest newer_ones cut_after (stretch_is next next_is)
      ∙ ap (λ x. dead_since (world_of t) x (with_next name rest newer_ones)) before_is
      ∙ with_none
      ∙ ap (λ n. n + left) (sym none_first)
      ∙ ap (λ l. dead_since (world_of t) base (with_next name l newer_ones)) (sym parts.2)
      ∙ sym (would_free_is (world_of t) sound.systems name r.system low_ones (filter (is_in_range a b) snaps) newer_ones is.at cut uncloned)
      ∙ ap (would_free (world_of t)) (sym ranged_ids)
