-- A file system is renamed, with all below it.
use Rattle.std.proofs.Common.{◌≡◌, ℕ, zero, suc, ◌+◌, ◌≤◌, Bool, true, false, cond, ◌||◌, List, [], ◌∷◌, ◌++◌, Option, Some, None, refl, sym, ap, subst, ◌∙◌, inl, inr, ◌⊎◌, ⊎_elim, true≢false, length, drop, map, arith}
use Rattle.std.specs.Prelude.{IsSome, IsTrue, is_some}
use Rattle.std.specs.Ordering.{eq_by_cmp}
use Rattle.std.specs.Option.{option_map}
use Rattle.std.specs.FinMap.{find, get, entries, from_entries, len, get-entries, get-from_entries, len-entries, len-insert, len-empty}
use Rattle.base.specs.Names.{name_cmp, root_name, same_name, parent_of, is_descendant}
use Rattle.base.specs.Surveys.{IsIn}
use Rattle.model.specs.World.{World, FileSystem, union_of}
use Rattle.model.specs.Hierarchy.{IsHierarchy, has_parent, is_in_family}
use Rattle.model.specs.requests.Rename.{renamed, renamed_systems, with_renamed}
use Rattle.world.specs.Blocks.{block_order as o}
use Rattle.world.specs.Shapes.{Name, name_order}
use Rattle.world.specs.Worlds.{FileSystems, shape_of, shapes, AreFileSystems, IsWorld, ArePaired, AreMapsFrom}
use Rattle.world.proofs.lists.Finding.{one_name, name_itself, append_none}
use Rattle.world.proofs.lists.Listed.{in_map, length-mapped}
use Rattle.world.proofs.lists.Maps.{no_value, some_of, key_cases, same_key, other_key, at_entry, entry_from_find}
use Rattle.world.proofs.lists.Names.{descendant_by_parent, parent_shorter, root_apart, exchanged, exchanged_first, exchanged_second, exchanged_neither, exchanged_twice, Where, first, second, neither, where_is, parent_behind, goes_up, goes_on, goes_on_is, behind}
use Rattle.world.proofs.lists.SetCounts.{same_members}
use Rattle.world.specs.Usage.{IsEntry}
use Rattle.world.proofs.lineage.Bridge.{in_entries, from_entries as entry_in}
use Rattle.world.proofs.lineage.Put.{parent_there, is_parent}
use Rattle.world.proofs.lineage.Relabel.{relabelled}
use Rattle.world.proofs.changes.Drawn.{union_from}
use Rattle.world.proofs.changes.Kept.{world_same, pair_same}
use Rattle.world.proofs.changes.Views.{AreSnapsIn}

-- what nothing refuses
pub record CanRename (ss : FileSystems) (from to : Name) : Type 0 where
  pub there : IsSome (get ss from)
  pub not_root : same_name from root_name ≡ false
  pub free : (n : Name) (f : FileSystem) → get ss n ≡ Some f → is_in_family to n ≡ false
  pub parent : IsTrue (has_parent ss to)
  pub not_below : is_descendant from to ≡ false

-- a map of a list has no more entries than that
pub few_entries : (es : List (Name × FileSystem)) → len (from_entries {R = name_cmp} es) ≤ length es
few_entries [] = let e = len-empty name_cmp FileSystem in omega (arith, e)
few_entries (e ∷ es) =
    let rest = few_entries es in
    let made = len-insert name_order.total (from_entries es) e.0 e.1 in
    by_there (is_some (get (from_entries {R = name_cmp} es) e.0)) made rest
  where
    by_there : (b : Bool) → len (from_entries {R = name_cmp} (e ∷ es)) ≡ cond b (len (from_entries {R = name_cmp} es)) (len (from_entries {R = name_cmp} es) + 1) → len (from_entries {R = name_cmp} es) ≤ length es
        → len (from_entries {R = name_cmp} (e ∷ es)) ≤ suc (length es)
    by_there true made rest = omega (arith, made, rest)
    by_there false made rest = omega (arith, made, rest)

-- each file system after a rename, whatever it is of, was one before
pub renamed_of : (w : World) (from to n : Name) (f : FileSystem) → get (with_renamed w from to).file_systems n ≡ Some f → (m : Name) × (get w.file_systems m ≡ Some f)
renamed_of w from to n f is =
    let made : Name × FileSystem → Name × FileSystem = λ (e : Name × FileSystem). (renamed from to e.0, e.1) in
    let found = sym (get-from_entries name_order.total (map made (entries w.file_systems)) n) ∙ is in
    let e = in_map made (entries w.file_systems) (n, f) (in_entries (map made (entries w.file_systems)) n f (entry_from_find name_order (map made (entries w.file_systems)) n f found)) in
    (e.0.0, at_entry name_order w.file_systems e.0.0 f (subst (λ x. IsEntry (entries w.file_systems) e.0.0 x) (ap (λ (x : Name × FileSystem). x.1) (sym e.2)) (entry_in (entries w.file_systems) e.0 e.1)))

-- ---- where no file system has a name, none is below it

module _ (ss : FileSystems) (h : IsHierarchy ss) (to : Name) (absent : get ss to ≡ None) where
  gone_none : (n : Name) → IsSome (get ss n) → get ss n ≡ None → ⊥
  gone_none n some none = true≢false (sym some ∙ ap is_some none)

  pub absent_not_root : same_name root_name to ≡ false
  absent_not_root = by_test (same_name root_name to) refl
    where
      by_test : (b : Bool) → same_name root_name to ≡ b → same_name root_name to ≡ false
      by_test true e = absurd (gone_none root_name h.root (ap (get ss) (one_name root_name to e) ∙ absent))
      by_test false e = e

  none_by : (n : Name) → is_in_family to n ≡ true → ((p : Name) → parent_of n ≡ Some p → is_in_family to p ≡ true → get ss p ≡ None) → get ss n ≡ None
  none_by n e above = by_there (get ss n) refl
    where
      by_test : (b : Bool) → same_name n to ≡ b → (b || is_descendant to n) ≡ true → (n ≡ to) ⊎ (is_descendant to n ≡ true)
      by_test true s d = inl (one_name n to s)
      by_test false s d = inr d

      by_there : (x : Option FileSystem) → get ss n ≡ x → get ss n ≡ None
      by_there None at = at
      by_there (Some f) at = ⊎_elim
          (λ (is : n ≡ root_name). absurd (true≢false (sym e ∙ ap (is_in_family to) is ∙ root_apart to absent_not_root)))
          (λ some.
          let p = parent_there ss n some in
          ⊎_elim
          (λ (same : n ≡ to). absurd (no_value f (sym (ap (get ss) same ∙ absent) ∙ at)))
          (λ (d : is_descendant to n ≡ true). absurd (gone_none p.parent p.there (above p.parent p.named (sym (descendant_by_parent to n p.parent p.named) ∙ d))))
          (by_test (same_name n to) refl e))
          (h.parents n (ap is_some at))

  none_below : (k : ℕ) (n : Name) → length n ≤ k → is_in_family to n ≡ true → get ss n ≡ None
  none_below zero n le e = none_by n e (λ p is f. let l = parent_shorter n p is in absurd (omega (arith, l, le)))
  none_below (suc k) n le e = none_by n e (λ p is f. let l = parent_shorter n p is in none_below k p (omega (arith, l, le)) f)

  pub family_free : (n : Name) (f : FileSystem) → get ss n ≡ Some f → is_in_family to n ≡ false
  family_free n f at = by_test (is_in_family to n) refl
    where
      by_test : (b : Bool) → is_in_family to n ≡ b → is_in_family to n ≡ false
      by_test true e = absurd (no_value f (sym (none_below (length n) n (omega arith) e) ∙ at))
      by_test false e = e

-- ---- names that are there

module _ (from to : Name) (old_apart : is_in_family from to ≡ false) (new_apart : is_in_family to from ≡ false) where
  back : (n : Name) → exchanged from to (exchanged from to n) ≡ n
  back n = exchanged_twice from to old_apart new_apart n

  -- of a name that is there it is an exchange
  pub renamed_is : (n : Name) → is_in_family to n ≡ false → renamed from to n ≡ exchanged from to n
  renamed_is n e = ap (λ b. cond (is_in_family from n) (to ++ drop (length from) n) (cond b (from ++ drop (length to) n) n)) (sym e)

  same_test : (n k : Name) → eq_by_cmp name_cmp n (exchanged from to k) ≡ eq_by_cmp name_cmp (exchanged from to n) k
  same_test n k = ⊎_elim
      (λ (is : n ≡ exchanged from to k).
      ap (λ x. eq_by_cmp name_cmp x (exchanged from to k)) is ∙ same_key name_order (exchanged from to k)
      ∙ sym (ap (λ x. eq_by_cmp name_cmp (exchanged from to x) k) is ∙ ap (λ x. eq_by_cmp name_cmp x k) (back k) ∙ same_key name_order k))
      (λ ne. other_key name_order n (exchanged from to k) ne ∙ sym (other_key name_order (exchanged from to n) k (λ e. ne (sym (back n) ∙ ap (exchanged from to) e))))
      (key_cases name_order n (exchanged from to k))

  -- what is found under a name after it was under the other name before it
  pub found_renamed : (n : Name) (es : List (Name × FileSystem)) → ((e : Name × FileSystem) → IsIn es e → is_in_family to e.0 ≡ false)
      → find name_cmp n (map (λ (e : Name × FileSystem). (renamed from to e.0, e.1)) es) ≡ find name_cmp (exchanged from to n) es
  found_renamed n [] out = refl
  found_renamed n (e ∷ es) out = λ i. cond ((ap (eq_by_cmp name_cmp n) (renamed_is e.0 (out e (inl refl))) ∙ same_test n e.0) i) (Some e.1) (found_renamed n es (λ x k. out x (inr k)) i)

-- ---- the file systems after it

module _ (ss : FileSystems) (from to : Name) (can : CanRename ss from to) where
  some_at : (n : Name) → IsSome (get ss n) → (f : FileSystem) × (get ss n ≡ Some f)
  some_at n some = some_of (get ss n) some

  outside : (n : Name) → IsSome (get ss n) → is_in_family to n ≡ false
  outside n some = let f = some_at n some in can.free n f.0 f.1

  -- neither name is of the other's family
  pub new_apart : is_in_family to from ≡ false
  new_apart = outside from can.there

  pub old_apart : is_in_family from to ≡ false
  old_apart = (λ i. other i || can.not_below i)
    where
      by_test : (b : Bool) → same_name to from ≡ b → same_name to from ≡ false
      by_test true e = absurd (true≢false (sym (ap (λ x. same_name x to || is_descendant to x) (sym (one_name to from e)) ∙ ap (λ b. b || is_descendant to to) (name_itself to)) ∙ new_apart))
      by_test false e = e

      other : same_name to from ≡ false
      other = by_test (same_name to from) refl

  pub twice : (n : Name) → exchanged from to (exchanged from to n) ≡ n
  twice n = exchanged_twice from to old_apart new_apart n

  abbrev pub after : FileSystems
  after = renamed_systems ss from to

  pub renamed_at : (n : Name) → get after n ≡ get ss (exchanged from to n)
  renamed_at n =
      get-from_entries name_order.total _ n
      ∙ found_renamed from to old_apart new_apart n (entries ss) (λ e i. can.free e.0 e.1 (at_entry name_order ss e.0 e.1 (entry_in (entries ss) e i)))
      ∙ sym (get-entries ss (exchanged from to n))

  pub renamed_back : (n : Name) → get after (exchanged from to n) ≡ get ss n
  renamed_back n = renamed_at (exchanged from to n) ∙ ap (get ss) (twice n)

  -- ---- its maps

  pub renamed_from : AreMapsFrom ss after
  renamed_from n s m at i = inr (exchanged from to n, s, sym (renamed_at n) ∙ at, i)

  back_from : AreMapsFrom after ss
  back_from n s m at i = inr (exchanged from to n, s, renamed_back n ∙ at, i)

  -- what isn't under the new name is what it was
  pub outside_kept : (n : Name) (f : FileSystem) → is_in_family to n ≡ false → get ss (exchanged from to n) ≡ Some f → exchanged from to n ≡ n
  outside_kept n f out is = exchanged_neither from to old_apart new_apart n (by_test (is_in_family from n) refl) out
    where
      by_test : (b : Bool) → is_in_family from n ≡ b → is_in_family from n ≡ false
      by_test true e =
          let k = behind from n e in
          let goes = ap (exchanged from to) k.0 ∙ exchanged_first from to old_apart new_apart (drop (length from) n) k.1 in
          absurd (true≢false (sym (goes_on_is to (drop (length from) n) ∙ k.1) ∙ can.free (to ++ drop (length from) n) f (ap (get ss) (sym goes) ∙ is)))
      by_test false e = e

  -- a name of both is the same file system's
  pub kept_name : (n : Name) (f g : FileSystem) → get ss n ≡ Some f → get after n ≡ Some g → exchanged from to n ≡ n
  kept_name n f g is is' = outside_kept n g (can.free n f is) (sym (renamed_at n) ∙ is')

  pub renamed_there : AreSnapsIn ss after
  renamed_there n s t at i = (exchanged from to n, s, t, renamed_back n ∙ at, i, refl)

-- ---- its hierarchy

module _ (ss : FileSystems) (h : IsHierarchy ss) (from to : Name) (can : CanRename ss from to) where
  abbrev second_apart : is_in_family to from ≡ false
  second_apart = new_apart ss from to can

  abbrev first_apart : is_in_family from to ≡ false
  first_apart = old_apart ss from to can

  abbrev later : FileSystems
  later = after ss from to can

  -- the root has neither name
  new_not_root : same_name root_name to ≡ false
  new_not_root = by_test (same_name root_name to) refl
    where
      by_test : (b : Bool) → same_name root_name to ≡ b → same_name root_name to ≡ false
      by_test true e = absurd (true≢false (sym (ap (λ b. b || is_descendant to root_name) e) ∙ outside ss from to can root_name h.root))
      by_test false e = e

  old_not_root : same_name root_name from ≡ false
  old_not_root = by_test (same_name root_name from) refl
    where
      by_test : (b : Bool) → same_name root_name from ≡ b → same_name root_name from ≡ false
      by_test true e = absurd (true≢false (sym (ap (λ x. same_name x root_name) (sym (one_name root_name from e)) ∙ name_itself root_name) ∙ can.not_root))
      by_test false e = e

  root_stays : exchanged from to root_name ≡ root_name
  root_stays = exchanged_neither from to first_apart second_apart root_name (root_apart from old_not_root) (root_apart to new_not_root)

  -- a name that is there and isn't of the old family keeps its name
  stays : (n : Name) → IsSome (get ss n) → is_in_family from n ≡ false → exchanged from to n ≡ n
  stays n some e = exchanged_neither from to first_apart second_apart n e (outside ss from to can n some)

  not_of_old : (p n : Name) → parent_of n ≡ Some p → is_in_family from n ≡ false → is_in_family from p ≡ false
  not_of_old p n is e = by_test (is_in_family from p) refl
    where
      or_right : (a b : Bool) → (a || b) ≡ false → b ≡ false
      or_right true b k = absurd (true≢false k)
      or_right false b k = k

      by_test : (b : Bool) → is_in_family from p ≡ b → is_in_family from p ≡ false
      by_test true f = absurd (true≢false (sym (descendant_by_parent from n p is ∙ f) ∙ or_right (same_name n from) (is_descendant from n) e))
      by_test false f = f

  -- what is under another name has a parent there
  has_one : (n : Name) → IsSome (get later n) → (n ≡ root_name) ⊎ IsTrue (has_parent later n)
  has_one n some = by_place (where_is from to first_apart second_apart (exchanged from to n))
    where
      was : IsSome (get ss (exchanged from to n))
      was = ap is_some (sym (renamed_at ss from to can n)) ∙ some

      -- the parent of what keeps its name keeps its own
      kept : is_in_family from n ≡ false → exchanged from to n ≡ n → (n ≡ root_name) ⊎ IsTrue (has_parent later n)
      kept e same = ⊎_elim
          (λ (is : exchanged from to n ≡ root_name). inl (sym same ∙ is))
          (λ up.
          let p = parent_there ss n (subst (λ x. IsTrue (has_parent ss x)) same up) in
          let out = not_of_old p.parent n p.named e in
          inr (is_parent later n (record {
            parent = p.parent;
            named = p.named;
            there = ap is_some (renamed_at ss from to can p.parent ∙ ap (get ss) (stays p.parent p.there out)) ∙ p.there;
          })))
          (h.parents (exchanged from to n) was)

      by_place : Where from to first_apart second_apart (exchanged from to n) → (n ≡ root_name) ⊎ IsTrue (has_parent later n)
      by_place (first rest is e) =
          let name : n ≡ to ++ rest = sym (twice ss from to can n) ∙ ap (exchanged from to) is ∙ exchanged_first from to first_apart second_apart rest e in
          inr (subst (λ x. IsTrue (has_parent later x)) (sym name) (below rest is e))
        where
          -- the parent of the new name is there, and that of one below it came with it
          below : (rest : Name) → exchanged from to n ≡ from ++ rest → goes_on rest ≡ true → IsTrue (has_parent later (to ++ rest))
          below rest is e = ⊎_elim
              (λ (none : rest ≡ []).
              let p = parent_there ss to can.parent in
              subst (λ x. IsTrue (has_parent later (to ++ x))) (sym none) (subst (λ x. IsTrue (has_parent later x)) (sym (append_none to)) (is_parent later to (record {
                parent = p.parent;
                named = p.named;
                there = ap is_some (renamed_at ss from to can p.parent ∙ ap (get ss) (stays p.parent p.there (not_of_old p.parent to p.named first_apart))) ∙ p.there;
              }))))
              (λ (front, up, goes).
              is_parent later (to ++ rest) (record {
                parent = to ++ front;
                named = parent_behind to rest front up;
                there = ap is_some (renamed_at ss from to can (to ++ front) ∙ ap (get ss) (exchanged_second from to first_apart second_apart front goes)) ∙ old_parent rest front is up;
              }))
              (goes_up rest e)
            where
              old_parent : (rest front : Name) → exchanged from to n ≡ from ++ rest → parent_of rest ≡ Some front → IsSome (get ss (from ++ front))
              old_parent rest front is up = ⊎_elim
                  (λ (root : exchanged from to n ≡ root_name). absurd (no_value (from ++ front) (ap parent_of (sym root ∙ is) ∙ parent_behind from rest front up)))
                  (λ some.
                  let p = parent_there ss (from ++ rest) (subst (λ x. IsTrue (has_parent ss x)) is some) in
                  subst (λ x. IsSome (get ss x)) (same_parent p.parent (from ++ front) (sym p.named ∙ parent_behind from rest front up)) p.there)
                  (h.parents (exchanged from to n) was)
                where
                  same_parent : (a b : Name) → Some a ≡ Some b → a ≡ b
                  same_parent a b k = cc
      by_place (second rest is e) = absurd (true≢false (sym (ap (is_in_family to) is ∙ goes_on_is to rest ∙ e) ∙ outside ss from to can (exchanged from to n) was))
      by_place (neither e f) =
          let same : n ≡ exchanged from to n = sym (twice ss from to can n) ∙ exchanged_neither from to first_apart second_apart (exchanged from to n) e f in
          kept (ap (is_in_family from) same ∙ e) (sym same)

  renamed_hierarchy : IsHierarchy later
  renamed_hierarchy = record {
    root = ap is_some (renamed_at ss from to can root_name ∙ ap (get ss) root_stays) ∙ h.root;
    parents = has_one;
    few =
        let a = few_entries (map (λ (e : Name × FileSystem). (renamed from to e.0, e.1)) (entries ss)) in
        let b = length-mapped {B = Name × FileSystem} (λ (e : Name × FileSystem). (renamed from to e.0, e.1)) (entries ss) in
        let c = len-entries ss in
        let d = h.few in
        omega (arith, a, b, c, d);
  }

-- ---- worlds

module _ (w : World) (good : AreFileSystems w.file_systems w.group) (from to : Name) (can : CanRename w.file_systems from to) where
  abbrev new : FileSystems
  new = after w.file_systems from to can

  pub rename_systems : AreFileSystems (with_renamed w from to).file_systems w.group
  rename_systems = record {
    lines = relabelled (shapes w.file_systems) (shapes new) (exchanged from to) (twice w.file_systems from to can)
        (λ n. ap (option_map shape_of) (renamed_at w.file_systems from to can n)) w.group good.lines;
    hierarchy = renamed_hierarchy w.file_systems good.hierarchy from to can;
    tidy = λ n s at. good.tidy (exchanged from to n) s (sym (renamed_at w.file_systems from to can n) ∙ at);
  }

  -- nothing is lost
  pub rename_union : union_of (with_renamed w from to) ≡ union_of w
  rename_union = same_members o _ _
      (union_from w (with_renamed w from to) w.group good.lines (renamed_from w.file_systems from to can))
      (union_from (with_renamed w from to) w w.group rename_systems.lines (back_from w.file_systems from to can))

  -- what holds of a world holds again
  module _ (size : ℕ) (whole : IsWorld size w) where
    pub rename_world : IsWorld size (with_renamed w from to)
    rename_world = world_same size w (with_renamed w from to) whole (renamed_from w.file_systems from to can) rename_systems refl

    pub rename_pairs : (last : World) → ArePaired size w last → ArePaired size (with_renamed w from to) last
    rename_pairs last = pair_same size w (with_renamed w from to) whole (renamed_from w.file_systems from to can) last refl (omega arith)
