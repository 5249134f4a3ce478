-- File systems that go, one after another: what is left, and what is lost.
use Rattle.std.proofs.Common.{◌≡◌, ℕ, Bool, not, zero, suc, ◌+◌, ◌-◌, ◌<◌, ◌≤◌, get_or, true, false, List, [], ◌∷◌, ◌++◌, Result, Ok, Err, refl, sym, ap, subst, ◌∙◌, true≢false, map, length, take, drop, arith}
use Rattle.std.specs.Prelude.{OnOk}
use Rattle.std.specs.FinMap.{get, entries}
use Rattle.std.specs.FinSet.{union}
use Rattle.std.proofs.lemmas.List.{take-append-drop}
use Rattle.snap.proofs.Rests.{next_left, none_left}
use Rattle.base.specs.Map.{BlockSet}
use Rattle.base.specs.Names.{root_name, same_name}
use Rattle.model.specs.requests.Destroy.{file_systems_named}
use Rattle.std.specs.List.{list_any}
use Rattle.world.proofs.removals.Families.{from_retained}
use Rattle.model.specs.World.{union_of}
use Rattle.datasets.specs.Rows.{Entry}
use Rattle.model.specs.Hierarchy.{is_in_family}
use Rattle.world.proofs.lists.Names.{goes_on}
use Rattle.world.specs.Sets.{IsSubset, AreDisjoint}
use Rattle.world.specs.Worlds.{AreFileSystems}
use Rattle.world.specs.Tables.{Datasets, CanRemoveFileSystem, world_of, without_system, lost_between}
use Rattle.world.proofs.changes.Drawn.{union_from}
use Rattle.world.proofs.lineage.Put.{gone_maps}
use Rattle.removals.specs.Edits.{HasLost}
use Rattle.removals.specs.Families.{ArePartOf, IsBareFamily}
use Rattle.removals.specs.Requests.{without_family}
use Rattle.removals.proofs.Families.{family_parts}
use Rattle.removals.proofs.Losses.{has_lost}
use Rattle.removals.proofs.SystemsGone.{left_by, none_left_by, other_row, row_at, row_goes, can_go, family_gone}

-- without a file system the datasets have no other blocks
fewer_gone : (t : Datasets) → AreFileSystems t.file_systems t.group → (name : List ℕ) → IsSubset (union_of (world_of (without_system t name))) (union_of (world_of t))
fewer_gone t good name = union_from (world_of t) (world_of (without_system t name)) t.group good.lines (gone_maps t.file_systems name)

-- a file system that goes, whose lost blocks these are
pub lost_gone : {T E : Type 0} (r : Result T E) (t u : Datasets) (freeing after : BlockSet) (lost : BlockSet) → AreFileSystems t.file_systems t.group → AreDisjoint (union_of (world_of t)) freeing → (name : List ℕ)
    → u ≡ without_system t name → lost ≡ lost_between t u → OnOk r (after ≡ union freeing lost) → OnOk r (HasLost t freeing u after)
lost_gone (Ok x) t u freeing after lost good apart name to is joined =
    has_lost t u freeing after (subst (λ v. IsSubset (union_of (world_of v)) (union_of (world_of t))) (sym to) (fewer_gone t good name)) apart (joined ∙ ap (union freeing) is)
lost_gone (Err e) t u freeing after lost good apart name to is joined = tt

-- the root is of no other family
pub root_alone : (name : List ℕ) → is_in_family name root_name ≡ true → name ≡ root_name
root_alone name e = let f = family_parts name root_name e in by_parts name f.0 f.1 f.2
  where
    by_parts : (a rest : List ℕ) → root_name ≡ a ++ rest → goes_on rest ≡ true → a ≡ root_name
    by_parts [] [] is h = absurd cc
    by_parts [] (x ∷ xs) is h = absurd (true≢false (sym h ∙ ap goes_on (sym is)))
    by_parts (x ∷ []) rest is h = by_rest x rest is
      where
        by_rest : (x : ℕ) (rest : List ℕ) → root_name ≡ x ∷ rest → x ∷ [] ≡ root_name
        by_rest x [] is = sym is
        by_rest x (y ∷ ys) is = absurd cc
    by_parts (x ∷ y ∷ ys) rest is h = absurd cc

-- ---- the loop, from the last row on

module _ (t : Datasets) (name : List ℕ) (rows : List Entry) (is : rows ≡ entries t.file_systems) (i : ℕ) (r : Entry) (here : drop i rows ≡ r ∷ drop (i + 1) rows) where
  parts : entries t.file_systems ≡ take i rows ++ r ∷ drop (i + 1) rows
  parts = sym is ∙ sym (take-append-drop i rows) ∙ ap (λ l. take i rows ++ l) here

  -- a row that isn't of the family stays
  pub turn_stays : is_in_family name r.0 ≡ false → (u : Datasets) → u ≡ left_by t name (drop (i + 1) rows) → u ≡ left_by t name (drop i rows)
  turn_stays out u so_far = so_far ∙ sym (other_row t name r (drop (i + 1) rows) out) ∙ ap (left_by t name) (sym here)

  module _ (within : is_in_family name r.0 ≡ true) (u : Datasets) (so_far : u ≡ left_by t name (drop (i + 1) rows)) where
    -- it may go
    pub turn_can : ¬ (name ≡ root_name) → IsBareFamily t name → CanRemoveFileSystem u r.0
    turn_can not_root bare = subst (λ v. CanRemoveFileSystem v r.0) (sym so_far)
        (can_go t name (take i rows) r (drop (i + 1) rows) parts within (λ e. not_root (root_alone name (ap (is_in_family name) e ∙ within)))
        (bare r.0 r.1 (row_at t name (take i rows) r (drop (i + 1) rows) parts within) within))

    -- and goes
    pub turn_goes : (v : Datasets) → v ≡ without_system u r.0 → v ≡ left_by t name (drop i rows)
    turn_goes v to =
        to ∙ ap (λ w. without_system w r.0) so_far
        ∙ ap (λ ss. record t { file_systems = ss }) (row_goes t name (take i rows) r (drop (i + 1) rows) parts within)
        ∙ ap (left_by t name) (sym here)

-- before the first turn, and after the last
module _ (t : Datasets) (name : List ℕ) (rows : List Entry) (is : rows ≡ entries t.file_systems) where
  pub first_turn : (n : ℕ) → n ≡ length rows → (u : Datasets) → u ≡ t → u ≡ left_by t name (drop n rows)
  first_turn n all u same = same ∙ sym (none_left_by t name) ∙ ap (left_by t name) (sym (none_left rows n (omega (arith, all))))

  pub last_turn : (u : Datasets) → u ≡ left_by t name (drop 0 rows) → u ≡ without_family t name true
  last_turn u so_far = so_far ∙ ap (left_by t name) is ∙ family_gone t name

-- the same of shared rows, of which those from `left` on have had their turn
module _ {A : Type 0} (value : A → Entry) (t : Datasets) (name : List ℕ) (xs : List A) (is : map value xs ≡ entries t.file_systems) (left : ℕ) (some : 0 < left) (inside : left ≤ length xs)
    (a : A) (item : a ≡ get_or xs (left - 1) a) (r : Entry) (row_is : r ≡ value a) where
  next : left - 1 + 1 ≡ left
  next = omega (arith, some)

  here : drop (left - 1) (map value xs) ≡ r ∷ drop (left - 1 + 1) (map value xs)
  here = dropped (left - 1) xs
      ∙ ap (map value) (next_left xs (left - 1) a (omega (arith, some, inside)) item)
      ∙ (λ i. sym row_is i ∷ sym (dropped (left - 1 + 1) xs) i)
    where
      dropped : (n : ℕ) (ys : List A) → drop n (map value ys) ≡ map value (drop n ys)
      dropped zero ys = refl
      dropped (suc n) [] = refl
      dropped (suc n) (y ∷ ys) = dropped n ys

  module _ (u : Datasets) (so_far : u ≡ left_by t name (drop left (map value xs))) where
    before : u ≡ left_by t name (drop (left - 1 + 1) (map value xs))
    before = so_far ∙ ap (λ n. left_by t name (drop n (map value xs))) (sym next)

    pub stays : is_in_family name r.0 ≡ false → u ≡ left_by t name (drop (left - 1) (map value xs))
    stays out = turn_stays t name (map value xs) is (left - 1) r here out u before

    module _ (within : is_in_family name r.0 ≡ true) where
      pub can : ¬ (name ≡ root_name) → IsBareFamily t name → CanRemoveFileSystem u r.0
      can = turn_can t name (map value xs) is (left - 1) r here within u before

      pub goes : (v : Datasets) → v ≡ without_system u r.0 → v ≡ left_by t name (drop (left - 1) (map value xs))
      goes = turn_goes t name (map value xs) is (left - 1) r here within u before

-- what is left was there
pub family_part : (t : Datasets) (name : List ℕ) (recursive : Bool) (u : Datasets) → u ≡ without_family t name recursive → ArePartOf u t
family_part t name recursive u is n f at =
    (from_retained t.file_systems (λ n. not (list_any (same_name n) (file_systems_named (world_of t) name recursive))) n f (ap (λ (v : Datasets). get v.file_systems n) (sym is) ∙ at)).1
