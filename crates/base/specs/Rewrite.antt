-- Copy on write, as a change from one whole map to another (On-Disk Specification, chapter 3: a changed block is written anew, and so are the blocks that point to it; the rules of vanishing ancestors are profile).
use Rattle.std.specs.Prelude.{◌≡◌, ℕ, Bool, false, List, [], ◌++◌, Option, None, Some, unwrap_or, ◌==◌, cond, not, ◌||◌, ◌&&◌}
use Rattle.std.specs.List.{list_any, filter, filter_map, flat_map}
use Rattle.std.specs.Option.{option_map}
use Rattle.std.specs.FinMap.{get, insert, entries, keys, from_entries}
use Rattle.std.specs.FinMap as finmap
use Rattle.base.specs.declared.number.Key.{Key}
use Rattle.base.specs.Key.{covers, path, object_of}
use Rattle.base.specs.Map.{Cell, Map, Contents, contents}

-- the leaves that a change writes, each with its bytes, and those that it punches; none is in both (profile)
pub record Changes : Type 0 where
  pub writes : Contents
  pub punches : ℕ → Bool

-- one leaf written (profile)
abbrev pub writes_leaf : ℕ → List ℕ → Changes
writes_leaf leaf bytes = record { writes = insert finmap.empty leaf bytes; punches = λ _. false }

-- one leaf punched (profile)
abbrev pub punches_leaf : ℕ → Changes
punches_leaf leaf = record { writes = finmap.empty; punches = λ n. n == leaf }

-- every block of one object punched (profile)
abbrev pub frees_object : ℕ → Changes
frees_object object = record { writes = finmap.empty; punches = λ n. object_of n == object }

-- the contents once the changes are made (profile)
unfoldable pub changed_contents : Contents → Changes → Contents
changed_contents old c = from_entries (entries c.writes ++ filter (λ e. not (c.punches e.0)) (entries old))

-- a written leaf, a present leaf that is punched, or an ancestor of one of these (On-Disk Specification, chapter 3)
unfoldable pub is_touched : Map → Changes → Key → Bool
is_touched m c k = list_any (covers k) (keys c.writes) || list_any (λ leaf. c.punches leaf && covers k leaf) (keys (contents m))

-- the cell of a touched key: none where no leaf is left below it, and else a new one, born in group g (On-Disk Specification, chapter 3; profile)
unfoldable pub new_cell : Contents → ℕ → (Key → ℕ) → Key → Option Cell
new_cell after g number k =
    cond (list_any (covers k) (keys after)) (Some (record { number = number k; birth = g; bytes = cond (k.level == 0) (unwrap_or (get after k.index) []) [] })) None

-- the cell of any key afterwards: one that isn't touched keeps its own (On-Disk Specification, chapter 3)
unfoldable pub cell_after : Map → Changes → ℕ → (Key → ℕ) → Key → Option Cell
cell_after m c g number k = cond (is_touched m c k) (new_cell (changed_contents (contents m) c) g number k) (get m k)

-- the whole map afterwards; the new numbers are the pool's choice (On-Disk Specification, chapter 3)
unfoldable pub rewrite : Map → Changes → ℕ → (Key → ℕ) → Map
rewrite m c g number = from_entries (filter_map (λ k. option_map (λ cell. (k, cell)) (cell_after m c g number k)) (keys m ++ flat_map path (keys (changed_contents (contents m) c))))

-- a change of the tree, with some choice of numbers (On-Disk Specification, chapter 3)
abbrev pub IsRewrite : Map → Changes → ℕ → Map → Type 0
IsRewrite old c g new = (number : Key → ℕ) × (new ≡ rewrite old c g number)
