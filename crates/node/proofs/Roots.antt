-- What the map of a root has at a key.
use Rattle.std.proofs.Common.{◌≡◌, ℕ, ◌-◌, ◌^◌, ◌<◌, ◌≤◌, Option, Some, None, refl, sym, ap, ◌∙◌, arith, [], ◌∷◌}
use Rattle.std.specs.Option.{option_map}
use Rattle.std.specs.FinMap as fin
use Rattle.std.specs.declared.sync.Arc.{Arc}
use Rattle.std.specs.declared.alloc.Global.{Global}
use Rattle.base.specs.declared.number.Key.{Key}
use Rattle.base.specs.Key.{key_cmp}
use Rattle.node.specs.Shape.{Part, cell_below, done}
use Rattle.node.specs.Entries.{map_of, cell_in, cell_count, IsWell}
use Rattle.node.specs.Kid.{IsKid, birth_of, cells}
use Rattle.node.specs.Node.{Root, whole, root_forest, root_part, shared_part}
use Rattle.node.specs.Sound.{IsSoundTree}
use Rattle.node.proofs.Options.{if_some}
use Rattle.node.proofs.Parts.{cell_opt}
use Rattle.node.proofs.Find.{get-map_at, get-map_of_high, cell_in-past, cell_in-root, cell_in-gap_here, map_of-empty}
use Rattle.std.specs.Prelude.{IfSome}
use Rattle.base.specs.Map.{Map}
use Rattle.node.specs.Shape.{forest_of}

pub get-root : (k : Key) (root : Option (Arc Root Global)) (a : Arc Root Global) (g : ℕ) → k.level ≤ 5 → k.index < 16 ^ (5 - k.level) → root ≡ Some a → IsWell 5 g (root_forest root)
    → fin.get (map_of (root_forest root)) k ≡ cell_below (5 - k.level) (root_part a.value) k.index
get-root k root a g l h e w =
    get-map_at k g (root_forest root) l w ∙ ap (λ r. cell_in (5 - k.level) (root_forest r) k.index) e ∙ cell_in-root (5 - k.level) k.index (shared_part root_part) a h

pub get-past : (k : Key) (root : Option (Arc Root Global)) (g : ℕ) → k.level ≤ 5 → 16 ^ (5 - k.level) ≤ k.index → IsWell 5 g (root_forest root) → fin.get (map_of (root_forest root)) k ≡ None
get-past k root g l h w = get-map_at k g (root_forest root) l w ∙ cell_in-past (5 - k.level) k.index (shared_part root_part) root h

-- a tree without a block is sound
pub sound-none : IsSoundTree None 0
sound-none = record {
  well = tt;
  counted = refl;
  unique = record { one = λ j k a b h g e. let n : None ≡ Some a = sym (ap (λ m. fin.get m j) map_of-empty ∙ fin.get-empty key_cmp j) ∙ h in cc };
}

-- a root's forest of one place, by the part that stands there
pub root_well : {A : Type 0} (f : A → Part) (o : Option A) (g : ℕ) → IsKid 5 g (option_map f o) → IsWell 5 (birth_of (option_map f o)) (forest_of f (o ∷ []))
root_well f None g k = tt
root_well f (Some a) g k = (omega arith, k.1.0, k.1.1, tt)

pub root_kid : {A : Type 0} (f : A → Part) (o : Option A) (g : ℕ) → IsWell 5 (birth_of (option_map f o)) (forest_of f (o ∷ [])) → birth_of (option_map f o) ≤ g → IsKid 5 g (option_map f o)
root_kid f None g w h = tt
root_kid f (Some a) g w h = (h, (w.1, w.2))

pub root_cells : {A : Type 0} (f : A → Part) (o : Option A) → cells (option_map f o) ≡ cell_count (forest_of f (o ∷ []))
root_cells f None = refl
root_cells f (Some a) = omega arith

module _ (root : Option (Arc Root Global)) (h : ℕ) (well : IsWell 5 h (root_forest root)) where
  abbrev m : Map
  m = map_of (root_forest root)

  -- what the map has at a key of a level
  pub get-here : (k : Key) → k.level ≤ 5 → k.index < 16 ^ (5 - k.level) → fin.get m k ≡ cell_opt (5 - k.level) (whole root) k.index
  get-here k l b = get-map_at k h (root_forest root) l well ∙ at root
    where
      at : (o : Option (Arc Root Global)) → cell_in (5 - k.level) (root_forest o) k.index ≡ cell_opt (5 - k.level) (whole o) k.index
      at None = cell_in-gap_here (5 - k.level) done k.index b
      at (Some a) = cell_in-root (5 - k.level) k.index (shared_part root_part) a b

  pub none-high : (k : Key) → 5 < k.level → fin.get m k ≡ None
  none-high k l = get-map_of_high k.level k.index h (root_forest root) l well

  pub none-past : (k : Key) → k.level ≤ 5 → 16 ^ (5 - k.level) ≤ k.index → fin.get m k ≡ None
  none-past k l b = get-past k root h l b well

-- no block is younger than the newest cell of the map
pub root_birth : (root : Option (Arc Root Global)) (h g : ℕ) → IsWell 5 h (root_forest root) → ((k : Key) → IfSome (fin.get (map_of (root_forest root)) k) (λ c. c.birth ≤ g)) → birth_of (whole root) ≤ g
root_birth None h g w b = omega arith
root_birth (Some a) h g w b =
    let k : Key = record { level = 5; index = 0 } in
    if_some (λ c. c.birth ≤ g) _ (root_part a.value).cell (get-here (Some a) h w k (omega arith) (omega arith)) (b k)
