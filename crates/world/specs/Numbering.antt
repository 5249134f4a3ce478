-- A change of one map of a family, whose new cells have numbers that no other cell has.
use Rattle.std.specs.Prelude.{◌≡◌, ℕ, ◌⊎◌, Bool, true, false, Some, IsTrue}
use Rattle.std.specs.FinMap.{get}
use Rattle.base.specs.declared.number.Key.{Key}
use Rattle.base.specs.Key.{is_at_or_below}
use Rattle.base.specs.Map.{Map, Cell}
pub use Rattle.world.specs.Worlds.{AreCellsOne}

-- What a change of a map is to a pool: the keys that it touches, and the numbers and the birth of the cells that it makes there (profile)
pub record ChangesKeys (old new : Map) (touched : Key → Bool) (g : ℕ) (number : Key → ℕ) : Type 0 where
  pub kept : (k : Key) → touched k ≡ false → get new k ≡ get old k
  pub made : (k : Key) (c : Cell) → touched k ≡ true → get new k ≡ Some c → (c.number ≡ number k) × (c.birth ≡ g)
  pub below : (k q : Key) → touched k ≡ false → IsTrue (is_at_or_below k q) → touched q ≡ false

-- one map of the family changes (profile)
pub record ChangesAt {D : Type 0} (old new : D → Map) (at : D) (touched : Key → Bool) (g : ℕ) (number : Key → ℕ) : Type 0 where
  pub change : ChangesKeys (old at) (new at) touched g number
  pub rest : (e : D) → ((¬ (e ≡ at)) × (new e ≡ old e)) ⊎ (e ≡ at)

-- The numbers of the keys that it makes are no cell's that stays, and each is one key's (profile)
pub record AreNumbersFresh {D : Type 0} (old : D → Map) (new : Map) (at : D) (touched : Key → Bool) (number : Key → ℕ) : Type 0 where
  pub apart :
      (e : D) (j k : Key) (b c : Cell) → get (old e) j ≡ Some b → touched k ≡ true → get new k ≡ Some c → b.number ≡ number k
      → (e ≡ at) × (touched j ≡ true)
  pub once :
      (j k : Key) (b c : Cell) → touched j ≡ true → touched k ≡ true → get new j ≡ Some b → get new k ≡ Some c
      → number j ≡ number k → j ≡ k
