-- What a batch says of each leaf.
use Rattle.std.specs.Prelude.{◌≡◌, ◌⊎◌, ℕ, ◌+◌, ◌*◌, ◌/◌, ◌^◌, ◌<◌, ◌≤◌, Bool, false, cond, IsTrue, List, [], ◌∷◌, Some, ◌==◌, slice_get, slice_index, length}
use Rattle.base.specs.Key.{covers}
use Rattle.batch.specs.Updates.{first_of, past_of, IsOfTree}
use Rattle.batch.specs.declared.update.Update.{Update}
use Rattle.batch.specs.declared.update.Update.TheVariants.{Write, Punch}

-- nothing, that the leaf becomes a hole, or its new bytes (profile)
pub data Said : Type 0 where
  silent : Said
  hole : Said
  full : List ℕ → Said

-- what one update says (profile)
abbrev pub said_by : Update → ℕ → Said
said_by (Write leaf bytes) n = cond (leaf == n) (full bytes.now) silent
said_by (Punch key) n = cond (covers key n) hole silent

-- (profile)
abbrev pub first_said : Said → Said → Said
first_said silent b = b
first_said hole b = hole
first_said (full bytes) b = full bytes

-- what the first update that speaks of a leaf says (profile)
unfoldable pub said : List Update → ℕ → Said
said [] n = silent
said (u ∷ us) n = first_said (said_by u n) (said us n)

-- whether an update writes (profile)
abbrev pub is_write : Update → Bool
is_write (Write leaf bytes) = Rattle.std.specs.Prelude.true
is_write (Punch key) = false

-- updates of leaves that a tree can have, each past the ones before (profile)
pub record AreInOrder (us : List Update) : Type 0 where
  pub own : (i : ℕ) (u : Update) → slice_get us i ≡ Some u → IsOfTree u
  pub rising : (i k : ℕ) (u v : Update) → i < k → slice_get us i ≡ Some u → slice_get us k ≡ Some v → past_of u ≤ first_of v

-- 512 octets, where an update writes (profile)
abbrev pub IsSized : Update → Type 0
IsSized (Write leaf bytes) = (length bytes.now ≡ 512) × ((i : ℕ) → slice_index bytes.now i < 256)
IsSized (Punch key) = Unit {0}

-- (profile)
pub record AreSized (us : List Update) : Type 0 where
  pub each : (i : ℕ) (u : Update) → slice_get us i ≡ Some u → IsSized u

-- nothing is said of a leaf, or that it becomes the hole that it is (profile)
abbrev pub IsIdle : (ℕ → Said) → Bool → Type 0
IsIdle s present = (n : ℕ) → (s n ≡ silent) ⊎ ((s n ≡ hole) × (present ≡ false))

-- one leaf is spoken of and nothing is said of any other; it is written, or becomes a hole (profile)
pub record IsOneLeaf (s : ℕ → Said) (leaf : ℕ) (writes : Bool) : Type 0 where
  pub spoken : ¬ (s leaf ≡ silent)
  pub others : (n : ℕ) → ¬ (n ≡ leaf) → s n ≡ silent
  pub written : IsTrue writes → (bytes : List ℕ) × (s leaf ≡ full bytes)
  pub punched : ¬ (IsTrue writes) → s leaf ≡ hole

-- the one leaf that is spoken of is below the place p of the key with the index j one level above l (profile)
pub record IsWay (s : ℕ → Said) (l j p : ℕ) (writes : Bool) : Type 0 where
  pub leaf : ℕ
  pub one : IsOneLeaf s leaf writes
  pub few : p < 16
  pub at : 16 * j + p ≡ leaf / 16 ^ l
