-- What the parts of a reader find.
use Rattle.std.specs.Prelude.{Option, None, Some, ◌≢◌, ◌≤◌, ◌<◌, ℕ, List, [], ◌∷◌, ◌++◌, length}
use Rattle.std.specs.List.{All, flat_map}
use Rattle.std.specs.Int.{to_be_bytes, w32}
use Rattle.std.specs.Io.KnownBytes.{Consumes, IsAtEnd}
use Rattle.sha2.specs.declared.Sha256.{Sha256}
use Rattle.sha2.specs.Hashers.{Holds256}
use Rattle.base.specs.declared.number.Key.{Key}
use Rattle.base.specs.Key.{IsKey}
use Rattle.stream.specs.declared.record.Record.{Record}
use Rattle.stream.specs.declared.record.Record.TheVariants.{Write, Free}
use Rattle.stream.specs.Records.{start_of}
use Rattle.stream.specs.Spelling.{header, record_bytes, IsRecord, AreApartFrom, AreGuids}

-- a reader gave these bytes, and a hasher took them
pub record Passes (told later : Option (List ℕ)) (old new : Sha256) (bytes : List ℕ) : Type 0 where
  pub taken : Consumes told later bytes
  pub hashed : (m : List ℕ) → Holds256 old m → Holds256 new (m ++ bytes)

-- a reader gave all that it had left, fewer bytes than these
pub record ComesShort (told later : Option (List ℕ)) (n : ℕ) : Type 0 where
  pub bytes : List ℕ
  pub taken : Consumes told later bytes
  pub fewer : length bytes < n
  pub at_end : IsAtEnd later

-- no header of a stream begins the bytes
abbrev pub HasNoHeader : List ℕ → Type 0
HasNoHeader bytes = (source target : ℕ) (rest : List ℕ) → AreGuids source target → bytes ≢ header source target ++ rest

-- no record that may stand after this leaf begins the bytes, and the end doesn't either
pub record HasNoNext (from : ℕ) (bytes : List ℕ) : Type 0 where
  pub no_end : (rest : List ℕ) → bytes ≢ 0 ∷ rest
  pub no_record : (r : Record) (rest : List ℕ) → IsRecord r → from ≤ start_of r → bytes ≢ record_bytes r ++ rest

-- no leaf and block that a write may have begin the bytes
abbrev pub HasNoWrite : ℕ → List ℕ → Type 0
HasNoWrite from bytes = (leaf : ℕ) (block rest : List ℕ) → IsRecord (Write leaf block) → from ≤ leaf → bytes ≢ (to_be_bytes w32 leaf ++ block) ++ rest

-- no key that a free may have begins the bytes
abbrev pub HasNoFree : ℕ → List ℕ → Type 0
HasNoFree from bytes = (k : Key) (rest : List ℕ) → IsKey k → from ≤ start_of (Free k) → bytes ≢ k.level ∷ to_be_bytes w32 k.index ++ rest

-- no records and end begin the bytes
abbrev pub HasNoRecords : List ℕ → Type 0
HasNoRecords bytes = (rs : List Record) (rest : List ℕ) → All IsRecord rs → AreApartFrom 0 rs → bytes ≢ flat_map record_bytes rs ++ 0 ∷ rest

-- a record that may stand after this leaf was read, or the end
abbrev pub FindsNext : ℕ → Option (List ℕ) → Option (List ℕ) → Sha256 → Sha256 → Option Record → Type 0
FindsNext from told later old new None = Passes told later old new (0 ∷ [])
FindsNext from told later old new (Some r) = Passes told later old new (record_bytes r) × IsRecord r × (from ≤ start_of r)
