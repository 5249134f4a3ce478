-- The bytes of a send stream (profile; zfs-send(8) leaves the format open).
use Rattle.std.specs.Prelude.{Option, None, Some, ◌≡◌, ◌≢◌, ◌<◌, ◌≤◌, ◌==◌, ◌^◌, ℕ, List, [], ◌∷◌, ◌++◌, length, if◌then◌else◌}
use Rattle.std.specs.List.{All, flat_map}
use Rattle.std.specs.Int.{to_be_bytes, w32, w64}
use Rattle.sha2.specs.Sha256.{sha256}
use Rattle.base.specs.declared.number.Guid.{Guid}
use Rattle.base.specs.Key.{IsKey}
use Rattle.stream.specs.declared.record.Record.{Record}
use Rattle.stream.specs.declared.record.Record.TheVariants.{Write, Free}
use Rattle.stream.specs.Records.{start_of, end_of}

-- what a stream says: the guids of its two snapshots, the source's 0 where it has none, and its records (zfs-send(8); profile)
pub record Sending : Type 0 where
  pub source : ℕ
  pub target : ℕ
  pub records : List Record

-- a source by its guid, or none by 0 (profile)
abbrev pub source_guid : ℕ → Option Guid
source_guid n = if n == 0 then None else Some (record { 0 = n })

-- the guid of a source, or 0 for none (profile)
abbrev pub guid_number : Option Guid → ℕ
guid_number None = 0
guid_number (Some guid) = guid.0

-- the text `ZDSTRM01` (profile)
abbrev pub magic : List ℕ
magic = 0x5a ∷ 0x44 ∷ 0x53 ∷ 0x54 ∷ 0x52 ∷ 0x4d ∷ 0x30 ∷ 0x31 ∷ []

-- the text, and then the guids of source and target (profile)
abbrev pub header : ℕ → ℕ → List ℕ
header source target = magic ++ to_be_bytes w64 source ++ to_be_bytes w64 target

-- a write has its leaf and the 512 bytes, a free the level and the index of its key (profile)
abbrev pub record_bytes : Record → List ℕ
record_bytes (Write leaf bytes) = 1 ∷ (to_be_bytes w32 leaf ++ bytes)
record_bytes (Free k) = 2 ∷ k.level ∷ to_be_bytes w32 k.index

-- all before the digest (profile)
abbrev pub digested_bytes : Sending → List ℕ
digested_bytes s = header s.source s.target ++ flat_map record_bytes s.records ++ 0 ∷ []

-- the header, the records and the end, which has the SHA-256 of all before it (profile)
unfoldable pub spell : Sending → List ℕ
spell s = digested_bytes s ++ sha256 (digested_bytes s)

-- a leaf below 16^5 with 512 bytes, or a key (profile)
abbrev pub IsRecord : Record → Type 0
IsRecord (Write leaf bytes) = (leaf < 16 ^ 5) × (length bytes ≡ 512) × All (λ b. b < 256) bytes
IsRecord (Free k) = IsKey k

-- the first record begins at this leaf or past it, and each other one past the end of the one before it (profile)
abbrev pub AreApartFrom : ℕ → List Record → Type 0
AreApartFrom from [] = Unit {0}
AreApartFrom from (r ∷ rs) = (from ≤ start_of r) × AreApartFrom (end_of r) rs

-- the guids of a stream: each of 64 bits, the target's not 0, and not the source's (profile)
pub record AreGuids (source target : ℕ) : Type 0 where
  pub source_fits : source < 2 ^ 64
  pub target_fits : target < 2 ^ 64
  pub target_named : target ≢ 0
  pub different : source ≢ target

-- what a stream may say: records that are in order and don't overlap (profile)
pub record KeepsRules (s : Sending) : Type 0 where
  pub guids : AreGuids s.source s.target
  pub each : All IsRecord s.records
  pub apart : AreApartFrom 0 s.records

-- the bytes, to their end, spell this, and it keeps the rules (profile)
pub record IsStream (bytes : List ℕ) (s : Sending) : Type 0 where
  pub rules : KeepsRules s
  pub spelled : bytes ≡ spell s

-- the bytes are no stream (profile)
abbrev pub IsNoStream : List ℕ → Type 0
IsNoStream bytes = (s : Sending) → ¬ IsStream bytes s
