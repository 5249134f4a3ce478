-- What a walk of a tree finds at a key, and which records it adds there.
use Rattle.std.specs.Prelude.{◌≡◌, ◌≤◌, ◌<◌, ◌↔◌, ◌+◌, ℕ, List, [], ◌∷◌, ◌++◌, Option, None, Some, IsSome, IfSome}
use Rattle.std.specs.FinMap.{get}
use Rattle.base.specs.declared.number.Key.{Key}
use Rattle.base.specs.Key.{first_leaf}
use Rattle.base.specs.Map.{Cell}
use Rattle.base.specs.Surveys.{IsIn}
use Rattle.stream.specs.declared.record.Record.{Record}
use Rattle.stream.specs.declared.record.Record.TheVariants.{Free}
use Rattle.stream.specs.Records.{start_of, end_of}
use Rattle.tree.specs.Branch.{Branch, AreOwnOrBelow}
use Rattle.laws.specs.Records.{IsSent}

-- a branch that stands at the key (On-Disk Specification, chapter 3)
pub record IsAt (k : Key) (b : Branch) : Type 0 where
  pub key : b.key ≡ k
  pub there : IsSome (get b.map k)

-- its top was born after t (On-Disk Specification, chapter 2: birth txg)
pub record IsYoung (t : ℕ) (b : Branch) : Type 0 where
  pub cell : Cell
  pub there : get b.map b.key ≡ Some cell
  pub young : t < cell.birth
  pub keys : AreOwnOrBelow b

-- nothing of it was born after t (On-Disk Specification, chapter 2: birth txg)
abbrev pub IsOld : ℕ → Branch → Type 0
IsOld t b = (k : Key) → IfSome (get b.map k) (λ c. c.birth ≤ t)

-- a record that a send from group t has of what stands at a key: its free, where nothing does (zfs-send(8), -i; profile)
abbrev pub IsSentAt : ℕ → Key → Option Branch → Record → Type 0
IsSentAt t k None r = r ≡ Free k
IsSentAt t k (Some b) r = IsSent b.map t r

-- records in the order of their first leaves, from one leaf to another (profile)
abbrev pub AreRising : ℕ → List Record → ℕ → Type 0
AreRising from [] upto = from ≤ upto
AreRising from (r ∷ rs) upto = (from ≤ start_of r) × AreRising (start_of r + 1) rs upto

-- exactly the records of what stands at a key, in order (profile)
pub record AreSent (t : ℕ) (k : Key) (part : Option Branch) (rs : List Record) : Type 0 where
  pub each : (r : Record) → IsIn rs r ↔ IsSentAt t k part r
  pub rising : AreRising (first_leaf k) rs (end_of (Free k))

-- a list of records has those of what stands at a key after others (profile)
pub record AddsSent (t : ℕ) (k : Key) (part : Option Branch) (old new : List Record) : Type 0 where
  pub sent : List Record
  pub is : new ≡ old ++ sent
  pub are : AreSent t k part sent
