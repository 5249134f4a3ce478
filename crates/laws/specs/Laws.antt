-- What a send is good for: its records carry what the source holds to what the sent map holds.
use Rattle.std.specs.Prelude.{◌≡◌, ℕ}
use Rattle.std.specs.FinMap as finmap
use Rattle.base.specs.declared.number.Key.{Key}
use Rattle.base.specs.Map.{Map, IsTree, contents}
use Rattle.base.specs.Rewrite.{Changes, changed_contents, rewrite, IsRewrite}
use Rattle.stream.specs.Records.{records_since, apply_records, changes_of}
use Rattle.stream.specs.Spelling.{Sending, AreGuids, IsStream, spell}
use Rattle.laws.specs.Records.{SharesUntil, SharesBlocks, AreBirthsRising, AreBornBy, AreBorn}

-- the records since group g, applied to what s holds, give what t holds, where s has what t has from that group and before (zfs-send(8), -i)
abbrev pub SendsDifference : Type 0
SendsDifference = (n m g : ℕ) (s t : Map) → IsTree n s → IsTree m t → SharesUntil g s t → apply_records (records_since t g) (contents s) ≡ contents t

-- the records since group 0, applied to nothing, give what t holds (zfs-send(8))
abbrev pub FullSends : Type 0
FullSends = (n : ℕ) (t : Map) → IsTree n t → AreBorn t → apply_records (records_since t 0) finmap.empty ≡ contents t

-- where the blocks are shared, what is below them is too (On-Disk Specification, chapters 2 and 3)
abbrev pub BlocksAreEnough : Type 0
BlocksAreEnough = (n g : ℕ) (s t : Map) → IsTree n t → AreBirthsRising t → SharesBlocks g s t → SharesUntil g s t

-- and so it is where the source has no block that was born later (On-Disk Specification, chapters 2 and 3)
abbrev pub OldBlocksAreEnough : Type 0
OldBlocksAreEnough = (g : ℕ) (s t : Map) → AreBornBy g s → SharesBlocks g s t → SharesUntil g s t

-- A snapshot is what its records make of a source: of every map with births up to group g, in which each block of the snapshot that was born
-- by g is a block at the same key, with the same bytes and the same blocks below (zfs-send(8), -i)
abbrev pub SourcesBecomeSnapshots : Type 0
SourcesBecomeSnapshots =
    (n m g : ℕ) (s t : Map) → IsTree n s → IsTree m t → AreBornBy g s → SharesBlocks g s t → apply_records (records_since t g) (contents s) ≡ contents t

-- what a send says (zfs-send(8))
abbrev pub sending_of : ℕ → ℕ → Map → ℕ → Sending
sending_of source target m t = record { source = source; target = target; records = records_since m t }

-- the spelling of a send is a stream that says it, whatever the map and the group, where its guids are a stream's (zfs-send(8); profile)
abbrev pub SendsAreStreams : Type 0
SendsAreStreams = (n t source target : ℕ) (m : Map) → IsTree n m → AreGuids source target → IsStream (spell (sending_of source target m t)) (sending_of source target m t)

-- a map after a change holds what it held, changed (On-Disk Specification, chapter 3)
abbrev pub RewriteChangesContents : Type 0
RewriteChangesContents = (m : Map) (c : Changes) (g : ℕ) (number : Key → ℕ) → contents (rewrite m c g number) ≡ changed_contents (contents m) c

-- the records since group t, as one change of a live map that holds what s held, give it what the sent map holds, whatever the open group and
-- the numbers are (zfs-receive(8))
abbrev pub ReceivesDifference : Type 0
ReceivesDifference =
    (n m t g : ℕ) (s live sent new : Map) → IsTree n s → IsTree m sent → SharesUntil t s sent → contents live ≡ contents s
    → IsRewrite live (changes_of (records_since sent t)) g new → contents new ≡ contents sent

-- the records since group 0, as one change of a map that has nothing (zfs-receive(8))
abbrev pub FullReceives : Type 0
FullReceives =
    (n g : ℕ) (sent new : Map) → IsTree n sent → AreBorn sent → IsRewrite finmap.empty (changes_of (records_since sent 0)) g new → contents new ≡ contents sent
