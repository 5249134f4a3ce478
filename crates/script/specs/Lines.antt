-- The lines of a script, and how a reader gives one.
use Rattle.std.specs.Prelude.{◌≡◌, ◌≢◌, ℕ, ◌+◌, ◌==◌, List, [], ◌∷◌, ◌++◌, Option, Some, length, take, All, if◌then◌else◌}
use Rattle.std.specs.List.{slice_split}
use Rattle.std.specs.Io.KnownBytes.{Keeps, Consumes, IsAtEnd}
use Rattle.script.specs.declared.lines.Step.{Step}
use Rattle.script.specs.declared.lines.Step.TheVariants.{More, Feed, End}

-- pieces without a last one that is empty
abbrev pub without_empty_end : List (List ℕ) → List (List ℕ)
without_empty_end [] = []
without_empty_end (piece ∷ []) = if length piece == 0 then [] else piece ∷ []
without_empty_end (piece ∷ next ∷ pieces) = piece ∷ without_empty_end (next ∷ pieces)

-- lines end with a line feed, which the last one may lack
unfoldable pub lines : List ℕ → List (List ℕ)
lines bytes = without_empty_end (slice_split (λ b. b == 10) bytes)

-- a line has at most this many bytes
unfoldable pub line_limit : ℕ
line_limit = 4194304

-- what is kept of a line: one byte more than its limit shows that it is too long
abbrev pub kept_of : List ℕ → List ℕ
kept_of line = take (line_limit + 1) line

-- no byte is a line feed
abbrev pub HasNoFeed : List ℕ → Type 0
HasNoFeed bytes = All (λ b. b ≢ 10) bytes

-- some bytes more of a line were taken
pub record TakesMore (told later : Option (List ℕ)) (old new : List ℕ) : Type 0 where
  pub bytes : List ℕ
  pub no_feed : HasNoFeed bytes
  pub taken : Consumes told later bytes
  pub kept : new ≡ kept_of (old ++ bytes)

-- a line's last bytes were taken, and its line feed
pub record TakesFeed (told later : Option (List ℕ)) (old new : List ℕ) : Type 0 where
  pub bytes : List ℕ
  pub no_feed : HasNoFeed bytes
  pub taken : Consumes told later (bytes ++ 10 ∷ [])
  pub kept : new ≡ kept_of (old ++ bytes)

-- nothing is left
pub record FindsEnd (told later : Option (List ℕ)) (old new : List ℕ) : Type 0 where
  pub at_end : IsAtEnd told
  pub left : Keeps told later
  pub kept : new ≡ old

-- one look at a reader's buffer
abbrev pub Looks : Option (List ℕ) → Option (List ℕ) → List ℕ → List ℕ → Step → Type 0
Looks told later old new More = TakesMore told later old new
Looks told later old new Feed = TakesFeed told later old new
Looks told later old new End = FindsEnd told later old new

-- a reader gave a line, of which this much is kept: whatever it has left, before it stood that line
pub record GivesLine (told later : Option (List ℕ)) (kept : List ℕ) : Type 0 where
  pub line : List ℕ
  pub kept_is : kept ≡ kept_of line
  pub before : (rest : List ℕ) → Keeps later (Some rest) → (all : List ℕ) × Keeps told (Some all) × (lines all ≡ line ∷ lines rest)

-- a reader had no line left
abbrev pub GivesNone : Option (List ℕ) → Type 0
GivesNone told = Keeps told (Some [])

-- a reader has bytes left
abbrev pub HasMore : Option (List ℕ) → Type 0
HasMore told = (left : List ℕ) × Keeps told (Some left) × (left ≢ [])
