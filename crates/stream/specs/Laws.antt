-- Laws of the spelling.
use Rattle.std.specs.Prelude.{◌≡◌, ℕ, List, [], ◌++◌}
use Rattle.stream.specs.Spelling.{Sending, IsStream}

-- one list of records with its guids has one spelling
abbrev pub HasOneSpelling : Type 0
HasOneSpelling = (a b : List ℕ) (s : Sending) → IsStream a s → IsStream b s → a ≡ b

-- the same bytes say the same guids and records
abbrev pub HasOneReading : Type 0
HasOneReading = (bytes : List ℕ) (s t : Sending) → IsStream bytes s → IsStream bytes t → s ≡ t

-- no stream is the beginning of another
abbrev pub BeginsNoOther : Type 0
BeginsNoOther = (a more : List ℕ) (s t : Sending) → IsStream a s → IsStream (a ++ more) t → more ≡ []
