-- What the readers of words answer.
use Rattle.std.specs.Prelude.{◌≡◌, ◌⊎◌, ℕ, List, [], Option, Some, None, Result, Ok, Err}
use Rattle.base.specs.declared.refusal.Refusal.{Refusal}
use Rattle.base.specs.declared.refusal.Refusal.TheVariants.{NoMemory, BadLine}
use Rattle.base.specs.declared.name.target.Target.{Target}
use Rattle.model.specs.declared.request.Request.{Request}
use Rattle.script.specs.Words.{words_of}
use Rattle.script.specs.Meaning.{Meaning, Faulty, Asks, block_request_of, tag_request_of, target_request_of, name_request_of, number_request_of, bare}

-- nothing is left of a line, or these bytes after a space (profile)
abbrev pub words_left : Option (List ℕ) → List (List ℕ)
words_left None = []
words_left (Some rest) = words_of rest

-- the request that a line asks, or its fault, unless memory ran out
abbrev pub Means : Result Request Refusal → Meaning → Type 0
Means (Ok request) m = m ≡ Asks request
Means (Err refusal) m = (refusal ≡ NoMemory) ⊎ (m ≡ Faulty refusal)

-- a request at a block that a line asks, or its fault, unless memory ran out
abbrev pub MeansBlock : Result (Target × ℕ × ℕ) Refusal → List (List ℕ) → (Target → ℕ → ℕ → Request) → Type 0
MeansBlock (Ok place) words request = block_request_of request words ≡ Asks (request place.0 place.1 place.2)
MeansBlock (Err refusal) words request = (refusal ≡ NoMemory) ⊎ (block_request_of request words ≡ Faulty refusal)

-- a request of a tag that a line asks, or its fault, unless memory ran out
abbrev pub MeansTagged : Result (List ℕ × Target) Refusal → List (List ℕ) → (List ℕ → Target → Request) → Type 0
MeansTagged (Ok tagged) words request = tag_request_of request words ≡ Asks (request tagged.0 tagged.1)
MeansTagged (Err refusal) words request = (refusal ≡ NoMemory) ⊎ (tag_request_of request words ≡ Faulty refusal)

-- a request of one dataset or bookmark that a line asks, or its fault, unless memory ran out
abbrev pub MeansTarget : Result Target Refusal → List (List ℕ) → (Target → Request) → Type 0
MeansTarget (Ok target) words request = target_request_of request words ≡ Asks (request target)
MeansTarget (Err refusal) words request = (refusal ≡ NoMemory) ⊎ (target_request_of request words ≡ Faulty refusal)

-- a request of one file system that a line asks, or its fault, unless memory ran out
abbrev pub MeansName : Result (List ℕ) Refusal → List (List ℕ) → (List ℕ → Request) → Type 0
MeansName (Ok name) words request = name_request_of request words ≡ Asks (request name)
MeansName (Err refusal) words request = (refusal ≡ NoMemory) ⊎ (name_request_of request words ≡ Faulty refusal)

-- a request of one number that a line asks, or its fault
abbrev pub MeansNumber : Result ℕ Refusal → List (List ℕ) → (ℕ → Request) → Type 0
MeansNumber (Ok n) words request = number_request_of request words ≡ Asks (request n)
MeansNumber (Err refusal) words request = number_request_of request words ≡ Faulty refusal

-- a request without operands that a line asks, or its fault
abbrev pub MeansBare : Result (Unit {0}) Refusal → List (List ℕ) → Request → Type 0
MeansBare (Ok _) words request = bare request words ≡ Asks request
MeansBare (Err refusal) words request = bare request words ≡ Faulty refusal

-- the bytes that a word says, or BadLine where it says none, unless memory ran out
abbrev pub Says : Result (List ℕ) Refusal → Option (List ℕ) → Type 0
Says (Ok bytes) said = said ≡ Some bytes
Says (Err refusal) said = (refusal ≡ NoMemory) ⊎ ((refusal ≡ BadLine) × (said ≡ None))
