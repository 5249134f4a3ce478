-- The command line.
use Rattle.std.specs.Prelude.{ℕ, ◌+◌, ◌&&◌, not, Bool, true, false, nat_le, List, [], ◌∷◌, drop, Option, Some, None, if◌then◌else◌, codes}
use Rattle.std.specs.Str.{bytes_eq}
use Rattle.zalloc.specs.declared.TheConstants.{MOST_BLOCKS}
use Rattle.script.specs.Words.{number_of_word}
use Rattle.runner.specs.declared.args.Args.{Args}

-- the first word is this one (profile)
abbrev pub is_first : List ℕ → List (List ℕ) → Bool
is_first option [] = false
is_first option (word ∷ words) = bytes_eq word option

-- a number from 1 on (profile)
abbrev pub limited : ℕ → Option ℕ → Option ℕ
limited most None = None
limited most (Some n) = if nat_le 1 n && nat_le n most then Some n else None

-- a word that says a number from 1 on (profile)
abbrev pub within : ℕ → List ℕ → Option ℕ
within most word = limited most (number_of_word word)

-- the command line, where both numbers are there (profile)
abbrev pub with_numbers : Bool → Bool → Option ℕ → Option ℕ → Option ℕ → Option Args
with_numbers stop workers (Some blocks) (Some id) script = Some (record { stop = stop; workers = workers; blocks = blocks; id = id; script = script })
with_numbers stop workers (Some blocks) None script = None
with_numbers stop workers None id script = None

-- `BLOCKS POOLID [SCRIPT]`, the first of them at this place (profile)
abbrev pub operands_of : Bool → Bool → ℕ → List (List ℕ) → Option Args
operands_of stop workers first (blocks ∷ id ∷ []) = with_numbers stop workers (within MOST_BLOCKS blocks) (within 4294967295 id) None
operands_of stop workers first (blocks ∷ id ∷ script ∷ []) = with_numbers stop workers (within MOST_BLOCKS blocks) (within 4294967295 id) (Some (first + 2))
operands_of stop workers first _ = None

-- `[-w] BLOCKS POOLID [SCRIPT]`, the first of them at this place (profile)
abbrev pub beside_of : Bool → ℕ → List (List ℕ) → Option Args
beside_of stop first words = if is_first (codes "-w") words then operands_of stop true (first + 1) (drop 1 words) else operands_of stop false first words

-- `[-e] [-w] BLOCKS POOLID [SCRIPT]` (profile)
abbrev pub args_of : List (List ℕ) → Option Args
args_of words = if is_first (codes "-e") words then beside_of true 1 (drop 1 words) else beside_of false 0 words

-- no command line, or one with a number outside its limits (profile)
abbrev pub is_bad : Option Args → Bool
is_bad None = true
is_bad (Some args) = not (nat_le 1 args.id && nat_le 1 args.blocks && nat_le args.blocks MOST_BLOCKS)
