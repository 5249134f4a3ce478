use Rattle.std.proofs.Common.{◌≡◌, length}
use Rattle.std.specs.Option.{option_copied}
use Rattle.script.specs.Words.{words_of}
use Rattle.script.specs.Meaning.{snap_names_of}
use Rattle.script.specs.Reading.{words_left}
use Rattle.script.proofs.SnapWords.{after_names}
use Rattle.script.proofs.parse.snap_names.Given as goal

-- the names so far and those of the words that are left
abbrev pub invariant-loop-left : goal.invariant-loop-left
invariant-loop-left l =
    after_names l.names.items (snap_names_of (words_left (option_copied l.left))) ≡ snap_names_of (words_of l.fn.words)

abbrev pub decreases-loop-left : goal.decreases-loop-left
decreases-loop-left l = length (words_left (option_copied l.left))
