use Rattle.std.proofs.Common.{◌≡◌, ◌≤◌, drop}
use Rattle.script.specs.Words.{number_from}
use Rattle.script.proofs.parse.digits.Given as goal

-- the digits so far make the value
abbrev pub invariant-loop-c : goal.invariant-loop-c
invariant-loop-c l = (number_from l.most l.value (drop l.c-index l.word) ≡ number_from l.most 0 l.word) × (l.value ≤ l.most)
