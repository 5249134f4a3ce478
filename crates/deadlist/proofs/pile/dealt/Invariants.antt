use Rattle.std.proofs.Common.{◌≡◌, take, filter}
use Rattle.deadlist.specs.Entries.{is_after, is_upto}
use Rattle.deadlist.proofs.pile.dealt.Given as goal

abbrev pub invariant-loop-dead : goal.invariant-loop-dead
invariant-loop-dead l = (l.low.items ≡ filter (is_upto l.cut) (take l.dead-index l.entries)) × (l.high.items ≡ filter (is_after l.cut) (take l.dead-index l.entries))
