use Rattle.std.proofs.Common.{◌≡◌}
use Rattle.zalloc.specs.Sets.{IsKept}
use Rattle.zalloc.proofs.Sets.{AreLeft}
use Rattle.zalloc.proofs.set.NumberSet.copy_windows.Given as goal

abbrev pub invariant-loop-window : goal.invariant-loop-window
invariant-loop-window l = record {
  kept : IsKept l.self;
  numbers : l.self.numbers ≡ l.fn.self.numbers;
  left : AreLeft l.self l.other l.windows l.window-index;
}
