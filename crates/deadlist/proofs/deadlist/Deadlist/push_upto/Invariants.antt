use Rattle.std.proofs.Common.{◌≡◌, ◌+◌, ◌++◌, take, filter, length}
use Rattle.deadlist.specs.Entries.{is_upto}
use Rattle.deadlist.proofs.deadlist.Deadlist.push_upto.Given as goal

-- the entries so far, and the room for the others
abbrev pub invariant-loop-dead : goal.invariant-loop-dead
invariant-loop-dead l = record {
  entries : l.self.entries ≡ l.fn.self.entries ++ filter (is_upto l.cut.0) (take l.dead-index l.entries);
  cuts : l.self.cuts ≡ l.fn.self.cuts;
  waiting : l.self.waiting ≡ l.fn.self.waiting + length (filter (is_upto l.cut.0) (take l.dead-index l.entries));
  steps : l.self.steps ≡ l.fn.self.steps;
  room : l.self.room + length (filter (is_upto l.cut.0) (take l.dead-index l.entries)) ≡ l.fn.self.room;
}
