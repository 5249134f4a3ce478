use Rattle.std.proofs.Common.{◌≡◌, map, take, vec_len}
use Rattle.std.specs.Prelude.{vec_capacity}
use Rattle.datasets.specs.CloneNames.{key_in}
use Rattle.datasets.proofs.clones.shared.Given as goal

-- the copies so far
abbrev pub invariant-loop-clone : goal.invariant-loop-clone
invariant-loop-clone l = record {
  items : map key_in l.copies.items ≡ map key_in (take l.clone-index l.clones);
  len : vec_len l.copies ≡ l.clone-index;
  capacity : vec_capacity l.copies ≡ vec_capacity l.initial.copies;
}
