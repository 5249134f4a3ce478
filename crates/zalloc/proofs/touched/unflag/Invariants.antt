use Rattle.std.proofs.Common.{◌≡◌, ℕ, length, vec_len, vec_capacity, true, Some, slice_get}
use Rattle.std.specs.List.{Contains}
use Rattle.zalloc.proofs.touched.unflag.Given as goal

abbrev pub invariant-loop-window : goal.invariant-loop-window
invariant-loop-window l = record {
  size : length l.flags.items ≡ length l.initial.flags.items;
  listed : (k : ℕ) → slice_get l.flags.items k ≡ Some true → Contains l.noted.items k;
  room : vec_capacity l.noted ≡ vec_capacity l.initial.noted;
}

abbrev pub decreases-loop-window : goal.decreases-loop-window
decreases-loop-window l = vec_len l.noted
