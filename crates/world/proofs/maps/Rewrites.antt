-- A rewrite is a change in the pool's words.
use Rattle.std.proofs.Common.{ℕ}
use Rattle.base.specs.declared.number.Key.{Key}
use Rattle.base.specs.Map.{Map}
use Rattle.base.specs.Rewrite.{Changes, rewrite, is_touched}
use Rattle.base.proofs.Untouched.{untouched_below, rewrite_keeps, rewrite_makes}
use Rattle.world.specs.Numbering.{ChangesKeys}

pub rewrite_is_change : (m : Map) (c : Changes) (g : ℕ) (number : Key → ℕ) → ChangesKeys m (rewrite m c g number) (is_touched m c) g number
rewrite_is_change m c g number = record {
  kept = rewrite_keeps m c g number;
  made = rewrite_makes m c g number;
  below = untouched_below m c;
}
