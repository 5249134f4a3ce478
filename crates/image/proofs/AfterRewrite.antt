-- After a rewrite of a map, an image in which its new blocks were written holds the new map.
use Rattle.std.proofs.Common.{ℕ, List}
use Rattle.base.specs.declared.number.Key.{Key}
use Rattle.base.specs.Map.{Map}
use Rattle.base.specs.Rewrite.{Changes, rewrite, is_touched}
use Rattle.base.proofs.Untouched.{untouched_below, rewrite_keeps}
use Rattle.image.specs.HasBlocks.{HasBlocks}
use Rattle.image.specs.BlockWrites.{blocks_put, AreWritesOf, AreApart}
use Rattle.image.proofs.AfterChange.{LeavesUntouched, holds_after, written_new}

pub rewrite_leaves : (m : Map) (c : Changes) (g : ℕ) (number : Key → ℕ) → LeavesUntouched m (rewrite m c g number) (is_touched m c)
rewrite_leaves m c g number = record { kept = rewrite_keeps m c g number; below = untouched_below m c }

pub holds_rewritten : (m : Map) (c : Changes) (g : ℕ) (number : Key → ℕ) (image : ℕ → List ℕ) (ws : List (ℕ × List ℕ))
    → HasBlocks image m → AreWritesOf (rewrite m c g number) (is_touched m c) ws → AreApart m (is_touched m c) (rewrite m c g number) (is_touched m c) → HasBlocks (blocks_put image ws) (rewrite m c g number)
holds_rewritten m c g number image ws holds w apart =
    holds_after m (rewrite m c g number) (is_touched m c) image (blocks_put image ws) (rewrite_leaves m c g number) (written_new m (rewrite m c g number) (is_touched m c) image ws w apart) holds
