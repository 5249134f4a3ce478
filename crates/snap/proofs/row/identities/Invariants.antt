use Rattle.std.proofs.Common.{◌≡◌, ◌+◌, ◌++◌, ◌≤◌, drop, map, length}
use Rattle.std.specs.Prelude.{vec_len, vec_capacity}
use Rattle.snap.specs.declared.row.Open.{Open}
use Rattle.snap.proofs.row.identities.Given as goal

-- those so far and those that are left are all
abbrev pub invariant-loop-view : goal.invariant-loop-view
invariant-loop-view l =
    (l.ids.items ++ map (λ (v : Open). v.snapshot) (drop l.view-index l.views) ≡ map (λ (v : Open). v.snapshot) l.views)
    × (vec_len l.ids + length (drop l.view-index l.views) ≤ vec_capacity l.ids)
