-- The pairs so far have the parts that are to come.
use Rattle.std.proofs.Common.{◌≡◌, ℕ, ◌<◌, ◌≤◌, get_or, length}
use Rattle.node.specs.declared.pair.Pair.TheVariants.{Neither}
use Rattle.node.specs.Node.{shared_part}
use Rattle.tree.proofs.Sides.{Alike}
use Rattle.tree.proofs.copy.keep_below.Given as goal

abbrev pub invariant-loop-at : goal.invariant-loop-at
invariant-loop-at g l = record {
  eight : length l.kids ≡ 8;
  same : (i : ℕ) → i < l.at → Alike (shared_part g.C.Level.part) (get_or l.kids i Neither) (get_or l.fn.from i Neither);
  rest : (i : ℕ) → l.at ≤ i → get_or l.kids i Neither ≡ get_or l.fn.kids i Neither;
}
