-- The blocks on a path, by what the root's part has below it.
use Rattle.std.proofs.Common.{◌-◌, ◌/◌, ◌^◌, None, sym, ap, ◌∙◌, arith}
use Rattle.std.proofs.lemmas.List.{get_or-replicate}
use Rattle.std.proofs.Math.Nat.{div-one}
use Rattle.std.specs.Option.{option_map}
use Rattle.std.specs.FinMap as fin
use Rattle.base.specs.Key.{key_cmp}
use Rattle.base.specs.Map.{block_of}
use Rattle.base.specs.Counting.{counted}
use Rattle.node.specs.Entries.{map_of}
use Rattle.node.specs.Shape.{cell_below, steps_below}
use Rattle.node.specs.Node.{root_forest, root_part}
use Rattle.node.proofs.Reach.{counted-none}
use Rattle.node.proofs.Find.{map_of-empty}
use Rattle.node.proofs.Roots.{get-root}
use Rattle.tree.specs.Bytes.{maybe_block}
use Rattle.tree.specs.Reading.{key_over, present_on_path}
use Rattle.tree.proofs.Told.{over_within}
use Rattle.tree.proofs.Present.{present-empty, present-root}
use Rattle.tree.proofs.tree.Tree.path.Goals as goal

pub returns-in-Some-clause-path : goal.returns-in-Some-clause-path
returns-in-Some-clause-path c = λ l low.
    c.trace.ensures.traced l low
    ∙ ap (λ r. option_map block_of (cell_below (5 - l) (root_part r) (c.args.leaf / 16 ^ l))) c.deref.ensures
    ∙ sym (ap (option_map block_of) (ap (λ m. fin.get m (key_over c.args.leaf l)) (sym c.self.view_is) ∙ get-root (key_over c.args.leaf l) _ c.in-Some.root _ low (over_within c.args.leaf l c.requires low) c.in-Some.is c.self.invariant.well))

pub returns-in-Some-clause-metered : goal.returns-in-Some-clause-metered
returns-in-Some-clause-metered c =
    c.trace.ensures.metered
    ∙ ap (λ r. counted c.args.meter.now (steps_below 5 (root_part r) c.args.leaf)) c.deref.ensures
    ∙ ap (λ q. counted c.args.meter.now (steps_below 5 (root_part c.in-Some.root.value) q)) (sym (div-one c.args.leaf))
    ∙ ap (counted c.args.meter.now) (sym (ap (λ m. present_on_path m (key_over c.args.leaf 0)) (sym c.self.view_is)
    ∙ present-root (map_of (root_forest c.self.inside.root)) (root_part c.in-Some.root.value) (key_over c.args.leaf 0) (omega arith) (over_within c.args.leaf 0 c.requires (omega arith))
    (λ j l b. get-root j _ c.in-Some.root _ l b c.in-Some.is c.self.invariant.well)))

pub returns-in_default-clause-path : goal.returns-in_default-clause-path
returns-in_default-clause-path c = λ l low.
    ap maybe_block (get_or-replicate 6 l None None (omega (arith, low)))
    ∙ sym (ap (option_map block_of) (ap (λ m. fin.get m (key_over c.args.leaf l)) (sym c.self.view_is ∙ ap (λ r. map_of (root_forest r)) c.in_default.is ∙ map_of-empty) ∙ fin.get-empty key_cmp (key_over c.args.leaf l)))

pub returns-in_default-clause-metered : goal.returns-in_default-clause-metered
returns-in_default-clause-metered c =
    counted-none _ _ (omega (arith, c.count-reached.ensures)) (ap (λ m. present_on_path m (key_over c.args.leaf 0)) (sym c.self.view_is ∙ ap (λ r. map_of (root_forest r)) c.in_default.is ∙ map_of-empty) ∙ present-empty (key_over c.args.leaf 0))
