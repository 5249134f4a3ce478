-- What the map has at a key, by what the root's part has below it.
use Rattle.std.proofs.Common.{◌≡◌, Some, subst, ◌^◌, ◌<◌, ◌≤◌, ◌-◌, sym, ap, ◌∙◌, arith}
use Rattle.std.specs.FinMap as fin
use Rattle.base.specs.Key.{key_cmp}
use Rattle.base.specs.Counting.{counted}
use Rattle.node.specs.Shape.{cell_below, steps_below}
use Rattle.node.specs.Entries.{map_of, IsWell}
use Rattle.tree.specs.Reading.{present_on_path}
use Rattle.node.specs.Kid.{birth_of}
use Rattle.node.specs.Node.{whole, root_forest, root_part}
use Rattle.node.proofs.Reach.{counted-none}
use Rattle.node.proofs.Find.{get-map_of_high, map_of-empty}
use Rattle.node.proofs.Roots.{get-root, get-past}
use Rattle.node.proofs.Leaves.{bytes_there}
use Rattle.tree.proofs.Present.{present-empty, present-high, present-past, present-root}
use Rattle.tree.proofs.tree.Tree.read.Goals as goal

pub returns-in_default-clause-cell : goal.returns-in_default-clause-cell
returns-in_default-clause-cell c =
    sym (ap (λ m. fin.get m c.args.key) (sym c.self.view_is) ∙ ap (λ r. fin.get (map_of (root_forest r)) c.args.key) c.in_default.is ∙ ap (λ m. fin.get m c.args.key) map_of-empty ∙ fin.get-empty key_cmp c.args.key)

pub returns-in_default-clause-metered : goal.returns-in_default-clause-metered
returns-in_default-clause-metered c =
    counted-none _ _ (omega (arith, c.count-reached.ensures)) (ap (λ m. present_on_path m c.args.key) (sym c.self.view_is ∙ ap (λ r. map_of (root_forest r)) c.in_default.is ∙ map_of-empty) ∙ present-empty c.args.key)

pub returns-then-key-gt5-clause-cell : goal.returns-then-key-gt5-clause-cell
returns-then-key-gt5-clause-cell c =
    sym (ap (λ m. fin.get m c.args.key) (sym c.self.view_is) ∙ get-map_of_high c.args.key.level c.args.key.index (birth_of (whole c.self.inside.root)) (root_forest c.self.inside.root) c.if-key-gt5.true c.self.invariant.well)

pub returns-then-key-gt5-clause-metered : goal.returns-then-key-gt5-clause-metered
returns-then-key-gt5-clause-metered c = counted-none _ _ (omega (arith, c.count-reached.ensures)) (present-high _ c.args.key c.if-key-gt5.true)

pub returns-then-key-span-clause-cell : goal.returns-then-key-span-clause-cell
returns-then-key-span-clause-cell c =
    let d : c.from-depth.result ≡ 5 - c.args.key.level = c.from-depth.ensures in
    let p : 16 ^ c.from-depth.result ≡ 16 ^ (5 - c.args.key.level) = ap (λ n. 16 ^ n) d in
    let here : c.args.key.index < 16 ^ (5 - c.args.key.level) = omega (arith, c.span.ensures, c.if-key-span.true, p) in
    c.find.ensures.found
    ∙ ap (λ n. cell_below n (root_part c.deref.result.now) c.args.key.index) d
    ∙ ap (λ r. cell_below (5 - c.args.key.level) (root_part r) c.args.key.index) c.deref.ensures
    ∙ sym (ap (λ m. fin.get m c.args.key) (sym c.self.view_is) ∙ get-root c.args.key _ c.in-Some.root _ c.if-key-gt5.false here c.in-Some.is c.self.invariant.well)

pub returns-then-key-span-clause-metered : goal.returns-then-key-span-clause-metered
returns-then-key-span-clause-metered c =
    let d : c.from-depth.result ≡ 5 - c.args.key.level = c.from-depth.ensures in
    let p : 16 ^ c.from-depth.result ≡ 16 ^ (5 - c.args.key.level) = ap (λ n. 16 ^ n) d in
    let here : c.args.key.index < 16 ^ (5 - c.args.key.level) = omega (arith, c.span.ensures, c.if-key-span.true, p) in
    c.find.ensures.metered
    ∙ ap (λ n. counted c.args.meter.now (steps_below n (root_part c.deref.result.now) c.args.key.index)) d
    ∙ ap (λ r. counted c.args.meter.now (steps_below (5 - c.args.key.level) (root_part r) c.args.key.index)) c.deref.ensures
    ∙ ap (counted c.args.meter.now) (sym (ap (λ m. present_on_path m c.args.key) (sym c.self.view_is)
    ∙ present-root (map_of (root_forest c.self.inside.root)) (root_part c.in-Some.root.value) c.args.key c.if-key-gt5.false here
    (λ j l b. get-root j _ c.in-Some.root _ l b c.in-Some.is c.self.invariant.well)))

pub returns-else-key-span-clause-cell : goal.returns-else-key-span-clause-cell
returns-else-key-span-clause-cell c =
    let p : 16 ^ c.from-depth.result ≡ 16 ^ (5 - c.args.key.level) = ap (λ n. 16 ^ n) c.from-depth.ensures in
    let past : 16 ^ (5 - c.args.key.level) ≤ c.args.key.index = omega (arith, c.span.ensures, c.if-key-span.false, p) in
    sym (ap (λ m. fin.get m c.args.key) (sym c.self.view_is) ∙ get-past c.args.key _ _ c.if-key-gt5.false past c.self.invariant.well)

pub returns-else-key-span-clause-metered : goal.returns-else-key-span-clause-metered
returns-else-key-span-clause-metered c =
    let p : 16 ^ c.from-depth.result ≡ 16 ^ (5 - c.args.key.level) = ap (λ n. 16 ^ n) c.from-depth.ensures in
    let past : 16 ^ (5 - c.args.key.level) ≤ c.args.key.index = omega (arith, c.span.ensures, c.if-key-span.false, p) in
    counted-none _ _ (omega (arith, c.count-reached.ensures)) (ap (λ m. present_on_path m c.args.key) (sym c.self.view_is)
    ∙ present-past (map_of (root_forest c.self.inside.root)) c.args.key past (λ j l h. get-past j c.self.inside.root _ l h c.self.invariant.well))

-- a leaf stands five levels below the root
pub returns-then-key-span-clause-bytes : goal.returns-then-key-span-clause-bytes
returns-then-key-span-clause-bytes c =
    let well : IsWell 5 (birth_of (whole c.self.inside.root)) (root_forest (Some c.in-Some.root)) = subst (λ r. IsWell 5 (birth_of (whole c.self.inside.root)) (root_forest r)) c.in-Some.is c.self.invariant.well in
    bytes_there (c.args.key.level ≡ 0) _ (root_part c.in-Some.root.value) c.args.key.index c.find.result well (λ leaf.
    let depth : c.from-depth.result ≡ 5 = omega (arith, c.from-depth.ensures) in
    c.find.ensures.found
    ∙ ap (λ n. cell_below n (root_part c.deref.result.now) c.args.key.index) depth
    ∙ ap (λ r. cell_below 5 (root_part r) c.args.key.index) c.deref.ensures)
