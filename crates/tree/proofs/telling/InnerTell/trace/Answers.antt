-- One step down, and then what the call below told of the levels below.
use Rattle.std.proofs.Common.{◌≡◌, ◌-◌, ◌/◌, ◌%◌, ◌^◌, ap, sym, ◌∙◌, arith}
use Rattle.std.specs.Option.{option_map}
use Rattle.base.specs.Map.{block_of}
use Rattle.base.specs.Surveys.{dead_block}
use Rattle.node.specs.Node.{inner_part, shared_part}
use Rattle.node.specs.Shape.{part_at, cell_below}
use Rattle.node.proofs.Pairs.{part_there, part_missing}
use Rattle.node.proofs.Reach.{steps_below-deep, counted-counted}
use Rattle.tree.specs.Bytes.{root_block}
use Rattle.tree.proofs.Told.{trace_kid, trace_gap}
use Rattle.tree.proofs.telling.InnerTell.trace.Goals as goal

pub returns-in-Some-clause-traced : goal.returns-in-Some-clause-traced
returns-in-Some-clause-traced g c =
    let place : c.step-place.result.0 ≡ c.args.at / 16 ^ (c.args.level - 1) = c.step-place.ensures.place ∙ ap (λ n. c.args.at / 16 ^ (n - 1)) c.from.ensures in
    let rest : c.step-place.result.1 ≡ c.args.at % 16 ^ (c.args.level - 1) = c.step-place.ensures.rest ∙ ap (λ n. c.args.at % 16 ^ (n - 1)) c.from.ensures in
    let at = part_there (shared_part g.C.Level.part) c.args.self.now.kids c.step-place.result.0 _ _ c.owner.ensures c.in-Some.is in
    trace_kid c.args.level c.args.at c.args.path.now c.root_at.result (inner_part g.C.Level.part c.args.self.now) (omega (arith, c.told-path, c.requires.low))
    (ap root_block c.root_at.ensures ∙ ap dead_block c.block.ensures) (omega (arith, c.requires.level))
    (g.C.Level.part c.in-Some.kid.now.value) c.trace.new.path (ap (part_at (inner_part g.C.Level.part c.args.self.now).below) (sym place) ∙ at)
    (λ l low. c.trace.ensures.traced l low ∙ (λ z. option_map block_of (cell_below (c.args.level - 1 - l) (g.C.Level.part (c.deref.ensures z)) (rest z / 16 ^ l))))
    c.trace.ensures.above

pub returns-in-Some-clause-metered : goal.returns-in-Some-clause-metered
returns-in-Some-clause-metered g c =
    let place : c.step-place.result.0 ≡ c.args.at / 16 ^ (c.args.level - 1) = c.step-place.ensures.place ∙ ap (λ n. c.args.at / 16 ^ (n - 1)) c.from.ensures in
    let rest : c.step-place.result.1 ≡ c.args.at % 16 ^ (c.args.level - 1) = c.step-place.ensures.rest ∙ ap (λ n. c.args.at % 16 ^ (n - 1)) c.from.ensures in
    let at = part_there (shared_part g.C.Level.part) c.args.self.now.kids c.step-place.result.0 _ _ c.owner.ensures c.in-Some.is in
    rw (steps_below-deep c.args.level _ _ (λ e. omega (arith, e, c.requires.level)), ← place, at, ← rest, ← c.deref.ensures, ← counted-counted, ← c.add_one.ensures.metered) c.trace.ensures.metered

pub returns-in-None-clause-traced : goal.returns-in-None-clause-traced
returns-in-None-clause-traced g c =
    let place : c.step-place.result.0 ≡ c.args.at / 16 ^ (c.args.level - 1) = c.step-place.ensures.place ∙ ap (λ n. c.args.at / 16 ^ (n - 1)) c.from.ensures in
    let at = part_missing (shared_part g.C.Level.part) c.args.self.now.kids c.step-place.result.0 _ c.owner.ensures c.in-None.is in
    trace_gap c.args.level c.args.at c.args.path.now c.root_at.result (inner_part g.C.Level.part c.args.self.now) (omega (arith, c.told-path, c.requires.low))
    (ap root_block c.root_at.ensures ∙ ap dead_block c.block.ensures) (omega (arith, c.requires.level))
    (ap (part_at (inner_part g.C.Level.part c.args.self.now).below) (sym place) ∙ at) c.requires.empty

pub returns-in-None-clause-metered : goal.returns-in-None-clause-metered
returns-in-None-clause-metered g c =
    let place : c.step-place.result.0 ≡ c.args.at / 16 ^ (c.args.level - 1) = c.step-place.ensures.place ∙ ap (λ n. c.args.at / 16 ^ (n - 1)) c.from.ensures in
    let at = part_missing (shared_part g.C.Level.part) c.args.self.now.kids c.step-place.result.0 _ c.owner.ensures c.in-None.is in
    rw (steps_below-deep c.args.level _ _ (λ e. omega (arith, e, c.requires.level)), ← place, at) c.add_one.ensures.metered
