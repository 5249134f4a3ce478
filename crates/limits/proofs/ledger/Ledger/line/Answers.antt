use Rattle.std.proofs.Common.{length, get_or, ap, ◌∙◌, arith}
use Rattle.world.specs.Tables.{world_of}
use Rattle.limits.specs.Lines.{used_in}
use Rattle.limits.proofs.Rooms.{line_within, line_at}
use Rattle.limits.proofs.ledger.Ledger.line.Goals as goal

pub index-requires : goal.index-requires
index-requires c =
    let w = line_within (world_of c.args.table.now) c.args.self.now c.requires.own c.args.name.now c.in-Some.place c.in-Some.ensures.some in
    let l = ap length c.self.view_is in
    let o = c.self.inside.lines.ok.0 in
    omega (arith, w, l, o)

pub returns-clause-value : goal.returns-clause-value
returns-clause-value c = line_at (world_of c.args.table.now) c.args.self.now c.requires.own c.args.name.now c.in-Some.place c.in-Some.ensures.some
    c.index.result.now (c.index.ensures ∙ ap (λ ls. get_or ls c.in-Some.place c.index.result.now) c.self.view_is)

pub returns-clause-small : goal.returns-clause-small
returns-clause-small c =
    let w = line_within (world_of c.args.table.now) c.args.self.now c.requires.own c.args.name.now c.in-Some.place c.in-Some.ensures.some in
    let l = ap length c.self.view_is in
    let u = ap used_in c.index.ensures in
    let s = c.self.invariant.0 c.in-Some.place c.index.result.now (omega (arith, w, l)) in
    omega (arith, u, s)
