use Rattle.std.proofs.Common.{ℕ, List, set, sym, subst, ◌∙◌, arith}
use Rattle.std.specs.FinMap.{keys}
use Rattle.limits.specs.declared.line.Line.{Line}
use Rattle.limits.specs.Changes.{CanWalkUp, IsBehind, line_with}
use Rattle.limits.proofs.Order.{keys_count}
use Rattle.limits.proofs.Settling.{walk_used, walk_counted, walk_little, can_go_on, walk_on, walk_ends, parent_stays}
use Rattle.limits.proofs.change.settle_from.Goals as goal

pub charge-requires : goal.charge-requires
charge-requires c = let u = walk_used c.args.table.now.file_systems c.args.lines.now c.args.place c.args.line c.requires.can in omega (arith, u)

pub next_change-next-requires-clause-long : goal.next_change-next-requires-clause-long
next_change-next-requires-clause-long c = c.requires.can.long ∙ sym (keys_count c.args.table.now.file_systems)

pub next_change-next-requires-clause-within : goal.next_change-next-requires-clause-within
next_change-next-requires-clause-within c = c.requires.can.within

pub next_change-next-requires-clause-small : goal.next_change-next-requires-clause-small
next_change-next-requires-clause-small c =
    let u = walk_used c.args.table.now.file_systems c.args.lines.now c.args.place c.args.line c.requires.can in
    let m = c.charge.ensures.most in
    omega (arith, u, m)

pub next_change-next-requires-clause-counted : goal.next_change-next-requires-clause-counted
next_change-next-requires-clause-counted c = walk_counted c.args.table.now.file_systems c.args.lines.now c.args.place c.args.line c.requires.can

pub settle_above-requires-clause-can : goal.settle_above-requires-clause-can
settle_above-requires-clause-can c =
    let m = c.args.table.now.file_systems in
    let lines : List Line = c.args.lines.now in
    let place : ℕ = c.args.place in
    let line : Line = c.args.line in
    let next = c.in-Some.ensures.some line (sym c.charge.ensures.value) in
    let up : Line = line_with lines c.in-Some.parent c.in-Some.children in
    subst (CanWalkUp (keys m) (set lines place line) c.in-Some.parent) (sym (parent_stays m lines place line c.requires.can c.in-Some.parent up next c.in-Some.children))
    (can_go_on m lines place line c.requires.can c.in-Some.parent up next c.requires.modest)

pub settle_above-requires-clause-little : goal.settle_above-requires-clause-little
settle_above-requires-clause-little c = walk_little c.args.table.now.file_systems c.args.lines.now c.args.place c.args.line c.requires.can c.requires.little

pub returns-in-Some-clause-own : goal.returns-in-Some-clause-own
returns-in-Some-clause-own c = λ new s.
    let m = c.args.table.now.file_systems in
    let lines : List Line = c.args.lines.now in
    let place : ℕ = c.args.place in
    let line : Line = c.args.line in
    let next = c.in-Some.ensures.some line (sym c.charge.ensures.value) in
    let up : Line = line_with lines c.in-Some.parent c.in-Some.children in
    c.settle_above.ensures.own new (subst (IsBehind new (keys m) (set lines place line) c.in-Some.parent)
    (sym (parent_stays m lines place line c.requires.can c.in-Some.parent up next c.in-Some.children))
    (walk_on m lines place line c.requires.can new s c.in-Some.parent up next))

pub returns-in_default-clause-own : goal.returns-in_default-clause-own
returns-in_default-clause-own c = λ new s.
    walk_ends c.args.table.now.file_systems c.args.lines.now c.args.place c.args.line c.requires.can new s (c.in_default.ensures.none c.args.line (sym c.charge.ensures.value))
