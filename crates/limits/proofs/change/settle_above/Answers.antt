use Rattle.std.proofs.Common.{◌≡◌, ◌≤◌, ◌^◌, ℕ, List, set, sym, ap, subst, ◌∙◌, arith}
use Rattle.std.proofs.lemmas.List.Elements.{All-set}
use Rattle.std.specs.FinMap.{keys}
use Rattle.std.specs.List.{All}
use Rattle.limits.specs.declared.line.Line.{Line}
use Rattle.limits.specs.Lines.{used_in, charge_in}
use Rattle.limits.specs.Ledgers.{ledger_of}
use Rattle.limits.specs.Changes.{IsModest, CanWalkUp, IsBehind, line_with}
use Rattle.limits.proofs.Order.{keys_count}
use Rattle.limits.proofs.Settling.{walk_used, walk_counted, walk_little, walk_down, can_go_on, walk_on, walk_ends, line_kept, parent_stays}
use Rattle.limits.proofs.change.settle_above.Goals as goal

pub line_with-requires : goal.line_with-requires
line_with-requires c = c.loop-parent.invariant.can.within

pub charge-after-requires : goal.charge-after-requires
charge-after-requires c =
    let line = line_with c.loop-parent.lines c.loop-parent.place c.loop-parent.children in
    let u = walk_used c.args.table.now.file_systems c.loop-parent.lines c.loop-parent.place line c.loop-parent.invariant.can in
    let e = ap used_in c.line_with.ensures in
    omega (arith, u, e)

pub next_change-next-requires-clause-long : goal.next_change-next-requires-clause-long
next_change-next-requires-clause-long c = c.loop-parent.invariant.can.long ∙ sym (keys_count c.args.table.now.file_systems)

pub next_change-next-requires-clause-small : goal.next_change-next-requires-clause-small
next_change-next-requires-clause-small c =
    let line = line_with c.loop-parent.lines c.loop-parent.place c.loop-parent.children in
    let u = walk_used c.args.table.now.file_systems c.loop-parent.lines c.loop-parent.place line c.loop-parent.invariant.can in
    let e = ap used_in c.line_with.ensures in
    let m = c.charge-after.ensures.most in
    omega (arith, u, e, m)

pub next_change-next-requires-clause-counted : goal.next_change-next-requires-clause-counted
next_change-next-requires-clause-counted c =
    let line = line_with c.loop-parent.lines c.loop-parent.place c.loop-parent.children in
    walk_counted c.args.table.now.file_systems c.loop-parent.lines c.loop-parent.place line c.loop-parent.invariant.can

pub returns-in_default-clause-own : goal.returns-in_default-clause-own
returns-in_default-clause-own c = λ new s.
    let lines = c.loop-parent.lines in
    let place = c.loop-parent.place in
    let line = line_with lines place c.loop-parent.children in
    let can = c.loop-parent.invariant.can in
    let top = c.in_default.ensures.none line (sym (c.charge-after.ensures.value ∙ ap charge_in c.line_with.ensures)) in
    subst (λ l. set lines place l ≡ ledger_of new) (line_kept lines place c.loop-parent.children c.index-lines-place.result can.within)
    (walk_ends c.args.table.now.file_systems lines place line can new (c.loop-parent.invariant.each new s) top)

pub returns-in_default-clause-modest : goal.returns-in_default-clause-modest
returns-in_default-clause-modest c =
    let lines = c.loop-parent.lines in
    let place = c.loop-parent.place in
    let line = line_with lines place c.loop-parent.children in
    let can = c.loop-parent.invariant.can in
    subst (λ l. All IsModest (set lines place l)) (line_kept lines place c.loop-parent.children c.index-lines-place.result can.within)
    (All-set IsModest lines place line can.modest c.loop-parent.invariant.modest)

pub returns-in_default-clause-little : goal.returns-in_default-clause-little
returns-in_default-clause-little c =
    let lines = c.loop-parent.lines in
    let place = c.loop-parent.place in
    let line = line_with lines place c.loop-parent.children in
    let can = c.loop-parent.invariant.can in
    subst (λ l. All (λ m. used_in m ≤ 2 ^ 54) (set lines place l)) (line_kept lines place c.loop-parent.children c.index-lines-place.result can.within)
    (walk_little c.args.table.now.file_systems lines place line can c.loop-parent.invariant.little)

pub loop-parent-smaller : goal.loop-parent-smaller
loop-parent-smaller c =
    let lines = c.loop-parent.lines in
    let line = line_with lines c.loop-parent.place c.loop-parent.children in
    let next = c.in-Some.ensures.some line (sym (c.charge-after.ensures.value ∙ ap charge_in c.line_with.ensures)) in
    walk_down c.args.table.now.file_systems lines c.loop-parent.place line c.loop-parent.invariant.can c.in-Some.parent (line_with lines c.in-Some.parent c.in-Some.above) next

pub loop-parent-preserved : goal.loop-parent-preserved
loop-parent-preserved c =
    let m = c.args.table.now.file_systems in
    let lines : List Line = c.loop-parent.lines in
    let place : ℕ = c.loop-parent.place in
    let line : Line = line_with lines place c.loop-parent.children in
    let inv = c.loop-parent.invariant in
    let next = c.in-Some.ensures.some line (sym (c.charge-after.ensures.value ∙ ap charge_in c.line_with.ensures)) in
    let up : Line = line_with lines c.in-Some.parent c.in-Some.above in
    let kept = line_kept lines place c.loop-parent.children c.index-lines-place.result inv.can.within in
    let stays = sym (parent_stays m lines place line inv.can c.in-Some.parent up next c.in-Some.above) in
    record {
      can = subst (λ l. CanWalkUp (keys m) (set lines place l) c.in-Some.parent (line_with (set lines place l) c.in-Some.parent c.in-Some.above)) kept
          (subst (CanWalkUp (keys m) (set lines place line) c.in-Some.parent) stays (can_go_on m lines place line inv.can c.in-Some.parent up next inv.modest));
      modest = subst (λ l. All IsModest (set lines place l)) kept (All-set IsModest lines place line inv.can.modest inv.modest);
      little = subst (λ l. All (λ m. used_in m ≤ 2 ^ 54) (set lines place l)) kept (walk_little m lines place line inv.can inv.little);
      each = λ new s. subst (λ l. IsBehind new (keys m) (set lines place l) c.in-Some.parent (line_with (set lines place l) c.in-Some.parent c.in-Some.above)) kept
          (subst (IsBehind new (keys m) (set lines place line) c.in-Some.parent) stays (walk_on m lines place line inv.can new (inv.each new s) c.in-Some.parent up next));
    }
