use Rattle.std.proofs.Common.{sym, subst, ◌∙◌, arith}
use Rattle.world.specs.Tables.{world_of}
use Rattle.limits.specs.Changes.{IsOnWay, line_with}
use Rattle.limits.proofs.Order.{keys_count}
use Rattle.limits.proofs.Starts.{start_within, start_named}
use Rattle.limits.proofs.Asking.{as_long, all_little, line_little, are_counted, leads_on, leads_down, begins, asked_starts, asked_on, within_quotas, over_refquota, over_quota}
use Rattle.limits.proofs.change.charge_after.Goals as goal

pub offset_bounds-lines-start : goal.offset_bounds-lines-start
offset_bounds-lines-start c =
    let w = start_within c.args.table.now.file_systems c.as_bytes.result.now c.in-Some.start c.in-Some.ensures.some in
    let l = as_long (world_of c.args.table.now) c.facts.ensures.good.hierarchy c.args.lines.now c.requires.own c.requires.modest c.args.name.now c.args.here c.args.referenced in
    omega (arith, w, l)

pub bounds-lines-start : goal.bounds-lines-start
bounds-lines-start c =
    let w = start_within c.args.table.now.file_systems c.as_bytes.result.now c.in-Some.start c.in-Some.ensures.some in
    let l = as_long (world_of c.args.table.now) c.facts.ensures.good.hierarchy c.args.lines.now c.requires.own c.requires.modest c.args.name.now c.args.here c.args.referenced in
    omega (arith, w, l)

pub loop-own-init : goal.loop-own-init
loop-own-init c =
    let w = start_within c.args.table.now.file_systems c.as_bytes.result.now c.in-Some.start c.in-Some.ensures.some in
    let is = start_named c.args.table.now.file_systems c.as_bytes.result.now c.in-Some.start c.in-Some.ensures.some ∙ c.as_bytes.ensures.value in
    record {
      way = begins (world_of c.args.table.now) c.facts.ensures.good.hierarchy c.args.lines.now c.requires.own c.requires.modest c.args.name.now c.args.here c.args.referenced
          c.requires.small c.in-Some.start c.index-lines-start.result c.amended-own.result w is c.index-lines-start.is c.amended-own.ensures;
      asked = λ new ch met j d lt. asked_starts (world_of c.args.table.now) c.facts.ensures.good.hierarchy c.args.lines.now c.requires.own c.requires.modest c.args.name.now c.args.here c.args.referenced
          new ch met c.in-Some.start is j d lt;
    }

pub is_in_quota-requires : goal.is_in_quota-requires
is_in_quota-requires c =
    let l = line_little (world_of c.args.table.now) c.facts.ensures.good.hierarchy c.args.lines.now c.requires.own c.requires.modest c.args.name.now c.args.here c.args.referenced
    c.loop-own.place c.loop-own.line c.loop-own.invariant.way in
    omega (arith, l)

pub returns-then-not-is_in_quota-clause-err : goal.returns-then-not-is_in_quota-clause-err
returns-then-not-is_in_quota-clause-err c = λ new ch met.
    over_quota (world_of c.args.table.now) c.facts.ensures.good.hierarchy c.args.lines.now c.requires.own c.requires.modest c.args.name.now c.args.here c.args.referenced
    new ch c.loop-own.place c.loop-own.line c.loop-own.invariant.way (sym c.is_in_quota.ensures ∙ c.if-not-is_in_quota.true)

pub charge-requires : goal.charge-requires
charge-requires c =
    let l = line_little (world_of c.args.table.now) c.facts.ensures.good.hierarchy c.args.lines.now c.requires.own c.requires.modest c.args.name.now c.args.here c.args.referenced
    c.loop-own.place c.loop-own.line c.loop-own.invariant.way in
    omega (arith, l)

pub next_change-requires-clause-long : goal.next_change-requires-clause-long
next_change-requires-clause-long c =
    as_long (world_of c.args.table.now) c.facts.ensures.good.hierarchy c.args.lines.now c.requires.own c.requires.modest c.args.name.now c.args.here c.args.referenced
    ∙ sym (keys_count c.args.table.now.file_systems)

pub next_change-requires-clause-within : goal.next_change-requires-clause-within
next_change-requires-clause-within c =
    let w = c.loop-own.invariant.way.within in
    let l = as_long (world_of c.args.table.now) c.facts.ensures.good.hierarchy c.args.lines.now c.requires.own c.requires.modest c.args.name.now c.args.here c.args.referenced in
    omega (arith, w, l)

pub next_change-requires-clause-little : goal.next_change-requires-clause-little
next_change-requires-clause-little c =
    all_little (world_of c.args.table.now) c.facts.ensures.good.hierarchy c.args.lines.now c.requires.own c.requires.modest c.args.name.now c.args.here c.args.referenced

pub next_change-requires-clause-small : goal.next_change-requires-clause-small
next_change-requires-clause-small c =
    let l = line_little (world_of c.args.table.now) c.facts.ensures.good.hierarchy c.args.lines.now c.requires.own c.requires.modest c.args.name.now c.args.here c.args.referenced
    c.loop-own.place c.loop-own.line c.loop-own.invariant.way in
    let m = c.charge.ensures.most in
    omega (arith, l, m)

pub next_change-requires-clause-counted : goal.next_change-requires-clause-counted
next_change-requires-clause-counted c =
    are_counted (world_of c.args.table.now) c.facts.ensures.good.hierarchy c.args.lines.now c.requires.own c.requires.modest c.args.name.now c.args.here c.args.referenced
    c.loop-own.place c.loop-own.line c.loop-own.invariant.way

pub root_charge-requires-clause-there : goal.root_charge-requires-clause-there
root_charge-requires-clause-there c =
    let w = c.loop-own.invariant.way.within in
    let l = as_long (world_of c.args.table.now) c.facts.ensures.good.hierarchy c.args.lines.now c.requires.own c.requires.modest c.args.name.now c.args.here c.args.referenced in
    omega (arith, w, l)

pub root_charge-requires-clause-little : goal.root_charge-requires-clause-little
root_charge-requires-clause-little c =
    all_little (world_of c.args.table.now) c.facts.ensures.good.hierarchy c.args.lines.now c.requires.own c.requires.modest c.args.name.now c.args.here c.args.referenced

pub root_charge-requires-clause-small : goal.root_charge-requires-clause-small
root_charge-requires-clause-small c =
    let l = line_little (world_of c.args.table.now) c.facts.ensures.good.hierarchy c.args.lines.now c.requires.own c.requires.modest c.args.name.now c.args.here c.args.referenced
    c.loop-own.place c.loop-own.line c.loop-own.invariant.way in
    omega (arith, l)

pub returns-then-is_in_refquota-clause-ok : goal.returns-then-is_in_refquota-clause-ok
returns-then-is_in_refquota-clause-ok c = λ new ch met.
    let w = start_within c.args.table.now.file_systems c.as_bytes.result.now c.in-Some.start c.in-Some.ensures.some in
    let is = start_named c.args.table.now.file_systems c.as_bytes.result.now c.in-Some.start c.in-Some.ensures.some ∙ c.as_bytes.ensures.value in
    let first = begins (world_of c.args.table.now) c.facts.ensures.good.hierarchy c.args.lines.now c.requires.own c.requires.modest c.args.name.now c.args.here c.args.referenced
    c.requires.small c.in-Some.start c.index-lines-start.result c.amended-own.result w is c.index-lines-start.is c.amended-own.ensures in
    within_quotas (world_of c.args.table.now) c.facts.ensures.good.hierarchy c.args.lines.now c.requires.own c.requires.modest c.args.name.now c.args.here c.args.referenced
    new ch met c.in-Some.start w is c.amended-own.result first c.loop-own.place c.loop-own.line c.loop-own.invariant.way (c.loop-own.invariant.asked new ch met)
    (sym c.is_in_quota.ensures ∙ c.if-not-is_in_quota.false) (c.in_default-next_change.ensures.none c.loop-own.line (sym c.charge.ensures.value)) (sym c.is_in_refquota.ensures ∙ c.if-is_in_refquota.true)
    c.root_charge.result c.root_charge.ensures.own c.root_charge.ensures.other

pub returns-in_default-next_change-clause-err : goal.returns-in_default-next_change-clause-err
returns-in_default-next_change-clause-err c = λ new ch met.
    let w = start_within c.args.table.now.file_systems c.as_bytes.result.now c.in-Some.start c.in-Some.ensures.some in
    let is = start_named c.args.table.now.file_systems c.as_bytes.result.now c.in-Some.start c.in-Some.ensures.some ∙ c.as_bytes.ensures.value in
    let first = begins (world_of c.args.table.now) c.facts.ensures.good.hierarchy c.args.lines.now c.requires.own c.requires.modest c.args.name.now c.args.here c.args.referenced
    c.requires.small c.in-Some.start c.index-lines-start.result c.amended-own.result w is c.index-lines-start.is c.amended-own.ensures in
    over_refquota (world_of c.args.table.now) c.facts.ensures.good.hierarchy c.args.lines.now c.requires.own c.requires.modest c.args.name.now c.args.here c.args.referenced
    new ch met c.in-Some.start w is c.amended-own.result first c.loop-own.place c.loop-own.line c.loop-own.invariant.way (c.loop-own.invariant.asked new ch met)
    (sym c.is_in_quota.ensures ∙ c.if-not-is_in_quota.false) (c.in_default-next_change.ensures.none c.loop-own.line (sym c.charge.ensures.value)) (sym c.is_in_refquota.ensures ∙ c.if-is_in_refquota.false)

pub loop-own-smaller : goal.loop-own-smaller
loop-own-smaller c =
    leads_down (world_of c.args.table.now) c.facts.ensures.good.hierarchy c.args.lines.now c.requires.own c.requires.modest c.args.name.now c.args.here c.args.referenced
    c.loop-own.place c.loop-own.line c.loop-own.invariant.way c.in-Some-next_change.parent (line_with c.args.lines.now c.in-Some-next_change.parent c.in-Some-next_change.children)
    (c.in-Some-next_change.ensures.some c.loop-own.line (sym c.charge.ensures.value))

pub line_with-line-requires : goal.line_with-line-requires
line_with-line-requires c =
    let next = c.in-Some-next_change.ensures.some c.loop-own.line (sym c.charge.ensures.value) in
    let w = next.parent.within in
    let l = as_long (world_of c.args.table.now) c.facts.ensures.good.hierarchy c.args.lines.now c.requires.own c.requires.modest c.args.name.now c.args.here c.args.referenced in
    omega (arith, w, l)

pub loop-own-preserved : goal.loop-own-preserved
loop-own-preserved c =
    let above = line_with c.args.lines.now c.in-Some-next_change.parent c.in-Some-next_change.children in
    let next = c.in-Some-next_change.ensures.some c.loop-own.line (sym c.charge.ensures.value) in
    record {
      way = subst (IsOnWay (world_of c.args.table.now) c.args.name.now c.args.here c.args.referenced c.in-Some-next_change.parent) (sym c.line_with-line.ensures)
          (leads_on (world_of c.args.table.now) c.facts.ensures.good.hierarchy c.args.lines.now c.requires.own c.requires.modest c.args.name.now c.args.here c.args.referenced
          c.loop-own.place c.loop-own.line c.loop-own.invariant.way c.in-Some-next_change.parent above next);
      asked = λ new ch met j d lt. asked_on (world_of c.args.table.now) c.facts.ensures.good.hierarchy c.args.lines.now c.requires.own c.requires.modest c.args.name.now c.args.here c.args.referenced
          new ch met c.loop-own.place c.loop-own.line c.loop-own.invariant.way (sym c.is_in_quota.ensures ∙ c.if-not-is_in_quota.false)
          c.in-Some-next_change.parent above next j d lt (c.loop-own.invariant.asked new ch met j d lt);
    }
