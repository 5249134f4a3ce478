use Rattle.std.proofs.Common.{◌≡◌, length, sym, ap, subst, ◌∙◌, arith}
use Rattle.std.specs.FinMap.{keys}
use Rattle.std.specs.List.{All}
use Rattle.std.specs.Option.{option_copied}
use Rattle.base.specs.Names.{parent_of as parent_name}
use Rattle.world.specs.Tables.{world_of}
use Rattle.limits.specs.Changes.{IsModest}
use Rattle.limits.specs.Lines.{IsSmall}
use Rattle.limits.proofs.Leaving.{stays, within, long_left, has_parent, parent_left, rest_long, charged_low, rest_little, leave_behind, can_leave}
use Rattle.limits.proofs.Places.{rows_count}
use Rattle.limits.proofs.Renamed.{all_left}
use Rattle.limits.proofs.ledger.Ledger.leave.Goals as goal

pub returns-then-len-file_systems : goal.returns-then-len-file_systems
returns-then-len-file_systems c =
    let own = c.requires.own in
    let o = c.self.inside.lines.ok.0 in
    let k = rows_count c.args.table.now.file_systems c.file_systems.result.now c.file_systems.ensures in
    let e = c.if-len-file_systems.true in
    sym c.self.view_is ∙ stays own.0 (world_of c.args.table.now) own.1 c.args.name.now own.3 c.self.inside.lines.items (c.self.view_is ∙ own.2) c.args.gap c.requires.gone (omega (arith, o, k, e))

pub remove-gone-requires : goal.remove-gone-requires
remove-gone-requires c =
    let own = c.requires.own in
    let o = c.self.inside.lines.ok.0 in
    let k = rows_count c.args.table.now.file_systems c.file_systems.result.now c.file_systems.ensures in
    let w = within own.0 (world_of c.args.table.now) own.1 c.args.name.now own.3 c.self.inside.lines.items (c.self.view_is ∙ own.2) c.args.gap c.requires.gone
    (λ same. c.if-len-file_systems.false (omega (arith, o, k, same))) in
    omega (arith, o, w)

pub unreachable-requires : goal.unreachable-requires
unreachable-requires c =
    let own = c.requires.own in
    let o = c.self.inside.lines.ok.0 in
    let k = rows_count c.args.table.now.file_systems c.file_systems.result.now c.file_systems.ensures in
    has_parent own.0 (world_of c.args.table.now) own.1 c.args.name.now own.3 c.self.inside.lines.items (c.self.view_is ∙ own.2) c.args.gap c.requires.gone
    (λ same. c.if-len-file_systems.false (omega (arith, o, k, same)))
    (ap parent_name (sym c.as_bytes.ensures.value) ∙ sym c.parent_of.ensures ∙ ap (λ x. option_copied x) c.in_default.is)

pub unreachable-requires-in_default-place_seen : goal.unreachable-requires-in_default-place_seen
unreachable-requires-in_default-place_seen c =
    let own = c.requires.own in
    let o = c.self.inside.lines.ok.0 in
    let k = rows_count c.args.table.now.file_systems c.file_systems.result.now c.file_systems.ensures in
    parent_left own.0 (world_of c.args.table.now) own.1 c.args.name.now own.3 c.self.inside.lines.items (c.self.view_is ∙ own.2) c.args.gap c.requires.gone
    (λ same. c.if-len-file_systems.false (omega (arith, o, k, same))) c.in-Some.parent.now
    (ap parent_name (sym c.as_bytes.ensures.value) ∙ sym c.parent_of.ensures ∙ ap (λ x. option_copied x) c.in-Some.is)
    c.in_default-place_seen.ensures.none

pub index-above-requires : goal.index-above-requires
index-above-requires c =
    let own = c.requires.own in
    let o = c.self.inside.lines.ok.0 in
    let k = rows_count c.args.table.now.file_systems c.file_systems.result.now c.file_systems.ensures in
    let l = long_left own.0 (world_of c.args.table.now) own.1 c.args.name.now own.3 c.self.inside.lines.items (c.self.view_is ∙ own.2) c.args.gap c.requires.gone
    (λ same. c.if-len-file_systems.false (omega (arith, o, k, same))) c.in-Some.parent.now c.in-Some-place_seen.place c.in-Some-place_seen.ensures.some in
    let r = c.remove-gone.ensures.len in
    omega (arith, l, r, o)

pub charge-requires : goal.charge-requires
charge-requires c =
    let own = c.requires.own in
    let o = c.self.inside.lines.ok.0 in
    let k = rows_count c.args.table.now.file_systems c.file_systems.result.now c.file_systems.ensures in
    subst IsSmall (sym c.remove-gone.ensures.value) (c.self.invariant.0 c.args.gap c.remove-gone.result
    (within own.0 (world_of c.args.table.now) own.1 c.args.name.now own.3 c.self.inside.lines.items (c.self.view_is ∙ own.2) c.args.gap c.requires.gone
    (λ same. c.if-len-file_systems.false (omega (arith, o, k, same)))))

pub overflow_sub-line : goal.overflow_sub-line
overflow_sub-line c =
    let own = c.requires.own in
    let o = c.self.inside.lines.ok.0 in
    let k = rows_count c.args.table.now.file_systems c.file_systems.result.now c.file_systems.ensures in
    let l = charged_low own.0 (world_of c.args.table.now) own.1 c.args.name.now own.3 c.self.inside.lines.items (c.self.view_is ∙ own.2) c.args.gap c.requires.gone
    (λ same. c.if-len-file_systems.false (omega (arith, o, k, same))) c.in-Some.parent.now
    (ap parent_name (sym c.as_bytes.ensures.value) ∙ sym c.parent_of.ensures ∙ ap (λ x. option_copied x) c.in-Some.is)
    c.in-Some-place_seen.place c.in-Some-place_seen.ensures.some c.remove-gone.new.self.items c.remove-gone.ensures.items c.remove-gone.result c.remove-gone.ensures.value
    c.index-above.result.now c.index-above.ensures in
    let v = c.charge.ensures.value in
    omega (arith, l, v)

pub invariant_of-self : goal.invariant_of-self
invariant_of-self c = (
  subst (All IsSmall) (sym c.remove-gone.ensures.items) (all_left IsSmall c.self.inside.lines.items c.args.gap c.self.invariant.0),
  subst (All IsModest) (sym c.remove-gone.ensures.items) (all_left IsModest c.self.inside.lines.items c.args.gap c.self.invariant.1),
  (let k = c.remove-gone.ensures.capacity in let r = c.self.invariant.2 in omega (arith, k, r)),
)

pub settle_at-requires-clause-can : goal.settle_at-requires-clause-can
settle_at-requires-clause-can c =
    let own = c.requires.own in
    let o = c.self.inside.lines.ok.0 in
    let k = rows_count c.args.table.now.file_systems c.file_systems.result.now c.file_systems.ensures in
    let modest = subst (All IsModest) (sym c.remove-gone.ensures.items) (all_left IsModest c.self.inside.lines.items c.args.gap c.self.invariant.1) in
    let other : length c.self.inside.lines.items ≡ length (keys c.args.table.now.file_systems) → ⊥ = λ same. c.if-len-file_systems.false (omega (arith, o, k, same)) in
    let named = ap parent_name (sym c.as_bytes.ensures.value) ∙ sym c.parent_of.ensures ∙ ap (λ x. option_copied x) c.in-Some.is in
    can_leave own.0 (world_of c.args.table.now) own.1 c.args.name.now own.3 c.self.inside.lines.items (c.self.view_is ∙ own.2) c.args.gap c.requires.gone
    other c.in-Some.parent.now named
    c.in-Some-place_seen.place c.in-Some-place_seen.ensures.some c.remove-gone.new.self.items c.remove-gone.ensures.items c.remove-gone.result c.remove-gone.ensures.value
    c.index-above.result.now c.index-above.ensures c.charge.result c.charge.ensures.value (subst (All IsModest) (c.self.view_is ∙ own.2) c.self.invariant.1)
    (subst IsModest (sym c.index-above.ensures) (modest c.in-Some-place_seen.place c.index-above.result.now
    (rest_long own.0 (world_of c.args.table.now) own.1 c.args.name.now own.3 c.self.inside.lines.items (c.self.view_is ∙ own.2) c.args.gap c.requires.gone
    other c.in-Some.parent.now named c.in-Some-place_seen.place c.in-Some-place_seen.ensures.some c.remove-gone.new.self.items c.remove-gone.ensures.items c.remove-gone.result c.remove-gone.ensures.value
    c.index-above.result.now c.index-above.ensures)))

pub settle_at-requires-clause-little : goal.settle_at-requires-clause-little
settle_at-requires-clause-little c =
    let own = c.requires.own in
    let o = c.self.inside.lines.ok.0 in
    let k = rows_count c.args.table.now.file_systems c.file_systems.result.now c.file_systems.ensures in
    rest_little own.0 (world_of c.args.table.now) own.1 c.args.name.now own.3 c.self.inside.lines.items (c.self.view_is ∙ own.2) c.args.gap c.requires.gone
    (λ same. c.if-len-file_systems.false (omega (arith, o, k, same))) c.in-Some.parent.now
    (ap parent_name (sym c.as_bytes.ensures.value) ∙ sym c.parent_of.ensures ∙ ap (λ x. option_copied x) c.in-Some.is)
    c.in-Some-place_seen.place c.in-Some-place_seen.ensures.some c.remove-gone.new.self.items c.remove-gone.ensures.items c.remove-gone.result c.remove-gone.ensures.value
    c.index-above.result.now c.index-above.ensures c.charge.result c.charge.ensures.value (subst (All IsModest) (c.self.view_is ∙ own.2) c.self.invariant.1)

pub returns : goal.returns
returns c =
    let own = c.requires.own in
    let o = c.self.inside.lines.ok.0 in
    let k = rows_count c.args.table.now.file_systems c.file_systems.result.now c.file_systems.ensures in
    c.settle_at.ensures (world_of c.args.table.now)
    (leave_behind own.0 (world_of c.args.table.now) own.1 c.args.name.now own.3 c.self.inside.lines.items (c.self.view_is ∙ own.2) c.args.gap c.requires.gone
    (λ same. c.if-len-file_systems.false (omega (arith, o, k, same))) c.in-Some.parent.now
    (ap parent_name (sym c.as_bytes.ensures.value) ∙ sym c.parent_of.ensures ∙ ap (λ x. option_copied x) c.in-Some.is)
    c.in-Some-place_seen.place c.in-Some-place_seen.ensures.some c.remove-gone.new.self.items c.remove-gone.ensures.items c.remove-gone.result c.remove-gone.ensures.value
    c.index-above.result.now c.index-above.ensures c.charge.result c.charge.ensures.value)
