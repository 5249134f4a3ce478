use Rattle.std.proofs.Common.{◌-◌, sym, ap, subst, ◌∙◌, true≢false, arith}
use Rattle.std.specs.Option.{option_map, option_copied}
use Rattle.model.specs.Ids.{snap_id}
use Rattle.world.proofs.lists.Finding.{same_id_is, is_same_id}
use Rattle.datasets.specs.Table.{IsTable}
use Rattle.lookups.specs.Places.{dataset_at}
use Rattle.lookups.proofs.Lineages.{IsAt, named_is, if_none, begins, ends_here, found_below, passed_by, goes_on, falls, origin_there, origin_found, too_new, found_here}
use Rattle.lookups.proofs.space.since.gone_since.Goals as goal

pub lineage-init : goal.lineage-init
lineage-init c = (
  subst (λ u. IsAt c.args.table.now (dataset_at c.args.file_system.now (option_copied c.args.dataset)) (snap_id c.args.since) c.args.file_system.now u 0 (c.args.segments.now - c.args.segments.now)) (sym c.group_at-until.ensures)
      (begins c.args.table.now c.args.file_system.now (option_copied c.args.dataset) (snap_id c.args.since) (c.args.segments.now - c.args.segments.now) (omega arith) c.requires.place),
  omega arith,
)

pub returns-in_err-origin-clause-none : goal.returns-in_err-origin-clause-none
returns-in_err-origin-clause-none c =
    let sound : IsTable c.args.table.now = record { systems = c.facts.ensures.good; numbers = c.facts.ensures.numbers } in
    if_none c.from_residual.result
    (ends_here c.args.table.now sound (dataset_at c.args.file_system.now (option_copied c.args.dataset)) (snap_id c.args.since) c.args.owner.now c.requires.home
    c.lineage.passed.now (option_map (λ g. g.0) c.lineage.until) c.lineage.gone (c.lineage.segments - c.args.segments.now) c.lineage.invariant.0 (sym (named_is _ c.is_named.ensures c.as_bytes.ensures.value) ∙ c.lineage-test.true)
    (sym c.origin.ensures ∙ ap (option_map snap_id) c.in_err-origin.was))

pub returns-then-is_same-clause-some : goal.returns-then-is_same-clause-some
returns-then-is_same-clause-some c =
    let sound : IsTable c.args.table.now = record { systems = c.facts.ensures.good; numbers = c.facts.ensures.numbers } in
    (found_below c.args.table.now sound (dataset_at c.args.file_system.now (option_copied c.args.dataset)) (snap_id c.args.since) c.args.owner.now c.requires.home
    c.lineage.passed.now (option_map (λ g. g.0) c.lineage.until) c.lineage.gone (c.lineage.segments - c.args.segments.now) c.lineage.invariant.0 (sym (named_is _ c.is_named.ensures c.as_bytes.ensures.value) ∙ c.lineage-test.true)
    (snap_id c.in_ok-origin.origin) (sym c.origin.ensures ∙ ap (option_map snap_id) c.in_ok-origin.was) c.gone_upto-rest.result c.gone_upto-rest.ensures.count
    (same_id_is (snap_id c.in_ok-origin.origin) (snap_id c.args.since) (sym c.is_same.ensures ∙ c.if-is_same.true))
    c.saturating_add-gone.result c.saturating_add-gone.ensures
    (c.gone_upto-rest.new.segments - c.args.segments.now) (let m = c.gone_upto-rest.ensures.meter in omega arith)).gone

pub returns-then-is_same-clause-meter : goal.returns-then-is_same-clause-meter
returns-then-is_same-clause-meter c =
    let sound : IsTable c.args.table.now = record { systems = c.facts.ensures.good; numbers = c.facts.ensures.numbers } in
    (found_below c.args.table.now sound (dataset_at c.args.file_system.now (option_copied c.args.dataset)) (snap_id c.args.since) c.args.owner.now c.requires.home
    c.lineage.passed.now (option_map (λ g. g.0) c.lineage.until) c.lineage.gone (c.lineage.segments - c.args.segments.now) c.lineage.invariant.0 (sym (named_is _ c.is_named.ensures c.as_bytes.ensures.value) ∙ c.lineage-test.true)
    (snap_id c.in_ok-origin.origin) (sym c.origin.ensures ∙ ap (option_map snap_id) c.in_ok-origin.was) c.gone_upto-rest.result c.gone_upto-rest.ensures.count
    (same_id_is (snap_id c.in_ok-origin.origin) (snap_id c.args.since) (sym c.is_same.ensures ∙ c.if-is_same.true))
    c.saturating_add-gone.result c.saturating_add-gone.ensures
    (c.gone_upto-rest.new.segments - c.args.segments.now) (let m = c.gone_upto-rest.ensures.meter in omega arith)).reached

pub returns-else-is_same-clause-none : goal.returns-else-is_same-clause-none
returns-else-is_same-clause-none c =
    let sound : IsTable c.args.table.now = record { systems = c.facts.ensures.good; numbers = c.facts.ensures.numbers } in
    passed_by c.args.table.now sound (dataset_at c.args.file_system.now (option_copied c.args.dataset)) (snap_id c.args.since) c.args.owner.now c.requires.home
    c.lineage.passed.now (option_map (λ g. g.0) c.lineage.until) c.lineage.gone (c.lineage.segments - c.args.segments.now) c.lineage.invariant.0 (sym (named_is _ c.is_named.ensures c.as_bytes.ensures.value) ∙ c.lineage-test.true)
    (snap_id c.in_ok-origin.origin) (sym c.origin.ensures ∙ ap (option_map snap_id) c.in_ok-origin.was) c.gone_upto-rest.result c.gone_upto-rest.ensures.count
    (λ e. true≢false (sym (is_same_id (snap_id c.in_ok-origin.origin) (snap_id c.args.since) e) ∙ sym c.is_same.ensures ∙ c.if-is_same.false))
    c.if-origin-group.true

pub returns-in_err-next-clause-none : goal.returns-in_err-next-clause-none
returns-in_err-next-clause-none c =
    let sound : IsTable c.args.table.now = record { systems = c.facts.ensures.good; numbers = c.facts.ensures.numbers } in
    absurd (origin_found c.args.table.now sound (dataset_at c.args.file_system.now (option_copied c.args.dataset)) (snap_id c.args.since) c.args.owner.now c.requires.home
    c.lineage.passed.now (option_map (λ g. g.0) c.lineage.until) c.lineage.gone (c.lineage.segments - c.args.segments.now) c.lineage.invariant.0 (sym (named_is _ c.is_named.ensures c.as_bytes.ensures.value) ∙ c.lineage-test.true)
    (snap_id c.in_ok-origin.origin) (sym c.origin.ensures ∙ ap (option_map snap_id) c.in_ok-origin.was) c.gone_upto-rest.result c.gone_upto-rest.ensures.count
    (sym c.in_err-next.ensures.found))

pub lineage-smaller : goal.lineage-smaller
lineage-smaller c =
    let sound : IsTable c.args.table.now = record { systems = c.facts.ensures.good; numbers = c.facts.ensures.numbers } in
    let origin = sym c.origin.ensures ∙ ap (option_map snap_id) c.in_ok-origin.was in
    falls c.args.table.now sound (dataset_at c.args.file_system.now (option_copied c.args.dataset)) (snap_id c.args.since) c.args.owner.now c.requires.home
    c.lineage.passed.now (option_map (λ g. g.0) c.lineage.until) c.lineage.gone (c.lineage.segments - c.args.segments.now) c.lineage.invariant.0 (sym (named_is _ c.is_named.ensures c.as_bytes.ensures.value) ∙ c.lineage-test.true)
    c.facts.ensures.snapshots_closed (snap_id c.in_ok-origin.origin) origin
    (origin_there c.args.table.now sound (dataset_at c.args.file_system.now (option_copied c.args.dataset)) (snap_id c.args.since) c.args.owner.now c.requires.home
    c.lineage.passed.now (option_map (λ g. g.0) c.lineage.until) c.lineage.gone (c.lineage.segments - c.args.segments.now) c.lineage.invariant.0 (sym (named_is _ c.is_named.ensures c.as_bytes.ensures.value) ∙ c.lineage-test.true)
    (snap_id c.in_ok-origin.origin) origin c.gone_upto-rest.result c.gone_upto-rest.ensures.count)

pub lineage-preserved : goal.lineage-preserved
lineage-preserved c =
    let sound : IsTable c.args.table.now = record { systems = c.facts.ensures.good; numbers = c.facts.ensures.numbers } in (
      goes_on c.args.table.now sound (dataset_at c.args.file_system.now (option_copied c.args.dataset)) (snap_id c.args.since) c.args.owner.now c.requires.home
          c.lineage.passed.now (option_map (λ g. g.0) c.lineage.until) c.lineage.gone (c.lineage.segments - c.args.segments.now) c.lineage.invariant.0 (sym (named_is _ c.is_named.ensures c.as_bytes.ensures.value) ∙ c.lineage-test.true)
          (snap_id c.in_ok-origin.origin) (sym c.origin.ensures ∙ ap (option_map snap_id) c.in_ok-origin.was) c.gone_upto-rest.result c.gone_upto-rest.ensures.count
          c.if-origin-group.false c.in_ok-next.next.now c.in_ok-next.field-0-1.now c.in_ok-next.ensures.place.0 c.in_ok-next.ensures.place.1 c.saturating_add-gone.result c.saturating_add-gone.ensures
          (c.gone_upto-rest.new.segments - c.args.segments.now) (let m = c.gone_upto-rest.ensures.meter in omega arith),
      omega (arith, c.lineage.invariant.1, c.gone_upto-rest.ensures.never_lower),
    )

pub returns-then-not-is_after-clause-none : goal.returns-then-not-is_after-clause-none
returns-then-not-is_after-clause-none c =
    let sound : IsTable c.args.table.now = record { systems = c.facts.ensures.good; numbers = c.facts.ensures.numbers } in
    too_new c.args.table.now sound (dataset_at c.args.file_system.now (option_copied c.args.dataset)) (snap_id c.args.since) c.args.owner.now c.requires.home
    c.lineage.passed.now (option_map (λ g. g.0) c.lineage.until) c.lineage.gone (c.lineage.segments - c.args.segments.now) c.lineage.invariant.0 (sym (named_is _ c.is_named.ensures c.as_bytes.ensures.value) ∙ c.lineage-test.false)
    (sym c.is_after.ensures ∙ c.if-not-is_after.true)

pub returns-clause-some : goal.returns-clause-some
returns-clause-some c =
    let sound : IsTable c.args.table.now = record { systems = c.facts.ensures.good; numbers = c.facts.ensures.numbers } in
    (found_here c.args.table.now sound (dataset_at c.args.file_system.now (option_copied c.args.dataset)) (snap_id c.args.since) c.args.owner.now c.requires.home
    c.lineage.passed.now (option_map (λ g. g.0) c.lineage.until) c.lineage.gone (c.lineage.segments - c.args.segments.now) c.lineage.invariant.0 (sym (named_is _ c.is_named.ensures c.as_bytes.ensures.value) ∙ c.lineage-test.false)
    (sym c.is_after.ensures ∙ c.if-not-is_after.false) c.gone_upto-rest-2.result c.gone_upto-rest-2.ensures.count c.saturating_add.result c.saturating_add.ensures
    (c.gone_upto-rest-2.new.segments - c.args.segments.now) (let m = c.gone_upto-rest-2.ensures.meter in omega arith)).gone

pub returns-clause-meter : goal.returns-clause-meter
returns-clause-meter c =
    let sound : IsTable c.args.table.now = record { systems = c.facts.ensures.good; numbers = c.facts.ensures.numbers } in
    (found_here c.args.table.now sound (dataset_at c.args.file_system.now (option_copied c.args.dataset)) (snap_id c.args.since) c.args.owner.now c.requires.home
    c.lineage.passed.now (option_map (λ g. g.0) c.lineage.until) c.lineage.gone (c.lineage.segments - c.args.segments.now) c.lineage.invariant.0 (sym (named_is _ c.is_named.ensures c.as_bytes.ensures.value) ∙ c.lineage-test.false)
    (sym c.is_after.ensures ∙ c.if-not-is_after.false) c.gone_upto-rest-2.result c.gone_upto-rest-2.ensures.count c.saturating_add.result c.saturating_add.ensures
    (c.gone_upto-rest-2.new.segments - c.args.segments.now) (let m = c.gone_upto-rest-2.ensures.meter in omega arith)).reached
