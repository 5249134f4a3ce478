use Rattle.std.proofs.Common.{sym, ap, subst, ◌≡◌, None, get_or, [], ◌∙◌}
use Rattle.std.specs.Prelude.{IfNone}
use Rattle.std.specs.FinMap.{keys}
use Rattle.std.specs.Option.{option_copied}
use Rattle.base.specs.Names.{parent_of as parent_name}
use Rattle.datasets.specs.Rows.{Row}
use Rattle.limits.proofs.Places.{row_within, name_at, parent_found}
use Rattle.limits.proofs.place.parent_place.Goals as goal

pub bounds-file_systems-place : goal.bounds-file_systems-place
bounds-file_systems-place c = row_within c.args.table.now.file_systems c.file_systems.result.now c.file_systems.ensures c.args.place c.requires

pub returns-in_err-parent-clause-none : goal.returns-in_err-parent-clause-none
returns-in_err-parent-clause-none c =
    let named = c.as_bytes.ensures.value ∙ c.name.ensures ∙ ap (λ (r : Row). r.name) c.deref.ensures
    ∙ name_at c.args.table.now.file_systems c.file_systems.result.now c.file_systems.ensures c.args.place c.index-file_systems-place.result c.requires c.index-file_systems-place.is in
    let none : parent_name (get_or (keys c.args.table.now.file_systems) c.args.place []) ≡ None =
    ap parent_name (sym named) ∙ sym c.parent_of.ensures ∙ ap (λ x. option_copied x) c.in_err-parent.was in
    subst (λ o. IfNone o (parent_name (get_or (keys c.args.table.now.file_systems) c.args.place []) ≡ None)) (sym c.from_residual.ensures) none

pub returns-clause-some : goal.returns-clause-some
returns-clause-some c =
    let named = c.as_bytes.ensures.value ∙ c.name.ensures ∙ ap (λ (r : Row). r.name) c.deref.ensures
    ∙ name_at c.args.table.now.file_systems c.file_systems.result.now c.file_systems.ensures c.args.place c.index-file_systems-place.result c.requires c.index-file_systems-place.is in
    (parent_found c.args.table.now.file_systems c.facts.ensures.good.hierarchy c.args.place c.requires c.in_ok-parent.parent.now
    (ap parent_name (sym named) ∙ sym c.parent_of.ensures ∙ ap (λ x. option_copied x) c.in_ok-parent.was)
    c.place_near.result c.place_near.ensures.some c.place_near.ensures.none).0

pub returns-clause-none : goal.returns-clause-none
returns-clause-none c =
    let named = c.as_bytes.ensures.value ∙ c.name.ensures ∙ ap (λ (r : Row). r.name) c.deref.ensures
    ∙ name_at c.args.table.now.file_systems c.file_systems.result.now c.file_systems.ensures c.args.place c.index-file_systems-place.result c.requires c.index-file_systems-place.is in
    (parent_found c.args.table.now.file_systems c.facts.ensures.good.hierarchy c.args.place c.requires c.in_ok-parent.parent.now
    (ap parent_name (sym named) ∙ sym c.parent_of.ensures ∙ ap (λ x. option_copied x) c.in_ok-parent.was)
    c.place_near.result c.place_near.ensures.some c.place_near.ensures.none).1
