use Rattle.std.proofs.Common.{◌≡◌, false, length, sym, ap, ◌∙◌}
use Rattle.std.specs.Prelude.{nat_lt}
use Rattle.std.specs.Option.{option_copied}
use Rattle.std.specs.FinMap.{get}
use Rattle.base.specs.Names.{root_name, same_name}
use Rattle.model.specs.World.{children_of}
use Rattle.world.specs.Tables.{world_of}
use Rattle.removals.specs.Families.{family_refusal}
use Rattle.removals.proofs.Shared.{told_of}
use Rattle.removals.proofs.Refused.{refused_there, of_family, is_free}
use Rattle.removals.proofs.family.refusal_of.Goals as goal

pub returns-then-recursive : goal.returns-then-recursive
returns-then-recursive c =
    let t = c.args.table.now in
    let told = told_of t.file_systems c.args.name.now c.in-Some.file_system.now (get t.file_systems c.args.name.now) (ap option_copied (sym c.in-Some.is) ∙ c.find.ensures) in
    let row = refused_there t c.facts.ensures.good c.args.views.now.opened c.args.name.now c.args.defer c.in-Some.file_system.now.system told.1 c.args.recursive in
    let root : same_name c.args.name.now root_name ≡ false = (λ i. same_name (sym c.as_bytes.ensures.value i) (sym c.as_slice.ensures i)) ∙ sym c.if-eq.ensures in
    c.family_refusal.ensures
    ∙ sym (row ∙ of_family (same_name c.args.name.now root_name) c.args.recursive c.args.defer (nat_lt 0 (length (children_of (world_of t) c.args.name.now))) (length c.in-Some.file_system.now.system.snaps)
    (family_refusal t c.args.views.now.opened c.args.name.now) root c.if-defer.false c.if-recursive.true)

pub returns : goal.returns
returns c =
    let t = c.args.table.now in
    let told = told_of t.file_systems c.args.name.now c.in-Some.file_system.now (get t.file_systems c.args.name.now) (ap option_copied (sym c.in-Some.is) ∙ c.find.ensures) in
    let row = refused_there t c.facts.ensures.good c.args.views.now.opened c.args.name.now c.args.defer c.in-Some.file_system.now.system told.1 c.args.recursive in
    let root : same_name c.args.name.now root_name ≡ false = (λ i. same_name (sym c.as_bytes.ensures.value i) (sym c.as_slice.ensures i)) ∙ sym c.if-eq.ensures in
    sym (row ∙ is_free (same_name c.args.name.now root_name) c.args.recursive c.args.defer (nat_lt 0 (length (children_of (world_of t) c.args.name.now))) (length c.in-Some.file_system.now.system.snaps)
    (family_refusal t c.args.views.now.opened c.args.name.now) root c.if-defer.false c.if-recursive.false (sym c.has_parts.ensures ∙ c.if-has_parts.false))
