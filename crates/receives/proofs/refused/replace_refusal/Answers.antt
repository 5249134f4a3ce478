use Rattle.std.proofs.Common.{rules, sym, ap, ◌∙◌}
use Rattle.std.specs.Option.{option_copied}
use Rattle.std.specs.FinMap.{get}
use Rattle.removals.proofs.Shared.{told_of}
use Rattle.receives.proofs.Leaving.{replaced_by}
use Rattle.receives.proofs.refused.replace_refusal.Goals as goal

pub returns : goal.returns
returns c =
    let t = c.args.table.now in
    let told = told_of t.file_systems c.args.name.now c.in-Some.file_system.now (get t.file_systems c.args.name.now) (ap option_copied (sym c.in-Some.is) ∙ c.find.ensures) in
    c.going_refusal.ensures
    ∙ replaced_by t c.facts.ensures.good c.args.name.now c.in-Some.file_system.now.system told.1 c.args.views.now.opened (search rules)
