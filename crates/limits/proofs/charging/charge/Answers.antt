use Rattle.std.proofs.Common.{◌∙◌, arith}
use Rattle.limits.proofs.Order.{keys_count}
use Rattle.limits.proofs.Charges.{charged_alone, parent_within, sum_low, written_charged, written_accounts}
use Rattle.limits.proofs.charging.charge.Goals as goal

pub offset_bounds-lines-parent : goal.offset_bounds-lines-parent
offset_bounds-lines-parent c =
    let w = parent_within c.args.table.now.file_systems c.args.place c.args.lines.now (c.requires.long ∙ keys_count c.args.table.now.file_systems) c.requires.within c.requires.later
    c.in-Some.parent c.in-Some.ensures.some in
    let f = c.requires.later.few in
    omega (arith, w, f)

pub bounds-lines-parent : goal.bounds-lines-parent
bounds-lines-parent c = parent_within c.args.table.now.file_systems c.args.place c.args.lines.now (c.requires.long ∙ keys_count c.args.table.now.file_systems) c.requires.within c.requires.later
    c.in-Some.parent c.in-Some.ensures.some

pub overflow_add-line : goal.overflow_add-line
overflow_add-line c =
    let s = sum_low c.args.table.now.file_systems c.args.place c.args.lines.now (c.requires.long ∙ keys_count c.args.table.now.file_systems) c.requires.within c.requires.later
    c.in-Some.parent c.in-Some.ensures.some c.index-lines-place.result c.index-lines-parent.result c.index-lines-parent.is
    c.charge-amount.result c.charge-amount.ensures.value c.charge-amount.ensures.most in
    omega (arith, s)

pub returns-in-Some-clause-charged : goal.returns-in-Some-clause-charged
returns-in-Some-clause-charged c = written_charged c.args.table.now.file_systems c.args.place c.args.lines.now (c.requires.long ∙ keys_count c.args.table.now.file_systems) c.requires.within c.requires.later
    c.in-Some.parent c.in-Some.ensures.some c.index-lines-place.result c.index-lines-parent.result c.index-lines-parent.is
    c.charge-amount.result c.charge-amount.ensures.value c.charge-amount.ensures.most

pub returns-in-Some-clause-accounts : goal.returns-in-Some-clause-accounts
returns-in-Some-clause-accounts c = written_accounts c.args.table.now.file_systems c.args.place c.args.lines.now (c.requires.long ∙ keys_count c.args.table.now.file_systems) c.requires.within c.requires.later
    c.in-Some.parent c.in-Some.ensures.some c.index-lines-place.result c.index-lines-parent.result c.index-lines-parent.is
    c.charge-amount.result c.charge-amount.ensures.value c.charge-amount.ensures.most

pub returns-in_default-clause-charged : goal.returns-in_default-clause-charged
returns-in_default-clause-charged c = charged_alone c.args.table.now.file_systems c.args.place c.args.lines.now (c.requires.long ∙ keys_count c.args.table.now.file_systems) c.requires.within c.requires.later
    c.in_default.ensures.none
