use Rattle.std.proofs.Common.{sym, ◌∙◌}
use Rattle.snap.proofs.Promoted.{promotion_there, can_promote, is_promoted, has_kept_previous}
use Rattle.snap.proofs.clones.promotion.promote.Goals as goal

pub promote-requires-clause-there : goal.promote-requires-clause-there
promote-requires-clause-there c = promotion_there c.args.table.now c.args.name.now (sym c.refusal_of.ensures ∙ c.in_default.is)

pub promote-requires-clause-can : goal.promote-requires-clause-can
promote-requires-clause-can c = can_promote c.args.table.now c.args.name.now (sym c.refusal_of.ensures ∙ c.in_default.is)

pub returns-clause-ok : goal.returns-clause-ok
returns-clause-ok c = is_promoted c.args.table.now c.args.name.now (sym c.refusal_of.ensures ∙ c.in_default.is) c.promote.result c.promote.new.self c.promote.ensures.ok

pub returns-clause-previous : goal.returns-clause-previous
returns-clause-previous c =
    let none = sym c.refusal_of.ensures ∙ c.in_default.is in
    has_kept_previous c.args.table.now c.args.name.now none c.promote.result c.promote.new.self c.facts.ensures.good
    (is_promoted c.args.table.now c.args.name.now none c.promote.result c.promote.new.self c.promote.ensures.ok)
