use Rattle.std.proofs.Common.{sym, ap, ◌∙◌}
use Rattle.datasets.proofs.Families.{begins, begins_not, first_byte}
use Rattle.world.proofs.lists.Names.{goes_on}
use Rattle.datasets.proofs.rename.is_in_family.Goals as goal

pub returns-in-Some-len1-up : goal.returns-in-Some-len1-up
returns-in-Some-len1-up c =
    first_byte c.in-Some-len1-up.field-0.now c.in-Some-len1-up.len_at_least
    ∙ ap goes_on c.in-Some-len1-up.ensures.cases.1
    ∙ sym (begins c.args.ancestor.now c.args.name.now c.in-Some-len1-up.ensures.cases.0)

pub returns-in-None : goal.returns-in-None
returns-in-None c = sym (begins_not c.args.ancestor.now c.args.name.now c.in-None.ensures.cases)
