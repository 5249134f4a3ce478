use Rattle.std.proofs.Common.{arith}
use Rattle.file_system.proofs.Segments.{upto_few, after_few}
use Rattle.file_system.proofs.gone.count_on.Goals as goal

pub returns-in-Upto-clause-meter : goal.returns-in-Upto-clause-meter
returns-in-Upto-clause-meter c =
    let few = upto_few c.args.asked.cut.0 c.args.dead.now.cuts in
    omega (arith, few, c.space_upto.ensures.looked)

pub returns-in-After-clause-meter : goal.returns-in-After-clause-meter
returns-in-After-clause-meter c =
    let few = after_few c.args.asked.cut.0 c.args.dead.now.cuts in
    omega (arith, few, c.space_after.ensures.looked)
