use Rattle.std.proofs.Common.{◌≡◌, ◌+◌, ◌==◌, count_by, arith, sym, ◌∙◌, below_more}
use Rattle.session.proofs.Decides.{says_no, says_yes}
use Rattle.session.proofs.book.closing.all_there.Goals as goal

pub returns-then-count_of-ne1 : goal.returns-then-count_of-ne1
returns-then-count_of-ne1 g c = says_no (λ all. c.if-count_of-ne1.true (c.count_of.ensures ∙ all c.loop-i.i c.loop-i-test.true))

pub loop-i-preserved : goal.loop-i-preserved
loop-i-preserved g c = below_more (λ i. count_by (λ s. s.number == i + 1) c.args.seats.now ≡ 1) c.loop-i.i c.loop-i.invariant (sym c.count_of.ensures ∙ c.if-count_of-ne1.false)

pub returns : goal.returns
returns g c = says_yes (λ i h. c.loop-i.invariant i (let e = c.loop-i-test.false in omega arith))
