use Rattle.std.proofs.Common.{arith, sym, ◌∙◌, nat_le}
use Rattle.deadlist.specs.Spans.{spans}
use Rattle.deadlist.proofs.Places.{front_within}
use Rattle.deadlist.proofs.Counts.{upto_cuts, has_cut_any}
use Rattle.deadlist.proofs.parts.Parts.reached_upto.Goals as goal

pub returns-then-stands : goal.returns-then-stands
returns-then-stands c =
    let s = c.args.self.now in
    let n = upto_cuts (spans s.closed.items) c.args.cut s.last.entries c.requires in
    let any = sym (has_cut_any (spans s.closed.items) c.args.cut) ∙ sym c.stands.ensures ∙ c.if-stands.true in
    rw any (omega (arith, n, c.upto-at.ensures))

pub overflow_add-result : goal.overflow_add-result
overflow_add-result c =
    let s = c.args.self.now in
    let le = front_within (λ u. nat_le u c.args.cut) s.closed.items in
    omega (arith, le, c.upto-at.ensures, s.closed.ok.0, s.closed.ok.1, s.closed.small)

pub returns : goal.returns
returns c =
    let s = c.args.self.now in
    let n = upto_cuts (spans s.closed.items) c.args.cut s.last.entries c.requires in
    let any = sym (has_cut_any (spans s.closed.items) c.args.cut) ∙ sym c.stands.ensures ∙ c.if-stands.false in
    rw any (omega (arith, n, c.upto-at.ensures))
