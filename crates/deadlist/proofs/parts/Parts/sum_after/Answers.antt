use Rattle.std.proofs.Common.{◌≡◌, length, filter, arith, ap, sym, ◌∙◌, nat_le}
use Rattle.deadlist.specs.Spans.{spans}
use Rattle.deadlist.specs.Entries.{is_upto}
use Rattle.deadlist.specs.Segments.{ended, pile_at}
use Rattle.deadlist.proofs.Places.{front_within}
use Rattle.deadlist.proofs.Counts.{after_count, stands_none}
use Rattle.deadlist.proofs.parts.Parts.sum_after.Goals as goal

pub sum_from-from-requires-clause-at : goal.sum_from-from-requires-clause-at
sum_from-from-requires-clause-at c =
    let le = front_within (λ u. nat_le u c.args.cut) c.args.self.now.closed.items in
    let at : c.upto-at.result ≡ ended c.args.cut (spans c.args.self.now.closed.items) = c.upto-at.ensures in
    omega (arith, le, at)

pub returns-then-stands-clause-sum : goal.returns-then-stands-clause-sum
returns-then-stands-clause-sum c =
    let s = c.args.self.now in
    let from = rw c.upto-at.ensures at c.sum_from-from.ensures in
    let two = after_count (spans s.closed.items) 0 c.args.cut s.last.entries c.requires.cut in
    let none = ap length (stands_none (spans s.closed.items) c.args.cut s.last.entries c.requires.cut (sym c.stands.ensures ∙ c.if-stands.true)) in
    omega (arith, from, two, none)

pub overflow_sub-result : goal.overflow_sub-result
overflow_sub-result c =
    let s = c.args.self.now in
    let from = rw c.upto-at.ensures at c.sum_from-from.ensures in
    let two = after_count (spans s.closed.items) 0 c.args.cut s.last.entries c.requires.cut in
    let part = c.count_upto.ensures.count ∙ ap (λ p. length (filter (is_upto c.args.cut) p)) (c.pile.ensures.entries ∙ ap (pile_at (spans s.closed.items) s.last.entries) c.upto-at.ensures) in
    omega (arith, from, two, part)

pub returns-clause-sum : goal.returns-clause-sum
returns-clause-sum c =
    let s = c.args.self.now in
    let from = rw c.upto-at.ensures at c.sum_from-from.ensures in
    let two = after_count (spans s.closed.items) 0 c.args.cut s.last.entries c.requires.cut in
    let part = c.count_upto.ensures.count ∙ ap (λ p. length (filter (is_upto c.args.cut) p)) (c.pile.ensures.entries ∙ ap (pile_at (spans s.closed.items) s.last.entries) c.upto-at.ensures) in
    omega (arith, from, two, part)

pub returns-clause-looked : goal.returns-clause-looked
returns-clause-looked c = omega (arith, c.count_upto.ensures.looked, c.pile.ensures.steps)
