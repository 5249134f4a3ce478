use Rattle.std.proofs.Common.{◌≡◌, length, filter, arith, ap, sym, ◌∙◌, nat_le}
use Rattle.deadlist.specs.Spans.{spans}
use Rattle.deadlist.specs.Entries.{is_upto}
use Rattle.deadlist.specs.Segments.{entries_of, ended, pile_at}
use Rattle.deadlist.proofs.Places.{front_within}
use Rattle.deadlist.proofs.Counts.{upto_count, stands_none}
use Rattle.deadlist.proofs.Filters.{filter_le}
use Rattle.deadlist.proofs.parts.Parts.sum_upto.Goals as goal

pub sum_before-before-requires-clause-at : goal.sum_before-before-requires-clause-at
sum_before-before-requires-clause-at c =
    let le = front_within (λ u. nat_le u c.args.cut) c.args.self.now.closed.items in
    let at : c.upto-at.result ≡ ended c.args.cut (spans c.args.self.now.closed.items) = c.upto-at.ensures in
    omega (arith, le, at)

pub returns-then-stands-clause-sum : goal.returns-then-stands-clause-sum
returns-then-stands-clause-sum c =
    let s = c.args.self.now in
    let before = rw c.upto-at.ensures at c.sum_before-before.ensures in
    let two = upto_count (spans s.closed.items) c.args.cut s.last.entries c.requires.cut in
    let none = ap length (stands_none (spans s.closed.items) c.args.cut s.last.entries c.requires.cut (sym c.stands.ensures ∙ c.if-stands.true)) in
    omega (arith, before, two, none)

pub overflow_add-result : goal.overflow_add-result
overflow_add-result c =
    let s = c.args.self.now in
    let before = rw c.upto-at.ensures at c.sum_before-before.ensures in
    let two = upto_count (spans s.closed.items) c.args.cut s.last.entries c.requires.cut in
    let part = c.count_upto.ensures.count ∙ ap (λ p. length (filter (is_upto c.args.cut) p)) (c.pile.ensures.entries ∙ ap (pile_at (spans s.closed.items) s.last.entries) c.upto-at.ensures) in
    let le = filter_le (is_upto c.args.cut) (entries_of s) in
    let fits = c.requires.fits in
    omega (arith, before, two, part, le, fits)

pub returns-clause-sum : goal.returns-clause-sum
returns-clause-sum c =
    let s = c.args.self.now in
    let before = rw c.upto-at.ensures at c.sum_before-before.ensures in
    let two = upto_count (spans s.closed.items) c.args.cut s.last.entries c.requires.cut in
    let part = c.count_upto.ensures.count ∙ ap (λ p. length (filter (is_upto c.args.cut) p)) (c.pile.ensures.entries ∙ ap (pile_at (spans s.closed.items) s.last.entries) c.upto-at.ensures) in
    omega (arith, before, two, part)

pub returns-clause-looked : goal.returns-clause-looked
returns-clause-looked c = omega (arith, c.count_upto.ensures.looked, c.pile.ensures.steps)
