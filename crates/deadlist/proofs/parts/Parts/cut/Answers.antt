use Rattle.std.proofs.Common.{◌≡◌, ◌∷◌, false, arith, ap, take, drop, sym, ◌∙◌, nat_le}
use Rattle.deadlist.specs.Segments.{most_steps}
use Rattle.deadlist.proofs.Steps.{steps_take, steps_drop, steps_append}
use Rattle.deadlist.specs.Spans.{spans}
use Rattle.deadlist.specs.Segments.{ended, has_cut}
use Rattle.deadlist.proofs.Places.{front_within, spans_insert}
use Rattle.std.proofs.Common.{add-one}
use Rattle.deadlist.proofs.Cuts.{cut_entries, cut_cut, cut_uppers, stands_uppers}
use Rattle.deadlist.proofs.parts.Parts.cut.Goals as goal

pub returns-then-stands-clause-cuts : goal.returns-then-stands-clause-cuts
returns-then-stands-clause-cuts c =
    let s = c.args.self.now in
    stands_uppers (spans s.closed.items) 0 c.args.group.0 s.last.entries c.requires (sym c.stands.ensures ∙ c.if-stands.true)

pub insert-requires : goal.insert-requires
insert-requires c =
    let s = c.args.self.now in
    let le = front_within (λ u. nat_le u c.args.group.0) s.closed.items in
    let at : c.upto-at.result ≡ ended c.args.group.0 (spans s.closed.items) = c.upto-at.ensures in
    let ok = s.closed.ok.0 in
    omega (arith, le, at, ok)

pub overflow_add-at : goal.overflow_add-at
overflow_add-at c =
    let s = c.args.self.now in
    let le = front_within (λ u. nat_le u c.args.group.0) s.closed.items in
    let at : c.upto-at.result ≡ ended c.args.group.0 (spans s.closed.items) = c.upto-at.ensures in
    let ok = s.closed.ok.0 in
    let small = s.closed.small in
    let all = s.closed.ok in
    omega (arith, le, at, ok, small, all)

pub returns-clause-entries : goal.returns-clause-entries
returns-clause-entries c =
    let s = c.args.self.now in
    rw (c.replace-whole.ensures.closed, c.replace-whole.ensures.last, c.in_ok-insert.ensures.items, spans_insert s.closed.items c.upto-at.result (record { upper = c.args.group; pile = c.in_ok-pile.pile }), c.in_ok-pile.ensures.entries.0, c.in_ok-pile.ensures.entries.1, add-one, c.upto-at.ensures) (cut_entries (spans s.closed.items) c.args.group.0 s.last.entries)

pub returns-clause-cuts : goal.returns-clause-cuts
returns-clause-cuts c =
    let s = c.args.self.now in
    let none : has_cut c.args.group.0 (spans s.closed.items) ≡ false = sym c.stands.ensures ∙ c.if-stands.false in
    rw (c.replace-whole.ensures.closed, c.in_ok-insert.ensures.items, spans_insert s.closed.items c.upto-at.result (record { upper = c.args.group; pile = c.in_ok-pile.pile }), c.in_ok-pile.ensures.entries.0, c.in_ok-pile.ensures.entries.1, add-one, c.upto-at.ensures) (cut_uppers (spans s.closed.items) 0 c.args.group.0 s.last.entries c.requires none)

pub returns-clause-cut : goal.returns-clause-cut
returns-clause-cut c =
    let s = c.args.self.now in
    let none : has_cut c.args.group.0 (spans s.closed.items) ≡ false = sym c.stands.ensures ∙ c.if-stands.false in
    rw (c.replace-whole.ensures.closed, c.replace-whole.ensures.last, c.in_ok-insert.ensures.items, spans_insert s.closed.items c.upto-at.result (record { upper = c.args.group; pile = c.in_ok-pile.pile }), c.in_ok-pile.ensures.entries.0, c.in_ok-pile.ensures.entries.1, add-one, c.upto-at.ensures) (cut_cut (spans s.closed.items) 0 c.args.group.0 s.last.entries c.requires (omega arith) none)

pub returns-clause-steps : goal.returns-clause-steps
returns-clause-steps c =
    let xs = c.args.self.now.closed.items in
    let at = c.upto-at.result in
    let new = c.replace-whole.ensures.steps in
    let items = ap most_steps c.in_ok-insert.ensures.items in
    let front = steps_take xs at in
    let rest = steps_drop xs at in
    let two = steps_append (take at xs) (record { upper = c.args.group; pile = c.in_ok-pile.pile } ∷ drop at xs) in
    let low = c.in_ok-pile.ensures.steps.0 in
    let high = c.in_ok-pile.ensures.steps.1 in
    omega (arith, new, items, front, rest, two, low, high)
