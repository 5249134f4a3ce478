use Rattle.std.proofs.Common.{◌≡◌, suc, ◌-◌, ◌<◌, ◌++◌, take, drop, true, List, length, arith, ap, sym, ◌∙◌, nat_le}
use Rattle.base.specs.declared.number.Dead.{Dead}
use Rattle.std.proofs.lemmas.List.{take-map, map-append, length-map}
use Rattle.std.specs.List.{drop-map}
use Rattle.deadlist.proofs.Steps.{steps_take, steps_drop, steps_append, pile_at_few}
use Rattle.deadlist.specs.Piled.{Piled}
use Rattle.deadlist.specs.Spans.{span_of, spans}
use Rattle.deadlist.specs.Segments.{ended, has_cut, pile_at, most_steps}
use Rattle.deadlist.proofs.Places.{front_within}
use Rattle.deadlist.proofs.Stands.{ended_pos}
use Rattle.deadlist.proofs.Joins.{joined_entries, joined_cut, joined_uppers, absent_uppers, both_piles}
use Rattle.deadlist.proofs.parts.Parts.join.Goals as goal

pub returns-then-not-stands-clause-cuts : goal.returns-then-not-stands-clause-cuts
returns-then-not-stands-clause-cuts c =
    let s = c.args.self.now in
    absent_uppers (spans s.closed.items) c.args.group.0 (sym c.stands.ensures ∙ c.if-not-stands.true)

pub overflow_sub-at : goal.overflow_sub-at
overflow_sub-at c =
    let s = c.args.self.now in
    let g = c.args.group.0 in
    let at : c.upto-at.result ≡ ended g (spans s.closed.items) = c.upto-at.ensures in
    let stands : has_cut g (spans s.closed.items) ≡ true = sym c.stands.ensures ∙ c.if-not-stands.false in
    let pos = ended_pos (spans s.closed.items) 0 g s.last.entries c.requires stands in
    omega (arith, at, pos)

pub overflow_sub-at-2 : goal.overflow_sub-at-2
overflow_sub-at-2 c =
    let s = c.args.self.now in
    let g = c.args.group.0 in
    let at : c.upto-at.result ≡ ended g (spans s.closed.items) = c.upto-at.ensures in
    let stands : has_cut g (spans s.closed.items) ≡ true = sym c.stands.ensures ∙ c.if-not-stands.false in
    let pos = ended_pos (spans s.closed.items) 0 g s.last.entries c.requires stands in
    omega (arith, at, pos)

pub remove-segment-requires : goal.remove-segment-requires
remove-segment-requires c =
    let s = c.args.self.now in
    let g = c.args.group.0 in
    let at : c.upto-at.result ≡ ended g (spans s.closed.items) = c.upto-at.ensures in
    let stands : has_cut g (spans s.closed.items) ≡ true = sym c.stands.ensures ∙ c.if-not-stands.false in
    let pos = ended_pos (spans s.closed.items) 0 g s.last.entries c.requires stands in
    let le = front_within (λ u. nat_le u g) s.closed.items in
    let lt : c.upto-at.result - 1 < length s.closed.items = omega (arith, at, pos, le) in
    let ok = s.closed.ok.0 in
    omega (arith, lt, ok)

pub overflow_sub-at-3 : goal.overflow_sub-at-3
overflow_sub-at-3 c =
    let s = c.args.self.now in
    let g = c.args.group.0 in
    let at : c.upto-at.result ≡ ended g (spans s.closed.items) = c.upto-at.ensures in
    let stands : has_cut g (spans s.closed.items) ≡ true = sym c.stands.ensures ∙ c.if-not-stands.false in
    let pos = ended_pos (spans s.closed.items) 0 g s.last.entries c.requires stands in
    omega (arith, at, pos)

pub returns-clause-entries : goal.returns-clause-entries
returns-clause-entries c =
    let s = c.args.self.now in
    let g = c.args.group.0 in
    let at : c.upto-at.result ≡ ended g (spans s.closed.items) = c.upto-at.ensures in
    let stands : has_cut g (spans s.closed.items) ≡ true = sym c.stands.ensures ∙ c.if-not-stands.false in
    let pos = ended_pos (spans s.closed.items) 0 g s.last.entries c.requires stands in
    let up : suc (c.upto-at.result - 1) ≡ ended g (spans s.closed.items) = omega (arith, at, pos) in
    let next : c.upto-at.result ≡ suc (c.upto-at.result - 1) = omega (arith, at, pos) in
    let le = front_within (λ u. nat_le u g) s.closed.items in
    let lt : c.upto-at.result - 1 < length s.closed.items = omega (arith, at, pos, le) in
    let own = length-map s.closed.items span_of in
    let pile : c.in_ok-whole.whole.entries ≡ both_piles (spans s.closed.items) s.last.entries (c.upto-at.result - 1) = c.in_ok-whole.ensures.entries ∙ ap (λ (x : List Dead). x ++ c.pile-2.result.now.entries) (ap (λ (p : Piled). p.entries) c.in_ok-low.ensures ∙ c.pile.ensures.entries) ∙ ap (λ (x : List Dead). pile_at (spans s.closed.items) s.last.entries (c.upto-at.result - 1) ++ x) (c.pile-2.ensures.entries ∙ ap (pile_at (spans s.closed.items) s.last.entries) next) in
    rw (c.replace-high.ensures.closed, c.replace-high.ensures.last, c.remove-segment.ensures.items, map-append, ← take-map, ← drop-map, pile) (joined_entries (spans s.closed.items) s.last.entries (c.upto-at.result - 1) (omega (arith, lt, own)))

pub returns-clause-cuts : goal.returns-clause-cuts
returns-clause-cuts c =
    let s = c.args.self.now in
    let g = c.args.group.0 in
    let at : c.upto-at.result ≡ ended g (spans s.closed.items) = c.upto-at.ensures in
    let stands : has_cut g (spans s.closed.items) ≡ true = sym c.stands.ensures ∙ c.if-not-stands.false in
    let pos = ended_pos (spans s.closed.items) 0 g s.last.entries c.requires stands in
    let up : suc (c.upto-at.result - 1) ≡ ended g (spans s.closed.items) = omega (arith, at, pos) in
    let next : c.upto-at.result ≡ suc (c.upto-at.result - 1) = omega (arith, at, pos) in
    let pile : c.in_ok-whole.whole.entries ≡ both_piles (spans s.closed.items) s.last.entries (c.upto-at.result - 1) = c.in_ok-whole.ensures.entries ∙ ap (λ (x : List Dead). x ++ c.pile-2.result.now.entries) (ap (λ (p : Piled). p.entries) c.in_ok-low.ensures ∙ c.pile.ensures.entries) ∙ ap (λ (x : List Dead). pile_at (spans s.closed.items) s.last.entries (c.upto-at.result - 1) ++ x) (c.pile-2.ensures.entries ∙ ap (pile_at (spans s.closed.items) s.last.entries) next) in
    rw (c.replace-high.ensures.closed, c.remove-segment.ensures.items, map-append, ← take-map, ← drop-map, pile) (joined_uppers (spans s.closed.items) 0 g s.last.entries (c.upto-at.result - 1) c.requires stands up)

pub returns-clause-cut : goal.returns-clause-cut
returns-clause-cut c =
    let s = c.args.self.now in
    let g = c.args.group.0 in
    let at : c.upto-at.result ≡ ended g (spans s.closed.items) = c.upto-at.ensures in
    let stands : has_cut g (spans s.closed.items) ≡ true = sym c.stands.ensures ∙ c.if-not-stands.false in
    let pos = ended_pos (spans s.closed.items) 0 g s.last.entries c.requires stands in
    let up : suc (c.upto-at.result - 1) ≡ ended g (spans s.closed.items) = omega (arith, at, pos) in
    let next : c.upto-at.result ≡ suc (c.upto-at.result - 1) = omega (arith, at, pos) in
    let le = front_within (λ u. nat_le u g) s.closed.items in
    let lt : c.upto-at.result - 1 < length s.closed.items = omega (arith, at, pos, le) in
    let own = length-map s.closed.items span_of in
    let pile : c.in_ok-whole.whole.entries ≡ both_piles (spans s.closed.items) s.last.entries (c.upto-at.result - 1) = c.in_ok-whole.ensures.entries ∙ ap (λ (x : List Dead). x ++ c.pile-2.result.now.entries) (ap (λ (p : Piled). p.entries) c.in_ok-low.ensures ∙ c.pile.ensures.entries) ∙ ap (λ (x : List Dead). pile_at (spans s.closed.items) s.last.entries (c.upto-at.result - 1) ++ x) (c.pile-2.ensures.entries ∙ ap (pile_at (spans s.closed.items) s.last.entries) next) in
    rw (c.replace-high.ensures.closed, c.replace-high.ensures.last, c.remove-segment.ensures.items, map-append, ← take-map, ← drop-map, pile) (joined_cut (spans s.closed.items) 0 s.last.entries (c.upto-at.result - 1) c.requires (omega (arith, lt, own)))

pub returns-clause-steps : goal.returns-clause-steps
returns-clause-steps c =
    let s = c.args.self.now in
    let at = c.upto-at.result in
    let new = c.replace-high.ensures.steps in
    let items = ap most_steps c.remove-segment.ensures.items in
    let two = steps_append (take (at - 1) s.closed.items) (drop (suc (at - 1)) s.closed.items) in
    let front = steps_take s.closed.items (at - 1) in
    let rest = steps_drop s.closed.items (suc (at - 1)) in
    let whole = c.in_ok-whole.ensures.steps in
    let low = ap (λ (p : Piled). p.steps) c.in_ok-low.ensures in
    let le = c.pile.ensures.steps in
    let high = ap length c.pile-2.ensures.entries in
    let few = pile_at_few (spans s.closed.items) s.last.entries at in
    omega (arith, new, items, two, front, rest, whole, low, le, high, few)
