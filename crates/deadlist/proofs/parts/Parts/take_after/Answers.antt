use Rattle.std.proofs.Common.{◌≡◌, arith, ap, nat_le}
use Rattle.std.proofs.lemmas.List.{take-map}
use Rattle.std.specs.List.{drop-map}
use Rattle.deadlist.specs.Piled.{Piled}
use Rattle.deadlist.specs.Segments.{most_steps}
use Rattle.deadlist.proofs.Steps.{steps_take, steps_drop}
use Rattle.deadlist.specs.Spans.{spans}
use Rattle.deadlist.specs.Segments.{ended}
use Rattle.deadlist.proofs.Places.{front_within}
use Rattle.deadlist.proofs.Splits.{kept_entries, taken_entries, kept_cuts, taken_cuts, kept_cut, taken_cut}
use Rattle.deadlist.proofs.parts.Parts.take_after.Goals as goal

pub split_off-requires : goal.split_off-requires
split_off-requires c =
    let s = c.args.self.now in
    let le = front_within (λ u. nat_le u c.args.cut) s.closed.items in
    let at : c.upto-at.result ≡ ended c.args.cut (spans s.closed.items) = c.upto-at.ensures in
    let ok = s.closed.ok.0 in
    omega (arith, le, at, ok)

pub returns-clause-kept : goal.returns-clause-kept
returns-clause-kept c =
    let s = c.args.self.now in
    rw (c.in_ok-closed.ensures.items, ← take-map, c.replace-last.ensures.after, c.in_ok-low.ensures.entries.0, c.upto-at.ensures) (kept_entries (spans s.closed.items) 0 c.args.cut s.last.entries c.requires)

pub returns-clause-kept_cuts : goal.returns-clause-kept_cuts
returns-clause-kept_cuts c =
    let s = c.args.self.now in
    rw (c.in_ok-closed.ensures.items, ← take-map, c.upto-at.ensures) (kept_cuts (spans s.closed.items) 0 c.args.cut s.last.entries c.requires)

pub returns-clause-kept_cut : goal.returns-clause-kept_cut
returns-clause-kept_cut c =
    let s = c.args.self.now in
    rw (c.in_ok-closed.ensures.items, ← take-map, c.replace-last.ensures.after, c.in_ok-low.ensures.entries.0, c.upto-at.ensures) (kept_cut (spans s.closed.items) 0 c.args.cut s.last.entries c.requires)

pub returns-clause-taken : goal.returns-clause-taken
returns-clause-taken c =
    let s = c.args.self.now in
    rw (c.replace-whole.ensures.closed, c.replace-whole.ensures.last, c.in_ok-closed.ensures.tail, ← drop-map, c.replace-last.ensures.value, c.in_ok-low.ensures.entries.1, c.upto-at.ensures) (taken_entries (spans s.closed.items) 0 c.args.cut s.last.entries c.requires)

pub returns-clause-taken_cuts : goal.returns-clause-taken_cuts
returns-clause-taken_cuts c =
    let s = c.args.self.now in
    rw (c.replace-whole.ensures.closed, c.in_ok-closed.ensures.tail, ← drop-map, c.upto-at.ensures) (taken_cuts (spans s.closed.items) 0 c.args.cut s.last.entries _ c.requires)

pub returns-clause-taken_cut : goal.returns-clause-taken_cut
returns-clause-taken_cut c =
    let s = c.args.self.now in
    rw (c.replace-whole.ensures.closed, c.replace-whole.ensures.last, c.in_ok-closed.ensures.tail, ← drop-map, c.replace-last.ensures.value, c.in_ok-low.ensures.entries.1, c.upto-at.ensures) (taken_cut (spans s.closed.items) 0 c.args.cut s.last.entries c.requires)

pub returns-clause-kept_steps : goal.returns-clause-kept_steps
returns-clause-kept_steps c =
    let xs = c.args.self.now.closed.items in
    let items = ap most_steps c.in_ok-closed.ensures.items in
    let le = steps_take xs c.upto-at.result in
    let low = c.in_ok-low.ensures.steps.0 in
    let after = ap (λ (p : Piled). p.steps) c.replace-last.ensures.after in
    omega (arith, items, le, low, after)

pub returns-clause-taken_steps : goal.returns-clause-taken_steps
returns-clause-taken_steps c =
    let xs = c.args.self.now.closed.items in
    let new = c.replace-whole.ensures.steps in
    let tail = ap most_steps c.in_ok-closed.ensures.tail in
    let le = steps_drop xs c.upto-at.result in
    let last = ap (λ (p : Piled). p.steps) c.replace-last.ensures.value in
    let high = c.in_ok-low.ensures.steps.1 in
    omega (arith, new, tail, le, last, high)
