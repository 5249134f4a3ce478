use Rattle.std.proofs.Common.{rules, ◌∙◌, ◌≡◌, ◌<◌, ◌≤◌, ◌↔◌, ℕ, Bool, false, List, length, arith, sym, subst, map, ap, true≢false}
use Rattle.std.specs.Prelude.{IsTrue}
use Rattle.std.proofs.Math.Nat.{lt_of_not-le}
use Rattle.std.specs.Arc.{arc_value}
use Rattle.std.proofs.lemmas.List.{length-map, map-append}
use Rattle.std.proofs.lemmas.Grind.{common_steps}
use Rattle.model.specs.State.{State}
use Rattle.model.specs.Step.{Step}
use Rattle.model.specs.declared.entry.Entry.{Entry}
use Rattle.session.specs.Books.{Pages}
use Rattle.session.proofs.Legal.{sound_more, legal_more}
use Rattle.session.proofs.There.{step_there}
use Rattle.session.proofs.book.book.enter_call.Goals as goal

-- a history that isn't full has room
room : (full : Bool) (k limit n : ℕ) → IsTrue full ↔ (k ≤ n) → full ≡ false → limit ≡ k → n < limit
room full k limit n f e t = let r = lt_of_not-le (λ h. true≢false (sym (f.1 h) ∙ e)) in omega (arith, r, t)

pub invariant_of-book-2 : goal.invariant_of-book-2
invariant_of-book-2 g c =
    let w = c.in-Some.ensures.some in
    let e : Entry = arc_value c.in-Some.owners.kept in
    let step : Step c.book.inside.pool.state e.request e.reply c.entry_of.new.pool.state = subst (λ q. Step c.book.inside.pool.state q e.reply c.entry_of.new.pool.state) (sym w.request_is) w.step in
    let es : List Entry = map arc_value c.book.inside.history.items in
    let more : length es < c.book.inside.limit =
    subst (λ n. n < c.book.inside.limit) (sym (ap (λ (p : Pages). length p.history) c.book.view_is))
    (room c.is_full.result g.K.Opening.limit c.book.inside.limit (length c.args.book.now.history) c.is_full.ensures.full c.if-is_full.false c.book.invariant.takes) in
    rw (c.push_reserved.ensures.items, c.push_reserved.ensures.capacity, map-append)
    (sound_more g.K.Opening.opening g.K.Opening.limit es c.book.inside.pool.state c.entry_of.new.pool.state _ _ _ e c.book.invariant step more)

pub returns-clause-legal : goal.returns-clause-legal
returns-clause-legal g c =
    let w = c.in-Some.ensures.some in
    let e : Entry = arc_value c.in-Some.owners.kept in
    let step : Step c.book.inside.pool.state e.request e.reply c.entry_of.new.pool.state = subst (λ q. Step c.book.inside.pool.state q e.reply c.entry_of.new.pool.state) (sym w.request_is) w.step in
    let es : List Entry = map arc_value c.book.inside.history.items in
    rw (c.push_reserved.ensures.items, map-append) (legal_more g.K.Opening.opening c.book.inside.pool.state c.entry_of.new.pool.state es e c.book.invariant.legal step)

pub same-book : goal.same-book
same-book g c = search rules

pub returns-then-is_full-clause-legal : goal.returns-then-is_full-clause-legal
returns-then-is_full-clause-legal g c = c.is_full.ensures.legal

pub returns-then-is_full-clause-err : goal.returns-then-is_full-clause-err
returns-then-is_full-clause-err g c = search rules

pub returns-then-is_full-clause-full : goal.returns-then-is_full-clause-full
returns-then-is_full-clause-full g c = grind (arith, common_steps)

pub returns-then-is_full-clause-refusal : goal.returns-then-is_full-clause-refusal
returns-then-is_full-clause-refusal g c = search rules

pub same-book-then-is_err : goal.same-book-then-is_err
same-book-then-is_err g c = search rules

pub returns-then-is_err-clause-legal : goal.returns-then-is_err-clause-legal
returns-then-is_err-clause-legal g c = c.is_full.ensures.legal

pub returns-then-is_err-clause-err : goal.returns-then-is_err-clause-err
returns-then-is_err-clause-err g c = search rules

pub returns-then-is_err-clause-full : goal.returns-then-is_err-clause-full
returns-then-is_err-clause-full g c = grind (arith, common_steps)

pub returns-then-is_err-clause-refusal : goal.returns-then-is_err-clause-refusal
returns-then-is_err-clause-refusal g c = search rules

pub invariant_of-book : goal.invariant_of-book
invariant_of-book g c = search rules

pub returns-in_default-clause-legal : goal.returns-in_default-clause-legal
returns-in_default-clause-legal g c = search rules

pub returns-in_default-clause-err : goal.returns-in_default-clause-err
returns-in_default-clause-err g c = search rules

pub returns-in_default-clause-full : goal.returns-in_default-clause-full
returns-in_default-clause-full g c = grind (arith, common_steps)

pub returns-in_default-clause-refusal : goal.returns-in_default-clause-refusal
returns-in_default-clause-refusal g c = search rules

pub push_reserved-requires : goal.push_reserved-requires
push_reserved-requires g c =
    let more = room c.is_full.result g.K.Opening.limit c.book.inside.limit (length c.args.book.now.history) c.is_full.ensures.full c.if-is_full.false c.book.invariant.takes in
    let same = ap (λ (p : Pages). length p.history) c.book.view_is in
    omega (arith, more, same, length-map c.book.inside.history.items arc_value, c.book.invariant.reserved, c.book.inside.history.ok.0)

pub push_reserved-requires-2 : goal.push_reserved-requires-2
push_reserved-requires-2 g c = search rules

pub returns-clause-ran : goal.returns-clause-ran
returns-clause-ran g c =
    let w = c.in-Some.ensures.some in
    (ap (λ (x : Entry). x.seat) w.owners.third_is ∙ w.seat_is ∙ c.requires.own, ap (λ (x : Entry). x.request) w.owners.third_is ∙ w.request_is, search rules)

pub returns-clause-number : goal.returns-clause-number
returns-clause-number g c =
    omega (arith, length-map c.book.inside.history.items arc_value, c.len-number.ensures, c.book.inside.history.ok.0, ap (λ (p : Pages). length p.history) c.book.view_is)

pub returns-clause-step : goal.returns-clause-step
returns-clause-step g c =
    let w = c.in-Some.ensures.some in
    subst (λ (m : State). Step m c.args.call.request (arc_value c.in-Some.owners.theirs).reply c.entry_of.new.pool.state) (ap (λ (p : Pages). p.pool) c.book.view_is)
    (subst (λ (x : Entry). Step c.book.inside.pool.state c.args.call.request x.reply c.entry_of.new.pool.state) (sym w.owners.third_is) w.step)

pub returns-clause-there : goal.returns-clause-there
returns-clause-there g c =
    step_there g.K.Opening.opening c.args.book.now.pool c.entry_of.new.pool.state c.args.book.now.history c.args.call.request _ c.is_full.ensures.legal
    (returns-clause-number g c) (returns-clause-ran g c).1 (returns-clause-step g c)

pub returns-clause-book : goal.returns-clause-book
returns-clause-book g c = let same = c.in-Some.ensures.some.owners.third_is in grind (arith, common_steps, same)

pub returns-clause-full : goal.returns-clause-full
returns-clause-full g c = grind (arith, common_steps)
