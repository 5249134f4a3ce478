use Rattle.std.proofs.Common.{◌≡◌, ◌+◌, ◌∷◌, ◌++◌, ◌∙◌, [], ℕ, List, length, length-append, arith, refl, sym, ap, subst, vec_len}
use Rattle.std.proofs.lemmas.List.{length-map}
use Rattle.std.specs.Vec.Iter.{into_iter_items}
use Rattle.model.specs.Step.{Step}
use Rattle.model.specs.declared.request.Request.{Request}
use Rattle.session.specs.Asked.{Asked}
use Rattle.session.specs.Entering.{Ran}
use Rattle.session.specs.Receipts.{Placed, Kept}
use Rattle.session.proofs.There.{first_ran, more_ran}
use Rattle.session.proofs.SoFar.{IsSoFar, requests_in, first_so_far, first_added, more_so_far, more_added, own_later, begun, stopped_pace, starved_pace, whole_pace}
use Rattle.session.proofs.batches.enter_rest.Goals as goal

pub calls-init : goal.calls-init
calls-init g c =
    let rs : c.push_reserved.new.self.items ≡ c.args.first ∷ [] = c.push_reserved.ensures.items ∙ ap (λ (xs : List Placed). xs ++ c.args.first ∷ []) c.requires.none in
    let so_far = first_so_far (g.G.Gate.left c.args.gate.now) (length c.args.book.now.history) (requests_in (into_iter_items c.args.rest)) c.args.first c.requires.last in
    record {
      own = rw c.into_iter-call-iterator.ensures.into_iter_gives c.requires.own;
      added = λ s ran. rw rs (first_added s c.args.seat.now c.args.first ran);
      so_far = rw (rs, c.into_iter-call-iterator.ensures.into_iter_gives) so_far;
      ran = λ s step. rw rs (first_ran s c.args.book.now.pool c.args.first step);
      room = omega (arith, c.requires.room, c.push_reserved.ensures.len, c.push_reserved.ensures.capacity, ap length c.requires.none, ap (λ i. length (into_iter_items i)) c.into_iter-call-iterator.ensures.into_iter_gives);
    }

pub calls-preserved : goal.calls-preserved
calls-preserved g c =
    let i = c.calls.invariant in
    let r : Placed = c.in-Ok.entered.receipt in
    let rest : List Asked = into_iter_items c.next.new.self in
    let all : List Request = c.args.first.entry.request ∷ requests_in (into_iter_items c.args.rest) in
    let left : ℕ = g.G.Gate.left c.turn.new.self in
    let e = c.in-Ok.ensures in
    let next : requests_in (into_iter_items c.calls.call-iterator) ≡ r.entry.request ∷ requests_in rest = ap requests_in c.in-Some.ensures.steps.0 ∙ ap (λ q. q ∷ requests_in rest) (sym e.ran.1) in
    let turn : g.G.Gate.left c.calls.gate ≡ left + 1 = c.if-not-turn.ensures.answer.0 in
    let was : IsSoFar c.args.first.number (g.G.Gate.left c.args.gate.now) all (r.entry.request ∷ requests_in rest) c.calls.receipts.items (length c.calls.book.history) (left + 1) = rw (← next, ← turn) i.so_far in
    let grown : length c.enter_call.new.book.history ≡ length c.calls.book.history + 1 = ap (λ b. length b.history) e.book ∙ length-append c.calls.book.history (r.entry ∷ []) in
    let ran : Ran c.calls.seat r.entry.request r c.enter_call.new.seat = (e.ran.0, refl, e.ran.2) in
    let step : Step c.calls.book.pool r.entry.request r.entry.reply c.enter_call.new.book.pool = subst (λ q. Step c.calls.book.pool q r.entry.reply c.enter_call.new.book.pool) (sym e.ran.1) e.step in
    record {
      own = own_later c.calls.seat c.enter_call.new.seat (into_iter_items c.calls.call-iterator) rest _ c.in-Some.ensures.steps.0 i.own (ap (λ (s : Kept). s.number) e.ran.2);
      added = λ s first. rw (c.push_reserved-in-calls.ensures.items) (more_added s c.calls.seat c.enter_call.new.seat c.calls.receipts.items r (i.added s first) ran);
      so_far = rw (c.push_reserved-in-calls.ensures.items) (more_so_far c.args.first.number (g.G.Gate.left c.args.gate.now) (length c.calls.book.history) (length c.enter_call.new.book.history) left all (requests_in rest) c.calls.receipts.items r was e.number grown);
      ran = λ s first. rw (c.push_reserved-in-calls.ensures.items) (more_ran s c.calls.book.pool c.enter_call.new.book.pool c.calls.receipts.items r (i.ran s first) step);
      room = omega (arith, ap length c.in-Some.ensures.steps.0, i.room, c.push_reserved-in-calls.ensures.len, c.push_reserved-in-calls.ensures.capacity);
    }

pub returns-then-not-turn-clause-added : goal.returns-then-not-turn-clause-added
returns-then-not-turn-clause-added g c = c.calls.invariant.added

pub returns-clause-added : goal.returns-clause-added
returns-clause-added g c = c.calls.invariant.added

pub returns-then-not-turn-clause-requested : goal.returns-then-not-turn-clause-requested
returns-then-not-turn-clause-requested g c = begun _ _ _ _ _ _ _ c.calls.invariant.so_far

pub returns-in_default-clause-requested : goal.returns-in_default-clause-requested
returns-in_default-clause-requested g c = begun _ _ _ _ _ _ _ c.calls.invariant.so_far

pub returns-clause-requested : goal.returns-clause-requested
returns-clause-requested g c = begun _ _ _ _ _ _ _ c.calls.invariant.so_far

pub returns-then-not-turn-clause-follow : goal.returns-then-not-turn-clause-follow
returns-then-not-turn-clause-follow g c = c.calls.invariant.so_far.follow

pub returns-in_default-clause-follow : goal.returns-in_default-clause-follow
returns-in_default-clause-follow g c = c.calls.invariant.so_far.follow

pub returns-clause-follow : goal.returns-clause-follow
returns-clause-follow g c = c.calls.invariant.so_far.follow

pub returns-then-not-turn-clause-ran : goal.returns-then-not-turn-clause-ran
returns-then-not-turn-clause-ran g c = c.calls.invariant.ran

pub returns-in_default-clause-ran : goal.returns-in_default-clause-ran
returns-in_default-clause-ran g c = λ s step. rw (c.in_default.ensures.err.0) (c.calls.invariant.ran s step)

pub returns-clause-ran : goal.returns-clause-ran
returns-clause-ran g c = c.calls.invariant.ran

pub returns-then-not-turn-clause-paced : goal.returns-then-not-turn-clause-paced
returns-then-not-turn-clause-paced g c =
    let ran : vec_len c.calls.receipts ≡ length c.calls.receipts.items = omega arith in
    let asked = length-map (into_iter_items c.args.rest) (λ (a : Asked). a.request) in
    stopped_pace _ _ _ _ _ _ _ _ _ _ _ _ _ c.calls.invariant.so_far (ap requests_in c.in-Some.ensures.steps.0) (omega (arith, asked)) ran c.if-not-turn.ensures.answer.0 c.if-not-turn.ensures.answer.1

pub returns-in_default-clause-paced : goal.returns-in_default-clause-paced
returns-in_default-clause-paced g c =
    let ran : vec_len c.calls.receipts ≡ length c.calls.receipts.items = omega arith in
    let asked = length-map (into_iter_items c.args.rest) (λ (a : Asked). a.request) in
    starved_pace _ _ _ _ _ _ _ _ _ _ _ _ _ c.calls.invariant.so_far (ap requests_in c.in-Some.ensures.steps.0) (omega (arith, asked)) ran c.if-not-turn.ensures.answer.0 c.if-not-turn.ensures.answer.1

pub returns-clause-paced : goal.returns-clause-paced
returns-clause-paced g c =
    let ran : vec_len c.calls.receipts ≡ length c.calls.receipts.items = omega arith in
    let asked = length-map (into_iter_items c.args.rest) (λ (a : Asked). a.request) in
    whole_pace _ _ _ _ _ _ _ _ _ _ _ c.calls.invariant.so_far (omega (arith, c.in-None.ensures.steps.0, length-map (into_iter_items c.calls.call-iterator) (λ (a : Asked). a.request))) (omega (arith, asked)) ran refl
