use Rattle.std.proofs.Common.{◌≡◌, ◌+◌, ◌≤◌, ◌∷◌, ◌∙◌, [], ℕ, List, zero, length, length-append, map, refl, sym, ap, subst, arith, vec_len}
use Rattle.std.proofs.lemmas.List.{length-map}
use Rattle.std.specs.Vec.Iter.{into_iter_items}
use Rattle.model.specs.declared.request.Request.{Request}
use Rattle.session.specs.Asked.{Asked}
use Rattle.session.specs.Calls.{IsPaced}
use Rattle.session.specs.Books.{Pages}
use Rattle.session.specs.History.{IsLegal}
use Rattle.session.specs.Receipts.{Placed, Kept}
use Rattle.session.proofs.There.{batch_there, empty_batch}
use Rattle.session.proofs.SoFar.{requests_in, asked_by, own_all, own_later, requests_all}
use Rattle.session.proofs.shared.Session.batch.Goals as goal

pub enter_call-requires : goal.enter_call-requires
enter_call-requires g c =
    let rest : List Asked = into_iter_items c.next.new.self in
    let all : map (asked_by c.args.seat.now.number) c.args.requests.items ≡ c.in-Some.first ∷ rest = sym c.in_ok-calls_of.ensures.ok ∙ sym c.into_iter-calls.ensures.rest ∙ c.in-Some.ensures.items in
    record { own = own_all c.args.seat.now.number c.args.requests.items (c.in-Some.first ∷ rest) all zero c.in-Some.first (omega arith) }

pub enter_rest-requires-clause-last : goal.enter_rest-requires-clause-last
enter_rest-requires-clause-last g c =
    omega (arith, c.in_ok-first.ensures.number, ap (λ b. length b.history) c.deref_mut-2.ensures.value, ap (λ b. length b.history) c.in_ok-first.ensures.book, length-append c.deref_mut.result.now.history (c.in_ok-first.first.receipt.entry ∷ []))

pub enter_rest-requires-clause-own : goal.enter_rest-requires-clause-own
enter_rest-requires-clause-own g c =
    let rest : List Asked = into_iter_items c.next.new.self in
    let all : map (asked_by c.args.seat.now.number) c.args.requests.items ≡ c.in-Some.first ∷ rest = sym c.in_ok-calls_of.ensures.ok ∙ sym c.into_iter-calls.ensures.rest ∙ c.in-Some.ensures.items in
    own_later c.args.seat.now c.enter_call.new.seat (c.in-Some.first ∷ rest) rest c.in-Some.first refl (own_all c.args.seat.now.number c.args.requests.items (c.in-Some.first ∷ rest) all) (ap (λ (s : Kept). s.number) c.in_ok-first.ensures.ran.2)

has_room : (number before room asked limit : ℕ) → number ≡ before → room + before ≡ limit → asked ≤ room → number + asked ≤ limit
has_room number before room asked limit at left enough = omega arith

pub returns-clause-ok : goal.returns-clause-ok
returns-clause-ok g c =
    let r : Placed = c.in_ok-first.first.receipt in
    let rest : List Asked = into_iter_items c.next.new.self in
    let ran = c.in_ok-first.ensures.ran in
    let split : map (asked_by c.args.seat.now.number) c.args.requests.items ≡ c.in-Some.first ∷ rest = sym c.in_ok-calls_of.ensures.ok ∙ sym c.into_iter-calls.ensures.rest ∙ c.in-Some.ensures.items in
    let all : c.args.requests.items ≡ r.entry.request ∷ requests_in rest = sym (requests_all c.args.seat.now.number c.args.requests.items) ∙ ap requests_in split ∙ ap (λ (q : Request). q ∷ requests_in rest) (sym ran.1) in
    let asked : c.len-asked.result ≡ length c.args.requests.items = omega arith in
    let at : r.number ≡ length c.deref-2.result.now.history = c.in_ok-first.ensures.number ∙ ap (λ b. length b.history) (c.deref_mut.ensures.value ∙ sym c.deref-2.ensures) in
    let legal : IsLegal g.K.Opening.opening c.deref_mut.result.now.history c.deref_mut.result.now.pool =
    subst (λ (b : Pages). IsLegal g.K.Opening.opening b.history b.pool) (c.deref-2.ensures ∙ sym c.deref_mut.ensures.value) c.room.ensures.legal in
    let enough : c.len-asked.result ≤ c.room.result = omega arith in
    record {
      added = c.enter_rest.ensures.added c.args.seat.now (ran.0, refl, ran.2);
      requested = rw all c.enter_rest.ensures.requested;
      first = r.number;
      follow = c.enter_rest.ensures.follow;
      ran = batch_there g.K.Opening.opening c.deref_mut.result.now.pool _ _ _ c.deref_mut.result.now.history _ r c.enter_rest.result.items legal c.in_ok-first.ensures.number ran.1
          c.in_ok-first.ensures.step (ap (λ (b : Pages). b.pool) c.deref_mut-2.ensures.value) (c.enter_rest.ensures.ran c.deref_mut.result.now.pool);
      fits = rw (← asked) (has_room r.number _ _ c.len-asked.result g.K.Opening.limit at c.room.ensures.left enough);
    }

pub returns-then-asked-eq0-clause-ok : goal.returns-then-asked-eq0-clause-ok
returns-then-asked-eq0-clause-ok g c =
    let none : length c.args.requests.items ≡ 0 = omega (arith, c.len-asked.ensures, c.if-asked-eq0.true) in
    empty_batch g.K.Opening.opening g.K.Opening.limit c.args.seat.now c.args.requests.items c.new.result.items none c.new.ensures.items

-- how many requests come after the first
after_first : (n : ℕ) (requests : List Request) (first : Asked) (rest : List Asked) → map (asked_by n) requests ≡ first ∷ rest → length requests ≡ 1 + length rest
after_first n requests first rest split = omega (arith, length-map requests (asked_by n), ap length split)

pub enter_rest-requires-clause-room : goal.enter_rest-requires-clause-room
enter_rest-requires-clause-room g c =
    let rest : List Asked = into_iter_items c.next.new.self in
    let split : map (asked_by c.args.seat.now.number) c.args.requests.items ≡ c.in-Some.first ∷ rest = sym c.in_ok-calls_of.ensures.ok ∙ sym c.into_iter-calls.ensures.rest ∙ c.in-Some.ensures.items in
    let all : length c.args.requests.items ≡ 1 + length rest = after_first c.args.seat.now.number c.args.requests.items c.in-Some.first rest split in
    omega (arith, all, c.len-asked.ensures, c.in_ok-receipts.ensures.capacity)

pub returns-clause-paced : goal.returns-clause-paced
returns-clause-paced g c =
    let rest : List Asked = into_iter_items c.next.new.self in
    let split : map (asked_by c.args.seat.now.number) c.args.requests.items ≡ c.in-Some.first ∷ rest = sym c.in_ok-calls_of.ensures.ok ∙ sym c.into_iter-calls.ensures.rest ∙ c.in-Some.ensures.items in
    let all : length c.args.requests.items ≡ 1 + length rest = after_first c.args.seat.now.number c.args.requests.items c.in-Some.first rest split in
    let asked : vec_len c.args.requests ≡ 1 + length rest = omega (arith, all) in
    subst
    (λ (n : ℕ). IsPaced n (g.G.Gate.left c.args.gate.now) (vec_len c.enter_rest.result) (g.G.Gate.left c.enter_rest.new.gate) (g.G.Gate.stopped c.enter_rest.new.gate))
    (sym asked) c.enter_rest.ensures.paced
