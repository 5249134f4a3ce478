use Rattle.std.proofs.Common.{◌≡◌, [], ◌∷◌, Option, Some, sym, ap, subst, arith, append-nil}
use Rattle.std.specs.Prelude.{IfSome}
use Rattle.tree.specs.Branch.{child_of, child_key}
use Rattle.tree.proofs.Branches.{small_index, child_is_key}
use Rattle.stream.specs.declared.record.Record.TheVariants.{Free}
use Rattle.lookups.specs.Walk.{IsAt, IsYoung, IsOld, AreSent, AddsSent}
use Rattle.lookups.proofs.SentPlaces.{one_free, old_none, none_before, one_more, all_places, place_is, AddsBefore}
use Rattle.lookups.proofs.walk.+add_sent.Goals as goal

at_some : {X : Type 0} (P : X → Type 0) (o : Option X) (x : X) → o ≡ Some x → IfSome o P → P x
at_some P o x e h = subst (λ y. IfSome y P) e h

pub returns-in_default-clause-ok : goal.returns-in_default-clause-ok
returns-in_default-clause-ok t c =
    subst (λ o. AddsSent c.args.since.0 c.args.key o c.args.records.now.items c.push.new.self.items) (sym c.in_default.is)
    (record { sent = Free c.args.key ∷ []; is = c.in_ok-push.ensures.items; are = one_free c.args.since.0 c.args.key })

pub returns-then-not-is_young-clause-ok : goal.returns-then-not-is_young-clause-ok
returns-then-not-is_young-clause-ok t c =
    let old : IsOld c.args.since.0 c.in-Some.top = c.is_young.ensures.old c.if-not-is_young.true in
    subst (λ o. AddsSent c.args.since.0 c.args.key o c.args.records.now.items c.args.records.now.items) (sym c.in-Some.is)
    (record { sent = []; is = sym (append-nil c.args.records.now.items); are = old_none c.args.since.0 c.in-Some.top c.args.key (at_some _ _ _ c.in-Some.is c.requires.there) old })

pub loop-place-init : goal.loop-place-init
loop-place-init t c =
    let at : IsAt c.args.key c.in-Some.top = at_some _ _ _ c.in-Some.is c.requires.there in
    let level = ap (λ x. x.level) at.key in
    (none_before c.args.since.0 c.in-Some.top c.args.records.now.items (omega (arith, level, c.if-key-eq0.false)), omega (arith, c.is_young.ensures.never_lower))

pub overflow_mul-child : goal.overflow_mul-child
overflow_mul-child t c =
    let s = small_index c.args.key.level c.args.key.index (omega (arith, c.if-key-eq0.false)) c.requires.is_key.level c.requires.is_key.index in
    omega (arith, s)

pub overflow_add-child : goal.overflow_add-child
overflow_add-child t c =
    let s = small_index c.args.key.level c.args.key.index (omega (arith, c.if-key-eq0.false)) c.requires.is_key.level c.requires.is_key.index in
    omega (arith, s)

pub add_sent-requires : goal.add_sent-requires
add_sent-requires t c =
    let at : IsAt c.args.key c.in-Some.top = at_some _ _ _ c.in-Some.is c.requires.there in
    let key : IfSome c.in_ok-child.field-0 (IsAt (child_key c.args.key c.loop-place.place)) =
    subst (λ k. IfSome c.in_ok-child.field-0 (IsAt (child_key k c.loop-place.place))) at.key (place_is c.in-Some.top c.loop-place.place c.in_ok-child.field-0 (sym c.in_ok-child.ensures.ok)) in
    (omega (arith, c.decreases, c.if-key-eq0.false), (child_is_key c.args.key c.loop-place.place c.requires.is_key (omega (arith, c.if-key-eq0.false)) (omega arith), key))

pub loop-place-preserved : goal.loop-place-preserved
loop-place-preserved t c =
    let top = c.in-Some.top in
    let at : IsAt c.args.key c.in-Some.top = at_some _ _ _ c.in-Some.is c.requires.there in
    let more : AddsSent c.args.since.0 (child_key c.args.key c.loop-place.place) c.in_ok-child.field-0 c.loop-place.records.items c.add_sent.new.records.items = c.in_ok-add_sent.ensures.ok in
    let are : AreSent c.args.since.0 (child_key c.in-Some.top.key c.loop-place.place) (child_of c.in-Some.top c.loop-place.place) more.sent =
    subst (λ k. AreSent c.args.since.0 (child_key k c.loop-place.place) (child_of c.in-Some.top c.loop-place.place) more.sent) (sym at.key)
    (subst (λ o. AreSent c.args.since.0 (child_key c.args.key c.loop-place.place) o more.sent) c.in_ok-child.ensures.ok more.are) in (
      one_more c.args.since.0 c.in-Some.top c.loop-place.place c.args.records.now.items c.loop-place.records.items c.add_sent.new.records.items c.loop-place.invariant.0 more.sent more.is are,
      omega (arith, c.loop-place.invariant.1, c.in_ok-child.ensures.never_lower, c.in_ok-add_sent.ensures.never_lower),
    )

pub returns-clause-ok : goal.returns-clause-ok
returns-clause-ok t c =
    let at : IsAt c.args.key c.in-Some.top = at_some _ _ _ c.in-Some.is c.requires.there in
    let young : IsYoung c.args.since.0 c.in-Some.top = c.is_young.ensures.young c.if-not-is_young.false in
    let last : c.loop-place.place ≡ 16 = omega arith in
    subst (λ o. AddsSent c.args.since.0 c.args.key o c.args.records.now.items c.loop-place.records.items) (sym c.in-Some.is)
    (all_places c.args.since.0 c.in-Some.top young c.args.key c.args.records.now.items c.loop-place.records.items at.key (omega (arith, c.if-key-eq0.false))
    (subst (λ n. AddsBefore c.args.since.0 c.in-Some.top n c.args.records.now.items c.loop-place.records.items) last c.loop-place.invariant.0))
