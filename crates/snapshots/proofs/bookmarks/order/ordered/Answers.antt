use Rattle.std.proofs.Common.{◌≡◌, [], ◌∷◌, ◌++◌, map, take, None, ap, sym, subst, ◌∙◌}
use Rattle.std.proofs.lemmas.List.{take_more}
use Rattle.std.specs.Bool.{passes}
use Rattle.std.specs.FinMap.{entries, find, is_sorted}
use Rattle.base.specs.Names.{name_cmp}
use Rattle.model.specs.Properties.{bookmark_cmp}
use Rattle.snapshots.specs.declared.bookmarks.mark.Mark.{Mark}
use Rattle.snapshots.specs.Marks.{entry_of, entry_in, keyed_in, order_key}
use Rattle.snapshots.specs.Places.{IsGapFor}
use Rattle.snapshots.proofs.Ordering.{Owned, by_key, new_here, made_sorted, made_lacks, made_more, made_none}
use Rattle.snapshots.proofs.bookmarks.order.ordered.Goals as goal

-- none are in order
pub loop-mark-init : goal.loop-mark-init
loop-mark-init c = made_none c.in_ok-sorted.sorted.items c.in_ok-sorted.ensures.items

-- those so far are
pub gap_in_order-place-requires-clause-sorted : goal.gap_in_order-place-requires-clause-sorted
gap_in_order-place-requires-clause-sorted c = rw c.deref.ensures.value (made_sorted c.loop-mark.sorted.items (take c.loop-mark.mark-index c.args.marks.now) c.loop-mark.invariant)

-- and the next isn't among them
pub gap_in_order-place-requires-clause-absent : goal.gap_in_order-place-requires-clause-absent
gap_in_order-place-requires-clause-absent c =
    let marks = c.args.marks.now in
    let n = c.loop-mark.mark-index in
    let mark = c.mark-item.result in
    let none : find bookmark_cmp (order_key (entry_in mark)) (map keyed_in (take n marks)) ≡ None =
    subst (λ (a : Owned). find bookmark_cmp (order_key (entry_in a)) (map keyed_in (take n marks)) ≡ None) (sym c.mark-item.is) (new_here marks n mark (passes (is_sorted name_cmp (map entry_in marks)) c.requires) c.loop-mark-test.true) in
    rw (c.deref.ensures.value, c.deref-in-loop-mark.ensures) (made_lacks c.loop-mark.sorted.items (take n marks) (order_key (entry_in mark)) c.loop-mark.invariant none)

-- so it stands in its gap
pub loop-mark-preserved : goal.loop-mark-preserved
loop-mark-preserved c =
    let marks = c.args.marks.now in
    let n = c.loop-mark.mark-index in
    let mark = c.mark-item.result in
    let sorted = c.loop-mark.sorted.items in
    let place = c.gap_in_order-place.result in
    let none : find bookmark_cmp (order_key (entry_in mark)) (map keyed_in (take n marks)) ≡ None =
    subst (λ (a : Owned). find bookmark_cmp (order_key (entry_in a)) (map keyed_in (take n marks)) ≡ None) (sym c.mark-item.is) (new_here marks n mark (passes (is_sorted name_cmp (map entry_in marks)) c.requires) c.loop-mark-test.true) in
    let gap : IsGapFor bookmark_cmp (map keyed_in sorted) (order_key (entry_in mark)) place =
    subst (λ (m : Mark). IsGapFor bookmark_cmp (map keyed_in sorted) (order_key (entry_of m)) place) c.deref-in-loop-mark.ensures (rw (← c.deref.ensures.value) c.gap_in_order-place.ensures) in
    ap (map keyed_in) c.in_ok-insert.ensures.items
    ∙ made_more sorted (take n marks) c.in_ok-try_clone.field-0 mark place (ap entry_of c.in_ok-try_clone.ensures) c.loop-mark.invariant none gap
    ∙ ap (λ l. entries (by_key l)) (ap (λ (b : Owned). take n marks ++ b ∷ []) c.mark-item.is ∙ sym (take_more marks n mark c.loop-mark-test.true))
