use Rattle.std.proofs.Common.{◌++◌, ℕ, List, arith, sym, subst, OnOk, Result, Ok, Err}
use Rattle.std.proofs.lemmas.List.Sorted.{IsPermutation-trans}
use Rattle.std.proofs.lemmas.Result.{on_ok_weaker}
use Rattle.std.specs.List.Sorted.{IsPermutation}
use Rattle.base.specs.declared.number.Dead.{Dead}
use Rattle.deadlist.specs.Spans.{Span, spans}
use Rattle.deadlist.specs.Segments.{AreCut, FitsAt, begun, entries_in, entries_of, pile_at, with_pile, last_with}
use Rattle.deadlist.proofs.Splits.{uppers-with_pile}
use Rattle.deadlist.proofs.Puts.{put_entries, put_cut}
use Rattle.deadlist.proofs.Orders.{entries_permuted, cut_permuted}
use Rattle.deadlist.proofs.parts.Parts.absorb.Goals as goal

-- all facts of what was put, where it was
all : {T E : Type 0} (P Q S : Type 0) (r : Result T E) → OnOk r P → OnOk r Q → OnOk r S → OnOk r (P × Q × S)
all P Q S (Ok x) p q s = (p, q, s)
all P Q S (Err e) p q s = tt

pub returns-then-ends_late-clause-entries : goal.returns-then-ends_late-clause-entries
returns-then-ends_late-clause-entries c =
    let s = c.args.self.now in
    let at = c.below-at.result in
    let new = c.put_pile.new.self in
    let own = pile_at (spans s.closed.items) s.last.entries at ++ c.args.pile.entries in
    let pile = pile_at (spans new.closed.items) new.last.entries at in
    on_ok_weaker c.put_pile.result
    (λ e. subst (λ (ds : List Dead). IsPermutation (entries_of s ++ c.args.pile.entries) ds) (sym (λ i. entries_in (e.0 i) ++ e.1 i))
    (IsPermutation-trans (entries_of s ++ c.args.pile.entries) (entries_in (with_pile (spans s.closed.items) at own) ++ last_with (spans s.closed.items) s.last.entries at own) (entries_in (with_pile (spans s.closed.items) at pile) ++ last_with (spans s.closed.items) s.last.entries at pile)
    (put_entries (spans s.closed.items) s.last.entries at c.args.pile.entries) (entries_permuted (spans s.closed.items) s.last.entries at own pile e.2)))
    (all _ _ _ c.put_pile.result c.put_pile.ensures.closed c.put_pile.ensures.last c.put_pile.ensures.pile)

pub returns-then-ends_late-clause-cuts : goal.returns-then-ends_late-clause-cuts
returns-then-ends_late-clause-cuts c =
    let s = c.args.self.now in
    on_ok_weaker c.put_pile.result (λ e. rw e (uppers-with_pile (spans s.closed.items) c.below-at.result _)) c.put_pile.ensures.closed

pub returns-then-ends_late-clause-cut : goal.returns-then-ends_late-clause-cut
returns-then-ends_late-clause-cut c =
    let s = c.args.self.now in
    let at = c.below-at.result in
    let new = c.put_pile.new.self in
    let own = pile_at (spans s.closed.items) s.last.entries at ++ c.args.pile.entries in
    let pile = pile_at (spans new.closed.items) new.last.entries at in
    let fits : FitsAt (spans s.closed.items) at c.args.pile.entries = c.ends_late.ensures c.if-ends_late.true c.args.pile.entries c.requires.to in
    let fits' : FitsAt (spans s.closed.items) (begun c.args.from (spans s.closed.items)) c.args.pile.entries = rw c.below-at.ensures at fits in
    let k = put_cut (spans s.closed.items) 0 c.args.from s.last.entries c.args.pile.entries c.requires.cut (omega arith) c.requires.from fits' in
    let k' : AreCut 0 (with_pile (spans s.closed.items) at own) (last_with (spans s.closed.items) s.last.entries at own) =
    subst (λ (i : ℕ). AreCut 0 (with_pile (spans s.closed.items) i (pile_at (spans s.closed.items) s.last.entries i ++ c.args.pile.entries)) (last_with (spans s.closed.items) s.last.entries i (pile_at (spans s.closed.items) s.last.entries i ++ c.args.pile.entries))) (sym c.below-at.ensures) k in
    on_ok_weaker c.put_pile.result
    (λ e. subst (λ (ds : List Dead). AreCut 0 (spans new.closed.items) ds) (sym e.1)
    (subst (λ (xs : List Span). AreCut 0 xs (last_with (spans s.closed.items) s.last.entries at pile)) (sym e.0) (cut_permuted (spans s.closed.items) 0 s.last.entries at own pile e.2 k')))
    (all _ _ _ c.put_pile.result c.put_pile.ensures.closed c.put_pile.ensures.last c.put_pile.ensures.pile)
