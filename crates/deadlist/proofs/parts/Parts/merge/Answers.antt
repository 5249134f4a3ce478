use Rattle.std.proofs.Common.{◌≡◌, ◌+◌, ◌<◌, ◌++◌, ◌∷◌, [], length, take, drop, get_or, arith, ap, sym, subst, ◌∙◌}
use Rattle.std.proofs.lemmas.Result.{on_ok_weaker}
use Rattle.std.specs.List.Sorted.{IsPermutation}
use Rattle.deadlist.specs.Piled.{Piled}
use Rattle.deadlist.specs.Spans.{Span, span_of, spans}
use Rattle.deadlist.proofs.Counts.{span_read}
use Rattle.deadlist.specs.Segments.{AreCut, AreBornFrom, AreBornBy, pile_of, entries_in, entries_of, cuts_of, upper_of, uppers, with_cut, with_cuts}
use Rattle.std.proofs.lemmas.List.{take_all, drop_more, map_more, length-map}
use Rattle.std.proofs.lemmas.List.Sorted.{IsPermutation-trans, IsPermutation-append_left}
use Rattle.deadlist.proofs.Merges.{perm_more, perm_piece, cut_weaker, with_cuts_push}
use Rattle.deadlist.proofs.parts.Parts.merge.Goals as goal

pub absorb-requires-clause-from : goal.absorb-requires-clause-from
absorb-requires-clause-from c =
    let raw = c.args.other.now.closed.items in
    let xs = spans raw in
    let i = c.loop-segment.segment-index in
    let item = c.segment-item.result in
    let x = span_of item in
    let same = c.deref-segment-items.ensures.value in
    let was : item ≡ get_or raw i item = rw same at c.segment-item.is in
    let below : i < length raw = let l = ap length same in omega (arith, l) in
    let read : x ≡ get_or xs i x = span_read raw i item below was in
    let lt : i < length xs = let l = length-map raw span_of in omega (arith, l) in
    let rest : drop i xs ≡ x ∷ drop (i + 1) xs = drop_more xs i x lt ∙ ap (λ (y : Span). y ∷ drop (i + 1) xs) (sym read) in
    let cut : AreCut c.loop-segment.from (x ∷ drop (i + 1) xs) c.args.other.now.last.entries = rw rest at c.loop-segment.invariant.3 in
    subst (λ (p : Piled). AreBornFrom c.loop-segment.from p.entries) (sym c.in_ok-pile.ensures) cut.1

pub absorb-requires-clause-to : goal.absorb-requires-clause-to
absorb-requires-clause-to c =
    let raw = c.args.other.now.closed.items in
    let xs = spans raw in
    let i = c.loop-segment.segment-index in
    let item = c.segment-item.result in
    let x = span_of item in
    let same = c.deref-segment-items.ensures.value in
    let was : item ≡ get_or raw i item = rw same at c.segment-item.is in
    let below : i < length raw = let l = ap length same in omega (arith, l) in
    let read : x ≡ get_or xs i x = span_read raw i item below was in
    let lt : i < length xs = let l = length-map raw span_of in omega (arith, l) in
    let rest : drop i xs ≡ x ∷ drop (i + 1) xs = drop_more xs i x lt ∙ ap (λ (y : Span). y ∷ drop (i + 1) xs) (sym read) in
    let cut : AreCut c.loop-segment.from (x ∷ drop (i + 1) xs) c.args.other.now.last.entries = rw rest at c.loop-segment.invariant.3 in
    subst (λ (p : Piled). AreBornBy (upper_of x) p.entries) (sym c.in_ok-pile.ensures) cut.2

pub loop-segment-preserved : goal.loop-segment-preserved
loop-segment-preserved c =
    let raw = c.args.other.now.closed.items in
    let xs = spans raw in
    let i = c.loop-segment.segment-index in
    let item = c.segment-item.result in
    let x = span_of item in
    let same = c.deref-segment-items.ensures.value in
    let was : item ≡ get_or raw i item = rw same at c.segment-item.is in
    let below : i < length raw = let l = ap length same in omega (arith, l) in
    let read : x ≡ get_or xs i x = span_read raw i item below was in
    let lt : i < length xs = let l = length-map raw span_of in omega (arith, l) in
    let now = entries_of c.loop-segment.self in
    let mid = entries_of c.cut.new.self in
    let new = entries_of c.absorb.new.self in
    let pile : c.in_ok-pile.pile.entries ≡ x.pile = ap (λ (p : Piled). p.entries) c.in_ok-pile.ensures in
    let added : IsPermutation (mid ++ x.pile) new = rw pile at c.in_ok-absorb.ensures.entries in
    let k : IsPermutation (now ++ x.pile) new = IsPermutation-trans (now ++ x.pile) (mid ++ x.pile) new (IsPermutation-append_left x.pile now mid c.in_ok-cut.ensures.entries) added in
    let cs = cuts_of c.args.self.now in
    let ups : uppers (take (i + 1) xs) ≡ uppers (take i xs) ++ upper_of x ∷ [] = map_more upper_of xs i x lt ∙ ap (λ (y : Span). uppers (take i xs) ++ upper_of y ∷ []) (sym read) in
    let cuts = c.in_ok-absorb.ensures.cuts ∙ c.in_ok-cut.ensures.cuts ∙ ap (with_cut (upper_of x)) c.loop-segment.invariant.1 ∙ sym (with_cuts_push cs (uppers (take i xs)) (upper_of x)) ∙ ap (with_cuts cs) (sym ups) in
    let rest : drop i xs ≡ x ∷ drop (i + 1) xs = drop_more xs i x lt ∙ ap (λ (y : Span). y ∷ drop (i + 1) xs) (sym read) in
    let cut : AreCut c.loop-segment.from (x ∷ drop (i + 1) xs) c.args.other.now.last.entries = rw rest at c.loop-segment.invariant.3 in
    let from = c.saturating_add-from.ensures in
    (perm_piece pile_of (entries_of c.args.self.now) now new xs i x lt read c.loop-segment.invariant.0 k, cuts, c.in_ok-absorb.ensures.cut, cut_weaker (drop (i + 1) xs) (upper_of x + 1) c.saturating_add-from.result c.args.other.now.last.entries cut.3 (omega (arith, from)))

pub returns-clause-entries : goal.returns-clause-entries
returns-clause-entries c =
    let raw = c.args.other.now.closed.items in
    let xs = spans raw in
    let same = c.deref-segment-items.ensures.value in
    let own = length-map raw span_of in
    let all : take c.loop-segment.segment-index xs ≡ xs = take_all c.loop-segment.segment-index xs (let l = ap length same in omega (arith, l, own)) in
    let so : IsPermutation (entries_of c.args.self.now ++ entries_in xs) (entries_of c.loop-segment.self) = rw all at c.loop-segment.invariant.0 in
    let last : c.in_ok-last.last.entries ≡ c.args.other.now.last.entries = ap (λ (p : Piled). p.entries) c.in_ok-last.ensures in
    on_ok_weaker c.absorb-2.result (λ k. perm_more (entries_of c.args.self.now) (entries_in xs) (entries_of c.loop-segment.self) c.args.other.now.last.entries (entries_of c.absorb-2.new.self) so (rw last at k)) c.absorb-2.ensures.entries
