use Rattle.std.proofs.Common.{◌≡◌, ◌<◌, ◌∷◌, [], length, take, arith, refl}
use Rattle.std.proofs.lemmas.List.{length-map, map-append, take_all}
use Rattle.deadlist.specs.Segments.{entries_in}
use Rattle.deadlist.specs.Spans.{span_of, spans}
use Rattle.deadlist.proofs.Alike.{alike_push}
use Rattle.deadlist.proofs.Counts.{part_le, span_read}
use Rattle.deadlist.proofs.Logs.{search_steps_le}
use Rattle.deadlist.proofs.Steps.{steps_append}
use Rattle.deadlist.proofs.merge.settled_all.Goals as goal

pub loop-segment-preserved : goal.loop-segment-preserved
loop-segment-preserved c =
    let xs = c.args.segments.now in
    let i = c.loop-segment.segment-index in
    let item = c.segment-item.result in
    let lt : i < length xs = omega arith in
    let own = length-map xs span_of in
    let all = alike_push (spans xs) (spans c.loop-segment.settled.items) i (span_of item) (record { upper = item.upper; pile = c.in_ok-pile.pile.entries }) (omega (arith, own)) (span_read xs i item lt c.segment-item.is) c.loop-segment.invariant.alike refl c.in_ok-pile.ensures.entries in
    let few = part_le xs i item lt c.segment-item.is in
    let le = search_steps_le (length item.pile.entries) (length (entries_in (spans xs))) (omega (arith, few)) in
    let own_steps = c.in_ok-pile.ensures.steps in
    let was = c.loop-segment.invariant.steps in
    let more = steps_append c.loop-segment.settled.items (record { upper = item.upper; pile = c.in_ok-pile.pile } ∷ []) in
    record {
      alike = rw (c.in_ok-push.ensures.items, map-append) all;
      steps = rw c.in_ok-push.ensures.items (omega (arith, le, own_steps, was, more));
    }

pub returns-clause-alike : goal.returns-clause-alike
returns-clause-alike c =
    let xs = c.args.segments.now in
    let own = length-map xs span_of in
    let all : take c.loop-segment.segment-index (spans xs) ≡ spans xs = take_all c.loop-segment.segment-index (spans xs) (omega (arith, own)) in
    rw all at c.loop-segment.invariant.alike
