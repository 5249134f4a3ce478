use Rattle.std.proofs.Common.{◌≡◌, ◌+◌, ◌∷◌, ◌≤◌, length, map, vec_len, vec_capacity}
use Rattle.std.specs.Prelude.{All}
use Rattle.std.specs.Vec.Iter.{into_iter_items}
use Rattle.model.specs.State.{State}
use Rattle.model.specs.Step.{Step}
use Rattle.session.specs.Entering.{Ran}
use Rattle.session.specs.Asked.{Asked}
use Rattle.session.specs.Receipts.{Kept}
use Rattle.session.specs.Calls.{IsAdded}
use Rattle.session.specs.History.{IsLegal}
use Rattle.session.proofs.There.{entry_in}
use Rattle.session.proofs.SoFar.{IsSoFar, requests_in}
use Rattle.session.proofs.batches.enter_rest.Given as goal

abbrev pub invariant-calls : goal.invariant-calls
invariant-calls g l = record {
  own : All (λ (a : Asked). a.seat ≡ l.seat.number) (into_iter_items l.call-iterator);
  added : (s : Kept) → Ran s l.fn.first.entry.request l.fn.first l.fn.seat → IsAdded s l.receipts.items l.seat;
  so_far : IsSoFar l.fn.first.number (g.G.Gate.left l.fn.gate) (l.fn.first.entry.request ∷ requests_in (into_iter_items l.fn.rest)) (requests_in (into_iter_items l.call-iterator)) l.receipts.items (length l.book.history) (g.G.Gate.left l.gate);
  ran : (s : State) → Step s l.fn.first.entry.request l.fn.first.entry.reply l.fn.book.pool → IsLegal s (map entry_in l.receipts.items) l.book.pool;
  room : vec_len l.receipts + length (into_iter_items l.call-iterator) ≤ vec_capacity l.receipts;
}
