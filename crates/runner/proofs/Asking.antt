-- Seats that ask for one thing alone.
use Rattle.std.proofs.Common.{◌≡◌, [], ℕ, Bool, Option, sym, subst, arith}
use Rattle.std.specs.Prelude.{All}
use Rattle.std.proofs.lemmas.List.Elements.{All-append}
use Rattle.base.specs.declared.refusal.Refusal.{Refusal}
use Rattle.model.specs.declared.request.Request.{Request}
use Rattle.model.specs.State.{State}
use Rattle.session.specs.Handed.{Placed, Kept}
use Rattle.session.specs.Works.{IsWork}
use Rattle.runner.specs.Beside.{AsksOnly}

-- one without receipts does
pub asks_nothing : (request : Request) (seat : Kept) → seat.receipts ≡ [] → AsksOnly request seat
asks_nothing request seat none = subst (All (λ (r : Placed). r.entry.request ≡ request)) (sym none) (λ k d h. absurd (omega arith))

-- and one that did still does, once a worker has asked for it
pub asks_on : (opening : State) (seat after : Kept) (request : Request) (before count left : ℕ) (end : Option Refusal) (stopped : Bool) → IsWork opening seat request before count end left stopped after
    → AsksOnly request seat → AsksOnly request after
asks_on opening seat after request before count left end stopped work own =
    subst (AsksOnly request) (sym work.added.kept) (All-append (λ (r : Placed). r.entry.request ≡ request) seat.receipts work.receipts own work.asked)
