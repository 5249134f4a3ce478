-- Runs, from one value of a caller to another.
use Rattle.std.proofs.Common.{◌≡◌, ◌∷◌, [], ℕ, List, Bool, Option}
use Rattle.model.specs.State.{State}
use Rattle.session.specs.Handed.{Kept}
use Rattle.script.specs.Run.{Relation}
use Rattle.runner.specs.Beside.{Gains, HasHistory, RanBeside, AreWorkers}
use Rattle.runner.specs.Sitting.{Sitting}
use Rattle.runner.specs.Status.{RanAs, RanTo}

pub ran_as : {C : Type 0} (asks : Relation C) (stop : Bool) (told held held' : Option (List ℕ)) (s t : C) (status : ℕ)
    → RanTo asks stop told held held' s t status → RanAs asks stop told held held' s status
ran_as asks stop told held held' s t status ran = record { after = t; refused = ran.refused; run = ran.run; is = ran.is }

pub ran_beside : (opening : State) (stop : Bool) (told held held' : Option (List ℕ)) (seat : Kept) (after : Sitting) (syncer destroyer : Kept) (status : ℕ)
    → seat.receipts ≡ [] → RanTo Gains stop told held held' (record { seat = seat; held = [] }) after status → AreWorkers syncer destroyer → HasHistory opening (after.seat ∷ syncer ∷ destroyer ∷ [])
    → RanBeside opening stop told held held' status
ran_beside opening stop told held held' seat after syncer destroyer status new ran workers past =
    record {
      seat = seat;
      syncer = syncer;
      destroyer = destroyer;
      new = new;
      ran = record { after = after; refused = ran.refused; run = ran.run; is = ran.is };
      workers = workers;
      history = past;
    }
