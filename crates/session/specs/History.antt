-- Histories of a pool, and the place of a call in one that its caller can't read yet.
use Rattle.std.specs.Prelude.{◌≡◌, ℕ, List, length, map}
use Rattle.model.specs.State.{State}
use Rattle.model.specs.Run.{Run}
use Rattle.model.specs.Step.{Step}
use Rattle.model.specs.declared.entry.Entry.{Entry}
use Rattle.session.specs.Receipts.{Placed}

-- the history's requests, with its replies, are a run of the pool from the first state to the second (profile)
abbrev pub IsLegal : State → List Entry → State → Type 0
IsLegal s history u = Run s (map (λ e. e.request) history) (map (λ e. e.reply) history) u

-- a history of so many entries leads from the opening to the state (profile)
pub record IsLedTo (opening : State) (count : ℕ) (s : State) : Type 0 where
  pub history : List Entry
  pub counted : length history ≡ count
  pub legal : IsLegal opening history s

-- The entry of a receipt is a step of the pool, from a state that a history leads to which has as many entries as the receipt's number
-- says (profile)
pub record IsStepThere (opening : State) (r : Placed) : Type 0 where
  pub before : State
  pub after : State
  pub led : IsLedTo opening r.number before
  pub step : Step before r.entry.request r.entry.reply after

-- The entries of the receipts are one run of the pool, between which nothing came, from a state that a history of so many entries leads to
-- (profile)
pub record IsRunThere (opening : State) (first : ℕ) (rs : List Placed) : Type 0 where
  pub before : State
  pub after : State
  pub led : IsLedTo opening first before
  pub run : IsLegal before (map (λ r. r.entry) rs) after
