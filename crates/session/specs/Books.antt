-- What contracts see of a book.
use Rattle.std.specs.Prelude.{◌≡◌, ◌≤◌, ℕ, List, length, refl}
use Rattle.std.specs.Coded.{Coded, code_by, coded×, coded_ℕ, coded_list}
use Rattle.model.specs.contracts.entry.Entry as entry
use Rattle.model.specs.State.{State}
use Rattle.model.specs.Codes.{state_code}
use Rattle.model.specs.declared.entry.Entry.{Entry}
use Rattle.session.specs.declared.book.book.TheConstants.{CALL_LIMIT, SEAT_LIMIT}
use Rattle.session.specs.History.{IsLegal}

-- the history, the state of the pool after it, and how many seats were given (profile)
pub record Pages : Type 0 where
  pub history : List Entry
  pub pool : State
  pub seats : ℕ

-- its code, that of the tuple of the fields
abbrev pub pages_code : Coded Pages
pages_code =
    code_by (List Entry × (State × ℕ)) (coded× (coded_list entry.the_row.coded) (coded× state_code coded_ℕ)) (λ b. (b.history, (b.pool, b.seats)))
    (λ p. record { history = p.0; pool = p.1.0; seats = p.1.1 }) (λ _. refl)

-- what holds of every book whose pool began in a state, and which takes so many calls: the history is a run from that state to the
-- present one, and there is room for all its calls, which was reserved (profile)
pub record IsSound (opening : State) (calls : ℕ) (history : List Entry) (pool : State) (seats limit capacity : ℕ) : Type 0 where
  pub legal : IsLegal opening history pool
  pub takes : limit ≡ calls
  pub within : length history ≤ limit
  pub reserved : limit ≤ capacity
  pub bounded : limit ≤ CALL_LIMIT
  pub seated : seats ≤ SEAT_LIMIT
