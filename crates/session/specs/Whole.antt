-- Seats that together have the receipts of a whole history.
use Rattle.std.specs.Prelude.{◌≡◌, ℕ, ◌+◌, ◌<◌, ◌≤◌, List, [], ◌∷◌, length, ◌==◌, if◌then◌else◌, All, Some, slice_get, count_by, sum_by}
use Rattle.model.specs.declared.entry.Entry.{Entry}
use Rattle.session.specs.Receipts.{Placed, Kept}

-- receipts for the entries of seat n, of which the first has number k (profile)
abbrev pub of_seat : ℕ → ℕ → List Entry → List Placed
of_seat n k [] = []
of_seat n k (e ∷ es) = if e.seat == n then (record { number = k; entry = e }) ∷ of_seat n (k + 1) es else of_seat n (k + 1) es

-- every seat is there once, each entry is of one of them, and each seat's receipts are its entries in their order (profile)
pub record IsWhole (given : ℕ) (history : List Entry) (seats : List Kept) : Type 0 where
  pub there : (i : ℕ) → i < given → count_by (λ s. s.number == i + 1) seats ≡ 1
  pub named : All (λ e. (0 < e.seat) × (e.seat ≤ given)) history
  pub own : All (λ s. s.receipts ≡ of_seat s.number 0 history) seats

-- the numbers rise, from k on (profile)
abbrev pub RisesFrom : ℕ → List Placed → Type 0
RisesFrom k [] = Unit {0}
RisesFrom k (r ∷ rs) = (k ≤ r.number) × RisesFrom (r.number + 1) rs

-- how many receipts have a number (profile)
abbrev pub times : ℕ → List Placed → ℕ
times i rs = count_by (λ r. r.number == i) rs

-- each receipt stands at its number, as its seat's; a seat's numbers rise; and all seats' numbers are those of the history, each
-- once (profile)
pub record IsAnswered (history : List Entry) (seats : List Kept) : Type 0 where
  pub placed : All (λ s. All (λ r. (slice_get history r.number ≡ Some r.entry) × (r.entry.seat ≡ s.number)) s.receipts) seats
  pub rising : All (λ s. RisesFrom 0 s.receipts) seats
  pub each_once : (i : ℕ) → i < length history → sum_by (λ s. times i s.receipts) seats ≡ 1
