-- What a batch adds to a seat, and when it ends.
use Rattle.std.specs.Prelude.{◌≡◌, ◌⊎◌, ◌+◌, ◌-◌, ◌<◌, ◌≤◌, ℕ, List, [], ◌∷◌, ◌++◌, length, map, take, All, Bool, true, false}
use Rattle.model.specs.State.{State}
use Rattle.model.specs.declared.request.Request.{Request}
use Rattle.session.specs.History.{IsRunThere}
use Rattle.session.specs.Receipts.{Placed, Kept}

-- receipts that follow one another from a number on (profile)
abbrev pub FollowOn : ℕ → List Placed → Type 0
FollowOn k [] = Unit {0}
FollowOn k (r ∷ rs) = (r.number ≡ k) × FollowOn (k + 1) rs

-- these receipts were added to the seat, and are its own (profile)
pub record IsAdded (seat : Kept) (rs : List Placed) (after : Kept) : Type 0 where
  pub kept : after ≡ record seat { receipts = seat.receipts ++ rs }
  pub seated : All (λ r. r.entry.seat ≡ seat.number) rs

-- the receipts are those of the first of these requests, in their order (profile)
abbrev pub IsBegun : List Request → List Placed → Type 0
IsBegun requests rs = map (λ r. r.entry.request) rs ≡ take (length rs) requests

-- These receipts were added to the seat, for the first of the requests in their order, one right after another, by a session that
-- had room for all of them. Their entries are one run of the pool, in which no other call came between (profile)
pub record IsBatch (opening : State) (limit : ℕ) (seat : Kept) (requests : List Request) (rs : List Placed) (after : Kept) : Type 0 where
  pub added : IsAdded seat rs after
  pub requested : IsBegun requests rs
  pub first : ℕ
  pub follow : FollowOn first rs
  pub ran : IsRunThere opening first rs
  pub fits : first + length requests ≤ limit

-- How a batch of so many requests ended, from the gate's turns before, how many requests ran, the gate's turns after and whether its
-- last answer was no. The gate was asked once between two that ran; and where not all ran, once more: it said no, or it said yes
-- and the next request got no entry (profile)
abbrev pub IsPaced : ℕ → ℕ → ℕ → ℕ → Bool → Type 0
IsPaced asked before ran after stopped =
    ((ran ≡ asked) × (before ≡ after + (ran - 1)))
    ⊎ ((0 < ran) × (ran < asked) × (stopped ≡ true) × (before + 1 ≡ after + ran))
    ⊎ ((0 < ran) × (ran < asked) × (stopped ≡ false) × (before ≡ after + ran))
