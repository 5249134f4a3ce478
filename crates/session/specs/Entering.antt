-- What one call adds to a seat, and what is said where it adds nothing.
use Rattle.std.specs.Prelude.{◌≡◌, ◌⊎◌, ◌<◌, ℕ, [], ◌∷◌, ◌++◌}
use Rattle.base.specs.declared.refusal.Refusal.{Refusal}
use Rattle.base.specs.declared.refusal.Refusal.TheVariants.{SessionFull, NoMemory, TooMany}
use Rattle.model.specs.declared.request.Request.{Request}
use Rattle.session.specs.declared.book.book.TheConstants.{CALL_LIMIT}
use Rattle.session.specs.Receipts.{Placed, Kept}

-- the request ran: the seat has its receipt (profile)
abbrev pub Ran : Kept → Request → Placed → Kept → Type 0
Ran seat request r after = (r.entry.seat ≡ seat.number) × (r.entry.request ≡ request) × (after ≡ record seat { receipts = seat.receipts ++ r ∷ [] })

-- the session has no room, or memory was refused (profile)
abbrev pub IsFullOrNoMemory : Refusal → Type 0
IsFullOrNoMemory r = (r ≡ SessionFull) ⊎ (r ≡ NoMemory)

-- no session takes so many calls (profile)
abbrev pub IsNoLimit : ℕ → Type 0
IsNoLimit limit = (limit ≡ 0) ⊎ (CALL_LIMIT < limit)

-- why a session with room for so many calls does not open (profile)
abbrev pub IsUnopened : ℕ → Refusal → Type 0
IsUnopened limit r = ((r ≡ TooMany) × IsNoLimit limit) ⊎ (r ≡ NoMemory)
