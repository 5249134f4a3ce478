-- What contracts see of a call that has its memory.
use Rattle.std.specs.Prelude.{◌≡◌, ℕ, refl}
use Rattle.std.specs.Coded.{Coded, code_by, coded×, coded_ℕ}
use Rattle.model.specs.contracts.request.Request as request
use Rattle.model.specs.declared.request.Request.{Request}
use Rattle.model.specs.declared.entry.Entry.{Entry}
use Rattle.model.specs.declared.reply.Reply.TheVariants.{Done}

-- the number of the seat that asks, and what it asks for (profile)
pub record Asked : Type 0 where
  pub seat : ℕ
  pub request : Request

-- its code, that of the tuple of the fields
abbrev pub asked_code : Coded Asked
asked_code = code_by (ℕ × Request) (coded× coded_ℕ request.the_row.coded) (λ a. (a.seat, a.request)) (λ p. record { seat = p.0; request = p.1 }) (λ _. refl)

-- three owners of one entry, which has the reply Done until another is put in (profile)
pub record IsUnanswered (kept ours theirs : Entry) : Type 0 where
  pub done : kept.reply ≡ Done
  pub ours_is : ours ≡ kept
  pub theirs_is : theirs ≡ kept
