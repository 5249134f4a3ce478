-- What contracts see of receipts and seats.
use Rattle.std.specs.Prelude.{ℕ, List, refl}
use Rattle.std.specs.Coded.{Coded, code_by, coded×, coded_ℕ, coded_list}
use Rattle.model.specs.contracts.entry.Entry as entry
use Rattle.model.specs.declared.entry.Entry.{Entry}

-- a number in the history, and the entry there (profile)
pub record Placed : Type 0 where
  pub number : ℕ
  pub entry : Entry

-- a seat's number, and its receipts in order (profile)
pub record Kept : Type 0 where
  pub number : ℕ
  pub receipts : List Placed

-- by the codes a proof tells values apart: each is that of the tuple of the fields
abbrev pub placed_code : Coded Placed
placed_code = code_by (ℕ × Entry) (coded× coded_ℕ entry.the_row.coded) (λ r. (r.number, r.entry)) (λ p. record { number = p.0; entry = p.1 }) (λ _. refl)

abbrev pub kept_code : Coded Kept
kept_code =
    code_by (ℕ × List Placed) (coded× coded_ℕ (coded_list placed_code)) (λ s. (s.number, s.receipts)) (λ p. record { number = p.0; receipts = p.1 }) (λ _. refl)
