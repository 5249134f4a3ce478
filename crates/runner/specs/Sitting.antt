-- A seat that holds views.
use Rattle.std.specs.Prelude.{ℕ, List, refl}
use Rattle.std.specs.Coded.{Coded, code_by, coded×, coded_ℕ, coded_list}
use Rattle.session.specs.Handed.{Kept, kept_code}

-- a seat, with the numbers of the views that it opened and didn't close (profile)
pub record Sitting : Type 0 where
  pub seat : Kept
  pub held : List ℕ

-- its code, that of the pair of the fields
abbrev pub sitting_code : Coded Sitting
sitting_code = code_by (Kept × List ℕ) (coded× kept_code (coded_list coded_ℕ)) (λ s. (s.seat, s.held)) (λ p. record { seat = p.0; held = p.1 }) (λ _. refl)
