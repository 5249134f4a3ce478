-- The open views of a pool with the number of the next.
use Rattle.std.specs.Prelude.{ℕ, ◌+◌, Bool, ◌||◌, nat_lt, refl}
use Rattle.std.specs.Coded.{Coded, code_by, coded×, coded_ℕ}
use Rattle.std.specs.FinMap as finmap
use Rattle.std.specs.FinMap.{len}
use Rattle.model.specs.Codes.{id_code}
use Rattle.model.specs.State.{Views}
use Rattle.model.specs.Targets.{number_limit}
use Rattle.model.specs.requests.OpenView.{view_limit}

-- the open views by their numbers, and the number that the next one has (profile)
pub record Viewing : Type 0 where
  pub opened : Views
  pub next : ℕ

-- its code, that of the pair of the fields (profile)
abbrev pub viewing_code : Coded Viewing
viewing_code =
    code_by (Views × ℕ) (coded× (finmap.code coded_ℕ id_code) coded_ℕ)
    (λ v. (v.opened, v.next))
    (λ p. record { opened = p.0; next = p.1 })
    (λ _. refl)

-- no view can be opened: too many are open, or the numbers are at their end (profile)
abbrev pub is_full : Viewing → Bool
is_full v = nat_lt view_limit (len v.opened + 1) || nat_lt number_limit v.next
