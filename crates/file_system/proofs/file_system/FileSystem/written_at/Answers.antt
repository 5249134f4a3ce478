use Rattle.std.proofs.Common.{◌≡◌, ℕ, Option, None, Some, ap, ◌∙◌, rules}
use Rattle.std.specs.Prelude.{MatchOption, IsSomeAnd}
use Rattle.std.specs.Option.{option_map, option_copied}
use denote.Ref.{Bor}
use Rattle.snapshots.specs.declared.kept.Kept.{Kept}
use Rattle.file_system.proofs.file_system.FileSystem.written_at.Goals as goal

-- what a closure that reads the count makes of what was found
counted : (o : Option (Bor Kept)) (r : Option ℕ) (P : Bor Kept → ℕ → Type 0) → ((x : Bor Kept) (n : ℕ) → P x n → n ≡ x.now.written) → MatchOption o (r ≡ None) (λ x. IsSomeAnd r (P x))
    → r ≡ option_map (λ (k : Kept). k.written) (option_copied o)
counted None r P says e = e
counted (Some x) None P says h = absurd h
counted (Some x) (Some n) P says h = ap Some (says x n h)

pub returns : goal.returns
returns c = counted c.kept_named.result c.map.result _ (λ x n h. search rules) c.map.ensures.cases ∙ c.kept_named.ensures.written
