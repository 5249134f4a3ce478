-- The code of a branch, by which a proof tells branches apart.
use Rattle.std.specs.Prelude.{refl}
use Rattle.std.specs.Coded.{Coded, code_by, coded×}
use Rattle.base.specs.declared.number.Key.{Key}
use Rattle.base.specs.Map.{Map}
use Rattle.tree.specs.Branch.{Branch}
use Rattle.base.specs.Codes.{key_code, map_code}

-- a branch as the pair of its fields
abbrev pub branch_code : Coded Branch
branch_code = code_by (Key × Map) (coded× key_code map_code) (λ b. (b.key, b.map)) (λ p. record { key = p.0; map = p.1 }) (λ _. refl)
