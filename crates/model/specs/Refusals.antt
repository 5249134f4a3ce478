-- Which refusal a request gets: the first of its row whose condition holds (the conditions are those of the zfs-SUBCOMMAND(8)
-- pages; numbers and order are profile).
use Rattle.std.specs.Prelude.{ℕ, ◌+◌, ◌*◌, Option}
use Rattle.std.specs.FinSet as set
use Rattle.base.specs.declared.number.Key.{Key}
use Rattle.base.specs.declared.refusal.Refusal.{Refusal}
use Rattle.model.specs.State.{State}
use Rattle.model.specs.Rule.{Rule, first_of}

-- numbers from the pool's size on, which no block has. Keys have six levels, so each key has a number of its own (profile)
abbrev pub fresh_number : State → Key → ℕ
fresh_number s k = s.size + 6 * k.index + k.level

-- the state that the rule's limits are asked of: the one that it would lead to, with such numbers (profile)
unfoldable pub state_asked : State → Rule → State
state_asked s rule = rule.after s (record { number = fresh_number s; taken = set.empty })

-- the refusal that stands, if any (profile)
unfoldable pub refusal_of : State → Rule → Option Refusal
refusal_of s rule = first_of (rule.row s (state_asked s rule))
