-- What one snapshot has alone.
use Rattle.std.specs.Prelude.{◌↔◌, ◌≡◌, ℕ, List, Option, true}
use Rattle.std.specs.Arc.{arc_value}
use Rattle.std.specs.BTreeSet.{BTreeSet, contains}
use Rattle.std.specs.List.{slice_get}
use Rattle.std.specs.Option.{option_map_or}
use Rattle.std.specs.declared.cmp.Ordering.{Ordering}
use Rattle.base.specs.Map.{block_cmp}
use Rattle.base.specs.Surveys.{IsIn, dead_block}
use Rattle.base.specs.declared.number.Dead.{Dead}
use Rattle.snapshots.specs.declared.kept.Kept.{Kept}

-- the entries of the dead list of a snapshot, and these, of the live map's, where there is none (On-Disk Specification, chapter 4:
-- ds_deadlist_obj)
abbrev pub entries_of : Option Kept → List Dead → List Dead
entries_of k es = option_map_or (λ (x : Kept). (arc_value x.dead).entries) k es

-- and of the one at a place
abbrev pub entries_at : List Kept → ℕ → List Dead → List Dead
entries_at ks i es = entries_of (slice_get ks i) es

-- two entries by block and then by birth (profile)
abbrev pub dead_cmp : Dead → Dead → Ordering
dead_cmp a b = block_cmp (dead_block a) (dead_block b)

-- the set has just the elements of a list (profile)
abbrev pub HasJust : BTreeSet Dead → List Dead → Type 0
HasJust s es = (d : Dead) → (contains dead_cmp s d ≡ true) ↔ IsIn es d
