-- Dead lists in one segment, of whose entries a sum looks at few.
use Rattle.std.proofs.Common.{◌≡◌, ◌≤◌, ◌+◌, ℕ, List, [], ◌++◌, length, map, ap, ◌∙◌, arith}
use Rattle.std.specs.Prelude.{max}
use Rattle.std.specs.List.Sorted.{IsPermutation}
use Rattle.std.specs.FinSet.{len}
use Rattle.std.proofs.lemmas.List.{length-append, length-map}
use Rattle.std.proofs.lemmas.List.Sorted.{length_permutation}
use Rattle.base.specs.Map.{BlockSet}
use Rattle.base.specs.Surveys.{dead_block}
use Rattle.base.specs.declared.number.Dead.{Dead}
use Rattle.deadlist.specs.Bits.{search_steps}
use Rattle.deadlist.specs.Held.{Held}
use Rattle.deadlist.proofs.Logs.{search_steps_le}
use Rattle.world.specs.Deadlists.{Lists}
use Rattle.world.proofs.lineage.Deadlists.{dead_counts}
use Rattle.file_system.specs.Dead.{IsPlain}
use Rattle.file_system.specs.Gone.{reach_of, most_reached}

-- a new list
pub fresh_plain : (h : Held) → h.cuts ≡ [] → h.waiting ≡ 0 → h.steps ≡ 0 → IsPlain h
fresh_plain h uncut none quick = record { uncut = uncut; searched = omega (arith, quick); few = omega (arith, none) }

-- one that a `reserve` made room in
pub reserved_plain : (old new : Held) → old.cuts ≡ [] → old.steps ≤ search_steps (length old.entries) → IsPermutation old.entries new.entries → new.cuts ≡ old.cuts
    → new.waiting ≤ max 63 (length old.cuts) → new.steps ≤ max old.steps (search_steps (length old.entries)) → IsPlain new × (new.waiting ≤ 63)
reserved_plain old new uncut searched same cuts waiting steps =
    let long : length new.entries ≡ length old.entries = length_permutation old.entries new.entries same in
    let none : length old.cuts ≡ 0 = ap (λ (l : List ℕ). length l) uncut in
    let all : search_steps (length new.entries) ≡ search_steps (length old.entries) = ap search_steps long in
    (record { uncut = cuts ∙ uncut; searched = omega (arith, steps, all, searched); few = omega (arith, waiting, none) }, omega (arith, waiting, none))

-- and one with more entries behind its own
pub pushed_searched : (old new : Held) (more : List Dead) → old.steps ≤ search_steps (length old.entries) → new.entries ≡ old.entries ++ more → new.steps ≡ old.steps
    → new.steps ≤ search_steps (length new.entries)
pushed_searched old new more searched entries steps =
    let long : length new.entries ≡ length old.entries + length more = ap (λ (l : List Dead). length l) entries ∙ length-append old.entries more in
    let further = search_steps_le (length old.entries) (length new.entries) (omega (arith, long)) in
    omega (arith, searched, steps, further)

pub pushed_plain : (old new : Held) (more : List Dead) → IsPlain old → old.waiting + length more ≤ 126 → new.entries ≡ old.entries ++ more → new.cuts ≡ old.cuts
    → new.waiting ≡ old.waiting + length more → new.steps ≡ old.steps → IsPlain new
pushed_plain old new more plain few entries cuts waiting steps = record {
  uncut = cuts ∙ plain.uncut;
  searched = pushed_searched old new more plain.searched entries steps;
  few = omega (arith, few, waiting);
}

-- how far a sum over it raises the count of segments
pub plain_reach : (h : Held) (s : BlockSet) → IsPlain h → Lists (map dead_block h.entries) s → reach_of h ≤ most_reached (len s)
plain_reach h s plain own =
    let none : length h.cuts ≡ 0 = ap (λ (l : List ℕ). length l) plain.uncut in
    let mapped = length-map h.entries dead_block in
    let size = (dead_counts (map dead_block h.entries) s 0 own).0 in
    let all : search_steps (length h.entries) ≡ search_steps (len s) = ap search_steps (sym_map mapped size) in
    let searched = plain.searched in
    let few = plain.few in
    omega (arith, none, all, searched, few)
  where
    sym_map : length (map dead_block h.entries) ≡ length h.entries → length (map dead_block h.entries) ≡ len s → length h.entries ≡ len s
    sym_map a b = omega (arith, a, b)
