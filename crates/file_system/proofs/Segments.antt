-- How far a count of what has gone raises the count of segments.
use Rattle.std.proofs.Common.{◌≤◌, ◌+◌, ℕ, Bool, true, false, cond, List, [], ◌∷◌, Some, None, length, map, nat_le, nat_lt, eqb, arith}
use Rattle.std.proofs.lemmas.List.Sums.{sum_by-cons}
use Rattle.std.specs.Arc.{arc_value}
use Rattle.std.specs.List.{filter, list_any}
use Rattle.std.specs.FinSet.{len, difference}
use Rattle.base.specs.Map.{Map, BlockSet, blocks}
use Rattle.base.specs.Surveys.{dead_block}
use Rattle.deadlist.proofs.Filters.{filter_le}
use Rattle.deadlist.specs.Held.{Held}
use Rattle.deadlist.specs.Segments.{reached_upto, reached_after}
use Rattle.snapshots.specs.declared.kept.Kept.{Kept}
use Rattle.world.specs.Deadlists.{Lists}
use Rattle.file_system.specs.Dead.{snaps_in, newest_blocks, IsPlain, AreAccounted}
use Rattle.file_system.specs.Gone.{Gone, gone_in, is_asked, reach_of, asked_reach, kept_reach, whole_reach, most_reached, lists_reach}
use Rattle.file_system.specs.declared.gone.Asked.{Asked}
use Rattle.file_system.proofs.Plain.{plain_reach}

-- ---- of one dead list

-- a sum of what was born by a cut reaches no segment twice
pub upto_few : (cut : ℕ) (cs : List ℕ) → reached_upto cut cs ≤ length cs + 1
upto_few cut cs = by (list_any (λ c. eqb c cut) cs) (filter_le (λ c. nat_le c cut) cs)
  where
    by : (b : Bool) → length (filter (λ c. nat_le c cut) cs) ≤ length cs → length (filter (λ c. nat_le c cut) cs) + cond b 0 1 ≤ length cs + 1
    by true few = omega arith
    by false few = omega arith

-- nor does one of what was born after it
pub after_few : (cut : ℕ) (cs : List ℕ) → reached_after cut cs ≤ length cs + 1
after_few cut cs = let few = filter_le (λ c. nat_lt cut c) cs in omega (arith, few)

-- ---- of all that are asked for

-- as far as its own list allows, where it is asked for
one_asked : (a : Asked) (g : Gone) (gs : List Gone) (h : Held) (n : ℕ) → reach_of h ≤ most_reached (len g.blocks) → n ≤ lists_reach (filter (λ (x : Gone). is_asked a x.group) gs)
    → asked_reach a g.group h + n ≤ lists_reach (filter (λ (x : Gone). is_asked a x.group) (g ∷ gs))
one_asked a g gs h n few rest = by (is_asked a g.group)
  where
    by : (b : Bool) → cond b (reach_of h) 0 + n ≤ lists_reach (cond b (g ∷ filter (λ (x : Gone). is_asked a x.group) gs) (filter (λ (x : Gone). is_asked a x.group) gs))
    by true = let first = sum_by-cons (λ (x : Gone). most_reached (len x.blocks)) g (filter (λ (x : Gone). is_asked a x.group) gs) in omega (arith, few, rest, first)
    by false = omega (arith, rest)

pub reach_counted : (a : Asked) (bs : BlockSet) (ks : List Kept) (h : Held) (live : Map) → AreAccounted bs ks → IsPlain h
    → Lists (map dead_block h.entries) (difference (newest_blocks bs (snaps_in ks)) (blocks live))
    → whole_reach a ks h ≤ lists_reach (filter (λ (g : Gone). is_asked a g.group) (gone_in bs (snaps_in ks) live))
reach_counted a bs [] h live each plain own =
    let one = one_asked a (record { group = None; blocks = difference bs (blocks live) }) [] h 0 (plain_reach h (difference bs (blocks live)) plain own) (omega arith) in
    omega (arith, one)
reach_counted a bs (k ∷ ks) h live each plain own =
    let first = one_asked a (record { group = Some k.snapshot.group; blocks = difference bs (blocks k.snapshot.map) }) (gone_in (blocks k.snapshot.map) (snaps_in ks) live) (arc_value k.dead) (whole_reach a ks h)
    (plain_reach (arc_value k.dead) (difference bs (blocks k.snapshot.map)) each.0.plain each.0.dead)
    (reach_counted a (blocks k.snapshot.map) ks h live each.1 plain own) in
    let apart = sum_by-cons (kept_reach a) k ks in
    omega (arith, first, apart)
