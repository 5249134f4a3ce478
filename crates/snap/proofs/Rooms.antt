-- Room for more snapshots.
use Rattle.std.proofs.Common.{◌≡◌, ℕ, ◌+◌, ◌-◌, ◌<◌, ◌≤◌, Bool, true, false, ◌||◌, List, [], ◌∷◌, length, map, refl, sym, ◌∙◌, true≢false, arith}
use Rattle.std.specs.Prelude.{nat_lt}
use Rattle.std.specs.List.{flat_map}
use Rattle.std.specs.FinMap.{entries}
use Rattle.std.proofs.lemmas.Bool.{lt-ltb, le-ltb, ltb-true, ltb_from_iff}
use Rattle.std.proofs.lemmas.List.{length-map, length-append}
use Rattle.model.specs.World.{World, FileSystem, Snap, snaps_of}
use Rattle.model.specs.Targets.{snap_limit, guid_limit, number_limit, has_no_next_group}
use Rattle.model.specs.requests.Snapshot.{has_no_room_for}
use Rattle.datasets.specs.Rows.{snap_count}

counted : (es : List (List ℕ × FileSystem)) → length {A = List ℕ × Snap} (flat_map (λ (e : List ℕ × FileSystem). map (λ (s : Snap). (e.0, s)) e.1.snaps) es) ≡ length (flat_map (λ (e : List ℕ × FileSystem). e.1.snaps) es)
counted [] = refl
counted (e ∷ es) =
    length-append (map (λ (s : Snap). (e.0, s)) e.1.snaps) (flat_map (λ (e : List ℕ × FileSystem). map (λ (s : Snap). (e.0, s)) e.1.snaps) es)
    ∙ (λ i. length-map {B = List ℕ × Snap} e.1.snaps (λ (s : Snap). (e.0, s)) i + counted es i)
    ∙ sym (length-append e.1.snaps (flat_map (λ (e : List ℕ × FileSystem). e.1.snaps) es))

pub snaps_counted : (w : World) → length (snaps_of w) ≡ snap_count w.file_systems
snaps_counted w = counted (entries w.file_systems)

by_first : (a b : Bool) → a ≡ true → true ≡ (a || b)
by_first true b e = refl
by_first false b e = absurd (true≢false (sym e))

by_last : (a b c d : Bool) → a ≡ false → b ≡ false → d ≡ c → d ≡ (a || (b || c))
by_last true b c d e f g = absurd (true≢false e)
by_last false true c d e f g = absurd (true≢false f)
by_last false false c d e f g = g

module _ (w : World) (next count total : ℕ) (total_is : total ≡ snap_count w.file_systems) (some : 0 < count) where
  -- too many snapshots
  pub too_many : 65536 - total < count → true ≡ has_no_room_for w next count
  too_many h =
      let k = snaps_counted w in
      by_first (nat_lt snap_limit (length (snaps_of w) + count)) (has_no_next_group w || nat_lt guid_limit (next + count - 1))
      (lt-ltb snap_limit (length (snaps_of w) + count) (omega arith))

  -- nothing but the counter
  pub few_guids : count ≤ 65536 - total → w.group < 9223372036854775807 → next ≤ 4294967295 → nat_lt (4294967295 - next) (count - 1) ≡ has_no_room_for w next count
  few_guids few group left =
      let k = snaps_counted w in
      by_last (nat_lt snap_limit (length (snaps_of w) + count)) (has_no_next_group w) (nat_lt guid_limit (next + count - 1)) (nat_lt (4294967295 - next) (count - 1))
      (le-ltb snap_limit (length (snaps_of w) + count) (omega arith)) (le-ltb number_limit (w.group + 1) (omega arith))
      (ltb_from_iff (λ e. (let l = ltb-true (4294967295 - next) (count - 1) e in omega arith), λ l. lt-ltb (4294967295 - next) (count - 1) (omega arith)))
