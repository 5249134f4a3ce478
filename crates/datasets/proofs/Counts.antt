-- How many snapshots rows have.
use Rattle.std.proofs.Common.{◌≡◌, ℕ, zero, suc, ◌+◌, ◌<◌, ◌≤◌, List, [], ◌∷◌, length, get_or, set, sym, ap, ◌∙◌, arith, length-append}
use Rattle.std.specs.List.{flat_map, insert}
use Rattle.std.specs.Prelude.{IsTrue}
use Rattle.std.specs.FinMap.{is_sorted, from_sorted}
use Rattle.base.specs.Names.{name_cmp}
use Rattle.model.specs.World.{Snap}
use Rattle.file_system.specs.Rows.{Entry, snap_count}
use Rattle.datasets.proofs.Rows.{entries_are}

-- the snapshots of all rows
abbrev pub snaps_in : List Entry → List Snap
snaps_in es = flat_map (λ e. e.1.snaps) es

-- the map of the rows counts them
pub counted : (es : List Entry) → IsTrue (is_sorted name_cmp es) → snap_count (from_sorted {R = name_cmp} es) ≡ length (snaps_in es)
counted es sorted = ap (λ xs. length (snaps_in xs)) (entries_are es sorted)

-- a row more adds its own
pub inserted_count : (es : List Entry) (i : ℕ) (r : Entry) → i ≤ length es → length (snaps_in (insert es i r)) ≡ length r.1.snaps + length (snaps_in es)
inserted_count es zero r le = length-append r.1.snaps (snaps_in es)
inserted_count [] (suc i) r le = absurd (omega arith)
inserted_count (e ∷ es) (suc i) r le =
    let more = length-append e.1.snaps (snaps_in (insert es i r)) in
    let rest = inserted_count es i r (omega arith) in
    let all = length-append e.1.snaps (snaps_in es) in
    omega (arith, more, rest, all)

-- a row without snapshots adds none
pub insert_count : (es : List Entry) (i : ℕ) (r : Entry) → i ≤ length es → r.1.snaps ≡ [] → length (snaps_in (insert es i r)) ≡ length (snaps_in es)
insert_count es i r le bare = let more = inserted_count es i r le in let none = ap length bare in omega (arith, more, none)

-- another row at a place adds as many as it has more than the one there
pub set_count : (es : List Entry) (i : ℕ) (r d : Entry) (more : ℕ) → i < length es → length r.1.snaps ≡ length (get_or es i d).1.snaps + more → length (snaps_in (set es i r)) ≡ length (snaps_in es) + more
set_count [] i r d more lt is = absurd (omega arith)
set_count (e ∷ es) zero r d more lt is = omega (arith, length-append r.1.snaps (snaps_in es), length-append e.1.snaps (snaps_in es))
set_count (e ∷ es) (suc i) r d more lt is =
    let rest = set_count es i r d more (omega arith) is in
    omega (arith, length-append e.1.snaps (snaps_in (set es i r)), length-append e.1.snaps (snaps_in es))

-- another row at a place, with as many more snapshots than the one there, is counted
pub set_counted : (es : List Entry) (i : ℕ) (r e : Entry) (more count : ℕ) → IsTrue (is_sorted name_cmp es) → IsTrue (is_sorted name_cmp (set es i r)) → i < length es → e ≡ get_or es i e → length r.1.snaps ≡ length e.1.snaps + more → count ≡ snap_count (from_sorted {R = name_cmp} es) → count + more ≡ snap_count (from_sorted {R = name_cmp} (set es i r))
set_counted es i r e more count sorted after lt is longer counts =
    ap (λ n. n + more) (counts ∙ counted es sorted)
    ∙ sym (set_count es i r e more lt (longer ∙ ap (λ (x : Entry). length x.1.snaps + more) is))
    ∙ sym (counted (set es i r) after)

-- and one with as many leaves the count as it is
pub set_counted_same : (es : List Entry) (i : ℕ) (r e : Entry) (count : ℕ) → IsTrue (is_sorted name_cmp es) → IsTrue (is_sorted name_cmp (set es i r)) → i < length es → e ≡ get_or es i e → length r.1.snaps ≡ length e.1.snaps → count ≡ snap_count (from_sorted {R = name_cmp} es) → count ≡ snap_count (from_sorted {R = name_cmp} (set es i r))
set_counted_same es i r e count sorted after lt is long counts =
    let more = set_counted es i r e 0 count sorted after lt is (omega arith) counts in
    omega arith

-- another row at a place takes away as many as it has fewer than the one there
set_fewer : (es : List Entry) (i : ℕ) (r d : Entry) (less : ℕ) → i < length es → length r.1.snaps + less ≡ length (get_or es i d).1.snaps → length (snaps_in (set es i r)) + less ≡ length (snaps_in es)
set_fewer [] i r d less lt is = absurd (omega arith)
set_fewer (e ∷ es) zero r d less lt is = omega (arith, length-append r.1.snaps (snaps_in es), length-append e.1.snaps (snaps_in es))
set_fewer (e ∷ es) (suc i) r d less lt is =
    let rest = set_fewer es i r d less (omega arith) is in
    omega (arith, length-append e.1.snaps (snaps_in (set es i r)), length-append e.1.snaps (snaps_in es))

-- another row at a place, with so many fewer snapshots than the one there, is counted
pub set_counted_fewer : (es : List Entry) (i : ℕ) (r e : Entry) (less count : ℕ) → IsTrue (is_sorted name_cmp es) → IsTrue (is_sorted name_cmp (set es i r)) → i < length es → e ≡ get_or es i e → length r.1.snaps + less ≡ length e.1.snaps → count ≡ snap_count (from_sorted {R = name_cmp} es) → snap_count (from_sorted {R = name_cmp} (set es i r)) + less ≡ count
set_counted_fewer es i r e less count sorted after lt is shorter counts =
    ap (λ n. n + less) (counted (set es i r) after)
    ∙ set_fewer es i r e less lt (shorter ∙ ap (λ (x : Entry). length x.1.snaps) is)
    ∙ sym (counts ∙ counted es sorted)
