use Rattle.std.proofs.Common.{◌≢◌, ◌<◌, ◌≤◌, ◌∙◌, ℕ, ⊎_elim, sym, subst, map, arith}
use Rattle.std.proofs.lemmas.Bool.{cases_lt}
use Rattle.std.specs.Prelude.{slice_index_or}
use Rattle.std.specs.Arc.{arc_value}
use Rattle.model.specs.Ids.{snap_id}
use Rattle.datasets.specs.Promoted.{row_at}
use Rattle.file_system.specs.Promotions.{promoted_row, demoted_row, CanPromote}
use Rattle.file_system.specs.Rows.{Row}
use Rattle.datasets.proofs.Exchanged.{both_ok, both_err, front_is, back_is, parts_same, later_first, earlier_first}
use Rattle.datasets.proofs.promote.promote_at.Goals as goal

-- ---- where the clone stands before the other

pub promote_row-requires : goal.promote_row-requires
promote_row-requires c =
    let i = c.args.place in
    let n = c.args.other in
    let rows = c.args.rows.now in
    let low = c.split_at_mut-low.result.0.now in
    let high = c.split_at_mut-low.result.1.now in
    let is = c.split_at_mut-low.ensures.value in
    let long = c.split_at_mut-low.ensures.front_len in
    let below : i < n = let test = c.if-place-other.true in omega arith in
    let front = front_is rows low high n i is long below c.requires.other c.index-low-place.result in
    let back = back_is rows low high n i is long below c.requires.other c.index-high-0.result in
    subst (λ (r : Row). CanPromote r (arc_value (slice_index_or high 0 c.index-high-0.result)) (snap_id c.args.origin)) front
    (subst (λ (r : Row). CanPromote (row_at (map arc_value rows) i) r (snap_id c.args.origin)) back c.requires.can)

pub returns-then-place-other-clause-rows : goal.returns-then-place-other-clause-rows
returns-then-place-other-clause-rows c =
    let i = c.args.place in
    let n = c.args.other in
    let rows = c.args.rows.now in
    let low = c.split_at_mut-low.result.0.now in
    let high = c.split_at_mut-low.result.1.now in
    let is = c.split_at_mut-low.ensures.value in
    let long = c.split_at_mut-low.ensures.front_len in
    let below : i < n = let test = c.if-place-other.true in omega arith in
    let front = front_is rows low high n i is long below c.requires.other c.index-low-place.result in
    let back = back_is rows low high n i is long below c.requires.other c.index-high-0.result in
    both_ok c.promote_row.result
    (λ e f. later_first rows low high n i is long below c.requires.other c.promote_row.new.clone c.promote_row.new.owner _ _
    (e ∙ (λ k. promoted_row (sym front k) (sym back k) (snap_id c.args.origin))) (f ∙ (λ k. demoted_row (sym front k) (sym back k) (snap_id c.args.origin))))
    c.promote_row.ensures.promoted c.promote_row.ensures.demoted

pub returns-then-place-other-clause-rows_stay : goal.returns-then-place-other-clause-rows_stay
returns-then-place-other-clause-rows_stay c =
    let i = c.args.place in
    let n = c.args.other in
    let rows = c.args.rows.now in
    let low = c.split_at_mut-low.result.0.now in
    let high = c.split_at_mut-low.result.1.now in
    let is = c.split_at_mut-low.ensures.value in
    let long = c.split_at_mut-low.ensures.front_len in
    let below : i < n = let test = c.if-place-other.true in omega arith in
    both_err c.promote_row.result
    (parts_same rows low high n i is long below c.requires.other c.promote_row.new.clone c.promote_row.new.owner c.index-low-place.result c.index-high-0.result)
    c.promote_row.ensures.clone_stays c.promote_row.ensures.owner_stays

-- ---- where it stands after it

later : (i j : ℕ) → j ≤ i → i ≢ j → j < i
later i j le apart = ⊎_elim (λ l. l) (λ m. absurd (apart (omega arith))) (cases_lt j i)

pub promote_row-requires-2 : goal.promote_row-requires-2
promote_row-requires-2 c =
    let i = c.args.other in
    let n = c.args.place in
    let rows = c.args.rows.now in
    let low = c.split_at_mut-low-2.result.0.now in
    let high = c.split_at_mut-low-2.result.1.now in
    let is = c.split_at_mut-low-2.ensures.value in
    let long = c.split_at_mut-low-2.ensures.front_len in
    let below : i < n = later c.args.place c.args.other c.if-place-other.false c.requires.apart in
    let front = front_is rows low high n i is long below c.requires.place c.index-low-other.result in
    let back = back_is rows low high n i is long below c.requires.place c.index-high-0-2.result in
    subst (λ (r : Row). CanPromote r (arc_value (slice_index_or low i c.index-low-other.result)) (snap_id c.args.origin)) back
    (subst (λ (r : Row). CanPromote (row_at (map arc_value rows) n) r (snap_id c.args.origin)) front c.requires.can)

pub returns-clause-rows : goal.returns-clause-rows
returns-clause-rows c =
    let i = c.args.other in
    let n = c.args.place in
    let rows = c.args.rows.now in
    let low = c.split_at_mut-low-2.result.0.now in
    let high = c.split_at_mut-low-2.result.1.now in
    let is = c.split_at_mut-low-2.ensures.value in
    let long = c.split_at_mut-low-2.ensures.front_len in
    let below : i < n = later c.args.place c.args.other c.if-place-other.false c.requires.apart in
    let front = front_is rows low high n i is long below c.requires.place c.index-low-other.result in
    let back = back_is rows low high n i is long below c.requires.place c.index-high-0-2.result in
    both_ok c.promote_row-2.result
    (λ e f. earlier_first rows low high n i is long below c.requires.place c.promote_row-2.new.owner c.promote_row-2.new.clone _ _
    (f ∙ (λ k. demoted_row (sym back k) (sym front k) (snap_id c.args.origin))) (e ∙ (λ k. promoted_row (sym back k) (sym front k) (snap_id c.args.origin))))
    c.promote_row-2.ensures.promoted c.promote_row-2.ensures.demoted

pub returns-clause-rows_stay : goal.returns-clause-rows_stay
returns-clause-rows_stay c =
    let i = c.args.other in
    let n = c.args.place in
    let rows = c.args.rows.now in
    let low = c.split_at_mut-low-2.result.0.now in
    let high = c.split_at_mut-low-2.result.1.now in
    let is = c.split_at_mut-low-2.ensures.value in
    let long = c.split_at_mut-low-2.ensures.front_len in
    let below : i < n = later c.args.place c.args.other c.if-place-other.false c.requires.apart in
    both_err c.promote_row-2.result
    (λ e f. parts_same rows low high n i is long below c.requires.place c.promote_row-2.new.owner c.promote_row-2.new.clone c.index-low-other.result c.index-high-0-2.result f e)
    c.promote_row-2.ensures.clone_stays c.promote_row-2.ensures.owner_stays
