-- Rows of open views as entries: a search by number, those of other numbers, and whether one shows a snapshot.
use Rattle.std.proofs.Common.{◌≡◌, ℕ, zero, suc, ◌+◌, ◌<◌, ◌≤◌, Bool, true, false, cond, not, List, [], ◌∷◌, length, get_or, map, Some, None, Result, Ok, Err, refl, sym, ap, subst, ◌∙◌, arith, inl, inr}
use Rattle.std.specs.Prelude.{IsTrue, ◌==◌, ◌&&◌, ◌||◌, IfOk, Vec}
use Rattle.std.proofs.lemmas.Bool.{and_parts, ne_eqb, cases_lt}
use Rattle.std.proofs.lemmas.Bool.Decides.{nat_tests}
use Rattle.std.proofs.lemmas.List.Sorted.{searchable_from_sorted}
use Rattle.std.specs.declared.alloc.Global.{Global}
use Rattle.std.specs.List.{filter, list_any}
use Rattle.std.specs.List.Sorted.{IsNonDecreasingBy, IsPartitionPoint}
use Rattle.std.specs.Ordering.{nat_cmp, is_lt, ordering_index}
use Rattle.std.specs.declared.cmp.Ordering.TheVariants.{Less, Equal, Greater}
use Rattle.std.specs.Cmp.{nat_cmp_total, ranked, unsigned_tied}
use Rattle.std.specs.FinMap.{find, remove, is_sorted, nat_cmp-IsAntisymmetric}
use Rattle.std.specs.FinMap.Entries.{below_all}
use Rattle.model.specs.World.{SnapId, same_id}
use Rattle.model.specs.Ids.{snap_id}
use Rattle.model.specs.State.{Views, is_viewed}
use Rattle.model.specs.declared.snapshot_id.SnapshotId.{SnapshotId}
use Rattle.world.specs.Usage.{IsEntry}
use Rattle.snap.specs.declared.row.Open.{Open}
use Rattle.snap.specs.Entries.{entry_of}
use Rattle.snap.proofs.Numbered.{Entry, views_of, without, find_entry, entries_are, without_sorted, without_is}

-- ---- a search by number

below_from : (x y : ℕ) → is_lt (nat_cmp x y) ≡ true → x < y
below_from x y h = grind (arith, nat_tests)

not_below : (x y : ℕ) → x ≤ y → is_lt (nat_cmp y x) ≡ false
not_below x y h = grind (arith, nat_tests)

-- what is below all numbers is below that at a place
below_at : (n : ℕ) (vs : List Open) → below_all nat_cmp n (map entry_of vs) ≡ true → (j : ℕ) (d : Open) → j < length vs → n < (get_or vs j d).number
below_at n [] h j d lt = absurd (omega arith)
below_at n (v ∷ vs) h zero d lt = below_from n v.number (and_parts _ _ h).0
below_at n (v ∷ vs) h (suc j) d lt = below_at n vs (and_parts _ _ h).1 j d (omega arith)

rises : (vs : List Open) → IsTrue (is_sorted nat_cmp (map entry_of vs)) → (i j : ℕ) (d : Open) → i ≤ j → j < length vs → (get_or vs i d).number ≤ (get_or vs j d).number
rises [] h i j d le lt = absurd (omega arith)
rises (v ∷ vs) h zero zero d le lt = omega arith
rises (v ∷ vs) h zero (suc j) d le lt = let up = below_at v.number vs (and_parts _ _ h).0 j d (omega arith) in omega arith
rises (v ∷ vs) h (suc i) zero d le lt = absurd (omega arith)
rises (v ∷ vs) h (suc i) (suc j) d le lt = rises vs (and_parts _ _ h).1 i j d (omega arith) (omega arith)

-- the comparisons with a number rise along them, as a binary search asks
searchable : (vs : List Open) → IsTrue (is_sorted nat_cmp (map entry_of vs)) → (q : ℕ) → IsNonDecreasingBy (λ (v : Open). ordering_index (nat_cmp v.number q)) vs
searchable vs h q = searchable_from_sorted nat_cmp_total (λ (v : Open). v.number) vs q (λ k d _ lt. not_below _ _ (rises vs h k (k + 1) d (omega arith) lt))

entry_at : (vs : List Open) (i : ℕ) (d : Open) → i < length vs → IsEntry (map entry_of vs) (get_or vs i d).number (snap_id (get_or vs i d).snapshot)
entry_at [] i d lt = absurd (omega arith)
entry_at (v ∷ vs) zero d lt = inl (refl, refl)
entry_at (v ∷ vs) (suc i) d lt = inr (entry_at vs i d (omega arith))

-- a view at whose place a search ends is found by that number
pub found : (vs : List Open) → IsTrue (is_sorted nat_cmp (map entry_of vs)) → (q i : ℕ) (d : Open) → i < length vs → nat_cmp (get_or vs i d).number q ≡ Equal → find nat_cmp q (map entry_of vs) ≡ Some (snap_id (get_or vs i d).snapshot)
found vs h q i d lt tied =
    find_entry (map entry_of vs) h q _ (subst (λ n. IsEntry (map entry_of vs) n (snap_id (get_or vs i d).snapshot)) (nat_cmp-IsAntisymmetric _ q tied) (entry_at vs i d lt))

-- a number that no view has is not found
absent : (vs : List Open) (q : ℕ) → ((j : ℕ) (d : Open) → j < length vs → q ≡ (get_or vs j d).number → ⊥) → find nat_cmp q (map entry_of vs) ≡ None
absent [] q h = refl
absent (v ∷ vs) q h =
    ap (λ b. cond b (Some (snap_id v.snapshot)) (find nat_cmp q (map entry_of vs))) (unsigned_tied q v.number ∙ ne_eqb q v.number (h zero v (omega arith)))
    ∙ absent vs q (λ j d lt. h (suc j) d (omega arith))

-- a number between whose neighbours a search ends is not found
pub missed : (vs : List Open) → IsTrue (is_sorted nat_cmp (map entry_of vs)) → (q i : ℕ)
    → (IsNonDecreasingBy (λ (v : Open). ordering_index (nat_cmp v.number q)) vs → IsPartitionPoint (λ (v : Open). nat_cmp v.number q ≡ Less) (λ v. nat_cmp v.number q ≡ Greater) vs i)
    → find nat_cmp q (map entry_of vs) ≡ None
missed vs h q i parted =
    let parts = parted (searchable vs h q) in
    absent vs q (λ j d lt is. elim (cases_lt j i) [
      | inl before ↦ let less = ranked _ q Less (sym (parts.0 j d (omega arith) before)) in omega arith
      | inr behind ↦ let more = ranked _ q Greater (sym (parts.1 j d behind lt)) in omega arith
    ])

-- ---- views of other numbers

map_choice : (b : Bool) (v : Open) (vs : List Open) → map entry_of (cond b (v ∷ vs) vs) ≡ cond b (entry_of v ∷ map entry_of vs) (map entry_of vs)
map_choice true v vs = refl
map_choice false v vs = refl

-- the entries of the views of other numbers are the entries of other numbers
pub map_without : (k : ℕ) (vs : List Open) → map entry_of (filter (λ (v : Open). not (v.number == k)) vs) ≡ without (map entry_of vs) k
map_without k [] = refl
map_without k (v ∷ vs) =
    map_choice (not (v.number == k)) v (filter (λ (w : Open). not (w.number == k)) vs) ∙ ap (λ es. cond (not (v.number == k)) (entry_of v ∷ es) es) (map_without k vs)

-- ---- whether one shows a snapshot

any_is : (id : SnapId) (vs : List Open) → list_any (λ (v : Open). same_id id (snap_id v.snapshot)) vs ≡ list_any (same_id id) (map (λ (e : Entry). e.1) (map entry_of vs))
any_is id [] = refl
any_is id (v ∷ vs) = ap (λ b. same_id id (snap_id v.snapshot) || b) (any_is id vs)

any_choice : (id : SnapId) (b : Bool) (e : Entry) (es : List Entry) → ((b && same_id id e.1) || list_any (same_id id) (map (λ (x : Entry). x.1) es)) ≡ list_any (same_id id) (map (λ (x : Entry). x.1) (cond b (e ∷ es) es))
any_choice id true e es = refl
any_choice id false e es = refl

any_without : (k : ℕ) (id : SnapId) (vs : List Open)
    → list_any (λ (v : Open). not (v.number == k) && same_id id (snap_id v.snapshot)) vs ≡ list_any (same_id id) (map (λ (e : Entry). e.1) (without (map entry_of vs) k))
any_without k id [] = refl
any_without k id (v ∷ vs) =
    ap (λ b. (not (v.number == k) && same_id id (snap_id v.snapshot)) || b) (any_without k id vs)
    ∙ any_choice id (not (v.number == k)) (entry_of v) (without (map entry_of vs) k)

-- a view shows a snapshot where the map has its identity
pub viewed_is : (vs : List Open) → IsTrue (is_sorted nat_cmp (map entry_of vs)) → (id : SnapId) → list_any (λ (v : Open). same_id id (snap_id v.snapshot)) vs ≡ is_viewed (views_of (map entry_of vs)) id
viewed_is vs h id = any_is id vs ∙ ap (λ (es : List Entry). list_any (same_id id) (map (λ e. e.1) es)) (sym (entries_are (map entry_of vs) h))

-- and the list of what they show has it then
any_listed : (id : SnapId) (vs : List Open) → list_any (same_id id) (map snap_id (map (λ (v : Open). v.snapshot) vs)) ≡ list_any (λ (v : Open). same_id id (snap_id v.snapshot)) vs
any_listed id [] = refl
any_listed id (v ∷ vs) = ap (λ b. same_id id (snap_id v.snapshot) || b) (any_listed id vs)

pub viewed_listed : {E : Type 0} (vs : List Open) → IsTrue (is_sorted nat_cmp (map entry_of vs)) → (m : Views) → views_of (map entry_of vs) ≡ m → (r : Result (Vec SnapshotId Global) E)
    → IfOk r (λ ids. ids.items ≡ map (λ (v : Open). v.snapshot) vs) → IfOk r (λ ids. (id : SnapId) → list_any (same_id id) (map snap_id ids.items) ≡ is_viewed m id)
viewed_listed vs h m is (Ok ids) same = λ id. ap (λ l. list_any (same_id id) (map snap_id l)) same ∙ any_listed id vs ∙ viewed_is vs h id ∙ ap (λ x. is_viewed x id) is
viewed_listed vs h m is (Err e) same = tt

-- and one of another number does where the map without that number has it
pub viewed_beside_is : (vs : List Open) → IsTrue (is_sorted nat_cmp (map entry_of vs)) → (k : ℕ) (id : SnapId)
    → list_any (λ (v : Open). not (v.number == k) && same_id id (snap_id v.snapshot)) vs ≡ is_viewed (remove (views_of (map entry_of vs)) k) id
viewed_beside_is vs h k id =
    any_without k id vs
    ∙ ap (λ (es : List Entry). list_any (same_id id) (map (λ e. e.1) es)) (sym (entries_are _ (without_sorted (map entry_of vs) h k)))
    ∙ ap (λ m. is_viewed m id) (without_is (map entry_of vs) h k)
