-- What is known of a root before a batch is drafted: the room, and how many blocks go and come.
use Rattle.std.proofs.Common.{◌≡◌, ℕ, zero, suc, ◌+◌, ◌*◌, ◌^◌, ◌<◌, ◌≤◌, Bool, true, false, cond, List, [], ◌∷◌, length, map, Option, Some, None, Ok, Err, Result, refl, sym, ap, ◌∙◌, arith, length-append}
use Rattle.std.specs.Prelude.{slice_get, count_by, nat_le, not, ◌&&◌}
use Rattle.std.specs.Result.{IsErrAnd}
use Rattle.std.specs.declared.sync.Arc.{Arc}
use Rattle.std.specs.declared.alloc.Global.{Global}
use Rattle.base.specs.declared.number.Key.{Key}
use Rattle.base.specs.declared.number.Dead.{Dead}
use Rattle.base.specs.Map.{Map}
use Rattle.base.specs.Surveys.{IsIn, AreDifferent}
use Rattle.zalloc.specs.declared.BlockState.{BlockState}
use Rattle.zalloc.specs.declared.BlockState.TheVariants.{Allocated}
use Rattle.zalloc.specs.States.{is_free}
use Rattle.node.specs.Entries.{map_of, cell_count}
use Rattle.node.specs.Kid.{IsKid, birth_of, cells, places_of}
use Rattle.node.specs.Node.{Root, whole, root_forest, root_part, shared_part}
use Rattle.node.specs.Shape.{Part, forest_of}
use Rattle.node.specs.Sound.{IsSoundTree}
use Rattle.node.proofs.Parts.{cells_bound}
use Rattle.node.proofs.Places.{cells-cons, cells-below}
use Rattle.node.proofs.Roots.{root_kid, root_cells}
use Rattle.batch.specs.Build.{rebuilt, is_fresh}
use Rattle.batch.specs.Numbers.{is_young}
use Rattle.base.specs.Counting.{counted}
use Rattle.batch.specs.Cost.{CountsDropped}
use Rattle.batch.specs.Room.{AreAllocated, HasRoom, LacksRoom}
use Rattle.batch.specs.Said.{Said, said, AreSized}
use Rattle.batch.specs.Touch.{later_first, touched, stays, claims, released, dropped, let_go, own_block}
use Rattle.batch.specs.Updates.{changes_of, IsBatch}
use Rattle.batch.specs.declared.findings.Claim.{Claim}
use Rattle.batch.specs.declared.update.Update.{Update}
use Rattle.batch.proofs.Batch.{IsAsked, counts, room, no_room, released_allocated, released_once}
use Rattle.batch.proofs.Remade.{rebuilt_sound, rebuilt_cells}
use Rattle.batch.proofs.Standing.{stands_of}
use Rattle.batch.proofs.TouchLaws.{released_down, released_at_leaf}
use Rattle.batch.proofs.SaidLaws.{full_size}

-- what is handed on is the same refusal
pub handed_on : {A B E : Type 0} (r : Result B E) (x y : E) → IsErrAnd r (λ z. z ≡ x) → r ≡ Err y → (let q : Result A E = Err x in q) ≡ Err y
handed_on (Ok v) x y is e = absurd is
handed_on (Err z) x y is e = let same : z ≡ y = cc in ap Err (sym is ∙ same)

-- no more blocks go than there are
few_gone : (t p : Bool) (y : ℕ) (q : Option Part) → length (let_go t p y (own_block q)) + cell_count (forest_of (λ p. p) (places_of q)) ≤ cells q
few_gone t p y None = let z = cells-below None 0 refl in omega (arith, z)
few_gone t p y (Some x) = let z = cells-below (Some x) (1 + cell_count x.below) refl in let b = one (t && not (p && nat_le y x.cell.birth)) in omega (arith, z, b)
  where
    one : (b : Bool) → length (cond b (record { block = record { 0 = x.cell.number }; birth = record { 0 = x.cell.birth } } ∷ []) (let ds : List Dead = [] in ds)) ≤ 1
    one true = omega arith
    one false = omega arith

few_later : (s : ℕ → Said) (y l j : ℕ) (os : List (Option Part)) → ((k : ℕ) (o : Option Part) → length (released s y l k o) ≤ cells o) → length (later_first (released s y l) j os) ≤ cell_count (forest_of (λ p. p) os)
few_later s y l j [] h = omega arith
few_later s y l j (o ∷ os) h =
    let a = length-append (later_first (released s y l) (j + 1) os) (released s y l j o) in
    let r = few_later s y l (j + 1) os h in
    let c = cells-cons o os in
    let b = h j o in
    omega (arith, a, r, c, b)

few_released : (s : ℕ → Said) (y l j : ℕ) (o : Option Part) → length (released s y l j o) ≤ cells o
few_released s y zero j o = let e = ap length (released_at_leaf s y j o) in let f = few_gone (touched s 0 j o) (stays s 0 j o) y o in omega (arith, e, f)
few_released s y (suc l) j o =
    let e = ap length (released_down s y l j o) in
    let a = length-append (later_first (released s y l) (16 * j) (places_of o)) (let_go (touched s (suc l) j o) (stays s (suc l) j o) y (own_block o)) in
    let r = few_later s y l (16 * j) (places_of o) (λ k x. few_released s y l k x) in
    let f = few_gone (touched s (suc l) j o) (stays s (suc l) j o) y o in
    omega (arith, e, a, r, f)

-- what is known of a root with so many blocks, and of what is asked
pub record IsReady (root : Option (Arc Root Global)) (count : ℕ) (us : List Update) (y : ℕ) (states : List BlockState) : Type 0 where
  pub sound : IsSoundTree root count
  pub batch : IsBatch us
  pub sized : AreSized us
  pub allocated : AreAllocated (map_of (root_forest root)) states

module _ (root : Option (Arc Root Global)) (count : ℕ) (us : List Update) (y : ℕ) (states : List BlockState) (r : IsReady root count us y states) where
  abbrev m : Map
  m = map_of (root_forest root)

  abbrev s : ℕ → Said
  s = said us

  abbrev o : Option Part
  o = whole root

  abbrev C : List Claim
  C = claims s y 5 0 o

  abbrev R : List Dead
  R = released s y 5 0 o

  abbrev b : ℕ
  b = birth_of o

  pub own_kid : IsKid 5 b o
  own_kid = root_kid (shared_part root_part) root b r.sound.well (omega arith)

  pub asked : (g : ℕ) → IsKid 5 g o → IsAsked m o us g y states
  asked g kid = record { stands = stands_of root _ g r.sound.well kid; batch = r.batch; sized = r.sized; unique = r.sound.unique }

  pub ready_room : count_by is_fresh C ≤ count_by is_free states + count_by (is_young y) R → HasRoom m (changes_of us) y states
  ready_room h = room m o us b y states (asked b own_kid) h

  pub ready_no_room : count_by is_free states + count_by (is_young y) R < count_by is_fresh C → LacksRoom m (changes_of us) y states
  ready_no_room h = no_room m o us b y states (asked b own_kid) h

  pub ready_counts : (before after : ℕ) → counted before (length (dropped s y 5 0 o)) ≤ after → CountsDropped m (changes_of us) before after
  ready_counts before after h = counts m o us b y states (asked b own_kid) before after h

  pub ready_allocated : (d : Dead) → IsIn R d → slice_get states d.block.0 ≡ Some Allocated
  ready_allocated = released_allocated m o us b y states (asked b own_kid) r.allocated

  pub ready_once : AreDifferent (map (λ (d : Dead). d.block.0) R)
  ready_once = released_once m o us b y states (asked b own_kid)

  pub ready_count : count ≡ cells o
  ready_count = let x = root_cells (shared_part root_part) root in let c = r.sound.counted in omega (arith, x, c)

  pub few : length R ≤ count
  few = let f = few_released s y 5 0 o in let c = ready_count in omega (arith, f, c)

  pub old_bound : count < 2 ^ 31
  old_bound = let z = cells_bound 5 b o own_kid in let c = ready_count in omega (arith, z, c)

  -- how many blocks there are afterwards, whatever numbers the new ones have
  pub new_bound : count + count_by is_fresh C < 2 ^ 31 + length R
  new_bound =
      let none : Key → ℕ = λ k. 0 in
      let even = rebuilt_cells s none b y 5 b 0 o own_kid in
      let z = cells_bound 5 b (rebuilt s none b 5 0 o) (rebuilt_sound s none b (full_size us r.sized) 5 0 o own_kid) in
      let c = ready_count in
      omega (arith, even, z, c)
