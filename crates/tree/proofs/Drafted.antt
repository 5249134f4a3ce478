-- A change, from what a draft has given.
use Rattle.std.proofs.Common.{◌≡◌, ℕ, ◌+◌, Bool, true, false, cond, List, [], ◌∷◌, length, map, reverse, Option, refl, sym, ap, subst, ◌∙◌, arith}
use Rattle.std.specs.Prelude.{◌&&◌}
use Rattle.std.specs.declared.sync.Arc.{Arc}
use Rattle.std.specs.declared.alloc.Global.{Global}
use Rattle.base.specs.declared.number.Key.{Key}
use Rattle.base.specs.declared.number.Dead.{Dead}
use Rattle.base.specs.Map.{Map}
use Rattle.base.specs.Surveys.{IsIn, AreDifferent, dead_block}
use Rattle.zalloc.specs.declared.BlockState.{BlockState}
use Rattle.node.specs.Entries.{map_of, key_at, cell_count}
use Rattle.node.specs.Kid.{IsKid, birth_of, cells}
use Rattle.node.specs.Node.{Root, whole, root_forest, root_part, shared_part}
use Rattle.node.specs.Shape.{Part}
use Rattle.node.specs.Sound.{IsSoundTree}
use Rattle.node.proofs.Roots.{root_kid, root_well, root_birth, root_cells}
use Rattle.batch.specs.Build.{made_keys, rebuilt, filled, number_of, HasKeys}
use Rattle.batch.specs.Draft.{IsDraft}
use Rattle.batch.specs.Numbers.{numbers, IsAtHand}
use Rattle.batch.specs.Said.{Said, said}
use Rattle.batch.specs.Touch.{touched, stays, claims, released, claim_of, own_block}
use Rattle.batch.specs.Updates.{changes_of}
use Rattle.batch.specs.declared.draft.Draft.{Draft}
use Rattle.batch.specs.declared.numbers.NewBlock.{NewBlock}
use Rattle.batch.specs.declared.findings.Claim.{Claim}
use Rattle.batch.specs.declared.update.Update.{Update}
use Rattle.batch.proofs.Batch.{IsAsked, claim_keys_once, released_to, released_from, released_blocks_once}
use Rattle.batch.proofs.Filled.{claim_key, new_key, filled_has, placed_keys}
use Rattle.batch.proofs.Listing.{listing_map}
use Rattle.batch.proofs.Prepare.{IsReady, asked, own_kid}
use Rattle.batch.proofs.Remade.{rebuilt_sound, rebuilt_cells}
use Rattle.batch.proofs.Standing.{Stands, stands_of}
use Rattle.batch.proofs.SaidLaws.{full_size}
use Rattle.tree.specs.Asking.{AreAllocated, AreBornBy}
use Rattle.tree.specs.Change.{Shown, IsChange, AreReleased}
use Rattle.tree.specs.ChangeParts.{made_pair}
use Rattle.tree.proofs.Numbered.{is_change, unique_after}

claim_keys : (t p : Bool) (k : Key) (y : ℕ) (d : Option Dead) → map claim_key (claim_of t p k y d) ≡ cond (t && p) (k ∷ []) []
claim_keys true true k y d = refl
claim_keys true false k y d = refl
claim_keys false p k y d = refl

pub keys_of_claims : (s : ℕ → Said) (y : ℕ) (o : Option Part) → map claim_key (claims s y 5 0 o) ≡ made_keys s 5 0 o
keys_of_claims s y o = listing_map claim_key (λ l j x. claim_of (touched s l j x) (stays s l j x) (key_at l j) y (own_block x)) (λ l j x. cond (touched s l j x && stays s l j x) (key_at l j ∷ []) [])
    (λ l j x. claim_keys (touched s l j x) (stays s l j x) (key_at l j) y (own_block x)) 5 0 o

-- what is known of a map, of the root that it is the map of
pub born_of : (root : Option (Arc Root Global)) (m : Map) (g : ℕ) → map_of (root_forest root) ≡ m → AreBornBy m g → AreBornBy (map_of (root_forest root)) g
born_of root m g e = subst (λ (n : Map). AreBornBy n g) (sym e)

pub allocated_of : (root : Option (Arc Root Global)) (m : Map) (states : List BlockState) → map_of (root_forest root) ≡ m → AreAllocated m states → AreAllocated (map_of (root_forest root)) states
allocated_of root m states e = subst (λ (n : Map). AreAllocated n states) (sym e)

module _ (root : Option (Arc Root Global)) (count : ℕ) (us : List Update) (y : ℕ) (states : List BlockState) (r : IsReady root count us y states) where
  abbrev m : Map
  m = map_of (root_forest root)

  abbrev s : ℕ → Said
  s = said us

  abbrev o : Option Part
  o = whole root

  abbrev C : List Claim
  C = claims s y 5 0 o

  abbrev R : List Dead
  R = released s y 5 0 o

  abbrev b : ℕ
  b = birth_of o

  known : (g : ℕ) → IsKid 5 g o → IsAsked m o us g y states
  known = asked root count us y states r

  module _ (d : Draft) (h : IsDraft o us y states d) where
    abbrev P : List NewBlock
    P = filled C d.taken.items

    pub ready_keys : HasKeys d.made.items 0 (made_keys s 5 0 o)
    ready_keys = subst (λ bs. HasKeys bs 0 (made_keys s 5 0 o)) (sym h.made) (subst (HasKeys P 0) (keys_of_claims s y o) (filled_has C d.taken.items))

    pub ready_places : AreDifferent (map new_key d.made.items)
    ready_places = subst (λ bs. AreDifferent (map new_key bs)) (sym h.made) (placed_keys C d.taken.items h.enough (claim_keys_once m o us b y states (known b (own_kid root count us y states r))) h.once)

    -- what it lets go
    pub ready_released : (n : Map) → m ≡ n → AreReleased n (changes_of us) y (map dead_block d.released.items)
    ready_released n is = subst (λ (k : Map). AreReleased k (changes_of us) y (map dead_block d.released.items)) is
        (let q = known b (own_kid root count us y states r) in
        let same : map dead_block d.released.items ≡ map dead_block R = ap (map dead_block) h.released in record {
          each = λ x. (
            λ i. released_to m o us b y states q x (subst (λ xs. IsIn xs x) same i),
            λ i. subst (λ xs. IsIn xs x) (sym same) (released_from m o us b y states q x i),
          );
          once = subst AreDifferent (sym same) (released_blocks_once m o us b y states q);
        })

    hand : (n : ℕ) → IsIn (numbers d.taken.items) n → IsAtHand states y R n
    hand n i = subst (λ ds. IsAtHand states y ds n) h.released (h.at_hand n i)

    module _ (g : ℕ) (born : AreBornBy m g) (root' : Option (Arc Root Global)) (made : whole root' ≡ rebuilt s (number_of d.made.items) g 5 0 o) where
      kid : IsKid 5 g o
      kid = root_kid (shared_part root_part) root g r.sound.well (root_birth root _ g r.sound.well born)

      e : whole root' ≡ rebuilt s (number_of P) g 5 0 o
      e = made ∙ ap (λ bs. rebuilt s (number_of bs) g 5 0 o) h.made

      new_kid : IsKid 5 g (whole root')
      new_kid = subst (IsKid 5 g) (sym e) (rebuilt_sound s (number_of P) g (full_size us r.sized) 5 0 o kid)

      abbrev m' : Map
      m' = map_of (root_forest root')

      stands' : Stands m' (rebuilt s (number_of P) g 5 0 o) g
      stands' = subst (λ x. Stands m' x g) e (stands_of root' _ g (root_well (shared_part root_part) root' g new_kid) new_kid)

      new_count : d.count ≡ cell_count (root_forest root')
      new_count =
          let even = ap (λ x. cells x + length R) e ∙ rebuilt_cells s (number_of P) g y 5 g 0 o kid in
          let gone = ap length h.released in
          let z = root_cells (shared_part root_part) root' in
          let c = h.counted in let n = h.enough in
          omega (arith, even, gone, z, c, n)

      pub ready_sound : IsSoundTree root' d.count
      ready_sound = record {
        well = root_well (shared_part root_part) root' g new_kid;
        counted = new_count;
        unique = unique_after m o us g y states (known g kid) r.allocated d.taken.items h.enough hand h.once m' stands';
      }

      pub ready_change : (n : Map) → m ≡ n → (v : Shown) → v.old ≡ n → v.new ≡ m' → v.taken ≡ numbers d.taken.items → v.released ≡ map dead_block d.released.items → v.made ≡ map made_pair (reverse d.made.items) → IsChange n (changes_of us) g y states v
      ready_change n is v p q t w x =
          subst (λ (k : Map). IsChange k (changes_of us) g y states v) is
          (is_change m o us g y states (known g kid) r.allocated d.taken.items h.enough hand h.once m' stands' v (p ∙ sym is) q t (w ∙ ap (map dead_block) h.released) (x ∙ ap (λ bs. map made_pair (reverse bs)) h.made))
