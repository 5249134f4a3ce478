-- Blocks that are to be freed, kept apart by their births.
use Rattle.std.proofs.Common.{◌≡◌, ℕ, ◌+◌, ◌<◌, ◌≤◌, Bool, true, false, List, [], ◌∷◌, length, map, refl, sym, ap, subst, ◌∙◌, arith, ⊎_elim}
use Rattle.std.specs.Prelude.{ltb}
use Rattle.std.specs.FinSet.{union, empty, len}
use Rattle.std.proofs.lemmas.Bool.{ltb-true, ltb-false}
use Rattle.std.proofs.lemmas.List.{length-map}
use Rattle.base.specs.declared.number.Dead.{Dead}
use Rattle.base.specs.Map.{Map, Block, BlockSet, blocks}
use Rattle.base.specs.Surveys.{IsIn, AreDifferent, dead_block}
use Rattle.node.specs.Unique.{IsUnique}
use Rattle.node.specs.Walk.{blocks_of, born_after}
use Rattle.tree.specs.Branch.{branch_blocks}
use Rattle.world.specs.Blocks.{block_order as o, after}
use Rattle.world.specs.Sets.{Has, AreDisjoint}
use Rattle.world.proofs.lists.Lists.{from_listed}
use Rattle.world.proofs.lists.SetCounts.{no-empty, has_some, from_union, in_retain, from_retain}
use Rattle.snap.specs.Members.{dead_blocks, dead_set}
use Rattle.snap.proofs.Together.{tree_lists}
use Rattle.layers_tests.specs.Rising.{AreRising}

-- all were born after a group
abbrev pub AreAfter : ℕ → BlockSet → Type 0
AreAfter cut s = (b : Block) → Has s b → cut < b.birth

-- all were born by a group
abbrev pub AreBy : ℕ → BlockSet → Type 0
AreBy low s = (b : Block) → Has s b → b.birth ≤ low

pub none_young : (low : ℕ) → AreAfter low empty
none_young low b h = absurd (no-empty o b h)

-- blocks on both sides of a group
pub kept_apart : (low : ℕ) (s t : BlockSet) → AreAfter low s → AreBy low t → AreDisjoint s t
kept_apart low s t a b q i j = let x = a q i in let y = b q j in omega (arith, x, y)

pub all_after : (cut low : ℕ) (s t : BlockSet) → cut ≤ low → AreAfter low s → AreAfter cut t → AreAfter cut (union s t)
all_after cut low s t le a b q i = ⊎_elim (λ x. let y = a q x in omega (arith, le, y)) (λ x. b q x) (from_union o s t q i)

-- as many as a walk lists
pub tree_count : (m : Map) (ds : List Dead) (cut : ℕ) → IsUnique m → map dead_block ds ≡ born_after cut (blocks_of m) → length ds ≡ len (after cut (blocks m))
unfolding born_after branch_blocks
tree_count m ds cut unique is = sym (length-map ds dead_block) ∙ ap length is ∙ (tree_lists m (record { key = record { level = 5; index = 0 }; map = m }) cut unique refl).1

pub tree_after : (m : Map) (cut : ℕ) → AreAfter cut (after cut (blocks m))
tree_after m cut b h = ltb-true cut b.birth (from_retain o (blocks m) (λ b. ltb cut b.birth) b h).1

pub tree_by : (m : Map) (cut low : ℕ) → len (after low (blocks m)) ≡ 0 → AreBy low (after cut (blocks m))
tree_by m cut low none b h = by (ltb low b.birth) refl
  where
    by : (x : Bool) → ltb low b.birth ≡ x → b.birth ≤ low
    by true e = let some = has_some o (after low (blocks m)) b (in_retain o (blocks m) (λ b. ltb low b.birth) b (from_retain o (blocks m) (λ b. ltb cut b.birth) b h).0 e) in absurd (omega (arith, some, none))
    by false e = ltb-false low b.birth e

-- entries in order of their numbers
module _ (cut low : ℕ) where
  births : (ds : List Dead) (least : ℕ) → AreRising cut low least ds → (b : Block) → IsIn (map dead_block ds) b → (least ≤ b.number) × (cut < b.birth) × (b.birth ≤ low)
  births [] least h b i = absurd i
  births (d ∷ ds) least h b i = ⊎_elim
      (λ e. subst (λ (x : Block). (least ≤ x.number) × (cut < x.birth) × (x.birth ≤ low)) (sym e) (h.0, h.1, h.2))
      (λ j. let r = births ds (d.block.0 + 1) h.3 b j in let a = h.0 in let c = r.0 in (omega (arith, a, c), r.1, r.2))
      i

  pub entries_once : (ds : List Dead) (least : ℕ) → AreRising cut low least ds → AreDifferent (dead_blocks ds)
  entries_once [] least h = tt
  entries_once (d ∷ ds) least h = ((λ i. let r = (births ds (d.block.0 + 1) h.3 (dead_block d) i).0 in omega (arith, r)), entries_once ds (d.block.0 + 1) h.3)

  pub entries_after : (ds : List Dead) (least : ℕ) → AreRising cut low least ds → AreAfter cut (dead_set ds)
  entries_after ds least h b i = (births ds least h b (from_listed o (dead_blocks ds) b i)).1

  pub entries_by : (ds : List Dead) (least : ℕ) → AreRising cut low least ds → AreBy low (dead_set ds)
  entries_by ds least h b i = (births ds least h b (from_listed o (dead_blocks ds) b i)).2
