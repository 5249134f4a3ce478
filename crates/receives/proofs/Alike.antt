-- Two maps are the same where neither has a block that the other lacks, by counts.
use Rattle.std.proofs.Common.{◌≡◌, ◌==◌, ◌&&◌, Option, Some, None, refl, sym, ap, subst, ◌∙◌, ⊎_elim, arith}
use Rattle.std.specs.Bool.{Decides}
use Rattle.std.proofs.lemmas.Bool.Decides.{Decides-eqb, Decides-and, Decides-like}
use Rattle.std.specs.Cmp.Lexicographic.{pointwise, pointwise_decides, bytes_decides}
use Rattle.std.specs.FinMap.{get, entries, same_entries_map}
use Rattle.std.specs.FinMap as finmap
use Rattle.std.specs.FinSet as set
use Rattle.std.specs.FinSet.{difference, intersection}
use Rattle.base.specs.declared.number.Key.{Key}
use Rattle.base.specs.Map.{Map, Cell, Block, BlockSet, block_of, blocks}
use Rattle.node.specs.Unique.{IsUnique}
use Rattle.model.specs.Sums.{size_without}
use Rattle.model.specs.requests.Receive.{same_cell, same_entry, same_map}
use Rattle.world.specs.Shapes.{key_order}
use Rattle.world.specs.Blocks.{block_order as o}
use Rattle.world.specs.Sets.{Has, IsSubset}
use Rattle.world.proofs.maps.Cells.{in_blocks, from_blocks}
use Rattle.world.proofs.lists.Maps.{no_value}
use Rattle.world.proofs.lists.SetCounts.{has_some, Has-cases, in_difference, from_difference, in_intersection, from_intersection, no-empty, same_members, len-difference}
use Rattle.datasets.proofs.Accounts.{count_is}

-- ---- the test of two maps

decides_cell : (a b : Cell) → Decides (same_cell a b) (a ≡ b)
decides_cell a b = Decides-like (same_cell a b)
    (λ p i. record { number = p.0 i; birth = p.1.0 i; bytes = p.1.1 i })
    (λ e. (ap (λ (c : Cell). c.number) e, (ap (λ (c : Cell). c.birth) e, ap (λ (c : Cell). c.bytes) e)))
    (Decides-and (a.number == b.number) (a.birth == b.birth && pointwise ◌==◌ a.bytes b.bytes) (Decides-eqb a.number b.number)
    (Decides-and (a.birth == b.birth) (pointwise ◌==◌ a.bytes b.bytes) (Decides-eqb a.birth b.birth) (bytes_decides a.bytes b.bytes)))

decides_entry : (a b : Key × Cell) → Decides (same_entry a b) (a ≡ b)
decides_entry a b = Decides-like (same_entry a b)
    (λ p i. (record { level = p.0 i; index = p.1.0 i }, p.1.1 i))
    (λ e. (ap (λ (c : Key × Cell). c.0.level) e, (ap (λ (c : Key × Cell). c.0.index) e, ap (λ (c : Key × Cell). c.1) e)))
    (Decides-and (a.0.level == b.0.level) (a.0.index == b.0.index && same_cell a.1 b.1) (Decides-eqb a.0.level b.0.level)
    (Decides-and (a.0.index == b.0.index) (same_cell a.1 b.1) (Decides-eqb a.0.index b.0.index) (decides_cell a.1 b.1)))

pub decides_map : (m n : Map) → Decides (same_map m n) (m ≡ n)
decides_map m n = Decides-like (same_map m n) (same_entries_map m n) (ap entries) (pointwise_decides decides_entry (entries m) (entries n))

-- ---- sets, by how many members one has that the other lacks

-- no member beside those of the other
pub within : (s t : BlockSet) → size_without s t ≡ 0 → IsSubset s t
within s t e q h = ⊎_elim (λ k. k) (λ no. let l = has_some o (difference s t) q (in_difference o s t q h no) in absurd (Prim.omega arith)) (Has-cases o t q)

turned : (s t : BlockSet) → IsSubset (intersection s t) (intersection t s)
turned s t q h = let p = from_intersection o s t q h in in_intersection o t s q p.1 p.0

other_way : (s t : BlockSet) → size_without s t ≡ 0 → set.len s ≡ set.len t → size_without t s ≡ 0
other_way s t e long =
    let a = len-difference o s t in
    let b = len-difference o t s in
    let c = ap set.len (same_members o (intersection s t) (intersection t s) (turned s t) (turned t s)) in
    Prim.omega arith

none_without : (s : BlockSet) → size_without s s ≡ 0
none_without s = ap set.len (same_members o (difference s s) set.empty
    (λ q h. let p = from_difference o s s q h in absurd (p.1 p.0))
    (λ q h. absurd (no-empty o q h))) ∙ set.len-empty _

-- ---- maps whose numbers are one block's

module _ (m n : Map) (one : (j k : Key) (a b : Cell) → get m j ≡ Some a → get n k ≡ Some b → a.number ≡ b.number → (j ≡ k) × (a ≡ b)) where
  across : (j : Key) (a : Cell) → get m j ≡ Some a → Has (blocks n) (block_of a) → get n j ≡ Some a
  across j a at h =
      let f = from_blocks n (block_of a) h in
      let same = one j f.0 a f.1 at f.2 (ap (λ (b : Block). b.number) (sym f.3)) in
      ap (get n) same.0 ∙ f.2 ∙ ap Some (sym same.1)

  back_over : (k : Key) (b : Cell) → get n k ≡ Some b → Has (blocks m) (block_of b) → get m k ≡ Some b
  back_over k b at h =
      let f = from_blocks m (block_of b) h in
      let same = one f.0 k f.1 b f.2 at (ap (λ (c : Block). c.number) f.3) in
      ap (get m) (sym same.0) ∙ f.2 ∙ ap Some same.1

  one_map : blocks m ≡ blocks n → m ≡ n
  one_map e = finmap.same_map key_order.total key_order.exact m n (λ k. by_cells k (get m k) (get n k) refl refl)
    where
      by_cells : (k : Key) (x y : Option Cell) → get m k ≡ x → get n k ≡ y → get m k ≡ get n k
      by_cells k (Some a) y p q = p ∙ sym (across k a p (subst (λ s. Has s (block_of a)) e (in_blocks m k a p)))
      by_cells k None (Some b) p q = absurd (no_value b (sym p ∙ back_over k b q (subst (λ s. Has s (block_of b)) (sym e) (in_blocks n k b q))))
      by_cells k None None p q = p ∙ sym q

  -- the first has no block that the second lacks, and as many as it
  pub same_by_counts : IsUnique m → IsUnique n → size_without (blocks m) (blocks n) ≡ 0 → finmap.len m ≡ finmap.len n → m ≡ n
  same_by_counts um un without long =
      let cm = count_is m um in
      let cn = count_is n un in
      one_map (same_members o (blocks m) (blocks n) (within (blocks m) (blocks n) without) (within (blocks n) (blocks m) (other_way (blocks m) (blocks n) without (Prim.omega arith))))

-- two equal maps lack nothing of each other
pub counts_of_same : (m n : Map) → m ≡ n → (size_without (blocks m) (blocks n) ≡ 0) × (finmap.len m ≡ finmap.len n)
counts_of_same m n e = (subst (λ (x : Map). size_without (blocks m) (blocks x) ≡ 0) e (none_without (blocks m)), ap finmap.len e)
