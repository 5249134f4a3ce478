-- What a change of a map lets go, said of the map alone.
use Rattle.std.proofs.Common.{◌≡◌, ℕ, ◌<◌, ◌≤◌, Bool, true, false, List, ◌++◌, Some, leb, refl, sym, ap, subst, ◌∙◌, true≢false, ⊎_elim, arith}
use Rattle.std.specs.FinMap.{get}
use Rattle.std.specs.FinSet.{union, difference, from_list}
use Rattle.std.proofs.lemmas.Bool.{le-leb, leb-true}
use Rattle.base.specs.declared.number.Key.{Key}
use Rattle.base.specs.Map.{Map, Cell, Block, BlockSet, block_of, blocks}
use Rattle.base.specs.Rewrite.{Changes, rewrite, is_touched}
use Rattle.base.specs.Surveys.{IsIn}
use Rattle.zalloc.specs.declared.BlockState.{BlockState}
use Rattle.tree.specs.Change.{Shown, IsChange}
use Rattle.world.specs.Sets.{Has, AreDisjoint}
use Rattle.world.specs.Blocks.{block_order as o}
use Rattle.world.specs.Numbering.{ChangesKeys}
use Rattle.world.specs.Deadlists.{Lists, entries_upto}
use Rattle.world.proofs.lists.SetCounts.{same_members, Has-cases, in_union_left, in_union_right, from_union, in_difference, from_difference}
use Rattle.world.proofs.lists.Maps.{same_value}
use Rattle.world.proofs.maps.Cells.{in_blocks, from_blocks, from_new_blocks}
use Rattle.world.proofs.maps.Rewrites.{rewrite_is_change}
use Rattle.world.proofs.lists.Finding.{in_filter, from_filter}
use Rattle.world.proofs.lists.Lists.{in_listed, from_listed, once_filter}
use Rattle.world.proofs.lineage.Deadlists.{dead_join}

-- A change of a map in which a number stands at one key. What stands before the map has those of the map's blocks that were born by
-- the group `base`, and no block that was born later
module _ (m : Map) (c : Changes) (g young : ℕ) (states : List BlockState) (v : Shown) (is : IsChange m c g young states v)
    (unique : (j k : Key) (x y : Cell) → get m j ≡ Some x → get m k ≡ Some y → x.number ≡ y.number → j ≡ k)
    (below : BlockSet) (base : ℕ) (closed : (b : Block) → Has below b → b.birth ≤ base)
    (kept : (b : Block) → Has (blocks m) b → b.birth ≤ base → Has below b) (late : base < young) (early : young ≤ g) where
  abbrev new : Map
  new = rewrite m c g is.number

  abbrev gone : List Block
  gone = entries_upto base v.released

  abbrev gain : BlockSet
  gain = from_list (entries_upto base v.released)

  change : ChangesKeys m (rewrite m c g is.number) (is_touched m c) g is.number
  change = rewrite_is_change m c g is.number

  -- a released block was the map's
  was : (b : Block) → IsIn v.released b → Has (blocks m) b
  was b i = let r = (is.released b).0 i in subst (λ y. Has (blocks m) y) r.is (in_blocks m r.key r.cell r.there)

  -- an old block that the new map has stands at a key that isn't touched
  old_stays : (b : Block) → b.birth ≤ base → Has (blocks (rewrite m c g is.number)) b
      → (k : Key) × (x : Cell) × (get m k ≡ Some x) × (block_of x ≡ b) × (is_touched m c k ≡ false)
  old_stays b l h = ⊎_elim
      (λ z. z)
      (λ z. let e = z.6 in let i = late in let j = early in absurd (omega arith))
      (from_new_blocks m new (is_touched m c) g is.number change b h)

  -- so no old block comes in
  out_stays_out : (b : Block) → b.birth ≤ base → ¬ (Has (blocks m) b) → ¬ (Has (blocks (rewrite m c g is.number)) b)
  out_stays_out b l out h = let z = old_stays b l h in out (subst (λ y. Has (blocks m) y) z.3 (in_blocks m z.0 z.1 z.2))

  -- a released old block is not the new map's
  goes : (b : Block) → b.birth ≤ base → IsIn v.released b → ¬ (Has (blocks (rewrite m c g is.number)) b)
  goes b l i h =
      let r = (is.released b).0 i in
      let z = old_stays b l h in
      let same : r.key ≡ z.0 = unique r.key z.0 r.cell z.1 r.there z.2 (ap (λ (y : Block). y.number) (r.is ∙ sym z.3)) in
      true≢false (sym r.touched ∙ ap (is_touched m c) same ∙ z.4)

  -- an old block that the new map hasn't was released
  let_go : (b : Block) → b.birth ≤ base → Has (blocks m) b → ¬ (Has (blocks (rewrite m c g is.number)) b) → IsIn v.released b
  let_go b l h out = let f = from_blocks m b h in by_touch f.0 f.1 f.2 f.3 (is_touched m c f.0) refl
    where
      by_touch : (k : Key) (x : Cell) → get m k ≡ Some x → block_of x ≡ b → (t : Bool) → is_touched m c k ≡ t → IsIn v.released b
      by_touch k x at same false t = absurd (out (subst (λ y. Has (blocks new) y) same (in_blocks new k x (change.kept k t ∙ at))))
      by_touch k x at same true t = (is.released b).1 (record {
        key = k;
        cell = x;
        there = at;
        is = same;
        touched = t;
        goes = λ z.
            let e : z.cell.birth ≡ x.birth = ap (λ (y : Cell). y.birth) (same_value z.cell x (sym z.there ∙ at)) in
            let f : x.birth ≡ b.birth = ap (λ (y : Block). y.birth) same in
            let i = z.born in
            let j = late in
            absurd (omega arith);
      })

  in_gain : (b : Block) → b.birth ≤ base → IsIn v.released b → Has gain b
  in_gain b l i = in_listed o gone b (in_filter (λ (x : Block). leb x.birth base) v.released b i (le-leb b.birth base l))

  from_gain : (b : Block) → Has gain b → IsIn v.released b × (b.birth ≤ base)
  from_gain b h = let p = from_filter (λ (x : Block). leb x.birth base) v.released b (from_listed o gone b h) in (p.0, leb-true b.birth base p.1)

  gained : Lists (entries_upto base v.released) gain
  gained = record { once = once_filter o (λ b. leb b.birth base) v.released is.released_once; is = refl }

  apart : AreDisjoint (difference below (blocks m)) gain
  apart b h k = (from_difference o below (blocks m) b h).1 (was b (from_gain b k).0)

  both_are : union (difference below (blocks m)) gain ≡ difference below (blocks (rewrite m c g is.number))
  both_are = same_members o _ _
      (λ b h. ⊎_elim
      (λ k. let d = from_difference o below (blocks m) b k in in_difference o below (blocks new) b d.0 (out_stays_out b (closed b d.0) d.1))
      (λ k. let d = from_gain b k in in_difference o below (blocks new) b (kept b (was b d.0) d.1) (goes b d.1 d.0))
      (from_union o (difference below (blocks m)) gain b h))
      (λ b h.
      let d = from_difference o below (blocks new) b h in
      ⊎_elim
      (λ k. in_union_right o (difference below (blocks m)) gain b (in_gain b (closed b d.0) (let_go b (closed b d.0) k d.1)))
      (λ k. in_union_left o (difference below (blocks m)) gain b (in_difference o below (blocks m) b d.0 k))
      (Has-cases o (blocks m) b))

  -- the deadlist after a change: the one before, and then the released blocks that what stands before has
  pub dead_after : (ds : List Block) → Lists ds (difference below (blocks m)) → Lists (ds ++ entries_upto base v.released) (difference below (blocks v.new))
  dead_after ds own = subst (Lists (ds ++ gone)) (both_are ∙ ap (λ x. difference below (blocks x)) (sym is.new_is))
      (dead_join ds gone (difference below (blocks m)) gain own gained apart)
