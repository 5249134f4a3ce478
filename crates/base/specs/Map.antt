-- A dataset as a whole map from keys to cells (On-Disk Specification, chapter 3: a tree of blocks; block pointers have a birth, chapter 2).
use Rattle.std.specs.Prelude.{◌≡◌, ◌<◌, ℕ, List, [], None, Some, IsSome, IfSome, length, map, ◌==◌, cond}
use Rattle.std.specs.List.{All, filter_map}
use Rattle.std.specs.declared.cmp.Ordering.{Ordering}
use Rattle.std.specs.Ordering.{nat_cmp, ordering_then}
use Rattle.std.specs.FinMap.{FinMap, get, entries, values, from_entries}
use Rattle.std.specs.FinSet.{FinSet, from_list}
use Rattle.std.specs.Cmp.{IsTotalOrder, then_total, on_total, nat_cmp_total}
use Rattle.std.specs.FinMap.{IsAntisymmetric, nat_cmp-IsAntisymmetric}
use Rattle.base.specs.declared.number.Key.{Key}
use Rattle.base.specs.Key.{key_cmp, IsKey, parent, tied_parts}

-- what a block pointer names: where the block is and the group that it was born in (On-Disk Specification, chapter 2)
pub record Block : Type 0 where
  pub number : ℕ
  pub birth : ℕ

-- by number and then by birth (profile)
abbrev pub block_cmp : Block → Block → Ordering
block_cmp a b = ordering_then (nat_cmp a.number b.number) (nat_cmp a.birth b.birth)

-- a set of blocks (On-Disk Specification, chapter 2)
abbrev pub BlockSet : Type 0
BlockSet = FinSet block_cmp

-- a block with its contents; the bytes above level 0 are its pointers, and here empty (On-Disk Specification, chapter 2)
pub record Cell : Type 0 where
  pub number : ℕ
  pub birth : ℕ
  pub bytes : List ℕ

-- the block that a cell stands in (On-Disk Specification, chapter 2)
abbrev pub block_of : Cell → Block
block_of c = record { number = c.number; birth = c.birth }

-- a dataset: what its tree has at each key (On-Disk Specification, chapter 3)
abbrev pub Map : Type 0
Map = FinMap key_cmp Cell

-- data blocks have 512 bytes, and indirect blocks none here (profile)
abbrev pub HasBytes : Key → Cell → Type 0
HasBytes k c = (k.level ≡ 0 → (length c.bytes ≡ 512) × All (λ b. b < 256) c.bytes) × (0 < k.level → c.bytes ≡ [])

-- a tree in a pool of n blocks: no present key lacks its parent, and none above the leaves is without a child (On-Disk Specification, chapter 3; profile)
pub record IsTree (n : ℕ) (m : Map) : Type 0 where
  pub keys : (k : Key) → IsSome (get m k) → IsKey k
  pub cells : (k : Key) → IfSome (get m k) (λ c. (c.number < n) × HasBytes k c)
  pub parents : (k : Key) → IsSome (get m k) → k.level < 5 → IsSome (get m (parent k))
  pub children : (k : Key) → IsSome (get m k) → 0 < k.level → (child : Key) × (parent child ≡ k) × IsSome (get m child)

-- the map's blocks (On-Disk Specification, chapter 2)
unfoldable pub blocks : Map → BlockSet
blocks m = from_list (map block_of (values m))

-- from the present leaves to their bytes (profile)
abbrev pub Contents : Type 0
Contents = FinMap nat_cmp (List ℕ)

-- (profile)
unfoldable pub contents : Map → Contents
contents m = from_entries (filter_map (λ e. cond (e.0.level == 0) (Some (e.0.index, e.1.bytes)) None) (entries m))

-- the order of blocks is total
pub block_cmp_total : IsTotalOrder block_cmp
block_cmp_total = then_total (on_total (λ b. b.number) nat_cmp_total) (on_total (λ b. b.birth) nat_cmp_total)

-- only equal blocks tie
pub block_cmp-IsAntisymmetric : IsAntisymmetric block_cmp
block_cmp-IsAntisymmetric a b e =
    let parts = tied_parts (nat_cmp a.number b.number) (nat_cmp a.birth b.birth) e in
    λ i. record { number = nat_cmp-IsAntisymmetric a.number b.number parts.0 i; birth = nat_cmp-IsAntisymmetric a.birth b.birth parts.1 i }
