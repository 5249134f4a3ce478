-- What a read of an image answers.
use Rattle.std.proofs.Common.{◌≡◌, ℕ, ◌*◌, ◌/◌, ◌<◌, ◌≤◌, false, cond, List, [], ◌++◌, Option, Some, None, refl, sym, ap, ◌∙◌, arith}
use Rattle.std.specs.Prelude.{nat_lt}
use Rattle.std.specs.Option.{option_map}
use Rattle.std.specs.Ordering.{nat_cmp}
use Rattle.std.specs.FinMap.{entries, from_entries}
use Rattle.std.specs.FinMap as finmap
use Rattle.std.proofs.lemmas.Bool.{lt-ltb, ltb-true, false_from_ne_true}
use Rattle.base.specs.Map.{Block}
use Rattle.tree.specs.declared.block.Root.{Root}
use Rattle.image.specs.ImageBlocks.{block_at, root_block, maybe_block}
use Rattle.image.specs.ImageWalk.{leaves_of, walk}
use Rattle.node.proofs.Options.{same_value}
use Rattle.world.proofs.lists.Maps.{no_value}
use Rattle.image.proofs.Gathering.{behind}
use Rattle.image.proofs.LeafOrder.{entries_of_sorted, in_order}

walk_past : (image : ℕ → List ℕ) (n : ℕ) (b : Block) → n ≤ b.number → walk image n (Some b) ≡ None
unfolding walk
walk_past image n b h =
    let past : nat_lt b.number n ≡ false = false_from_ne_true _ (λ e. let l = ltb-true b.number n e in omega arith) in
    ap (λ t. cond t (option_map from_entries (leaves_of image n 5 0 b)) None) past

walk_within : (image : ℕ → List ℕ) (n : ℕ) (b : Block) → b.number < n → walk image n (Some b) ≡ option_map from_entries (leaves_of image n 5 0 b)
unfolding walk
walk_within image n b h = ap (λ t. cond t (option_map from_entries (leaves_of image n 5 0 b)) None) (lt-ltb b.number n h)

walk_none : (image : ℕ → List ℕ) (n : ℕ) → walk image n None ≡ Some finmap.empty
unfolding walk
walk_none image n = refl

entries_found : (image : ℕ → List ℕ) (n : ℕ) (b : Block) (o : Option (List (ℕ × List ℕ))) (before xs : List (ℕ × List ℕ)) → leaves_of image n 5 0 b ≡ o → before ≡ [] → behind before o ≡ Some xs
    → option_map entries (option_map (from_entries {R = nat_cmp}) o) ≡ Some xs
entries_found image n b None before xs is nil e = absurd (no_value xs e)
entries_found image n b (Some ys) before xs is nil e =
    ap Some (in_order image n b ys is ∙ (ap (λ zs. zs ++ ys) (sym nil) ∙ same_value (before ++ ys) xs e))

-- the blocks of an image by its bytes
blocks_are : (n size : ℕ) → size ≡ 512 * n → size / 512 ≡ n
blocks_are n size e = omega arith

-- the bytes and the number of blocks as a read has them
pub record IsReadOf (bytes : List ℕ) (n : ℕ) (old : List ℕ) (count : ℕ) : Type 0 where
  pub bytes_are : old ≡ bytes
  pub count_is : count ≡ n

pub reads_nothing : (bytes : List ℕ) (n : ℕ) (root : Option Root) (out : List (ℕ × List ℕ)) → root ≡ None → out ≡ [] → option_map entries (walk (block_at bytes) n (maybe_block root)) ≡ Some out
reads_nothing bytes n root out e nil =
    ap (λ r. option_map entries (walk (block_at bytes) n (maybe_block r))) e ∙ ap (option_map entries) (walk_none (block_at bytes) n)
    ∙ ap Some (entries_of_sorted [] tt ∙ sym nil)

module _ (bytes : List ℕ) (n : ℕ) (old : List ℕ) (count : ℕ) (r : IsReadOf bytes n old count) (root : Option Root) (top : Root) (is : root ≡ Some top) where
  at_root : walk (block_at bytes) n (maybe_block root) ≡ walk (block_at old) count (Some (root_block top))
  at_root = ap (λ o. walk (block_at bytes) n (maybe_block o)) is ∙ (λ i. walk (block_at (sym r.bytes_are i)) (sym r.count_is i) (Some (root_block top)))

  pub reads_past : count ≤ top.block.0 → walk (block_at bytes) n (maybe_block root) ≡ None
  reads_past h = at_root ∙ walk_past (block_at old) count (root_block top) h

  pub reads_all : (before out : List (ℕ × List ℕ)) → top.block.0 < count → before ≡ [] → behind before (leaves_of (block_at old) count 5 0 (root_block top)) ≡ Some out → option_map entries (walk (block_at bytes) n (maybe_block root)) ≡ Some out
  reads_all before out h nil e =
      ap (option_map entries) (at_root ∙ walk_within (block_at old) count (root_block top) h)
      ∙ entries_found (block_at old) count (root_block top) (leaves_of (block_at old) count 5 0 (root_block top)) before out refl nil e

  pub reads_bad : top.block.0 < count → leaves_of (block_at old) count 5 0 (root_block top) ≡ None → walk (block_at bytes) n (maybe_block root) ≡ None
  reads_bad h e = at_root ∙ walk_within (block_at old) count (root_block top) h ∙ ap (option_map from_entries) e
