-- A leaf that is found, and the contents there.
use Rattle.std.proofs.Common.{◌≡◌, ℕ, [], List, Option, Some, None, refl, sym, ap, ◌∙◌, true≢false}
use Rattle.std.specs.Prelude.{IsSome, unwrap_or}
use Rattle.std.specs.Option.{option_map, option_copied}
use Rattle.std.specs.FinMap.{get}
use Rattle.base.specs.Map.{Cell, Map, contents}
use Rattle.base.proofs.Contents.{leaf_key, get-contents}
use Rattle.node.specs.declared.cell.Cell.{Cell as Found}
use Rattle.tree.specs.Cells.{cell_of}

-- some bytes are those that stand for them
held : {R : Type 0} (f : R → List ℕ) (bytes : Option R) → IsSome bytes → option_map f bytes ≡ Some (unwrap_or (option_map f bytes) [])
held f (Some bytes) there = refl
held f None there = absurd (true≢false (sym there))

-- the bytes of a leaf that is there are its contents
pub found-contents : (m : Map) (leaf : ℕ) (c : Found) → Some (cell_of c) ≡ get m (leaf_key leaf) → IsSome c.bytes → option_copied c.bytes ≡ get (contents m) leaf
found-contents m leaf c e there = held (λ x. x.now) c.bytes there ∙ ap (option_map (λ (x : Cell). x.bytes)) e ∙ sym (get-contents m leaf)

-- a leaf that isn't there has no contents
pub none-contents : (m : Map) (leaf : ℕ) → None ≡ get m (leaf_key leaf) → None ≡ get (contents m) leaf
none-contents m leaf e = ap (option_map (λ (x : Cell). x.bytes)) e ∙ sym (get-contents m leaf)
