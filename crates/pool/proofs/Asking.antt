-- What each request asks of a tree, from what its update tells.
use Rattle.std.proofs.Common.{◌≡◌, ◌≤◌, ◌↔◌, ℕ, List, Result, Err, [], ◌∷◌, None, refl}
use Rattle.std.specs.Prelude.{IfOk, IfErr}
use Rattle.base.specs.Key.{leaf_index}
use Rattle.base.specs.Rewrite.{writes_leaf, punches_leaf, frees_object}
use Rattle.base.specs.declared.name.target.Target.{Target}
use Rattle.base.specs.declared.refusal.Refusal.{Refusal}
use Rattle.base.specs.declared.refusal.Refusal.TheVariants.{BadKey}
use Rattle.batch.specs.declared.update.Update.{Update}
use Rattle.tree.specs.Updates.{changes_of}
use Rattle.tree.specs.Blocks.{IsNoBlock}
use Rattle.model.specs.declared.request.Request.TheVariants.{Write, Punch, FreeObject}
use Rattle.model.specs.Targets.{is_object, is_block}
use Rattle.pool.specs.Asked.{Asks}
use Rattle.model.proofs.Blocks.{object_tells, block_tells}

module _ (target : Target) (object : ℕ) (r : Result Update Refusal) (only : IfErr r (λ e. e ≡ BadKey)) where
  pub asks_write : (block : ℕ) (bytes : List ℕ) → IfOk r (λ u. changes_of (u ∷ []) ≡ writes_leaf (leaf_index object block) bytes)
      → (r ≡ Err BadKey) ↔ IsNoBlock object block → Asks (Write target object block bytes) target r
  asks_write block bytes is bad = record {
    changes = writes_leaf (leaf_index object block) bytes;
    in_range = is_block object block;
    rule = (None, refl, refl);
    is = is;
    bad_key = block_tells object block bad;
    only = only;
  }

  pub asks_punch : (block : ℕ) → IfOk r (λ u. changes_of (u ∷ []) ≡ punches_leaf (leaf_index object block))
      → (r ≡ Err BadKey) ↔ IsNoBlock object block → Asks (Punch target object block) target r
  asks_punch block is bad = record {
    changes = punches_leaf (leaf_index object block);
    in_range = is_block object block;
    rule = (None, refl, refl);
    is = is;
    bad_key = block_tells object block bad;
    only = only;
  }

  pub asks_free : IfOk r (λ u. changes_of (u ∷ []) ≡ frees_object object) → (r ≡ Err BadKey) ↔ (256 ≤ object) → Asks (FreeObject target object) target r
  asks_free is bad = record {
    changes = frees_object object;
    in_range = is_object object;
    rule = (None, refl, refl);
    is = is;
    bad_key = object_tells object bad;
    only = only;
  }
