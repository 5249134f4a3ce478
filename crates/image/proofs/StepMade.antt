-- What a step writes are blocks that it has made, and at each moment of it the last synced world is walked.
use Rattle.std.proofs.Common.{◌≡◌, ◌≤◌, ◌<◌, ◌^◌, ◌*◌, ℕ, List, [], Option, Some, length, sym, ap, ◌∙◌, arith}
use Rattle.std.specs.FinMap.{get}
use Rattle.base.specs.declared.number.Key.{Key}
use Rattle.base.specs.Map.{Map, Cell, Block, block_of}
use Rattle.base.specs.Surveys.{IsIn}
use Rattle.model.specs.State.{State}
use Rattle.model.specs.World.{reach_of}
use Rattle.node.proofs.Options.{mapped}
use Rattle.tree.specs.Reading.{key_over}
use Rattle.world.specs.Worlds.{IsPoolState}
use Rattle.datasets.specs.Rows.{live_of}
use Rattle.image.specs.BlockWrites.{images_put}
use Rattle.image.specs.Image.{ShownImage, AreOpen}
use Rattle.image.specs.ImageBlocks.{block_at}
use Rattle.image.specs.PathWrites.{level_writes, path_writes}
use Rattle.image.proofs.PathHeld.{from_flat, level_number}
use Rattle.image.specs.Opened.{KeepsJust}
use Rattle.image.specs.StepWrites.{AreMade, AreStepWrites}
use Rattle.image.specs.Stored.{IsStored}
use Rattle.image.specs.Writes.{IsPathOf}
use Rattle.image.proofs.Walking.{walks_at_each_moment}

pub none_made : (before after : State) → AreMade before after []
none_made before after = record { file_system = []; each = λ w i. absurd i }

module _ (before after : State) (name : List ℕ) (new : Map) (here : live_of after.now.file_systems name ≡ new) where
  -- writes at numbers of blocks of a live map that were born in the open group
  pub all_made : (ws : List (ℕ × List ℕ)) → ((w : ℕ × List ℕ) → IsIn ws w → (k : Key) × (c : Cell) × (get new k ≡ Some c) × (c.number ≡ w.0) × (c.birth ≡ before.now.group)) → AreMade before after ws
  all_made ws each = record {
    file_system = name;
    each = λ w i. let k = each w i in record { key = k.0; cell = k.1; there = ap (λ (m : Map). get m k.0) here ∙ k.2; is = k.3; born = k.4 };
  }

  -- those of a path
  pub path_all_made : (image : ℕ → List ℕ) (leaf : ℕ) (old path : ℕ → Option Block) (bytes : List ℕ) → IsPathOf new leaf path
      → ((l : ℕ) (x : Cell) → l ≤ 5 → get new (key_over leaf l) ≡ Some x → x.birth ≡ before.now.group) → AreMade before after (path_writes image leaf old path bytes 6)
  path_all_made image leaf old path bytes is young = all_made (path_writes image leaf old path bytes 6) (λ w i.
      let l = from_flat (level_writes image leaf old path bytes) 6 0 w i in
      let high = l.2 in
      let low : l.0 ≤ 5 = omega (arith, high) in
      let n = level_number image leaf old path bytes l.0 w l.3 in
      let x = mapped block_of (get new (key_over leaf l.0)) n.0 (sym (is l.0 low) ∙ n.1) in
      (key_over leaf l.0, x.0, x.1, ap (λ (b : Block). b.number) x.2 ∙ sym n.2, young l.0 x.0 low x.1))

-- what is written where that is allowed, and is made, are the writes of a step
pub are_step_writes : (s t : State) → IsPoolState s → s.size < 2 ^ 64 → s.now.group < 2 ^ 64 → (old new : ShownImage) (ws : List (ℕ × List ℕ)) → IsStored s (block_at old.bytes) → KeepsJust (reach_of s.last) old.kept
    → length old.kept ≡ s.size → length old.bytes ≡ 512 * length old.kept → AreOpen old.kept ws → AreMade s t ws → new.bytes ≡ images_put old.bytes ws → AreStepWrites s t ws old new
are_step_writes s t good few low old new ws stored keeps long size allowed made is = record {
  allowed = allowed;
  made = made;
  bytes = is;
  moments = walks_at_each_moment s good few low old.kept old.bytes ws stored keeps long size allowed;
}
