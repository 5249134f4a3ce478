-- What a draft that is put in force stands for.
use Rattle.std.specs.Prelude.{ℕ, List, map}
use Rattle.base.specs.Surveys.{dead_block}
use Rattle.base.specs.declared.number.Key.{Key}
use Rattle.batch.specs.declared.numbers.NewBlock.{NewBlock}
use Rattle.batch.specs.declared.draft.Draft.{Draft}
use Rattle.base.specs.Map.{Map}
use Rattle.base.specs.Rewrite.{Changes}
use Rattle.zalloc.specs.declared.BlockState.{BlockState}
use Rattle.tree.specs.Change.{Shown, IsChange}

-- a new block as its key and its number (profile)
abbrev pub made_pair : NewBlock → Key × ℕ
made_pair b = (b.key, b.block.0)

-- what a change in force has done, between the maps before and after (profile)
abbrev pub change_done : Map → Map → Draft → Shown
change_done old new done = record {
  old = old;
  new = new;
  taken = map (λ b. b.0) done.taken.items;
  released = map dead_block done.released.items;
  made = map made_pair done.made.items;
}

-- a change is in force between the maps before and after, and this is what it has done (profile)
abbrev pub HasChanged : Map → Map → Changes → ℕ → ℕ → List BlockState → Draft → Type 0
HasChanged old new c g young states done = IsChange old c g young states (change_done old new done)
