-- What a draft of a change is, and what putting it in force asks.
use Rattle.std.specs.Prelude.{◌≡◌, ℕ, List, Option}
use Rattle.std.specs.declared.sync.Arc.{Arc}
use Rattle.std.specs.declared.alloc.Global.{Global}
use Rattle.base.specs.Map.{Map}
use Rattle.zalloc.specs.declared.BlockState.{BlockState}
use Rattle.node.specs.Entries.{map_of}
use Rattle.node.specs.Node.{Root, root_forest, whole}
use Rattle.node.specs.Sound.{IsSoundTree}
use Rattle.batch.specs.declared.draft.Draft.{Draft}
use Rattle.batch.specs.declared.update.Update.{Update}
use Rattle.batch.specs.Draft.{IsDraft}
use Rattle.batch.specs.Updates.{changes_of}
use Rattle.tree.specs.Asking.{AllowsChange}
use Rattle.tree.specs.ChangeParts.{HasChanged}

-- the draft of a batch on a map, by the nodes of a tree that has the map (profile)
pub record IsDraftOf (m : Map) (us : List Update) (young : ℕ) (states : List BlockState) (d : Draft) : Type 0 where
  pub root : Option (Arc Root Global)
  pub count : ℕ
  pub sound : IsSoundTree root count
  pub is : map_of (root_forest root) ≡ m
  pub draft : IsDraft (whole root) us young states d

-- a draft of a change that can be made in group g, for some first group of the young blocks and some states of the numbers (profile)
pub record CanPut (m : Map) (us : List Update) (g : ℕ) (d : Draft) : Type 0 where
  pub young : ℕ
  pub states : List BlockState
  pub asks : AllowsChange m us g young states
  pub is : IsDraftOf m us young states d

-- the change of a draft is in force between the maps before and after, and this is what the draft then holds (profile)
pub record HasPut (old new : Map) (us : List Update) (g : ℕ) (d done : Draft) : Type 0 where
  pub changed : (young : ℕ) (states : List BlockState) → AllowsChange old us g young states → IsDraftOf old us young states d → HasChanged old new (changes_of us) g young states done
  pub released : done.released.items ≡ d.released.items
