-- The tags of a snapshot.
use Rattle.std.specs.Prelude.{ℕ, ◌==◌, Bool, List, map, length}
use Rattle.std.specs.declared.alloc.Global.{Global}
use Rattle.std.specs.declared.vec.Vec.{Vec}
pub use Rattle.model.specs.requests.Hold.{tag_limit, has_tag, is_full}
pub use Rattle.model.specs.requests.Release.{without_tag}

-- the bytes of each (profile)
abbrev pub texts : List (Vec ℕ Global) → List (List ℕ)
texts vs = map (λ v. v.items) vs

-- there is none (zfs-hold(8))
abbrev pub is_none : List (List ℕ) → Bool
is_none tags = length tags == 0
