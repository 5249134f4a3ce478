-- What an iterator over a spine has left.
use Rattle.std.specs.Prelude.{List, ◌++◌}
use Rattle.shared_list.specs.declared.spine.iter.SpineIter.{SpineIter}
use Rattle.shared_list.specs.Elements.{values, elements}

-- the elements that are left
abbrev pub ahead : {X : Type 0} → SpineIter X → List X
ahead s = values s.here.now ++ elements s.chunks.now
