-- What a state is, and what becomes of it.
use Rattle.std.specs.Prelude.{Bool, true, false}
use Rattle.zalloc.specs.declared.BlockState.{BlockState}
use Rattle.zalloc.specs.declared.BlockState.TheVariants.{Free, Allocated, Waiting}

-- the number may be taken [profile]
abbrev pub is_free : BlockState → Bool
is_free Free = true
is_free Allocated = false
is_free Waiting = false

-- the number becomes Free when the group ends [profile]
abbrev pub is_waiting : BlockState → Bool
is_waiting Free = false
is_waiting Allocated = false
is_waiting Waiting = true

-- a block has the number [profile]
abbrev pub is_allocated : BlockState → Bool
is_allocated Free = false
is_allocated Allocated = true
is_allocated Waiting = false

-- the state after the group has ended [profile]
abbrev pub after_group : BlockState → BlockState
after_group Free = Free
after_group Allocated = Allocated
after_group Waiting = Free
