-- What a handle owns.
use Rattle.std.specs.Prelude.{Option, Some, None}
use base.Fml.{Fml, ftrue}
use denote.RawPtr.{Ptr}
use Rattle.std.specs.Box.Ownership.{box_owns}
use mir.Syntax.{Ty}
use Rattle.std.specs.contracts.impls.GlobalAllocator.TheImpl.{ghosts}
use Rattle.c_api.specs.declared.host.Host.{Host}
use Rattle.c_api.specs.contracts.host.Host.{the_row}

-- the right to give back the memory at a pointer, as the heap tells it (profile)
abbrev pub chunk : Ty → Ptr → Fml
chunk = ghosts.dealloc_token (record { memory = record { seal = tt } })

-- the memory at the pointer with the host in it, where there is one (profile)
abbrev pub owns_if : Ptr → Option Host → Fml
owns_if p None = ftrue
owns_if p (Some host) = box_owns chunk the_row p host
