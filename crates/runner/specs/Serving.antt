-- The pool as a caller.
use Rattle.std.specs.Prelude.{◌≡◌, Option, Some}
use Rattle.model.specs.declared.request.Request.{Request}
use Rattle.model.specs.declared.reply.Reply.{Reply}
use Rattle.model.specs.State.{State}
use Rattle.model.specs.Step.{Step}

-- each request has a reply, which is that of a step of the pool (profile)
abbrev pub Serves : State → Request → Option Reply → State → Type 0
Serves s request reply t = (told : Reply) × (reply ≡ Some told) × Step s request told t
