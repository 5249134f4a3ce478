-- What contracts see of a reply that a history keeps.
use Rattle.std.specs.Prelude.{Option, None, Some}
use Rattle.std.specs.declared.boxed.Box.{Box}
use Rattle.std.specs.declared.alloc.Global.{Global}
use Rattle.model.specs.declared.reply.Reply.{Reply}
use Rattle.model.specs.declared.reply.Reply.TheVariants.{Done}

-- nothing stands for Done (profile)
abbrev pub reply_of : Option (Box Reply Global) → Reply
reply_of None = Done
reply_of (Some b) = b.value
