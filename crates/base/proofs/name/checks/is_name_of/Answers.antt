use Rattle.std.proofs.Common.{length}
use Rattle.std.proofs.lemmas.Bool.{le-ltb}
use Rattle.base.specs.Names.{name_limit}
use Rattle.base.proofs.name.checks.is_name_of.Goals as goal

pub returns : goal.returns
returns c = rw (le-ltb name_limit (length c.args.bytes.now) c.if-bytes-gt-NAME_LIMIT.false) c.are_components.ensures
