use Rattle.std.proofs.Common.{length}
use Rattle.std.proofs.lemmas.Bool.{le-ltb, ne_eqb}
use Rattle.base.specs.Names.{name_limit}
use Rattle.base.proofs.name.checks.is_tag_of.Goals as goal

pub returns : goal.returns
returns c =
    let n = length c.args.bytes.now in
    rw (ne_eqb n 0 c.if-bytes-eq0.false, le-ltb name_limit n c.if-bytes-gt-NAME_LIMIT.false) c.are_name_bytes.ensures
