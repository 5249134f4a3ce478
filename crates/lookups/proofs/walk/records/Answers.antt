use Rattle.std.proofs.Common.{subst}
use Rattle.laws.specs.Records.{root_key}
use Rattle.lookups.specs.Walk.{AddsSent}
use Rattle.lookups.proofs.Listed.{all_sent}
use Rattle.lookups.proofs.walk.records.Goals as goal

pub returns-clause-ok : goal.returns-clause-ok
returns-clause-ok c =
    all_sent c.args.tree.now c.args.since.0 c.in_ok-top.field-0 c.add_sent.new.records.items c.in_ok-top.ensures.map c.in_ok-top.ensures.none
    (subst (λ old. AddsSent c.args.since.0 root_key c.in_ok-top.field-0 old c.add_sent.new.records.items) c.new-records.ensures.items c.in_ok-add_sent.ensures.ok)
