use Rattle.std.proofs.Common.{sym, ap, ◌∙◌}
use Rattle.std.specs.Prelude.{is_some}
use Rattle.receives.proofs.Created.{lost_with_copy}
use Rattle.receives.proofs.Started.{starts_new, starts_free}
use Rattle.receives.proofs.before.start.Goals as goal

pub with_new-requires : goal.with_new-requires
with_new-requires c = record {
  apart = c.requires.apart;
  can = starts_new c.args.table.now c.requires.can.0 c.args.name.now c.args.stream.now c.args.mode.now c.requires.can.1 (ap is_some (sym c.source.ensures ∙ c.in_default.is)) c.in_default-mode.not-Replace;
}

pub with_clone-requires-clause-can : goal.with_clone-requires-clause-can
with_clone-requires-clause-can c =
    starts_free c.args.table.now c.requires.can.0 c.args.name.now c.args.stream.now c.args.mode.now c.requires.can.1 c.in-Some.source (sym c.source.ensures ∙ c.in-Some.is) c.in-Origin.origin c.in-Origin.is

pub returns-in-Plain-clause-lost : goal.returns-in-Plain-clause-lost
returns-in-Plain-clause-lost c = lost_with_copy c.args.table.now c.args.freeing.now c.requires.apart c.of.result c.of.ensures.ok
