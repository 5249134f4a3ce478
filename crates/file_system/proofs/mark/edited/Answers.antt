use Rattle.std.proofs.Common.{is_some, refl, ap, sym, ◌∙◌, true≢false}
use Rattle.std.specs.Option.{option_copied}
use Rattle.file_system.specs.Deferred.{edit_of}
use Rattle.file_system.proofs.Stacks.{some_at}
use Rattle.file_system.proofs.mark.edited.Goals as goal

-- it is there
pub unreachable-requires : goal.unreachable-requires
unreachable-requires c =
    let there = some_at c.args.kept.now c.args.place c.requires in
    true≢false (ap is_some (sym there.1 ∙ sym c.get.ensures ∙ ap option_copied c.in_default.is))

pub returns-clause-ok : goal.returns-clause-ok
returns-clause-ok c = record {
  now = c.in-Some.now.now;
  there = sym c.in-Some.ensures;
  snapshot = c.make.ensures ∙ ap (edit_of c.args.edit) c.in_ok-snapshot.ensures.ok;
  dead = c.in_ok-try_clone.ensures;
  written = refl;
}
