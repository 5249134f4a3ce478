use Rattle.std.proofs.Common.{sym, ap, ◌∙◌}
use Rattle.std.specs.Option.{option_map, option_copied}
use Rattle.snapshots.specs.declared.kept.Kept.{Kept}
use Rattle.receives.proofs.Newest.{newest_kept}
use Rattle.receives.proofs.sources.newest_of.Goals as goal

pub returns-in-Some : goal.returns-in-Some
returns-in-Some c =
    ap (λ x. option_map (λ (k : Kept). k.snapshot) (option_copied x)) (sym c.in-Some.is)
    ∙ newest_kept c.snapshots.result.now c.args.file_system.now.system.snaps (option_copied c.last.result) c.last.ensures c.snapshots.ensures

pub returns-in-None : goal.returns-in-None
returns-in-None c =
    ap (λ x. option_map (λ (k : Kept). k.snapshot) (option_copied x)) (sym c.in-None.is)
    ∙ newest_kept c.snapshots.result.now c.args.file_system.now.system.snaps (option_copied c.last.result) c.last.ensures c.snapshots.ensures
