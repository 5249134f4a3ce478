use Rattle.std.proofs.Common.{ap, ◌∙◌}
use Rattle.std.specs.Arc.{arc_value}
use Rattle.std.specs.List.{find}
use Rattle.std.specs.Option.{option_map}
use Rattle.base.specs.Map.{blocks}
use Rattle.base.specs.Names.{same_name}
use Rattle.snapshots.specs.declared.kept.Kept.{Kept}
use Rattle.file_system.specs.Dead.{written_from}
use Rattle.file_system.specs.Origins.{blocks_below}
use Rattle.file_system.specs.Rows.{Row}
use Rattle.file_system.proofs.Accounts.{find_snaps, written_named}
use Rattle.file_system.proofs.file_system.FileSystem.kept_named.Goals as goal

pub returns-clause-snapshot : goal.returns-clause-snapshot
returns-clause-snapshot c =
    let found = c.get.ensures ∙ ap (find (λ (k : Kept). same_name k.snapshot.name c.args.component.now)) c.deref.ensures in
    ap (option_map (λ (k : Kept). k.snapshot)) found ∙ find_snaps c.args.component.now (arc_value c.self.inside.snapshots) ∙ ap (λ (r : Row). find (λ t. same_name t.name c.args.component.now) r.system.snaps) c.self.view_is

pub returns-clause-written : goal.returns-clause-written
returns-clause-written c =
    let found = c.get.ensures ∙ ap (find (λ (k : Kept). same_name k.snapshot.name c.args.component.now)) c.deref.ensures in
    ap (option_map (λ (k : Kept). k.written)) found ∙ written_named c.args.component.now (blocks_below (option_map arc_value c.self.inside.origin)) (arc_value c.self.inside.snapshots) c.self.invariant.accounted ∙ ap (λ (r : Row). written_from (blocks r.below) r.system.snaps c.args.component.now) c.self.view_is
