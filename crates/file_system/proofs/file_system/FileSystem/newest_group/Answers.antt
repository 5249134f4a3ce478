use Rattle.std.proofs.Common.{◌≡◌, ◌-◌, List, length, slice_get, ap, ◌∙◌}
use Rattle.std.specs.Option.{option_map, option_copied}
use Rattle.std.specs.Arc.{arc_value}
use Rattle.snapshots.specs.declared.kept.Kept.{Kept}
use Rattle.file_system.specs.Dead.{group_kept}
use Rattle.file_system.specs.Origins.{origin_group, group_below}
use Rattle.file_system.specs.Rows.{Row}
use Rattle.file_system.specs.Writes.{newest_group}
use Rattle.file_system.proofs.Accounts.{newest_group_is}
use Rattle.file_system.proofs.file_system.FileSystem.newest_group.Goals as goal

pub returns : goal.returns
returns c =
    let last = c.last.ensures ∙ ap (λ (l : List Kept). slice_get l (length l - 1)) c.deref.ensures in
    let base : c.base_group.result.0 ≡ group_below (option_map arc_value c.self.inside.origin) = c.base_group.ensures ∙ ap group_below c.origin_in.ensures in
    c.group_of.ensures ∙ ap (λ n. group_kept n (option_copied c.last.result)) base
    ∙ newest_group_is (group_below (option_map arc_value c.self.inside.origin)) (arc_value c.self.inside.snapshots) (option_copied c.last.result) last
    ∙ ap (λ (r : Row). newest_group (origin_group r.system.origin) r.system.snaps) c.self.view_is
