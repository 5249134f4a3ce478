use Rattle.std.proofs.Common.{◌≡◌, ◌-◌, List, length, slice_get, sym, ap, subst, ◌∙◌, map}
use Rattle.std.specs.Option.{option_map, option_copied}
use Rattle.std.specs.Arc.{arc_value}
use Rattle.std.specs.FinSet.{difference}
use Rattle.base.specs.Map.{BlockSet, blocks}
use Rattle.base.specs.Surveys.{dead_block}
use Rattle.deadlist.specs.Held.{Held}
use Rattle.model.specs.Sums.{size_without}
use Rattle.snapshots.specs.declared.kept.Kept.{Kept}
use Rattle.world.specs.Deadlists.{Lists}
use Rattle.file_system.specs.Dead.{snaps_in, newest_blocks, blocks_kept}
use Rattle.file_system.specs.Origins.{blocks_below}
use Rattle.file_system.specs.Rows.{Row}
use Rattle.file_system.proofs.Accounts.{newest_blocks_are}
use Rattle.file_system.proofs.file_system.FileSystem.written.Goals as goal

pub written_over-requires : goal.written_over-requires
written_over-requires c =
    let bs = blocks_below (option_map arc_value c.self.inside.origin) in
    let origin : blocks_below (option_copied c.origin_in.result) ≡ bs = ap blocks_below c.origin_in.ensures in
    let newest : blocks_kept (blocks_below (option_copied c.origin_in.result)) (option_copied c.last.result) ≡ newest_blocks bs (snaps_in (arc_value c.self.inside.snapshots)) =
    ap (λ s. blocks_kept s (option_copied c.last.result)) origin
    ∙ newest_blocks_are bs (arc_value c.self.inside.snapshots) (option_copied c.last.result) (c.last.ensures ∙ ap (λ (l : List Kept). slice_get l (length l - 1)) c.deref.ensures) in
    subst (λ (h : Held). Lists (map dead_block h.entries) (difference (blocks_kept (blocks_below (option_copied c.origin_in.result)) (option_copied c.last.result)) (blocks c.self.inside.live))) (sym c.deref-2.ensures)
    (subst (λ (s : BlockSet). Lists (map dead_block (arc_value c.self.inside.dead).entries) (difference s (blocks c.self.inside.live))) (sym newest) c.self.invariant.dead)

pub returns : goal.returns
returns c =
    let bs = blocks_below (option_map arc_value c.self.inside.origin) in
    let origin : blocks_below (option_copied c.origin_in.result) ≡ bs = ap blocks_below c.origin_in.ensures in
    let newest : blocks_kept (blocks_below (option_copied c.origin_in.result)) (option_copied c.last.result) ≡ newest_blocks bs (snaps_in (arc_value c.self.inside.snapshots)) =
    ap (λ s. blocks_kept s (option_copied c.last.result)) origin
    ∙ newest_blocks_are bs (arc_value c.self.inside.snapshots) (option_copied c.last.result) (c.last.ensures ∙ ap (λ (l : List Kept). slice_get l (length l - 1)) c.deref.ensures) in
    c.written_over.ensures ∙ ap (size_without (blocks c.self.inside.live)) newest ∙ ap (λ (r : Row). size_without (blocks r.system.live) (newest_blocks (blocks r.below) r.system.snaps)) c.self.view_is
