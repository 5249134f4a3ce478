use Rattle.std.proofs.Common.{◌≡◌, Some, slice_get, ap, sym, ◌∙◌}
use Rattle.std.specs.Option.{option_map}
use Rattle.std.specs.Arc.{arc_value}
use Rattle.snapshots.specs.declared.kept.Kept.{Kept}
use Rattle.snapshots.proofs.Splices.{index_has}
use Rattle.snapshots.proofs.snapshot_list.SnapshotList.set.Goals as goal

-- the one that it has now has the same name, so that is in the index
pub replace-requires : goal.replace-requires
replace-requires c =
    let ks = c.self.inside.kept in
    let named : option_map (λ (k : Kept). k.snapshot.name) (slice_get ks c.args.place) ≡ Some (arc_value c.in_ok-kept.kept).snapshot.name =
    ap (λ l. option_map (λ (k : Kept). k.snapshot.name) (slice_get l c.args.place)) c.self.view_is ∙ c.requires.same ∙ ap (λ (k : Kept). Some k.snapshot.name) (sym c.in_ok-kept.ensures.ok) in
    index_has c.self.inside.by_name ks c.args.place (arc_value c.in_ok-kept.kept).snapshot.name c.self.invariant named
