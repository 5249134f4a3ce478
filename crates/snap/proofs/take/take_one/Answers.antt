use Rattle.std.proofs.Common.{◌≡◌, ◌+◌, ℕ, [], ◌∷◌, refl, sym, ap, subst, ◌∙◌, add-zero}
use Rattle.model.specs.requests.Snapshot.{guid_by}
use Rattle.datasets.specs.Rows.{live_of, plain_snap}
use Rattle.world.specs.Tables.{CanSnap, world_of}
use Rattle.snap.proofs.Turns.{starts_taking, can_snap}
use Rattle.snap.proofs.take.take_one.Goals as goal

pub keep_live-requires-clause-can : goal.keep_live-requires-clause-can
keep_live-requires-clause-can c =
    let guid = guid_by c.args.guids.pool c.args.guids.next in
    let is = starts_taking (world_of c.args.table.now) guid (c.args.name.now ∷ []) c.facts.ensures.good c.requires.takable in
    let guid_is : guid ≡ c.guid_at-guid.result.0 = sym (c.guid_at-guid.ensures ∙ ap (guid_by c.args.guids.pool) (add-zero c.args.guids.next)) in
    subst (λ (n : ℕ). CanSnap (record { file_systems = c.args.table.now.file_systems; group = c.args.table.now.group + 1 }) c.args.name.now.file_system (plain_snap c.args.name.now.component (live_of c.args.table.now.file_systems c.args.name.now.file_system) n c.args.table.now.group)) guid_is
    (can_snap (world_of c.args.table.now) guid c.args.name.now [] is (record { file_systems = c.args.table.now.file_systems; group = c.args.table.now.group + 1 }) refl refl)
