use Rattle.std.proofs.Common.{◌≡◌, sym, ap, ◌∙◌}
use Rattle.base.specs.declared.name.target.Target.TheVariants.{Snapshot as OfSnapshot}
use Rattle.std.specs.declared.alloc.Global.{Global}
use Rattle.std.specs.declared.vec.Vec.{Vec}
use Rattle.model.specs.declared.source.Source.{Source}
use Rattle.model.specs.World.{Snap, id_of}
use Rattle.model.specs.requests.Send.{sources_of}
use Rattle.world.specs.Tables.{world_of}
use Rattle.steps.specs.Steady.{snap_in}
use Rattle.pool.specs.Pools.{state_in}
use Rattle.pool.proofs.Sights.{told_of, open_other, open_missing, open_deferred, open_full, open_can, open_done}
use Rattle.pool.proofs.keep.Keep.next_view_of.Goals as goal

pub returns-in_default : goal.returns-in_default
returns-in_default c = record { can = tt; ok = tt; err = open_other (state_in c.args.self.now c.args.world.now) c.args.self.now.numbers.present c.requires.sound c.args.target.now c.in_default.not-Snapshot }

pub returns-in_default-snapshot-clause-err : goal.returns-in_default-snapshot-clause-err
returns-in_default-snapshot-clause-err c =
    open_missing (state_in c.args.self.now c.args.world.now) c.args.self.now.numbers.present c.requires.sound c.args.target.now c.member.result.now (c.in-Snapshot.is ∙ ap OfSnapshot (sym c.member.ensures.value))
    c.in_default-snapshot.ensures

pub returns-then-is_deferred-clause-err : goal.returns-then-is_deferred-clause-err
returns-then-is_deferred-clause-err c =
    open_deferred (state_in c.args.self.now c.args.world.now) c.args.self.now.numbers.present c.requires.sound c.args.target.now c.member.result.now (c.in-Snapshot.is ∙ ap OfSnapshot (sym c.member.ensures.value))
    c.in-Some.snapshot.now c.in-Some.ensures c.if-is_deferred.ensures

pub returns-then-is_full-clause-err : goal.returns-then-is_full-clause-err
returns-then-is_full-clause-err c =
    open_full (state_in c.args.self.now c.args.world.now) c.args.self.now.numbers.present c.requires.sound c.args.target.now c.member.result.now (c.in-Snapshot.is ∙ ap OfSnapshot (sym c.member.ensures.value))
    c.in-Some.snapshot.now c.in-Some.ensures c.if-is_deferred.ensures c.if-is_full.ensures

pub returns-clause-can : goal.returns-clause-can
returns-clause-can c =
    open_can (state_in c.args.self.now c.args.world.now) c.args.self.now.numbers.present c.requires.sound c.args.target.now c.member.result.now (c.in-Snapshot.is ∙ ap OfSnapshot (sym c.member.ensures.value))
    c.in-Some.snapshot.now c.in-Some.ensures c.if-is_deferred.ensures c.if-is_full.ensures c.requires.views c.id.result c.id.ensures

pub returns-clause-ok : goal.returns-clause-ok
returns-clause-ok c =
    let t = c.args.world.now.table in
    let listed : c.in_ok-sources.sources.value.items ≡ sources_of (world_of t) (id_of c.in-Some.snapshot.now) =
    ap (λ (v : Vec Source Global). v.items) c.in_ok-sources.ensures.ok
    ∙ told_of (λ (u : Snap). c.in_ok-sources_of.field-0.items ≡ sources_of (world_of t) (id_of u)) _ c.in-Some.snapshot.now
    (c.in-Some.ensures ∙ ap (snap_in t.file_systems) c.member.ensures.value) c.in_ok-sources_of.ensures.ok in
    open_done (state_in c.args.self.now c.args.world.now) c.args.self.now.numbers.present c.requires.sound c.args.target.now c.member.result.now (c.in-Snapshot.is ∙ ap OfSnapshot (sym c.member.ensures.value))
    c.in-Some.snapshot.now c.in-Some.ensures c.if-is_deferred.ensures c.if-is_full.ensures c.requires.views c.id.result c.id.ensures
    c.new-2.result (c.new-2.ensures ∙ (λ i. record { map = (c.in_ok-tree.ensures.ok ∙ c.tree.ensures) i; guid = c.guid.ensures i; group = c.group.ensures i; sources = listed i }))
