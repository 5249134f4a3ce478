use Rattle.std.proofs.Common.{◌<◌, ◌^◌, List, sym, ap, subst, ◌∙◌, arith}
use Rattle.zalloc.specs.declared.BlockState.{BlockState}
use Rattle.model.specs.Edits.{with_now}
use Rattle.model.specs.Ids.{snap_id}
use Rattle.model.specs.State.{State}
use Rattle.snap.specs.Viewing.{Viewing}
use Rattle.pool.specs.declared.pool.Plan.TheVariants.{Nothing, Open, Put}
use Rattle.pool.specs.Effects.{effected, blocks_written}
use Rattle.image.specs.StepWrites.{AreStepWrites}
use Rattle.steps.specs.Edits.{viewing}
use Rattle.pool.specs.Images.{IsImageOf}
use Rattle.pool.proofs.Imaged.{effect_writes, no_writes}
use Rattle.pool.proofs.Planned.{planned_writes}
use Rattle.laws.specs.Both.{AreSnapshotsOne}
use Rattle.pool.specs.Plans.{CanDo}
use Rattle.pool.specs.Pools.{state_in, shown_in, world_in, IsSound, AreBelow}
use Rattle.pool.specs.Shown.{Shown, Leap}
use Rattle.pool.proofs.Commits.{sound_viewing}
use Rattle.pool.proofs.Numbered.{opened_below}
use Rattle.pool.proofs.pool.Pool.carry_out.Goals as goal

pub invariant_of-self : goal.invariant_of-self
invariant_of-self c =
    let same = ap (λ (l : Leap). l.from) c.ready.view_is ∙ c.requires ∙ sym c.self.view_is in
    let s = state_in c.self.inside.keep c.self.inside.present in
    let can = subst (λ (x : Shown). CanDo x.state x.numbers (Open c.in-Open.snapshot)) same
    (subst (λ plan. CanDo c.ready.inside.from.value.state c.ready.inside.from.value.numbers plan) c.in-Open.is c.ready.invariant) in
    record {
      sound = subst (λ (v : Viewing). IsSound (record s { views = v.opened; next_view = v.next }) c.self.inside.keep.numbers.present) (sym c.open.ensures)
          (sound_viewing s c.self.inside.keep.numbers.present c.self.invariant.sound (snap_id c.in-Open.snapshot) can.steady);
      now = c.self.invariant.now;
      last = c.self.invariant.last;
      views = subst (λ (v : Viewing). AreBelow v.opened v.next) (sym c.open.ensures) (opened_below c.self.inside.keep.views.opened c.self.inside.keep.views.next c.self.invariant.views (snap_id c.in-Open.snapshot));
      synced = c.self.invariant.synced;
      swept = c.self.invariant.swept;
      one = record { maps = c.self.invariant.one.maps; closed = c.self.invariant.one.closed };
      image = record { count = c.self.invariant.image.count; size = c.self.invariant.image.size; kept = c.self.invariant.image.kept; stored = c.self.invariant.image.stored };
    }

pub invariant_of-self-in-Put : goal.invariant_of-self-in-Put
invariant_of-self-in-Put c =
    let same = ap (λ (l : Leap). l.from) c.ready.view_is ∙ c.requires ∙ sym c.self.view_is in
    let s = state_in c.self.inside.keep c.self.inside.present in
    let can = subst (λ (x : Shown). CanDo x.state x.numbers (Put c.in-Put.to c.in-Put.effect)) same
    (subst (λ plan. CanDo c.ready.inside.from.value.state c.ready.inside.from.value.numbers plan) c.in-Put.is c.ready.invariant) in
    record {
      sound = subst (λ (x : State). IsSound x c.settle.new.self.numbers.present) (sym (c.settle.ensures.state c.in-Put.to))
          (subst (λ (ns : List BlockState). IsSound (effected (with_now s (world_in c.in-Put.to)) c.in-Put.effect) ns) (sym c.settle.ensures.numbers) can.0.sound);
      now = can.0.kept;
      last = c.settle.ensures.kept c.self.invariant.last;
      views = c.settle.ensures.below c.self.invariant.views;
      synced = c.settle.ensures.synced;
      swept = c.settle.ensures.swept c.self.invariant.swept;
      one = subst AreSnapshotsOne (sym (c.settle.ensures.state c.in-Put.to)) can.2;
      image = subst (λ (x : State). IsImageOf x c.settle.new.self.image) (sym (c.settle.ensures.state c.in-Put.to))
          (subst (IsImageOf (effected (with_now s (world_in c.in-Put.to)) c.in-Put.effect)) (sym c.settle.ensures.image) (can.1 c.self.inside.keep.image c.self.invariant.image));
    }

pub returns-in-Nothing-clause-writes : goal.returns-in-Nothing-clause-writes
returns-in-Nothing-clause-writes c =
    let same = ap (λ (l : Leap). l.from) c.ready.view_is ∙ c.requires ∙ sym c.self.view_is in
    let s = state_in c.self.inside.keep c.self.inside.present in
    let low : s.now.group < 2 ^ 64 = subst (λ n. n < 2 ^ 64) c.group-group.ensures (omega arith) in
    subst (AreStepWrites c.args.self.now.state c.args.ready.to c.args.ready.writes c.args.self.now.image) (ap (λ (x : Shown). x.image) c.self.view_is)
    (planned_writes c.args.self.now c.args.ready c.ready.inside.from.value (shown_in c.self.inside.keep c.self.inside.present c.self.inside.meters) Nothing c.ready.inside.plan c.self.inside.keep.image
    c.ready.view_is c.requires same c.in-Nothing.is
    (no_writes s c.self.inside.keep.numbers.present c.self.invariant.sound low c.self.inside.keep.image c.self.invariant.image s))

pub returns-in-Open-clause-writes : goal.returns-in-Open-clause-writes
returns-in-Open-clause-writes c =
    let same = ap (λ (l : Leap). l.from) c.ready.view_is ∙ c.requires ∙ sym c.self.view_is in
    let s = state_in c.self.inside.keep c.self.inside.present in
    let low : s.now.group < 2 ^ 64 = subst (λ n. n < 2 ^ 64) c.group-group.ensures (omega arith) in
    planned_writes c.args.self.now c.args.ready c.ready.inside.from.value (shown_in c.self.inside.keep c.self.inside.present c.self.inside.meters) (Open c.in-Open.snapshot) c.ready.inside.plan c.self.inside.keep.image
    c.ready.view_is c.requires same c.in-Open.is
    (no_writes s c.self.inside.keep.numbers.present c.self.invariant.sound low c.self.inside.keep.image c.self.invariant.image (viewing s (snap_id c.in-Open.snapshot)))

pub returns-clause-writes : goal.returns-clause-writes
returns-clause-writes c =
    let same = ap (λ (l : Leap). l.from) c.ready.view_is ∙ c.requires ∙ sym c.self.view_is in
    let s = state_in c.self.inside.keep c.self.inside.present in
    let low : s.now.group < 2 ^ 64 = subst (λ n. n < 2 ^ 64) c.group-group.ensures (omega arith) in
    let can = subst (λ (x : Shown). CanDo x.state x.numbers (Put c.in-Put.to c.in-Put.effect)) same
    (subst (λ plan. CanDo c.ready.inside.from.value.state c.ready.inside.from.value.numbers plan) c.in-Put.is c.ready.invariant) in
    planned_writes c.args.self.now c.args.ready c.ready.inside.from.value (shown_in c.self.inside.keep c.self.inside.present c.self.inside.meters) (Put c.in-Put.to c.in-Put.effect) c.ready.inside.plan c.settle.new.self.image
    c.ready.view_is c.requires same c.in-Put.is
    (subst (AreStepWrites s (effected (with_now s (world_in c.in-Put.to)) c.in-Put.effect) (blocks_written c.self.inside.keep.image.bytes c.in-Put.effect) c.self.inside.keep.image) (sym c.settle.ensures.image)
    (effect_writes s c.self.inside.keep.numbers.present c.self.invariant.sound low c.self.inside.keep.image c.self.invariant.image c.in-Put.to c.in-Put.effect can.0))
