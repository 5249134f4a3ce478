-- The limits, by what is foretold of the records.
use Rattle.std.proofs.Common.{None, Some, refl, sym, ap, ◌∙◌, ◌+◌, inl, arith}
use Rattle.stream.specs.Records.{changes_of}
use Rattle.model.specs.Edits.{with_now}
use Rattle.model.specs.requests.Receive.{before_receive}
use Rattle.world.specs.Tables.{world_of}
use Rattle.steps.proofs.asked.Ahead.{few_to, hierarchy_to, is_ahead, few_more, over_is}
use Rattle.steps.proofs.fitting.ask_limits.Goals as goal

pub kept_outlook_of-requires : goal.kept_outlook_of-requires
kept_outlook_of-requires c =
    let q = c.requires in (
      with_now q.0 (before_receive q.0.now c.args.name.now.file_system q.1 q.2),
      changes_of q.1.records,
      is_ahead q.0 c.args.present c.args.name.now q.1 q.2 c.args.edit.now c.args.updates.now q.3 (omega arith) c.member.result.now c.member.ensures.value
          c.in-Some.file_system.now c.in-Some.ensures c.live.result.now c.live.ensures c.in_ok-forecast.forecast c.in_ok-forecast.ensures.ok,
    )

pub fill-requires : goal.fill-requires
fill-requires c =
    let q = c.requires in
    record { few = few_to q.0 c.args.present c.args.name.now q.1 q.2 c.args.edit.now c.args.updates.now q.3 (omega arith) }

pub settle-requires-clause-own : goal.settle-requires-clause-own
settle-requires-clause-own c =
    let q = c.requires in
    (world_of c.args.edit.now.to, record { hierarchy = hierarchy_to q.0 c.args.present c.args.name.now q.1 q.2 c.args.edit.now c.args.updates.now q.3; named = refl; own = c.fill.ensures })

-- all that wait can be counted
pub overflow_add-from : goal.overflow_add-from
overflow_add-from c =
    let q = c.requires in
    let few = few_more q.0 c.args.present c.args.name.now q.1 q.2 c.args.edit.now c.args.updates.now q.3 (omega arith) c.member.result.now c.member.ensures.value
    c.in-Some.file_system.now c.in-Some.ensures c.live.result.now c.live.ensures c.in_ok-forecast.forecast c.in_ok-forecast.ensures.ok
    c.in_ok-outlook.outlook c.in_ok-outlook.ensures.ok c.from.result (c.from.ensures ∙ c.counts-waiting.ensures.waiting) in
    omega (arith, few)

pub returns-in-Some-over-clause-err : goal.returns-in-Some-over-clause-err
returns-in-Some-over-clause-err c s sent mode way =
    inl (sym (over_is s c.args.present c.args.name.now sent mode c.args.edit.now c.args.updates.now way (omega arith) c.member.result.now c.member.ensures.value
    c.in-Some.file_system.now c.in-Some.ensures c.live.result.now c.live.ensures c.in_ok-forecast.forecast c.in_ok-forecast.ensures.ok
    c.in_ok-outlook.outlook c.in_ok-outlook.ensures.ok _ refl c.len.ensures (ap (λ n. n + c.in_ok-outlook.outlook.waiting) (c.from.ensures ∙ c.counts-waiting.ensures.waiting))
    c.fill.new.self c.settle.new.self c.fill.ensures c.settle.ensures (Some c.in-Some-over.refusal) c.in-Some-over.ensures))

pub returns-clause-ok : goal.returns-clause-ok
returns-clause-ok c s sent mode way limited =
    sym (over_is s c.args.present c.args.name.now sent mode c.args.edit.now c.args.updates.now way (omega arith) c.member.result.now c.member.ensures.value
    c.in-Some.file_system.now c.in-Some.ensures c.live.result.now c.live.ensures c.in_ok-forecast.forecast c.in_ok-forecast.ensures.ok
    c.in_ok-outlook.outlook c.in_ok-outlook.ensures.ok _ refl c.len.ensures (ap (λ n. n + c.in_ok-outlook.outlook.waiting) (c.from.ensures ∙ c.counts-waiting.ensures.waiting))
    c.fill.new.self c.settle.new.self c.fill.ensures c.settle.ensures None c.in-None.ensures)
