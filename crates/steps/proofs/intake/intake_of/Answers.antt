-- The step of a receive, by what each part of it gives.
use Rattle.std.proofs.Common.{Err, ap, subst}
use Rattle.model.specs.declared.request.Request.TheVariants.{Receive}
use Rattle.model.specs.declared.reply.Reply.TheVariants.{Refused}
use Rattle.model.specs.Step.{Step}
use Rattle.batch.specs.Updates.{changes_of}
use Rattle.receives.specs.Ends.{HasReceived}
use Rattle.steps.proofs.asked.Asked.{refused_by}
use Rattle.steps.proofs.requests.Taking.{present_apart, no_memory, not_read, not_begun, under_way, batch_may, not_fitting, not_finished, finished}
use Rattle.steps.proofs.intake.intake_of.Goals as goal

pub returns-in_err-stream-clause-err : goal.returns-in_err-stream-clause-err
returns-in_err-stream-clause-err c s is =
    refused_by c.from_residual.result c.in_err-stream.field-0.0 (λ e. Step s (Receive c.args.name.now c.args.bytes.now c.args.mode.now) (Refused e) s) c.from_residual.ensures.1
    (not_read s c.args.present is c.args.name.now c.args.bytes.now c.args.mode.now c.in_err-stream.field-0.0 c.in_err-stream.ensures.err)

pub begin-requires : goal.begin-requires
begin-requires c = record { apart = present_apart c.requires.0 c.args.present c.requires.1 }

pub returns-in_err-edit-clause-err : goal.returns-in_err-edit-clause-err
returns-in_err-edit-clause-err c s is =
    refused_by c.from_residual-in_err-edit.result c.in_err-edit.field-0.0 (λ e. Step s (Receive c.args.name.now c.args.bytes.now c.args.mode.now) (Refused e) s) c.from_residual-in_err-edit.ensures.1
    (not_begun s c.args.present is c.args.name.now c.args.bytes.now c.args.mode.now c.in_ok-stream.stream c.in_ok-stream.ensures.ok c.in_err-edit.field-0.0 c.in_err-edit.ensures.only)

pub returns-in_err-updates-clause-err : goal.returns-in_err-updates-clause-err
returns-in_err-updates-clause-err c s is =
    refused_by c.from_residual-in_err-updates.result c.in_err-updates.field-0.0 (λ e. Step s (Receive c.args.name.now c.args.bytes.now c.args.mode.now) (Refused e) s) c.from_residual-in_err-updates.ensures.1
    (no_memory s c.args.present is c.args.name.now c.args.bytes.now c.args.mode.now c.in_err-updates.field-0.0 c.in_err-updates.ensures.err)

pub ask_limits-requires : goal.ask_limits-requires
ask_limits-requires c =
    let way = under_way c.requires.0 c.args.present c.requires.1 c.args.name.now c.args.bytes.now c.args.mode.now c.in_ok-stream.stream c.in_ok-stream.ensures.ok c.in_ok-edit.edit c.in_ok-edit.ensures.can c.in_ok-edit.ensures.ok c.in_ok-edit.ensures.lost
    c.in_ok-edit.ensures.ready c.in_ok-updates.updates.items c.as_slice.result.now c.as_slice.ensures.value c.in_ok-updates.ensures.batch c.records.result.now c.records.ensures c.in_ok-updates.ensures.changes in
    (c.requires.0, c.in_ok-stream.stream, c.args.mode.now, way)

pub returns-in_err-ask_limits-clause-err : goal.returns-in_err-ask_limits-clause-err
returns-in_err-ask_limits-clause-err c s is =
    let way = under_way s c.args.present is c.args.name.now c.args.bytes.now c.args.mode.now c.in_ok-stream.stream c.in_ok-stream.ensures.ok c.in_ok-edit.edit c.in_ok-edit.ensures.can c.in_ok-edit.ensures.ok c.in_ok-edit.ensures.lost
    c.in_ok-edit.ensures.ready c.in_ok-updates.updates.items c.as_slice.result.now c.as_slice.ensures.value c.in_ok-updates.ensures.batch c.records.result.now c.records.ensures c.in_ok-updates.ensures.changes in
    refused_by c.from_residual-in_err-ask_limits.result c.in_err-ask_limits.field-0.0 (λ e. Step s (Receive c.args.name.now c.args.bytes.now c.args.mode.now) (Refused e) s) c.from_residual-in_err-ask_limits.ensures.1
    (not_fitting s c.args.present c.args.name.now c.in_ok-stream.stream c.args.mode.now c.in_ok-edit.edit c.as_slice.result.now way c.args.bytes.now c.in_ok-stream.ensures.ok c.in_err-ask_limits.field-0.0
    (c.in_err-ask_limits.ensures.err s c.in_ok-stream.stream c.args.mode.now way))

pub finish-requires-clause-writes : goal.finish-requires-clause-writes
finish-requires-clause-writes c =
    let way = under_way c.requires.0 c.args.present c.requires.1 c.args.name.now c.args.bytes.now c.args.mode.now c.in_ok-stream.stream c.in_ok-stream.ensures.ok c.in_ok-edit.edit c.in_ok-edit.ensures.can c.in_ok-edit.ensures.ok c.in_ok-edit.ensures.lost
    c.in_ok-edit.ensures.ready c.in_ok-updates.updates.items c.as_slice-2.result.now c.as_slice-2.ensures.value c.in_ok-updates.ensures.batch c.records.result.now c.records.ensures c.in_ok-updates.ensures.changes in
    batch_may c.requires.0 c.args.present c.args.name.now c.in_ok-stream.stream c.args.mode.now c.in_ok-edit.edit c.as_slice-2.result.now way

pub returns-in_err-finish-clause-err : goal.returns-in_err-finish-clause-err
returns-in_err-finish-clause-err c s is =
    let way = under_way s c.args.present is c.args.name.now c.args.bytes.now c.args.mode.now c.in_ok-stream.stream c.in_ok-stream.ensures.ok c.in_ok-edit.edit c.in_ok-edit.ensures.can c.in_ok-edit.ensures.ok c.in_ok-edit.ensures.lost
    c.in_ok-edit.ensures.ready c.in_ok-updates.updates.items c.as_slice.result.now c.as_slice.ensures.value c.in_ok-updates.ensures.batch c.records.result.now c.records.ensures c.in_ok-updates.ensures.changes in
    let later = under_way s c.args.present is c.args.name.now c.args.bytes.now c.args.mode.now c.in_ok-stream.stream c.in_ok-stream.ensures.ok c.in_ok-edit.edit c.in_ok-edit.ensures.can c.in_ok-edit.ensures.ok c.in_ok-edit.ensures.lost
    c.in_ok-edit.ensures.ready c.in_ok-updates.updates.items c.as_slice-2.result.now c.as_slice-2.ensures.value c.in_ok-updates.ensures.batch c.records.result.now c.records.ensures c.in_ok-updates.ensures.changes in
    refused_by c.from_residual-in_err-finish.result c.in_err-finish.field-0.0 (λ e. Step s (Receive c.args.name.now c.args.bytes.now c.args.mode.now) (Refused e) s) c.from_residual-in_err-finish.ensures.1
    (not_finished s c.args.present c.args.name.now c.in_ok-stream.stream c.args.mode.now c.in_ok-edit.edit c.as_slice-2.result.now later c.args.bytes.now c.in_ok-stream.ensures.ok
    (c.in_ok-ask_limits.ensures.ok s c.in_ok-stream.stream c.args.mode.now way) c.in_err-finish.field-0.0 (λ e. c.in_err-finish.ensures.no_space (ap Err e)) c.in_err-finish.ensures.only)

pub returns-clause-ok : goal.returns-clause-ok
returns-clause-ok c s is =
    let way = under_way s c.args.present is c.args.name.now c.args.bytes.now c.args.mode.now c.in_ok-stream.stream c.in_ok-stream.ensures.ok c.in_ok-edit.edit c.in_ok-edit.ensures.can c.in_ok-edit.ensures.ok c.in_ok-edit.ensures.lost
    c.in_ok-edit.ensures.ready c.in_ok-updates.updates.items c.as_slice.result.now c.as_slice.ensures.value c.in_ok-updates.ensures.batch c.records.result.now c.records.ensures c.in_ok-updates.ensures.changes in
    let later = under_way s c.args.present is c.args.name.now c.args.bytes.now c.args.mode.now c.in_ok-stream.stream c.in_ok-stream.ensures.ok c.in_ok-edit.edit c.in_ok-edit.ensures.can c.in_ok-edit.ensures.ok c.in_ok-edit.ensures.lost
    c.in_ok-edit.ensures.ready c.in_ok-updates.updates.items c.as_slice-2.result.now c.as_slice-2.ensures.value c.in_ok-updates.ensures.batch c.records.result.now c.records.ensures c.in_ok-updates.ensures.changes in
    finished s c.args.present c.args.name.now c.in_ok-stream.stream c.args.mode.now c.in_ok-edit.edit c.as_slice-2.result.now later c.args.bytes.now c.in_ok-stream.ensures.ok
    (c.in_ok-ask_limits.ensures.ok s c.in_ok-stream.stream c.args.mode.now way) c.finish.new.table c.finish.new.draft
    (subst (λ guid. HasReceived c.in_ok-edit.edit.to c.finish.new.table c.args.name.now guid (changes_of c.as_slice-2.result.now) c.args.present.synced.0 c.args.present.allocator.now c.finish.new.draft)
    c.target.ensures c.in_ok-finish.ensures.ok) c.in_ok-finish.ensures.room
