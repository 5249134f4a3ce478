use Rattle.std.proofs.Common.{◌+◌, sym, ap, subst, ◌∙◌}
use Rattle.base.specs.declared.name.member.Member.{Member}
use Rattle.tree.specs.Updates.{changes_of}
use Rattle.datasets.specs.Snapshots.{with_snap_at}
use Rattle.datasets.specs.Writes.{HasWritten}
use Rattle.receives.specs.Ends.{CanFinish, HasReceived}
use Rattle.receives.proofs.Finished.{can_keep, finished_by}
use Rattle.receives.proofs.after.finish.Goals as goal

pub keep_live-requires-clause-can : goal.keep_live-requires-clause-can
keep_live-requires-clause-can c =
    let can = subst (CanFinish c.args.table.now) (sym c.member-name.ensures.value) c.requires.can in
    let done = c.in_ok-apply_live.ensures.ok in
    can_keep c.args.table.now c.apply_live.new.self c.member-name.result.now done.change.new can done.to_is c.args.target.0 c.facts.ensures.good

received : (c : goal.In_ok-keep_live) → HasReceived c.args.table.now c.keep_live.new.self c.args.name.now c.args.target.0 (changes_of c.args.updates.now) c.args.synced.0 c.args.allocator.now c.apply_live.new.draft
received c =
    let u = c.apply_live.new.self in
    record {
      written = u;
      change = subst (λ (m : Member). HasWritten c.args.table.now u m.file_system (changes_of c.args.updates.now) c.args.synced.0 c.args.allocator.now c.apply_live.new.draft) c.member-name.ensures.value c.in_ok-apply_live.ensures.ok;
      kept = c.in_ok-keep_live.ensures.ok ∙ ap (λ (m : Member). with_snap_at (record u { group = u.group + 1 }) m.file_system m.component c.args.target.0 u.group) c.member-name.ensures.value;
    }

pub returns-clause-ok : goal.returns-clause-ok
returns-clause-ok c = received c

pub returns-clause-after : goal.returns-clause-after
returns-clause-after c =
    finished_by c.args.table.now c.keep_live.new.self c.args.name.now c.args.target.0 (changes_of c.args.updates.now) c.args.synced.0 c.args.allocator.now c.apply_live.new.draft c.requires.can (received c)
