use Rattle.std.proofs.Common.{arith, ◌≡◌, Err, sym, subst}
use Rattle.std.specs.Prelude.{OnOk}
use Rattle.base.specs.declared.refusal.Refusal.TheVariants.{NoSpace}
use Rattle.tree.specs.Change.{HasRoom, LacksRoom}
use Rattle.tree.specs.Updates.{changes_of}
use Rattle.file_system.specs.Rows.{live_of}
use Rattle.world.specs.Tables.{Datasets}
use Rattle.datasets.specs.Writes.{young_of, AllowsWrite, HasWritten}
use Rattle.datasets.proofs.Above.{is_above}
use Rattle.datasets.proofs.Removed.{all_above}
use Rattle.datasets.proofs.Written.{asks, young_is, has_written, kept_table}
use Rattle.datasets.proofs.table.Table.apply_live.Goals as goal

pub apply_live-requires-clause-allowed : goal.apply_live-requires-clause-allowed
apply_live-requires-clause-allowed c =
    let allows = subst (λ (t : Datasets). AllowsWrite t c.args.updates.now c.args.synced.0 c.args.allocator.now) (sym c.self.view_is) c.requires in
    record {
      asks = asks _ c.self.invariant c.args.name.now c.args.updates.now c.args.synced.0 c.args.allocator.now allows _
          (let n = allows.not_after in omega arith);
      above = is_above _ c.self.invariant c.args.name.now;
    }

pub apply_live-requires-clause-above : goal.apply_live-requires-clause-above
apply_live-requires-clause-above c = all_above (record { file_systems = c.self.inside.systems; group = c.self.inside.group.0 }) c.self.invariant c.args.name.now

pub invariant_of-self : goal.invariant_of-self
invariant_of-self c =
    let allows = subst (λ (t : Datasets). AllowsWrite t c.args.updates.now c.args.synced.0 c.args.allocator.now) (sym c.self.view_is) c.requires in
    kept_table _ c.self.invariant c.args.name.now c.args.updates.now c.args.synced.0 c.args.allocator.now allows (changes_of c.args.updates.now)
    c.apply_live.new.self _ c.apply_live.result c.apply_live.new.draft c.apply_live.ensures.ok c.apply_live.ensures.others c.apply_live.ensures.err c.apply_live.ensures.no_dataset

pub returns-clause-ok : goal.returns-clause-ok
returns-clause-ok c =
    let allows = subst (λ (t : Datasets). AllowsWrite t c.args.updates.now c.args.synced.0 c.args.allocator.now) (sym c.self.view_is) c.requires in
    subst (λ (t : Datasets). OnOk c.apply_live.result (HasWritten t (record { file_systems = c.apply_live.new.self; group = c.self.inside.group.0 }) c.args.name.now (changes_of c.args.updates.now) c.args.synced.0 c.args.allocator.now c.apply_live.new.draft))
    c.self.view_is
    (has_written _ c.self.invariant c.args.name.now c.args.updates.now c.args.synced.0 c.args.allocator.now allows (changes_of c.args.updates.now)
    c.apply_live.new.self c.args.synced.0 c.apply_live.result c.apply_live.new.draft c.apply_live.ensures.ok c.apply_live.ensures.others)

pub returns-clause-room : goal.returns-clause-room
returns-clause-room c =
    let young = sym (young_is _ c.self.invariant c.args.name.now c.args.synced.0) in
    subst (λ (t : Datasets). OnOk c.apply_live.result (HasRoom (live_of t.file_systems c.args.name.now) (changes_of c.args.updates.now) (young_of t c.args.name.now c.args.synced.0) c.args.allocator.now)) c.self.view_is
    (subst (λ y. OnOk c.apply_live.result (HasRoom (live_of c.self.inside.systems c.args.name.now) (changes_of c.args.updates.now) y c.args.allocator.now)) young c.apply_live.ensures.room)

pub returns-clause-no_space : goal.returns-clause-no_space
returns-clause-no_space c =
    let young = sym (young_is _ c.self.invariant c.args.name.now c.args.synced.0) in
    subst (λ (t : Datasets). c.apply_live.result ≡ Err NoSpace → LacksRoom (live_of t.file_systems c.args.name.now) (changes_of c.args.updates.now) (young_of t c.args.name.now c.args.synced.0) c.args.allocator.now) c.self.view_is
    (subst (λ y. c.apply_live.result ≡ Err NoSpace → LacksRoom (live_of c.self.inside.systems c.args.name.now) (changes_of c.args.updates.now) y c.args.allocator.now) young c.apply_live.ensures.no_space)
