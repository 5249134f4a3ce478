use Rattle.std.proofs.Common.{◌≡◌, None, sym, subst}
use Rattle.std.specs.Prelude.{OnOk}
use Rattle.model.specs.requests.Rename.{renamed_systems}
use Rattle.world.specs.Tables.{Datasets}
use Rattle.datasets.specs.Renames.{with_names, rename_refusal}
use Rattle.datasets.proofs.Kept.{added_table, is_added}
use Rattle.datasets.proofs.Renamed.{can_move, renamed_table, snaps_once}
use Rattle.datasets.proofs.table.Table.rename.Goals as goal

pub rename-requires-clause-can : goal.rename-requires-clause-can
rename-requires-clause-can c =
    can_move (record { file_systems = c.self.inside.systems; group = c.self.inside.group.0 }) c.args.from.now c.args.to.now
    (subst (λ (t : Datasets). rename_refusal t c.args.from.now c.args.to.now ≡ None) (sym c.self.view_is) c.requires.can)

pub rename-requires-clause-once : goal.rename-requires-clause-once
rename-requires-clause-once c = snaps_once (record { file_systems = c.self.inside.systems; group = c.self.inside.group.0 }) c.self.invariant

pub invariant_of-self : goal.invariant_of-self
invariant_of-self c =
    added_table (record { file_systems = c.self.inside.systems; group = c.self.inside.group.0 }) c.self.invariant c.rename.result c.rename.new.self (renamed_systems c.self.inside.systems c.args.from.now c.args.to.now)
    (renamed_table (record { file_systems = c.self.inside.systems; group = c.self.inside.group.0 }) c.args.from.now c.args.to.now
    (subst (λ (t : Datasets). rename_refusal t c.args.from.now c.args.to.now ≡ None) (sym c.self.view_is) c.requires.can) c.self.invariant)
    c.rename.ensures.ok c.rename.ensures.err

pub returns-clause-ok : goal.returns-clause-ok
returns-clause-ok c =
    subst (λ (t : Datasets). OnOk c.rename.result (record { file_systems = c.rename.new.self; group = c.self.inside.group.0 } ≡ with_names t c.args.from.now c.args.to.now)) c.self.view_is
    (is_added (record { file_systems = c.self.inside.systems; group = c.self.inside.group.0 }) c.rename.result c.rename.new.self (renamed_systems c.self.inside.systems c.args.from.now c.args.to.now) c.rename.ensures.ok)
