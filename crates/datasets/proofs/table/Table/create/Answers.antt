use Rattle.std.proofs.Common.{◌≡◌, [], None, refl, sym, subst}
use Rattle.std.specs.Prelude.{OnOk}
use Rattle.std.specs.FinMap.{get, insert}
use Rattle.model.specs.World.{empty_file_system}
use Rattle.model.specs.requests.Create.{create_refusal}
use Rattle.file_system.specs.Rows.{Row}
use Rattle.datasets.specs.Clones.{all_snaps, IsTied}
use Rattle.world.specs.Tables.{Datasets, with_system}
use Rattle.datasets.proofs.Kept.{can_add, created_table, added_table, is_added}
use Rattle.datasets.proofs.table.Table.create.Goals as goal

pub add-requires-clause-absent : goal.add-requires-clause-absent
add-requires-clause-absent c =
    subst (λ (r : Row). get c.self.inside.systems r.name ≡ None) (sym c.in_ok-file_system.ensures.ok)
    (can_add c.self.inside.systems c.args.name.now
    (subst (λ (t : Datasets). create_refusal t.file_systems c.args.name.now ≡ None) (sym c.self.view_is) c.requires.can)).absent

pub add-requires-clause-bare : goal.add-requires-clause-bare
add-requires-clause-bare c = subst (λ (r : Row). r.system.snaps ≡ []) (sym c.in_ok-file_system.ensures.ok) refl

pub add-requires-clause-tied : goal.add-requires-clause-tied
add-requires-clause-tied c = subst (IsTied (all_snaps c.self.inside.systems)) (sym c.in_ok-file_system.ensures.ok) refl

-- with an empty file system more, or as it was
pub invariant_of-self : goal.invariant_of-self
invariant_of-self c =
    added_table (record { file_systems = c.self.inside.systems; group = c.self.inside.group.0 }) c.self.invariant c.add.result c.add.new.self (insert c.self.inside.systems c.args.name.now empty_file_system)
    (created_table (record { file_systems = c.self.inside.systems; group = c.self.inside.group.0 }) c.self.invariant c.args.name.now
    (subst (λ (t : Datasets). create_refusal t.file_systems c.args.name.now ≡ None) (sym c.self.view_is) c.requires.can))
    (subst (λ (r : Row). OnOk c.add.result (c.add.new.self ≡ insert c.self.inside.systems r.name r.system)) c.in_ok-file_system.ensures.ok c.add.ensures.ok)
    c.add.ensures.err

pub returns-clause-ok : goal.returns-clause-ok
returns-clause-ok c =
    subst (λ (t : Datasets). OnOk c.add.result (record { file_systems = c.add.new.self; group = c.self.inside.group.0 } ≡ with_system t c.args.name.now empty_file_system)) c.self.view_is
    (is_added (record { file_systems = c.self.inside.systems; group = c.self.inside.group.0 }) c.add.result c.add.new.self (insert c.self.inside.systems c.args.name.now empty_file_system)
    (subst (λ (r : Row). OnOk c.add.result (c.add.new.self ≡ insert c.self.inside.systems r.name r.system)) c.in_ok-file_system.ensures.ok c.add.ensures.ok))
