use Rattle.std.proofs.Common.{◌≡◌, [], Option, None, refl, ap, sym, subst, ◌∙◌}
use Rattle.std.specs.Prelude.{IfSome, OnOk}
use Rattle.std.specs.Option.{option_copied}
use Rattle.std.specs.FinMap.{get, insert}
use Rattle.model.specs.World.{Snap, id_of, snap_named}
use Rattle.model.specs.requests.Create.{create_refusal}
use Rattle.file_system.specs.Rows.{Row}
use Rattle.file_system.specs.Promotions.{clone_system}
use Rattle.datasets.specs.Clones.{all_snaps, IsTied}
use Rattle.world.specs.Tables.{Datasets, world_of}
use Rattle.datasets.specs.Clones.{with_clone_of}
use Rattle.datasets.proofs.Kept.{added_table, is_added}
use Rattle.datasets.proofs.Cloned.{absent, origin_tied, cloned_table, cloned_is}
use Rattle.datasets.proofs.table.Table.add_clone.Goals as goal

pub add-requires-clause-absent : goal.add-requires-clause-absent
add-requires-clause-absent c =
    subst (λ (r : Row). get c.self.inside.systems r.name ≡ None) (sym c.in_ok-file_system.ensures.ok)
    (absent (record { file_systems = c.self.inside.systems; group = c.self.inside.group.0 }) c.self.invariant c.args.name.now
    (subst (λ (t : Datasets). create_refusal t.file_systems c.args.name.now ≡ None) (sym c.self.view_is) c.requires.can)
    c.args.snapshot.now c.in-Some.origin.now
    (ap (λ (t : Datasets). snap_named (world_of t) c.args.snapshot.now) c.self.view_is ∙ sym c.snapshot.ensures ∙ ap (λ x. option_copied x) c.in-Some.is))

pub add-requires-clause-bare : goal.add-requires-clause-bare
add-requires-clause-bare c = subst (λ (r : Row). r.system.snaps ≡ []) (sym c.in_ok-file_system.ensures.ok) refl

pub add-requires-clause-tied : goal.add-requires-clause-tied
add-requires-clause-tied c =
    subst (IsTied (all_snaps c.self.inside.systems)) (sym c.in_ok-file_system.ensures.ok)
    (origin_tied (record { file_systems = c.self.inside.systems; group = c.self.inside.group.0 }) c.self.invariant c.args.name.now
    (subst (λ (t : Datasets). create_refusal t.file_systems c.args.name.now ≡ None) (sym c.self.view_is) c.requires.can)
    c.args.snapshot.now c.in-Some.origin.now
    (ap (λ (t : Datasets). snap_named (world_of t) c.args.snapshot.now) c.self.view_is ∙ sym c.snapshot.ensures ∙ ap (λ x. option_copied x) c.in-Some.is))

-- with a clone more, or as it was
pub invariant_of-self : goal.invariant_of-self
invariant_of-self c =
    added_table (record { file_systems = c.self.inside.systems; group = c.self.inside.group.0 }) c.self.invariant c.add.result c.add.new.self
    (insert c.self.inside.systems c.args.name.now (clone_system c.in-Some.origin.now))
    (cloned_table (record { file_systems = c.self.inside.systems; group = c.self.inside.group.0 }) c.self.invariant c.args.name.now
    (subst (λ (t : Datasets). create_refusal t.file_systems c.args.name.now ≡ None) (sym c.self.view_is) c.requires.can)
    c.args.snapshot.now c.in-Some.origin.now
    (ap (λ (t : Datasets). snap_named (world_of t) c.args.snapshot.now) c.self.view_is ∙ sym c.snapshot.ensures ∙ ap (λ x. option_copied x) c.in-Some.is))
    (subst (λ (r : Row). OnOk c.add.result (c.add.new.self ≡ insert c.self.inside.systems r.name r.system)) c.in_ok-file_system.ensures.ok c.add.ensures.ok)
    c.add.ensures.err

pub returns-clause-ok : goal.returns-clause-ok
returns-clause-ok c =
    let found = ap (λ (t : Datasets). snap_named (world_of t) c.args.snapshot.now) c.self.view_is ∙ sym c.snapshot.ensures ∙ ap (λ x. option_copied x) c.in-Some.is in
    let can = (subst (λ (t : Datasets). create_refusal t.file_systems c.args.name.now ≡ None) (sym c.self.view_is) c.requires.can) in
    subst (λ (t : Datasets). IfSome (snap_named (world_of t) c.args.snapshot.now)
    (λ u. OnOk c.add.result (record { file_systems = c.add.new.self; group = c.self.inside.group.0 } ≡ with_clone_of t (id_of u) c.args.name.now))) c.self.view_is
    (subst (λ (x : Option Snap). IfSome x (λ u. OnOk c.add.result (record { file_systems = c.add.new.self; group = c.self.inside.group.0 }
    ≡ with_clone_of (record { file_systems = c.self.inside.systems; group = c.self.inside.group.0 }) (id_of u) c.args.name.now))) (sym found)
    (subst (λ (t : Datasets). OnOk c.add.result (record { file_systems = c.add.new.self; group = c.self.inside.group.0 } ≡ t))
    (cloned_is (record { file_systems = c.self.inside.systems; group = c.self.inside.group.0 }) c.self.invariant c.args.name.now can c.args.snapshot.now c.in-Some.origin.now found)
    (is_added (record { file_systems = c.self.inside.systems; group = c.self.inside.group.0 }) c.add.result c.add.new.self
    (insert c.self.inside.systems c.args.name.now (clone_system c.in-Some.origin.now))
    (subst (λ (r : Row). OnOk c.add.result (c.add.new.self ≡ insert c.self.inside.systems r.name r.system)) c.in_ok-file_system.ensures.ok c.add.ensures.ok))))
