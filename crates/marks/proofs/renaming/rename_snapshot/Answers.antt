use Rattle.std.proofs.Common.{true, false, sym, ap, ◌∙◌}
use Rattle.std.proofs.lemmas.Result.{on_ok_weaker}
use Rattle.std.specs.Prelude.{is_some}
use Rattle.model.specs.Ids.{snap_id}
use Rattle.datasets.specs.Holders.{snap_in_system}
use Rattle.datasets.specs.Renames.{with_snap_named}
use Rattle.datasets.specs.Table.{IsTable}
use Rattle.marks.specs.Naming.{snaps_renamed_in, snap_naming_refusal}
use Rattle.marks.proofs.Naming.{untaken, own_named, free_own, named_own, has_own}
use Rattle.marks.proofs.Released.{only_memory}
use Rattle.marks.proofs.renaming.rename_snapshot.Goals as goal

-- the snapshot that is named, alone
pub rename_snapshot-requires : goal.rename_snapshot-requires
rename_snapshot-requires c =
    let t = c.args.table.now in
    let m = c.args.name.now in
    let sound : IsTable t = record { systems = c.facts.ensures.good; numbers = c.facts.ensures.numbers } in
    let own = own_named t m (snap_id c.in_ok-id.id) c.in_ok-id.ensures.ok in
    record {
      free = free_own t sound m own.0 own.1 own.2 c.args.to.now (untaken t sound m c.args.to.now false c.args.views.now.opened
          (sym (ap (snap_naming_refusal t c.args.views.now.opened m c.args.to.now) c.if-not-recursive.true) ∙ c.in_ok-id.ensures.can));
    }

pub returns-then-not-recursive-clause-ok : goal.returns-then-not-recursive-clause-ok
returns-then-not-recursive-clause-ok c =
    let t = c.args.table.now in
    let m = c.args.name.now in
    let own = own_named t m (snap_id c.in_ok-id.id) c.in_ok-id.ensures.ok in
    on_ok_weaker c.rename_snapshot.result
    (λ e. e ∙ ap (λ d. with_snap_named t m.file_system d.group c.args.to.now) (sym own.3)
    ∙ named_own t (record { systems = c.facts.ensures.good; numbers = c.facts.ensures.numbers }) m own.0 own.1 own.2 c.args.to.now
    ∙ sym (ap (snaps_renamed_in t m c.args.to.now) c.if-not-recursive.true))
    c.rename_snapshot.ensures.ok

pub returns-then-not-recursive-clause-only : goal.returns-then-not-recursive-clause-only
returns-then-not-recursive-clause-only c =
    let t = c.args.table.now in
    let m = c.args.name.now in
    let own = own_named t m (snap_id c.in_ok-id.id) c.in_ok-id.ensures.ok in
    only_memory _ c.rename_snapshot.result (snap_in_system t m.file_system (snap_id c.in_ok-id.id))
    (ap (λ d. is_some (snap_in_system t m.file_system d)) (sym own.3) ∙ has_own t (record { systems = c.facts.ensures.good; numbers = c.facts.ensures.numbers }) m own.0 own.1 own.2)
    c.rename_snapshot.ensures.no_dataset c.rename_snapshot.ensures.only

-- with those below
pub renamed_copy-requires : goal.renamed_copy-requires
renamed_copy-requires c = record {
  free = untaken c.args.table.now (record { systems = c.facts.ensures.good; numbers = c.facts.ensures.numbers }) c.args.name.now c.args.to.now true c.args.views.now.opened
      (sym (ap (snap_naming_refusal c.args.table.now c.args.views.now.opened c.args.name.now c.args.to.now) c.if-not-recursive.false) ∙ c.in_ok-id.ensures.can);
}
