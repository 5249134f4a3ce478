use Rattle.std.proofs.Common.{◌≡◌, true, ◌++◌, [], ◌∷◌, Some, suc, map, take, drop, sym, ap, subst, ◌∙◌}
use Rattle.std.specs.Prelude.{is_some}
use Rattle.std.specs.FinMap.{entries}
use Rattle.std.specs.List.{find}
use Rattle.std.specs.Option.{option_copied}
use Rattle.base.specs.Names.{same_name}
use Rattle.model.specs.Ids.{snap_id}
use Rattle.model.specs.World.{Snap}
use Rattle.datasets.specs.Holders.{snap_in_system}
use Rattle.datasets.specs.Renames.{with_snap_named}
use Rattle.datasets.specs.Rows.{entry_in, entry_of, snaps_at}
use Rattle.marks.specs.Naming.{renamed_at}
use Rattle.snap.proofs.Shared.{shared_are}
use Rattle.marks.proofs.Naming.{IsUpto, split_rows, more_rows, all_rows, all_named, passed, named_one, free_here, there_here, found_at, err_is, only_err}
use Rattle.marks.proofs.Released.{only_memory}
use Rattle.marks.proofs.renaming.renamed_copy.Goals as goal
use Rattle.marks.proofs.renaming.renamed_copy.Goals.{in-Some+in_ok-rename_snapshot, in_default}

pub rename_snapshot-requires : goal.rename_snapshot-requires
rename_snapshot-requires c =
    let t = c.args.table.now in
    let m = c.args.name.now in
    let items = c.file_systems-file_system-items.result.now in
    let i = c.loop-file_system.file_system-index in
    let x = c.file_system-item.result in
    let copy = c.loop-file_system.copy in
    let parts : entries t.file_systems ≡ map entry_in (take i items) ++ entry_in x ∷ map entry_in (drop (suc i) items) =
    split_rows (entries t.file_systems) items i x (shared_are t.file_systems items c.file_systems-file_system-items.ensures) c.loop-file_system-test.true c.file_system-item.is in
    let is : renamed_at m true (entry_in x) ≡ Some c.in-Some.snapshot.now =
    ap (λ y. renamed_at m true (entry_of y)) (sym c.deref.ensures) ∙ found_at c.renamed_in.result c.in-Some.snapshot _ c.renamed_in.ensures c.in-Some.is in
    record {
      free = ap (λ n. find (λ (v : Snap). same_name v.name c.args.to.now) (snaps_at copy.file_systems n)) (c.name.ensures ∙ ap (λ y. y.name) c.deref-in-Some.ensures)
          ∙ free_here t m c.args.to.now true (record { systems = c.facts.ensures.good; numbers = c.facts.ensures.numbers }) (map entry_in (take i items)) (map entry_in (drop (suc i) items)) (entry_in x) parts copy c.loop-file_system.invariant
          c.in-Some.snapshot.now is c.requires.free;
    }

pub returns-in_err-rename_snapshot-clause-err : goal.returns-in_err-rename_snapshot-clause-err
returns-in_err-rename_snapshot-clause-err c =
    let t = c.args.table.now in
    let m = c.args.name.now in
    let items = c.file_systems-file_system-items.result.now in
    let i = c.loop-file_system.file_system-index in
    let x = c.file_system-item.result in
    let copy = c.loop-file_system.copy in
    let parts : entries t.file_systems ≡ map entry_in (take i items) ++ entry_in x ∷ map entry_in (drop (suc i) items) =
    split_rows (entries t.file_systems) items i x (shared_are t.file_systems items c.file_systems-file_system-items.ensures) c.loop-file_system-test.true c.file_system-item.is in
    let is : renamed_at m true (entry_in x) ≡ Some c.in-Some.snapshot.now =
    ap (λ y. renamed_at m true (entry_of y)) (sym c.deref.ensures) ∙ found_at c.renamed_in.result c.in-Some.snapshot _ c.renamed_in.ensures c.in-Some.is in
    let there = ap (λ n. is_some (snap_in_system copy n (snap_id c.id.result))) (c.name.ensures ∙ ap (λ y. y.name) c.deref-in-Some.ensures) ∙ ap (λ d. is_some (snap_in_system copy (entry_in x).0 d)) c.id.ensures
    ∙ there_here t m c.args.to.now true (record { systems = c.facts.ensures.good; numbers = c.facts.ensures.numbers }) (map entry_in (take i items)) (map entry_in (drop (suc i) items)) (entry_in x) parts copy c.loop-file_system.invariant c.in-Some.snapshot.now is in
    err_is c.from_residual-in_err-rename_snapshot.result _ c.from_residual-in_err-rename_snapshot.ensures.1
    (only_err c.rename_snapshot.result _ (only_memory (λ e. ⊥) c.rename_snapshot.result _ there c.rename_snapshot.ensures.no_dataset c.rename_snapshot.ensures.only) c.in_err-rename_snapshot.was)

pub loop-file_system-preserved : goal.loop-file_system-preserved
loop-file_system-preserved c =
    let t = c.args.table.now in
    let m = c.args.name.now in
    let items = c.file_systems-file_system-items.result.now in
    let i = c.loop-file_system.file_system-index in
    let x = c.file_system-item.result in
    let copy = c.loop-file_system.copy in
    let done = map entry_in (take i items) in
    let parts : entries t.file_systems ≡ done ++ entry_in x ∷ map entry_in (drop (suc i) items) =
    split_rows (entries t.file_systems) items i x (shared_are t.file_systems items c.file_systems-file_system-items.ensures) c.loop-file_system-test.true c.file_system-item.is in
    let all = more_rows items i x c.loop-file_system-test.true c.file_system-item.is in
    let found = ap (λ y. renamed_at m true (entry_of y)) (sym c.deref.ensures) ∙ sym c.renamed_in.ensures in
    elim c.match-renamed_in.branch [
      | in-Some+in_ok-rename_snapshot w ↦
          subst (λ es. IsUpto t m c.args.to.now true es c.match-renamed_in.copy) all
          (named_one t m c.args.to.now true (record { systems = c.facts.ensures.good; numbers = c.facts.ensures.numbers }) done (map entry_in (drop (suc i) items)) (entry_in x) parts copy c.loop-file_system.invariant w.in-Some.snapshot.now
          (ap (λ y. renamed_at m true (entry_of y)) (sym c.deref.ensures) ∙ found_at c.renamed_in.result w.in-Some.snapshot _ c.renamed_in.ensures w.in-Some.is)
          c.match-renamed_in.copy
          (w.copy-is ∙ w.in_ok-rename_snapshot.ensures.ok
          ∙ ap (λ n. with_snap_named copy n (snap_id w.id.result).group c.args.to.now) (w.name.ensures ∙ ap (λ y. y.name) w.deref-in-Some.ensures)
          ∙ ap (λ d. with_snap_named copy (entry_in x).0 d.group c.args.to.now) w.id.ensures))
      | in_default w ↦
          subst (λ es. IsUpto t m c.args.to.now true es c.match-renamed_in.copy) all
          (subst (IsUpto t m c.args.to.now true (done ++ entry_in x ∷ [])) (sym w.copy-is)
          (passed t m c.args.to.now true (record { systems = c.facts.ensures.good; numbers = c.facts.ensures.numbers }) done (map entry_in (drop (suc i) items)) (entry_in x) parts copy c.loop-file_system.invariant
          (found ∙ ap option_copied w.in_default.is)))
    ]

pub returns-clause-ok : goal.returns-clause-ok
returns-clause-ok c =
    let t = c.args.table.now in
    let items = c.file_systems-file_system-items.result.now in
    all_named t c.args.name.now c.args.to.now true c.loop-file_system.copy
    (subst (λ es. IsUpto t c.args.name.now c.args.to.now true es c.loop-file_system.copy) (all_rows (entries t.file_systems) items c.loop-file_system.file_system-index (shared_are t.file_systems items c.file_systems-file_system-items.ensures) c.loop-file_system-test.false) c.loop-file_system.invariant)
