use Rattle.std.proofs.Common.{◌≡◌, sym, subst}
use Rattle.std.specs.Prelude.{OnOk}
use Rattle.std.specs.FinMap.{remove}
use Rattle.model.specs.declared.destroy_target.DestroyTarget.{DestroyTarget}
use Rattle.world.specs.Tables.{Datasets}
use Rattle.removals.specs.Requests.{destroyed, swept}
use Rattle.removals.proofs.Marked.{marks_swept, lost_marks}
use Rattle.removals.proofs.Swept.{none_swept}
use Rattle.removals.proofs.destroying.destroy.Goals as goal

pub returns-in-FileSystem-clause-ok : goal.returns-in-FileSystem-clause-ok
returns-in-FileSystem-clause-ok c =
    subst (λ (x : DestroyTarget). OnOk c.destroy_file_systems.result (c.destroy_file_systems.new.table ≡ swept (destroyed c.args.table.now c.args.views.now.opened x c.args.recursive c.args.defer) c.args.views.now.opened))
    (sym c.in-FileSystem.is) c.destroy_file_systems.ensures.ok

pub returns-in-Snapshots-clause-ok : goal.returns-in-Snapshots-clause-ok
returns-in-Snapshots-clause-ok c =
    subst (λ (x : DestroyTarget). OnOk c.destroy_snapshots.result (c.destroy_snapshots.new.table ≡ swept (destroyed c.args.table.now c.args.views.now.opened x c.args.recursive c.args.defer) c.args.views.now.opened))
    (sym c.in-Snapshots.is)
    (subst (λ (v : Datasets). OnOk c.destroy_snapshots.result (c.destroy_snapshots.new.table ≡ v))
    (sym (none_swept c.args.table.now c.args.views.now.opened c.requires.swept c.in-Snapshots.names c.args.recursive c.args.defer)) c.destroy_snapshots.ensures.ok)

pub returns-in-Bookmark-clause-ok : goal.returns-in-Bookmark-clause-ok
returns-in-Bookmark-clause-ok c =
    subst (λ (x : DestroyTarget). OnOk c.remove_bookmark.result (c.remove_bookmark.new.table ≡ swept (destroyed c.args.table.now c.args.views.now.opened x c.args.recursive c.args.defer) c.args.views.now.opened))
    (sym c.in-Bookmark.is)
    (subst (λ (v : Datasets). OnOk c.remove_bookmark.result (c.remove_bookmark.new.table ≡ v))
    (sym (marks_swept c.args.table.now c.in-Bookmark.name.file_system (λ marks. remove marks c.in-Bookmark.name.component) c.args.views.now.opened c.requires.swept)) c.remove_bookmark.ensures.ok)

pub returns-in-Bookmark-clause-lost : goal.returns-in-Bookmark-clause-lost
returns-in-Bookmark-clause-lost c =
    lost_marks c.args.table.now c.in-Bookmark.name.file_system (λ marks. remove marks c.in-Bookmark.name.component) c.remove_bookmark.result c.remove_bookmark.new.table c.args.freeing.now c.requires.apart
    c.remove_bookmark.ensures.ok
