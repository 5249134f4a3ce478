use Rattle.std.proofs.Common.{◌≡◌, sym, ap, ◌∙◌}
use Rattle.std.specs.Arc.{arc_value}
use Rattle.std.specs.Option.{option_copied}
use Rattle.std.specs.FinMap.{get}
use Rattle.snapshots.specs.Marks.{has_newer, without_newer}
use Rattle.removals.proofs.Marked.{from_newer, none_newer, marks_idle}
use Rattle.removals.proofs.Shared.{told_of}
use Rattle.removals.proofs.bookmark.remove_newer_bookmarks.Goals as goal

pub returns-then-not-any_after-clause-ok : goal.returns-then-not-any_after-clause-ok
returns-then-not-any_after-clause-ok c =
    let t = c.args.table.now in
    let f = c.in-Some.file_system.now.system in
    let told = told_of t.file_systems c.args.name.now c.in-Some.file_system.now (get t.file_systems c.args.name.now) (ap option_copied (sym c.in-Some.is) ∙ c.find.ensures) in
    sym (marks_idle t c.args.name.now (λ marks. without_newer marks c.args.group.0) f told.1
    (none_newer f.bookmarks c.args.group.0 (ap (λ m. has_newer m c.args.group.0) (sym c.bookmarks.ensures) ∙ sym c.any_after.ensures ∙ c.if-not-any_after.true)))

pub set_bookmarks-requires : goal.set_bookmarks-requires
set_bookmarks-requires c =
    let t = c.args.table.now in
    let f = c.in-Some.file_system.now.system in
    let told = told_of t.file_systems c.args.name.now c.in-Some.file_system.now (get t.file_systems c.args.name.now) (ap option_copied (sym c.in-Some.is) ∙ c.find.ensures) in
    let left : arc_value c.in_ok-left-2.left ≡ without_newer f.bookmarks c.args.group.0 =
    c.in_ok-left-2.ensures.ok ∙ c.remove_after.ensures ∙ ap (λ m. without_newer m c.args.group.0) (c.in_ok-left.ensures.ok ∙ c.bookmarks-2.ensures) in
    record {
      closed = λ at b h. (c.facts.ensures.good.tidy c.args.name.now f told.1).bookmarks at b (from_newer f.bookmarks c.args.group.0 at b (ap (λ m. get m at) (sym left) ∙ h));
    }
