use Rattle.std.proofs.Common.{◌++◌, sym, ap, ◌∙◌, append-nil}
use Rattle.std.proofs.lemmas.List.{take_all}
use Rattle.snapshots.specs.Marks.{entry_of}
use Rattle.lookups.specs.Sources.{bookmark_in}
use Rattle.lookups.proofs.SourcesOf.{below_of, mark_one, mark_none, marks_are}
use Rattle.lookups.proofs.sources.list.push_bookmarks.Goals as goal
use Rattle.lookups.proofs.sources.list.push_bookmarks.Goals.{then-deref-group+in_ok-bookmark_source+in_ok-push, else-deref-group}

pub loop-mark-init : goal.loop-mark-init
loop-mark-init c = sym (append-nil c.args.sources.now.items)

pub loop-mark-preserved : goal.loop-mark-preserved
loop-mark-preserved c =
    elim c.if-deref-group.branch [
      | then-deref-group+in_ok-bookmark_source+in_ok-push w ↦
          mark_one c.args.file_system.now.name c.args.group.0 c.as_slice-mark-items.result.now c.loop-mark.mark-index c.mark-item.result c.args.sources.now.items c.loop-mark.sources.items
          c.loop-mark-test.true c.mark-item.is c.loop-mark.invariant c.deref.result.now c.deref.ensures w.if-deref-group.true w.in_ok-bookmark_source.field-0 c.if-deref-group.sources.items
          (w.in_ok-bookmark_source.ensures.ok ∙ ap (λ m. bookmark_in c.args.file_system.now.name (entry_of m)) w.deref-then-deref-group.ensures)
          (ap (λ s. s.items) w.sources-is ∙ w.in_ok-push.ensures.items)
      | else-deref-group w ↦
          mark_none c.args.file_system.now.name c.args.group.0 c.as_slice-mark-items.result.now c.loop-mark.mark-index c.mark-item.result c.args.sources.now.items c.loop-mark.sources.items
          c.loop-mark-test.true c.mark-item.is c.loop-mark.invariant c.deref.result.now c.deref.ensures w.if-deref-group.false c.if-deref-group.sources.items (ap (λ s. s.items) w.sources-is)
    ]

pub returns-clause-ok : goal.returns-clause-ok
returns-clause-ok c =
    c.loop-mark.invariant
    ∙ ap (λ l. c.args.sources.now.items ++ l)
    (ap (below_of c.args.file_system.now.name c.args.group.0) (take_all c.loop-mark.mark-index c.as_slice-mark-items.result.now c.loop-mark-test.false ∙ c.as_slice-mark-items.ensures.value)
    ∙ marks_are c.args.file_system.now.name c.args.file_system.now.system c.args.group.0 c.bookmarks.result.now c.in_ok-marks.marks.items c.bookmarks.ensures c.in_ok-marks.ensures.ok c.in_ok-marks.ensures.names)
