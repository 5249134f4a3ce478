use Rattle.std.proofs.Common.{None, Some, sym, ap, ◌∙◌, arith}
use Rattle.std.specs.Option.{option_map}
use Rattle.std.specs.FinMap.{get}
use Rattle.base.specs.declared.name.target.Target.TheVariants.{Bookmark as OfBookmark}
use Rattle.snapshots.specs.Marks.{bookmark_of}
use Rattle.datasets.specs.Table.{IsTable}
use Rattle.lookups.proofs.Lineages.{named_is}
use Rattle.lookups.proofs.Starts.{started, of_another, no_bookmark, too_new, mark_source}
use Rattle.lookups.proofs.sources.start.start_from_bookmark.Goals as goal

pub returns-then-not-is_named : goal.returns-then-not-is_named
returns-then-not-is_named c =
    let sound : IsTable c.args.table.now = record { systems = c.facts.ensures.good; numbers = c.facts.ensures.numbers } in
    sym (started c.args.table.now sound c.args.file_system.now c.args.snapshot.now c.requires (OfBookmark c.args.source.now) None
    (of_another c.args.table.now sound c.args.file_system.now c.args.snapshot.now c.requires c.args.source.now (sym (named_is _ c.is_named.ensures c.as_bytes.ensures.value) ∙ c.if-not-is_named.true)))

pub returns-in_err-id : goal.returns-in_err-id
returns-in_err-id c =
    let sound : IsTable c.args.table.now = record { systems = c.facts.ensures.good; numbers = c.facts.ensures.numbers } in
    c.from_residual.ensures
    ∙ sym (started c.args.table.now sound c.args.file_system.now c.args.snapshot.now c.requires (OfBookmark c.args.source.now) None
    (no_bookmark c.args.table.now sound c.args.file_system.now c.args.snapshot.now c.requires c.args.source.now
    ((λ i. get (sym c.bookmarks.ensures i) (sym c.as_bytes-2.ensures.value i)) ∙ sym c.get.ensures ∙ ap (option_map bookmark_of) c.in_err-id.was)))

pub returns-then-id-group : goal.returns-then-id-group
returns-then-id-group c =
    let sound : IsTable c.args.table.now = record { systems = c.facts.ensures.good; numbers = c.facts.ensures.numbers } in
    let low = c.if-id-group.true in
    let group = c.group.ensures in
    sym (started c.args.table.now sound c.args.file_system.now c.args.snapshot.now c.requires (OfBookmark c.args.source.now) None
    (too_new c.args.table.now sound c.args.file_system.now c.args.snapshot.now c.requires c.args.source.now (bookmark_of c.in_ok-id.id)
    ((λ i. get (sym c.bookmarks.ensures i) (sym c.as_bytes-2.ensures.value i)) ∙ sym c.get.ensures ∙ ap (option_map bookmark_of) c.in_ok-id.was)
    (omega (arith, low, group))))

pub returns : goal.returns
returns c =
    let sound : IsTable c.args.table.now = record { systems = c.facts.ensures.good; numbers = c.facts.ensures.numbers } in
    let low = c.if-id-group.false in
    let group = c.group.ensures in
    ap Some c.start_at.ensures
    ∙ sym (started c.args.table.now sound c.args.file_system.now c.args.snapshot.now c.requires (OfBookmark c.args.source.now) _
    (mark_source c.args.table.now sound c.args.file_system.now c.args.snapshot.now c.requires c.args.source.now (bookmark_of c.in_ok-id.id)
    ((λ i. get (sym c.bookmarks.ensures i) (sym c.as_bytes-2.ensures.value i)) ∙ sym c.get.ensures ∙ ap (option_map bookmark_of) c.in_ok-id.was)
    (sym (named_is _ c.is_named.ensures c.as_bytes.ensures.value) ∙ c.if-not-is_named.false) (omega (arith, low, group))))
