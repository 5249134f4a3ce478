use Rattle.std.proofs.Common.{◌≡◌, not, ap, subst, ◌∙◌}
use Rattle.std.proofs.lemmas.Bool.{lt-ltb}
use Rattle.std.specs.FinMap as finmap
use Rattle.base.specs.Map.{blocks}
use Rattle.node.specs.Unique.{IsUnique}
use Rattle.model.specs.Sums.{size_without}
use Rattle.receives.proofs.Newest.{newest_has, newest_there, one_of_both}
use Rattle.receives.proofs.Refusals.{is_more, by_counts}
use Rattle.receives.proofs.refused.is_modified.Goals as goal

pub returns-then-written-gt0 : goal.returns-then-written-gt0
returns-then-written-gt0 c =
    let f = c.args.file_system.now in
    let is : c.written.result ≡ size_without (blocks f.system.live) (blocks c.args.newest.now.map) =
    c.written.ensures ∙ ap (size_without (blocks f.system.live)) (newest_has (blocks f.below) f.system.snaps c.args.newest.now c.requires.newest) in
    lt-ltb 0 c.written.result c.if-written-gt0.true ∙ is_more f.system.live c.args.newest.now.map c.written.result is c.if-written-gt0.true

pub returns-else-written-gt0 : goal.returns-else-written-gt0
returns-else-written-gt0 c =
    let t = c.args.table.now in
    let f = c.args.file_system.now in
    let s = c.args.newest.now in
    let is : c.written.result ≡ size_without (blocks f.system.live) (blocks s.map) =
    c.written.ensures ∙ ap (size_without (blocks f.system.live)) (newest_has (blocks f.below) f.system.snaps s c.requires.newest) in
    let live = c.live-live.ensures in
    let kept = c.tree-kept.ensures in
    ap not (by_counts f.system.live s.map c.written.result c.node_count.result c.node_count-else-written-gt0.result is c.if-written-gt0.false
    (subst IsUnique live c.node_count.ensures.unique) (subst IsUnique kept c.node_count-else-written-gt0.ensures.unique)
    (c.node_count.ensures.count ∙ ap finmap.len live) (c.node_count-else-written-gt0.ensures.count ∙ ap finmap.len kept)
    (one_of_both t c.facts.ensures.good c.facts.ensures.numbers f.name f.system c.requires.there s (newest_there f.system.snaps s c.requires.newest)))
