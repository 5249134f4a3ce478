use Rattle.std.proofs.Common.{ap, is_some, map, sym, ◌∙◌, true≢false}
use Rattle.std.specs.Bool.{passes}
use Rattle.std.specs.FinMap.{find, is_sorted}
use Rattle.model.specs.Properties.{bookmark_cmp}
use Rattle.snapshots.specs.Marks.{entry_of, keyed, keyed_in}
use Rattle.snapshots.proofs.Orders.{by_group}
use Rattle.snapshots.proofs.Sorted.{find_at}
use Rattle.snapshots.proofs.bookmarks.order.gap_in_order.Goals as goal

-- none has its group and its name
pub unreachable-requires : goal.unreachable-requires
unreachable-requires c =
    let es = map keyed_in c.args.marks.now in
    let at = c.in-Ok.ensures.found in
    let d = keyed (entry_of c.args.mark.now) in
    true≢false (ap is_some (sym (find_at by_group.total es (passes (is_sorted bookmark_cmp es) c.requires.sorted) _ d at.within) ∙ ap (λ k. find bookmark_cmp k es) (at.named d) ∙ c.requires.absent))
