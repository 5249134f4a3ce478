use Rattle.std.proofs.Common.{◌≡◌, map, ap, sym, ◌∙◌}
use Rattle.std.proofs.lemmas.Result.{IfOk-weaker}
use Rattle.std.specs.FinMap.{entries, from_entries}
use Rattle.model.specs.Properties.{bookmark_cmp}
use Rattle.snapshots.specs.Marks.{Marks, entry_in, keyed, keyed_in}
use Rattle.snapshots.proofs.Orders.{by_name}
use Rattle.snapshots.proofs.Ordering.{all_in_order, names_in_order, keyed_twice}
use Rattle.snapshots.proofs.Places.{entries_are}
use Rattle.snapshots.proofs.bookmarks.list.Bookmarks.in_order.Goals as goal

-- they stand in order of the map's entries
pub returns-clause-ok : goal.returns-clause-ok
returns-clause-ok c =
    let rows = c.self.inside.rows.items in
    let those : map keyed_in c.deref.result.now ≡ map keyed (entries c.args.self.now) =
    ap (map keyed_in) c.deref.ensures.value ∙ keyed_twice rows ∙ ap (map keyed) (sym (entries_are by_name (map entry_in rows) c.self.invariant.sorted) ∙ ap (λ (m : Marks). entries m) c.self.view_is) in
    IfOk-weaker c.ordered.result _ _ (λ v h. all_in_order v.items c.args.self.now (h ∙ ap (λ l. entries (from_entries {R = bookmark_cmp} l)) those)) c.ordered.ensures.ok

pub returns-clause-names : goal.returns-clause-names
returns-clause-names c =
    let rows = c.self.inside.rows.items in
    let those : map keyed_in c.deref.result.now ≡ map keyed (entries c.args.self.now) =
    ap (map keyed_in) c.deref.ensures.value ∙ keyed_twice rows ∙ ap (map keyed) (sym (entries_are by_name (map entry_in rows) c.self.invariant.sorted) ∙ ap (λ (m : Marks). entries m) c.self.view_is) in
    IfOk-weaker c.ordered.result _ _ (λ v h. names_in_order v.items c.args.self.now (h ∙ ap (λ l. entries (from_entries {R = bookmark_cmp} l)) those)) c.ordered.ensures.ok
