use Rattle.std.proofs.Common.{ap, sym, ◌+◌, ◌∙◌, arith, map}
use Rattle.std.proofs.lemmas.Bool.{ltb-false}
use Rattle.std.proofs.lemmas.List.{length-map}
use Rattle.std.specs.FinMap.{len}
use Rattle.snapshots.specs.Marks.{Marks, entry_in, mark_limit}
use Rattle.snapshots.proofs.Orders.{by_name}
use Rattle.snapshots.proofs.Places.{len_is}
use Rattle.snapshots.proofs.bookmarks.list.Bookmarks.insert.Goals as goal

-- there are not too many
pub put-requires-clause-room : goal.put-requires-clause-room
put-requires-clause-room c =
    let rows = c.self.inside.rows.items in
    let place = ltb-false mark_limit (len c.args.self.now + 1) (sym c.is_full.ensures ∙ c.if-is_full.false) in
    let same = sym (length-map rows entry_in) ∙ sym (len_is by_name (map entry_in rows) c.self.invariant.sorted) ∙ ap (λ (m : Marks). len m) c.self.view_is in
    omega (arith, place, same)
