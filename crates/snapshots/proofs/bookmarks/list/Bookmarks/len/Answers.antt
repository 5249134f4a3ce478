use Rattle.std.proofs.Common.{ap, sym, ◌∙◌, arith}
use Rattle.std.proofs.lemmas.List.{length-map}
use Rattle.std.specs.FinMap.{len}
use Rattle.snapshots.specs.Marks.{Marks, entry_in}
use Rattle.snapshots.proofs.Orders.{by_name}
use Rattle.snapshots.proofs.Places.{len_is}
use Rattle.snapshots.proofs.bookmarks.list.Bookmarks.len.Goals as goal

-- as many as the map has
pub returns-clause-len : goal.returns-clause-len
returns-clause-len c =
    c.len.ensures ∙ c.self.inside.rows.ok.0 ∙ sym (length-map c.self.inside.rows.items entry_in) ∙ sym (len_is by_name _ c.self.invariant.sorted) ∙ ap (λ (m : Marks). len m) c.self.view_is

pub returns-clause-few : goal.returns-clause-few
returns-clause-few c =
    let same = len_is by_name _ c.self.invariant.sorted in
    omega (arith, c.self.invariant.few, sym same ∙ ap (λ (m : Marks). len m) c.self.view_is)
