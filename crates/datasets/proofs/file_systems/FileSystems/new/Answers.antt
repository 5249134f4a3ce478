use Rattle.std.proofs.Common.{◌≡◌, [], ◌∷◌, ◌++◌, map, ap, sym, ◌∙◌, refl}
use Rattle.std.specs.Arc.{arc_value}
use Rattle.model.specs.World.{empty_file_system}
use Rattle.file_system.specs.Rows.{entry_in, entry_of, new_row}
use Rattle.datasets.proofs.Rows.{fresh_is}
use Rattle.datasets.proofs.Counts.{counted}
use Rattle.datasets.proofs.Ties.{tied_alone}
use Rattle.datasets.proofs.Listing.{listed_alone}
use Rattle.datasets.proofs.file_systems.FileSystems.new.Goals as goal

pub invariant_of-result : goal.invariant_of-result
invariant_of-result c =
    let rows : map entry_in c.push_reserved.new.self.items ≡ (c.args.name.now, empty_file_system) ∷ [] =
    ap (map entry_in) (c.push_reserved.ensures.items ∙ ap (λ xs. xs ++ c.in_ok-row.row ∷ []) c.in_ok-rows.ensures.items)
    ∙ ap (λ r. entry_of r ∷ []) (c.in_ok-row.ensures.ok ∙ c.in_ok-new.ensures.ok) in
    let whole : map arc_value c.push_reserved.new.self.items ≡ new_row c.args.name.now ∷ [] =
    ap (map arc_value) (c.push_reserved.ensures.items ∙ ap (λ xs. xs ++ c.in_ok-row.row ∷ []) c.in_ok-rows.ensures.items)
    ∙ ap (λ r. r ∷ []) (c.in_ok-row.ensures.ok ∙ c.in_ok-new.ensures.ok) in
    record {
      sorted = rw rows refl;
      counted = rw rows (sym (counted ((c.args.name.now, empty_file_system) ∷ []) refl));
      tied = rw whole (tied_alone c.args.name.now);
      listed = rw (rows, c.new-3.ensures) (listed_alone c.args.name.now);
    }

pub returns-clause-ok : goal.returns-clause-ok
returns-clause-ok c =
    let rows : map entry_in c.push_reserved.new.self.items ≡ (c.args.name.now, empty_file_system) ∷ [] =
    ap (map entry_in) (c.push_reserved.ensures.items ∙ ap (λ xs. xs ++ c.in_ok-row.row ∷ []) c.in_ok-rows.ensures.items)
    ∙ ap (λ r. entry_of r ∷ []) (c.in_ok-row.ensures.ok ∙ c.in_ok-new.ensures.ok) in
    rw rows (fresh_is c.args.name.now empty_file_system)
