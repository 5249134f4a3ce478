use Rattle.std.proofs.Common.{rules}
use Rattle.std.proofs.lemmas.Fn.{always_returns_same}
use Rattle.base.specs.Names.{name_cmp}
use Rattle.file_system.specs.Rows.{entry_in}
use Rattle.datasets.proofs.Rows.{searched}
use Rattle.datasets.proofs.place.place.Goals as goal

-- the closure compares a file system's name
pub returns : goal.returns
returns c =
    let facts = c.binary_search_by.ensures in
    let by_name = facts.position (λ a. name_cmp (entry_in a).0 c.args.name.now) (always_returns_same _ _ _ (λ a r g called. search rules)) in
    let both = searched entry_in c.args.file_systems.now c.requires c.args.name.now _ facts.bound by_name in
    record { found = both.0; absent = both.1 }
