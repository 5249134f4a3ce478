use Rattle.std.proofs.Common.{rules}
use Rattle.std.proofs.lemmas.Fn.{always_returns_same}
use Rattle.base.specs.Names.{name_cmp}
use Rattle.datasets.specs.Rows.{entry_in}
use Rattle.limits.proofs.Places.{placed, not_there}
use Rattle.limits.proofs.place.place_of.Goals as goal

-- the closure compares a file system's name
pub returns-clause-ok : goal.returns-clause-ok
returns-clause-ok c =
    let facts = c.binary_search_by.ensures in
    let by_name = facts.position (λ a. name_cmp (entry_in a).0 c.args.name.now) (always_returns_same _ _ _ (λ a r g called. search rules)) in
    (placed c.args.table.now.file_systems c.file_systems.result.now c.file_systems.ensures c.args.name.now c.binary_search_by.result facts.bound by_name).0

pub returns-clause-gap : goal.returns-clause-gap
returns-clause-gap c =
    let facts = c.binary_search_by.ensures in
    let by_name = facts.position (λ a. name_cmp (entry_in a).0 c.args.name.now) (always_returns_same _ _ _ (λ a r g called. search rules)) in
    (placed c.args.table.now.file_systems c.file_systems.result.now c.file_systems.ensures c.args.name.now c.binary_search_by.result facts.bound by_name).1

pub returns-clause-none : goal.returns-clause-none
returns-clause-none c =
    let facts = c.binary_search_by.ensures in
    let by_name = facts.position (λ a. name_cmp (entry_in a).0 c.args.name.now) (always_returns_same _ _ _ (λ a r g called. search rules)) in
    not_there c.args.table.now.file_systems c.args.name.now c.binary_search_by.result
    (placed c.args.table.now.file_systems c.file_systems.result.now c.file_systems.ensures c.args.name.now c.binary_search_by.result facts.bound by_name).1
