use Rattle.std.proofs.Common.{rules}
use Rattle.std.proofs.lemmas.Fn.{always_returns_same}
use Rattle.model.specs.Ids.{snap_id}
use Rattle.datasets.specs.CloneNames.{key_cmp, key_in}
use Rattle.datasets.proofs.CloneKeys.{sought}
use Rattle.datasets.proofs.clones.place.Goals as goal

-- the closure compares a clone's origin and name
pub returns : goal.returns
returns c =
    let facts = c.binary_search_by.ensures in
    let by_key = facts.position (λ a. key_cmp (key_in a).0 (snap_id c.args.origin, c.args.name.now)) (always_returns_same _ _ _ (λ a r g called. search rules)) in
    let both = sought c.args.clones.now c.requires (snap_id c.args.origin, c.args.name.now) _ facts.bound by_key in
    record { found = both.0; absent = both.1 }
