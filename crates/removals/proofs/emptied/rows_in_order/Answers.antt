use Rattle.std.proofs.Common.{Bor, List, map, subst, rules}
use Rattle.std.specs.List.Sorted.{IsPermutation}
use Rattle.std.proofs.lemmas.List.Sorted.{IsNonDecreasingBy-from_sort_by_key, IsPermutation-map}
use Rattle.datasets.specs.Origins.{origin_group}
use Rattle.datasets.specs.Rows.{Row, Entry, entry_of}
use Rattle.removals.proofs.emptied.rows_in_order.Goals as goal

pub returns-clause-ok : goal.returns-clause-ok
returns-clause-ok c =
    subst (λ (l : List Entry). IsPermutation l (map (λ (x : Bor Row). entry_of x.now) c.sort_by_key.new.self.items)) c.in_ok-rows.ensures.ok
    (IsPermutation-map (λ (x : Bor Row). entry_of x.now) _ _ c.in_ok-sort_by_key.ensures.permutation)

pub returns-clause-rising : goal.returns-clause-rising
returns-clause-rising c = IsNonDecreasingBy-from_sort_by_key (λ (x : Bor Row). origin_group x.now.system.origin) _ c.in_ok-sort_by_key.ensures.sorted (λ a r q k. search rules)
