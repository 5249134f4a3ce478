use Rattle.std.proofs.Common.{◌≡◌, ◌-◌, length, take, arith, ap, sym, subst, ◌∙◌, rules}
use Rattle.std.proofs.lemmas.List.{take_all}
use Rattle.std.proofs.lemmas.List.Sorted.{IsNonDecreasingBy-from_sort_by_key}
use Rattle.std.specs.List.Sorted.{IsNonDecreasingBy}
use Rattle.deadlist.specs.Entries.{birth_of}
use Rattle.deadlist.proofs.run.Run.new.Goals as goal

pub invariant_of-result : goal.invariant_of-result
invariant_of-result c =
    let v = c.sort_by_key.new.self in
    let xs = c.in_ok-shared.shared.value.items in
    let is : xs ≡ v.items = ap (λ w. w.items) c.in_ok-shared.ensures.ok in
    let many : c.len-to.result ≡ length v.items = omega (arith, c.len-to.ensures, v.ok.0) in
    let same : length xs ≡ length v.items = ap length is in
    let up : IsNonDecreasingBy birth_of v.items = IsNonDecreasingBy-from_sort_by_key birth_of _ c.in_ok-sort_by_key.ensures.sorted (λ a r q k. search rules) in
    let all : take (c.len-to.result - 0) xs ≡ xs = take_all (c.len-to.result - 0) xs (omega arith) in
    (omega arith, omega arith, subst (IsNonDecreasingBy birth_of) (sym (all ∙ is)) up)
