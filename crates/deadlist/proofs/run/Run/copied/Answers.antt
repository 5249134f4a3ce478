use Rattle.std.proofs.Common.{◌≡◌, ◌-◌, length, take, drop, arith, ap, sym, subst, ◌∙◌}
use Rattle.std.proofs.lemmas.List.{take_all}
use Rattle.std.proofs.lemmas.List.Sorted.{IsNonDecreasingBy-take, IsNonDecreasingBy-drop}
use Rattle.std.specs.List.Sorted.{IsNonDecreasingBy}
use Rattle.deadlist.specs.Entries.{birth_of}
use Rattle.deadlist.proofs.run.Run.copied.Goals as goal

pub invariant_of-result : goal.invariant_of-result
invariant_of-result c =
    let a = c.args.from in
    let n = c.args.to - a in
    let ys = c.args.self.now in
    let own = c.split_at-2.result.0.now in
    let xs = c.in_ok-shared.shared.value.items in
    let is : xs ≡ own = ap (λ w. w.items) c.in_ok-shared.ensures.ok ∙ c.in_ok-entries.ensures.items in
    let part : own ≡ take n (drop a ys) = c.split_at-2.ensures.front ∙ ap (take n) (c.split_at.ensures.back ∙ ap (drop a) c.as_slice.ensures.same) in
    let up : IsNonDecreasingBy birth_of own = subst (IsNonDecreasingBy birth_of) (sym part) (IsNonDecreasingBy-take birth_of n (drop a ys) (IsNonDecreasingBy-drop birth_of a ys c.as_slice.ensures.rising)) in
    let same : length xs ≡ length own = ap length is in
    let many = c.split_at-2.ensures.front_len in
    let all : take (n - 0) xs ≡ xs = take_all (n - 0) xs (omega arith) in
    (omega arith, omega arith, subst (IsNonDecreasingBy birth_of) (sym (all ∙ is)) up)
