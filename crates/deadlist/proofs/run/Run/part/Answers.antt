use Rattle.std.proofs.Common.{◌≡◌, ◌+◌, ◌-◌, List, length, take, drop, arith, ap, sym, subst, ◌∙◌}
use Rattle.std.proofs.lemmas.List.Sorted.{IsNonDecreasingBy-take, IsNonDecreasingBy-drop}
use Rattle.std.specs.List.Sorted.{IsNonDecreasingBy}
use Rattle.base.specs.declared.number.Dead.{Dead}
use Rattle.deadlist.specs.Entries.{birth_of}
use Rattle.deadlist.proofs.Runs.{part_is, part_length}
use Rattle.deadlist.proofs.run.Run.part.Goals as goal

pub invariant_of-result : goal.invariant_of-result
invariant_of-result c =
    let s = c.self.inside in
    let xs = s.shared.value.items in
    let a = c.args.from in
    let b = c.args.to in
    let is : c.in_ok-shared.shared.value.items ≡ xs = ap (λ w. w.items) c.in_ok-shared.ensures in
    let same : length c.in_ok-shared.shared.value.items ≡ length xs = ap length is in
    let le = c.self.invariant.0 in
    let all = c.self.invariant.1 in
    let many = part_length xs s.from s.to le all in
    let view : length (take (s.to - s.from) (drop s.from xs)) ≡ length c.args.self.now = ap length c.self.view_is in
    let order = c.requires.order in
    let within = c.requires.within in
    let part = part_is xs s.from s.to a b le order (omega arith) in
    let up : IsNonDecreasingBy birth_of (take (b - a) (drop a (take (s.to - s.from) (drop s.from xs)))) = IsNonDecreasingBy-take birth_of (b - a) (drop a (take (s.to - s.from) (drop s.from xs))) (IsNonDecreasingBy-drop birth_of a (take (s.to - s.from) (drop s.from xs)) c.self.invariant.2) in
    (omega arith, omega arith, subst (λ (ds : List Dead). IsNonDecreasingBy birth_of (take ((s.from + b) - (s.from + a)) (drop (s.from + a) ds))) (sym is) (subst (IsNonDecreasingBy birth_of) (sym part) up))

pub returns : goal.returns
returns c =
    let s = c.self.inside in
    let xs = s.shared.value.items in
    let a = c.args.from in
    let b = c.args.to in
    let is : c.in_ok-shared.shared.value.items ≡ xs = ap (λ w. w.items) c.in_ok-shared.ensures in
    let le = c.self.invariant.0 in
    let all = c.self.invariant.1 in
    let many = part_length xs s.from s.to le all in
    let view : length (take (s.to - s.from) (drop s.from xs)) ≡ length c.args.self.now = ap length c.self.view_is in
    let order = c.requires.order in
    let within = c.requires.within in
    let part = part_is xs s.from s.to a b le order (omega arith) in
    ap (λ (ds : List Dead). take ((s.from + b) - (s.from + a)) (drop (s.from + a) ds)) is ∙ part ∙ ap (λ (ds : List Dead). take (b - a) (drop a ds)) c.self.view_is
