use Rattle.std.proofs.Common.{◌≡◌, ◌+◌, ◌∷◌, [], suc, length, take, drop, ap, arith}
use Rattle.std.proofs.lemmas.List.{take_all}
use Rattle.shared_list.specs.Ahead.{ahead}
use Rattle.shared_list.specs.Elements.{flattened}
use Rattle.shared_list.proofs.Points.{reached, walked, taken_more}
use Rattle.shared_list.proofs.place.place_of.Goals as goal

pub chunk-preserved : goal.chunk-preserved
chunk-preserved g c =
    let xs = c.args.chunks.now in
    let k = c.chunk.k in
    let a = c.in-Some.chunk.now in
    let all : drop k xs ≡ a ∷ ahead c.next.new.self = cc (c.chunk.invariant.rest, c.in-Some.ensures.steps) in
    let at = reached xs k a (ahead c.next.new.self) all in
    let next : suc k ≡ k + 1 = omega arith in
    let more = taken_more (λ v. v) xs k a at.0 at.1 in
    record {
      can = tt;
      finite = tt;
      rest = cc (at.2, next);
      index = omega (arith, more, ap (λ n. length (flattened (take n xs))) next, c.chunk.invariant.index, c.len.ensures.len, c.len-at.ensures.len);
      small = omega (arith, c.chunk.invariant.small, c.len.ensures.len, c.len-at.ensures.len, c.len-at.ensures.some);
    }

pub unreachable-requires : goal.unreachable-requires
unreachable-requires g c =
    let xs = c.args.chunks.now in
    let none : drop c.chunk.k xs ≡ [] = cc (c.chunk.invariant.rest, c.in-None.ensures.steps.0) in
    let all = take_all c.chunk.k xs (walked xs c.chunk.k none) in
    omega (arith, c.requires, c.chunk.invariant.index, ap (λ ys. length (flattened ys)) all)
