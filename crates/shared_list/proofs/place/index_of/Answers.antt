use Rattle.std.proofs.Common.{◌≡◌, ◌+◌, ◌∷◌, [], suc, length, take, drop, ap, arith}
use Rattle.shared_list.specs.Ahead.{ahead}
use Rattle.shared_list.specs.Elements.{flattened}
use Rattle.shared_list.proofs.Points.{reached, walked, taken_more, long, inside}
use Rattle.shared_list.proofs.place.index_of.Goals as goal

pub overflow_add-result : goal.overflow_add-result
overflow_add-result g c =
    let within = inside (λ v. v) c.args.chunks.now c.args.place.k c.args.place.at c.requires.place.chunk c.requires.place.within in
    let at : c.chunk.before ≡ length (flattened (take c.args.place.k c.args.chunks.now)) = grind arith in
    omega (arith, within, at)

pub returns-then-k-place-clause-within : goal.returns-then-k-place-clause-within
returns-then-k-place-clause-within g c =
    let within = inside (λ v. v) c.args.chunks.now c.args.place.k c.args.place.at c.requires.place.chunk c.requires.place.within in
    let at : c.chunk.before ≡ length (flattened (take c.args.place.k c.args.chunks.now)) = grind arith in
    omega (arith, within, at)

pub overflow_add-before : goal.overflow_add-before
overflow_add-before g c =
    let xs = c.args.chunks.now in
    let k = c.chunk.k in
    let a = c.in-Some.chunk.now in
    let all : drop k xs ≡ a ∷ ahead c.next.new.self = cc (c.chunk.invariant.rest, c.in-Some.ensures.steps) in
    let at = reached xs k a (ahead c.next.new.self) all in
    omega (arith, long (λ v. v) xs k a at.0 at.1, c.chunk.invariant.before, c.len-before.ensures.len)

pub chunk-preserved : goal.chunk-preserved
chunk-preserved g c =
    let xs = c.args.chunks.now in
    let k = c.chunk.k in
    let a = c.in-Some.chunk.now in
    let all : drop k xs ≡ a ∷ ahead c.next.new.self = cc (c.chunk.invariant.rest, c.in-Some.ensures.steps) in
    let at = reached xs k a (ahead c.next.new.self) all in
    let next : suc k ≡ k + 1 = omega arith in
    let more = taken_more (λ v. v) xs k a at.0 at.1 in
    record {
      can = tt;
      finite = tt;
      rest = cc (at.2, next);
      before = omega (arith, more, ap (λ n. length (flattened (take n xs))) next, c.chunk.invariant.before, c.len-before.ensures.len);
      within = omega (arith, c.chunk.invariant.within);
    }

pub unreachable-requires : goal.unreachable-requires
unreachable-requires g c =
    let xs = c.args.chunks.now in
    let none : drop c.chunk.k xs ≡ [] = cc (c.chunk.invariant.rest, c.in-None.ensures.steps.0) in
    omega (arith, walked xs c.chunk.k none, c.chunk.invariant.within, c.requires.place.chunk)
