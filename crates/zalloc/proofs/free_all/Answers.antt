use Rattle.std.proofs.Common.{◌/◌, ◌∙◌, refl, arith}
use Rattle.zalloc.proofs.Freed.{freed_either, freed_apart, freed_below}
use Rattle.zalloc.proofs.free_all.Goals as goal

pub loop-number-preserved : goal.loop-number-preserved
loop-number-preserved c =
    let i = c.loop-number.invariant in
    let f = c.in-Some.number in
    let w = f / 64 in
    let x = c.loop-number.free in
    let y = c.loop-number.waiting in
    let a = c.write.ensures.written in
    let b = c.write-in-Some.ensures.written in
    let v = c.write.new.self in
    let z = c.write-in-Some.new.self in
    record {
      free = c.write.ensures.kept;
      waiting = c.write-in-Some.ensures.kept;
      numbers = a.numbers ∙ i.numbers;
      same = b.numbers ∙ i.same;
      either = λ k h. freed_either x y v z w c.either.result c.word.result c.word-in-Some.result a b c.either.ensures c.word.ensures c.word-in-Some.ensures k (omega (arith, h, i.numbers)) ∙ i.either k h;
      apart = λ k h t. freed_apart x y v z w c.either.result c.word.result c.word-in-Some.result a b c.either.ensures c.word.ensures c.word-in-Some.ensures k (omega (arith, h, i.numbers)) (i.apart k h) t;
      moved = λ k h p. freed_below x y v z w c.either.result c.word.result c.word-in-Some.result a b c.either.ensures c.word.ensures c.word-in-Some.ensures c.loop-number.from f c.in-Some.ensures.found refl k (omega (arith, h, i.numbers)) (i.moved k h) p;
    }
