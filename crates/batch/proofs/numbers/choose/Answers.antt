use Rattle.std.proofs.Common.{sym, ◌∙◌, arith}
use Rattle.batch.proofs.NumberLaws.{choose_all, young_first, length-numbers}
use Rattle.batch.proofs.numbers.choose.Goals as goal

pub returns-then-need-len-clause-no_space : goal.returns-then-need-len-clause-no_space
returns-then-need-len-clause-no_space c = λ e.
    let f = young_first c.args.young.0 c.args.need c.args.released.now c.in_ok-out.out.items c.reuse.new.out.items c.in_ok-out.ensures.items c.in_ok-reuse.ensures in
    let a = f.0 in let b = f.1 in let d = f.2 in
    omega (arith, c.len.ensures, c.counts.ensures.free, c.if-need-len.true, a, b, d)

pub returns-clause-len : goal.returns-clause-len
returns-clause-len c =
    let all = choose_all c.args.allocator.now c.args.young.0 c.args.need c.args.released.now c.in_ok-out.out.items c.reuse.new.out.items c.take_free.new.out.items c.requires.allocated c.requires.once (omega (arith, c.len.ensures, c.counts.ensures.free, c.if-need-len.false)) c.in_ok-out.ensures.items c.in_ok-reuse.ensures c.in_ok-take_free.ensures in
    sym (length-numbers c.take_free.new.out.items) ∙ all.len

pub returns-clause-at_hand : goal.returns-clause-at_hand
returns-clause-at_hand c =
    (choose_all c.args.allocator.now c.args.young.0 c.args.need c.args.released.now c.in_ok-out.out.items c.reuse.new.out.items c.take_free.new.out.items c.requires.allocated c.requires.once (omega (arith, c.len.ensures, c.counts.ensures.free, c.if-need-len.false)) c.in_ok-out.ensures.items c.in_ok-reuse.ensures c.in_ok-take_free.ensures).at_hand

pub returns-clause-once : goal.returns-clause-once
returns-clause-once c =
    (choose_all c.args.allocator.now c.args.young.0 c.args.need c.args.released.now c.in_ok-out.out.items c.reuse.new.out.items c.take_free.new.out.items c.requires.allocated c.requires.once (omega (arith, c.len.ensures, c.counts.ensures.free, c.if-need-len.false)) c.in_ok-out.ensures.items c.in_ok-reuse.ensures c.in_ok-take_free.ensures).once

pub returns-clause-room : goal.returns-clause-room
returns-clause-room c =
    let f = young_first c.args.young.0 c.args.need c.args.released.now c.in_ok-out.out.items c.reuse.new.out.items c.in_ok-out.ensures.items c.in_ok-reuse.ensures in
    let b = f.1 in
    omega (arith, c.len.ensures, c.counts.ensures.free, c.if-need-len.false, b)
