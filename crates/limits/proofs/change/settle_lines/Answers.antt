use Rattle.std.proofs.Common.{length, sym, ap, ◌∙◌, arith}
use Rattle.std.specs.FinMap.{keys}
use Rattle.limits.specs.Changes.{amended}
use Rattle.limits.proofs.Asking.{as_long, all_little}
use Rattle.limits.proofs.Settled.{can_settle, settles}
use Rattle.limits.proofs.Starts.{start_within, start_named}
use Rattle.limits.proofs.change.settle_lines.Goals as goal

pub offset_bounds-lines-start : goal.offset_bounds-lines-start
offset_bounds-lines-start c =
    let w = start_within c.args.table.now.file_systems c.as_bytes.result.now c.in-Some.start c.in-Some.ensures.some in
    let own = c.requires.own in
    let l = as_long own.0 own.1.hierarchy c.args.lines.now own.1.own c.requires.modest c.args.name.now c.args.here c.args.referenced in
    let n = own.1.named in
    let k = ap length n in
    omega (arith, w, l, k)

pub bounds-lines-start : goal.bounds-lines-start
bounds-lines-start c =
    let w = start_within c.args.table.now.file_systems c.as_bytes.result.now c.in-Some.start c.in-Some.ensures.some in
    let own = c.requires.own in
    let l = as_long own.0 own.1.hierarchy c.args.lines.now own.1.own c.requires.modest c.args.name.now c.args.here c.args.referenced in
    let n = own.1.named in
    let k = ap length n in
    omega (arith, w, l, k)

pub settle_from-requires-clause-can : goal.settle_from-requires-clause-can
settle_from-requires-clause-can c =
    let m = c.args.table.now.file_systems in
    let own = c.requires.own in
    can_settle (keys m) c.args.lines.now c.requires.modest own.0 own.1 c.args.name.now c.in-Some.start
    (start_within m c.as_bytes.result.now c.in-Some.start c.in-Some.ensures.some)
    (start_named m c.as_bytes.result.now c.in-Some.start c.in-Some.ensures.some ∙ c.as_bytes.ensures.value)
    c.args.here c.args.referenced c.requires.small c.index-lines-start.result c.amended-line.result c.index-lines-start.is (c.amended-line.ensures ∙ ap (λ m. amended m c.args.here c.args.referenced) (sym c.index-lines-start.is))

pub settle_from-requires-clause-little : goal.settle_from-requires-clause-little
settle_from-requires-clause-little c =
    let own = c.requires.own in
    all_little own.0 own.1.hierarchy c.args.lines.now own.1.own c.requires.modest c.args.name.now c.args.here c.args.referenced

pub returns-clause-own : goal.returns-clause-own
returns-clause-own c = λ old new of ch.
    let m = c.args.table.now.file_systems in
    c.settle_from.ensures.own new (settles (keys m) c.args.lines.now c.requires.modest old of c.args.name.now c.in-Some.start
    (start_within m c.as_bytes.result.now c.in-Some.start c.in-Some.ensures.some)
    (start_named m c.as_bytes.result.now c.in-Some.start c.in-Some.ensures.some ∙ c.as_bytes.ensures.value)
    c.args.here c.args.referenced c.requires.small c.index-lines-start.result c.amended-line.result c.index-lines-start.is (c.amended-line.ensures ∙ ap (λ m. amended m c.args.here c.args.referenced) (sym c.index-lines-start.is)) new ch)
