use Rattle.std.proofs.Common.{◌<◌, length, sym, subst, ◌∙◌, arith}
use Rattle.std.specs.FinMap.{keys, len-entries}
use Rattle.std.specs.List.{All}
use Rattle.limits.specs.Changes.{IsModest, bare_line}
use Rattle.limits.specs.Lines.{IsSmall}
use Rattle.limits.proofs.Places.{rows_count}
use Rattle.limits.proofs.Reading.{put_in, put_fits, stays}
use Rattle.limits.proofs.Renamed.{all_put}
use Rattle.limits.proofs.ledger.Ledger.make_line.Goals as goal

pub parent_place-requires : goal.parent_place-requires
parent_place-requires c =
    let w = c.requires.there.within in
    let e = len-entries c.args.table.now.file_systems in
    omega (arith, w, e)

pub insert_line-requires-clause-room : goal.insert_line-requires-clause-room
insert_line-requires-clause-room c =
    let m = c.args.table.now.file_systems in
    let own = c.requires.own in
    let o = c.self.inside.lines.ok.0 in
    let k = rows_count m c.file_systems.result.now c.file_systems.ensures in
    let t = c.if-len-file_systems.true in
    let less : length c.self.inside.lines.items < length (keys m) = omega (arith, o, k, t) in
    let f = put_fits own.0 c.args.table.now c.args.name.now own.3 c.self.inside.lines.items (c.self.view_is ∙ own.2) c.args.place c.requires.there less in
    let b = f.1 in
    let r = c.self.invariant.2 in
    omega (arith, b, o, r)

pub insert_line-requires-clause-within : goal.insert_line-requires-clause-within
insert_line-requires-clause-within c =
    let m = c.args.table.now.file_systems in
    let own = c.requires.own in
    let o = c.self.inside.lines.ok.0 in
    let k = rows_count m c.file_systems.result.now c.file_systems.ensures in
    let t = c.if-len-file_systems.true in
    let less : length c.self.inside.lines.items < length (keys m) = omega (arith, o, k, t) in
    let f = put_fits own.0 c.args.table.now c.args.name.now own.3 c.self.inside.lines.items (c.self.view_is ∙ own.2) c.args.place c.requires.there less in
    let a = f.0 in
    omega (arith, a, o)

pub invariant_of-self : goal.invariant_of-self
invariant_of-self c =
    let m = c.args.table.now.file_systems in
    let own = c.requires.own in
    let o = c.self.inside.lines.ok.0 in
    let k = rows_count m c.file_systems.result.now c.file_systems.ensures in
    let t = c.if-len-file_systems.true in
    let less : length c.self.inside.lines.items < length (keys m) = omega (arith, o, k, t) in
    let f = put_fits own.0 c.args.table.now c.args.name.now own.3 c.self.inside.lines.items (c.self.view_is ∙ own.2) c.args.place c.requires.there less in (
      subst (All IsSmall) (sym c.insert_line.ensures.is) (all_put IsSmall c.self.inside.lines.items c.args.place bare_line f.0 c.self.invariant.0 (omega arith)),
      subst (All IsModest) (sym c.insert_line.ensures.is) (all_put IsModest c.self.inside.lines.items c.args.place bare_line f.0 c.self.invariant.1 (record { here = omega arith; reserved = omega arith })),
      (let k = c.insert_line.ensures.kept in let r = c.self.invariant.2 in omega (arith, k, r)),
    )

pub returns-then-len-file_systems-clause-lines : goal.returns-then-len-file_systems-clause-lines
returns-then-len-file_systems-clause-lines c = λ old is ch.
    let m = c.args.table.now.file_systems in
    let o = c.self.inside.lines.ok.0 in
    let k = rows_count m c.file_systems.result.now c.file_systems.ensures in
    let t = c.if-len-file_systems.true in
    let less : length c.self.inside.lines.items < length (keys m) = omega (arith, o, k, t) in
    c.insert_line.ensures.is ∙ put_in old c.args.table.now c.args.name.now ch c.self.inside.lines.items (c.self.view_is ∙ is) c.args.place c.requires.there less

pub returns-else-len-file_systems-clause-lines : goal.returns-else-len-file_systems-clause-lines
returns-else-len-file_systems-clause-lines c = λ old is ch.
    let m = c.args.table.now.file_systems in
    let o = c.self.inside.lines.ok.0 in
    let k = rows_count m c.file_systems.result.now c.file_systems.ensures in
    let e = c.if-len-file_systems.false in
    sym c.self.view_is ∙ stays old c.args.table.now c.args.name.now ch c.self.inside.lines.items (c.self.view_is ∙ is) c.args.place c.requires.there (λ less. absurd (omega (arith, o, k, e, less)))

pub returns-then-len-file_systems-clause-modest : goal.returns-then-len-file_systems-clause-modest
returns-then-len-file_systems-clause-modest c = subst (All IsModest) c.self.view_is c.self.invariant.1

pub returns-else-len-file_systems-clause-modest : goal.returns-else-len-file_systems-clause-modest
returns-else-len-file_systems-clause-modest c = subst (All IsModest) c.self.view_is c.self.invariant.1
