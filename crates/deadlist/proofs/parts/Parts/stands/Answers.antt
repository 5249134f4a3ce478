use Rattle.std.proofs.Common.{◌≡◌, suc, ◌-◌, ◌<◌, length, arith, ap, sym, ◌∙◌, eqb, nat_le}
use Rattle.deadlist.specs.Segments.{upper_of, ended}
use Rattle.deadlist.specs.Spans.{Span, span_of, spans}
use Rattle.deadlist.proofs.Places.{front_within}
use Rattle.deadlist.proofs.Counts.{span_read}
use Rattle.deadlist.proofs.Stands.{no_stand, stands_at}
use Rattle.deadlist.proofs.parts.Parts.stands.Goals as goal

pub returns-then-at-eq0 : goal.returns-then-at-eq0
returns-then-at-eq0 c =
    let s = c.args.self.now in
    let none : ended c.args.cut (spans s.closed.items) ≡ 0 = sym c.requires.at ∙ c.if-at-eq0.true in
    sym (no_stand (spans s.closed.items) 0 c.args.cut s.last.entries c.requires.cut none)

pub index-requires : goal.index-requires
index-requires c =
    let s = c.args.self.now in
    let le = front_within (λ u. nat_le u c.args.cut) s.closed.items in
    let at : c.args.at ≡ ended c.args.cut (spans s.closed.items) = c.requires.at in
    let ok = s.closed.ok.0 in
    omega (arith, le, at, ok)

pub returns : goal.returns
returns c =
    let s = c.args.self.now in
    let le = front_within (λ u. nat_le u c.args.cut) s.closed.items in
    let at : c.args.at ≡ ended c.args.cut (spans s.closed.items) = c.requires.at in
    let lt : c.args.at - 1 < length s.closed.items = omega (arith, le, at) in
    let up : suc (c.args.at - 1) ≡ ended c.args.cut (spans s.closed.items) = omega (arith, at) in
    let h = stands_at (spans s.closed.items) 0 c.args.cut s.last.entries (c.args.at - 1) (span_of c.index.result.now) c.requires.cut up in
    ap (λ (x : Span). eqb (upper_of x) c.args.cut) (span_read s.closed.items (c.args.at - 1) c.index.result.now lt c.index.ensures) ∙ sym h
