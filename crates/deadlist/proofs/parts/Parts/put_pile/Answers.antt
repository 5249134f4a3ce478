use Rattle.std.proofs.Common.{◌≡◌, ◌++◌, List, ap, sym, subst, ◌∙◌}
use Rattle.std.specs.List.Sorted.{IsPermutation}
use Rattle.base.specs.declared.number.Dead.{Dead}
use Rattle.deadlist.specs.Spans.{spans}
use Rattle.deadlist.specs.Segments.{pile_at, with_pile, last_with}
use Rattle.deadlist.proofs.Puts.{with_pile_twice, last_with_twice}
use Rattle.deadlist.proofs.Orders.{pile_at_with}
use Rattle.deadlist.proofs.parts.Parts.put_pile.Goals as goal

pub returns-clause-closed : goal.returns-clause-closed
returns-clause-closed c =
    let s = c.args.self.now in
    let at = c.args.at in
    let all = c.in_ok-all.all.entries in
    let closed : (spans c.replace-none.new.self.closed.items) ≡ with_pile (spans s.closed.items) at all =
    c.replace-none.ensures.closed ∙ ap (λ xs. with_pile xs at all) c.replace-own.ensures.closed ∙ with_pile_twice (spans s.closed.items) at c.new.result.entries all in
    let last : c.replace-none.new.self.last.entries ≡ last_with (spans s.closed.items) s.last.entries at all =
    c.replace-none.ensures.last ∙ (λ i. last_with (c.replace-own.ensures.closed i) (c.replace-own.ensures.last i) at all) ∙ last_with_twice (spans s.closed.items) s.last.entries at c.new.result.entries all in
    let pile : pile_at (spans c.replace-none.new.self.closed.items) c.replace-none.new.self.last.entries at ≡ all = (λ i. pile_at (closed i) (last i) at) ∙ pile_at_with (spans s.closed.items) s.last.entries at all in
    closed ∙ ap (with_pile (spans s.closed.items) at) (sym pile)

pub returns-clause-last : goal.returns-clause-last
returns-clause-last c =
    let s = c.args.self.now in
    let at = c.args.at in
    let all = c.in_ok-all.all.entries in
    let closed : (spans c.replace-none.new.self.closed.items) ≡ with_pile (spans s.closed.items) at all =
    c.replace-none.ensures.closed ∙ ap (λ xs. with_pile xs at all) c.replace-own.ensures.closed ∙ with_pile_twice (spans s.closed.items) at c.new.result.entries all in
    let last : c.replace-none.new.self.last.entries ≡ last_with (spans s.closed.items) s.last.entries at all =
    c.replace-none.ensures.last ∙ (λ i. last_with (c.replace-own.ensures.closed i) (c.replace-own.ensures.last i) at all) ∙ last_with_twice (spans s.closed.items) s.last.entries at c.new.result.entries all in
    let pile : pile_at (spans c.replace-none.new.self.closed.items) c.replace-none.new.self.last.entries at ≡ all = (λ i. pile_at (closed i) (last i) at) ∙ pile_at_with (spans s.closed.items) s.last.entries at all in
    last ∙ ap (last_with (spans s.closed.items) s.last.entries at) (sym pile)

pub returns-clause-pile : goal.returns-clause-pile
returns-clause-pile c =
    let s = c.args.self.now in
    let at = c.args.at in
    let all = c.in_ok-all.all.entries in
    let closed : (spans c.replace-none.new.self.closed.items) ≡ with_pile (spans s.closed.items) at all =
    c.replace-none.ensures.closed ∙ ap (λ xs. with_pile xs at all) c.replace-own.ensures.closed ∙ with_pile_twice (spans s.closed.items) at c.new.result.entries all in
    let last : c.replace-none.new.self.last.entries ≡ last_with (spans s.closed.items) s.last.entries at all =
    c.replace-none.ensures.last ∙ (λ i. last_with (c.replace-own.ensures.closed i) (c.replace-own.ensures.last i) at all) ∙ last_with_twice (spans s.closed.items) s.last.entries at c.new.result.entries all in
    let pile : pile_at (spans c.replace-none.new.self.closed.items) c.replace-none.new.self.last.entries at ≡ all = (λ i. pile_at (closed i) (last i) at) ∙ pile_at_with (spans s.closed.items) s.last.entries at all in
    subst (λ (ds : List Dead). IsPermutation (pile_at (spans s.closed.items) s.last.entries at ++ c.args.pile.entries) ds) (sym pile)
    (subst (λ (ds : List Dead). IsPermutation (ds ++ c.args.pile.entries) all) c.replace-own.ensures.old c.in_ok-all.ensures)
