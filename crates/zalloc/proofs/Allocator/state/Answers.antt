use Rattle.std.proofs.Common.{Some, ◌∙◌, sym, ap, arith}
use Rattle.std.specs.Prelude.{slice_get}
use Rattle.zalloc.specs.Sets.{is_held}
use Rattle.zalloc.specs.Allocator.{state_from}
use Rattle.zalloc.proofs.States.{state_get, state_none}
use Rattle.zalloc.proofs.Allocator.state.Goals as goal

pub returns-then-b-numbers : goal.returns-then-b-numbers
returns-then-b-numbers c = sym (state_none c.self.inside.free c.self.inside.waiting c.args.b.0 (omega (arith, c.numbers.ensures, c.if-b-numbers.true))) ∙ ap (λ s. slice_get s c.args.b.0) c.self.view_is

pub returns-then-contains : goal.returns-then-contains
returns-then-contains c =
    let f = c.if-contains.ensures in
    (λ i. Some (state_from (f i) (is_held c.self.inside.waiting c.args.b.0)))
    ∙ sym (state_get c.self.inside.free c.self.inside.waiting c.args.b.0 (omega (arith, c.numbers.ensures, c.if-b-numbers.false))) ∙ ap (λ s. slice_get s c.args.b.0) c.self.view_is

pub returns-then-contains-2 : goal.returns-then-contains-2
returns-then-contains-2 c =
    let f = c.if-contains.ensures in
    let w = c.if-contains-2.ensures in
    (λ i. Some (state_from (f i) (w i)))
    ∙ sym (state_get c.self.inside.free c.self.inside.waiting c.args.b.0 (omega (arith, c.numbers.ensures, c.if-b-numbers.false))) ∙ ap (λ s. slice_get s c.args.b.0) c.self.view_is

pub returns-else-contains-2 : goal.returns-else-contains-2
returns-else-contains-2 c =
    let f = c.if-contains.ensures in
    let w = c.if-contains-2.ensures in
    (λ i. Some (state_from (f i) (w i)))
    ∙ sym (state_get c.self.inside.free c.self.inside.waiting c.args.b.0 (omega (arith, c.numbers.ensures, c.if-b-numbers.false))) ∙ ap (λ s. slice_get s c.args.b.0) c.self.view_is
