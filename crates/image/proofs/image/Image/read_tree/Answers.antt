use Rattle.std.proofs.Common.{◌≡◌, ◌*◌, length, Err, sym, ap, ◌∙◌}
use Rattle.base.specs.declared.refusal.Refusal.TheVariants.{BadStream}
use Rattle.image.specs.Image.{ShownImage, padded}
use Rattle.image.proofs.ReadAnswers.{IsReadOf, reads_nothing, reads_past, reads_all, reads_bad}
use Rattle.image.proofs.image.Image.read_tree.Goals as goal

pub returns-in_default-clause-ok : goal.returns-in_default-clause-ok
returns-in_default-clause-ok c =
    reads_nothing c.args.self.now.bytes (length c.args.self.now.kept) c.args.root c.new-out.result.items c.in_default.is c.new-out.ensures.items

pub returns-then-top-self-clause-bad : goal.returns-then-top-self-clause-bad
returns-then-top-self-clause-bad c = λ _.
    let read : IsReadOf c.args.self.now.bytes (length c.args.self.now.kept) (padded (512 * c.self.inside.blocks) c.self.inside.written.items) c.self.inside.blocks = record {
      bytes_are = ap (λ (s : ShownImage). s.bytes) c.self.view_is;
      count_is = sym c.self.invariant.states ∙ ap (λ (s : ShownImage). length s.kept) c.self.view_is;
    } in
    reads_past _ _ _ _ read c.args.root c.in-Some.top c.in-Some.is c.if-top-self.true

pub returns-in-Ok-clause-ok : goal.returns-in-Ok-clause-ok
returns-in-Ok-clause-ok c =
    let read : IsReadOf c.args.self.now.bytes (length c.args.self.now.kept) (padded (512 * c.self.inside.blocks) c.deref.result.now) c.self.inside.blocks = record {
      bytes_are = ap (padded (512 * c.self.inside.blocks)) c.deref.ensures.value ∙ ap (λ (s : ShownImage). s.bytes) c.self.view_is;
      count_is = sym c.self.invariant.states ∙ ap (λ (s : ShownImage). length s.kept) c.self.view_is;
    } in
    reads_all _ _ _ _ read c.args.root c.in-Some.top c.in-Some.is c.new-out.result.items _ c.if-top-self.false c.new-out.ensures.items c.in-Ok.ensures.ok

pub returns-in-Err-clause-bad : goal.returns-in-Err-clause-bad
returns-in-Err-clause-bad c = λ e.
    let same : c.in-Err.refusal ≡ BadStream = cc in
    let read : IsReadOf c.args.self.now.bytes (length c.args.self.now.kept) (padded (512 * c.self.inside.blocks) c.deref.result.now) c.self.inside.blocks = record {
      bytes_are = ap (padded (512 * c.self.inside.blocks)) c.deref.ensures.value ∙ ap (λ (s : ShownImage). s.bytes) c.self.view_is;
      count_is = sym c.self.invariant.states ∙ ap (λ (s : ShownImage). length s.kept) c.self.view_is;
    } in
    reads_bad _ _ _ _ read c.args.root c.in-Some.top c.in-Some.is c.if-top-self.false (c.in-Err.ensures.bad (λ i. Err (same i)))
