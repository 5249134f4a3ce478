use Rattle.std.proofs.Common.{◌≡◌, ◌/◌, inl, inr, get_or, refl, ◌∙◌, arith, ⊎_elim}
use Rattle.std.specs.List.{Contains}
use Rattle.zalloc.specs.Sets.{is_held}
use Rattle.zalloc.proofs.Sets.{left_fewer, left_none}
use Rattle.zalloc.proofs.set.NumberSet.copy_windows.Goals as goal

pub loop-window-init : goal.loop-window-init
loop-window-init c = record {
  kept = c.requires.kept;
  numbers = refl;
  left = λ k h.
      ⊎_elim
      (λ (e : is_held c.args.self.now k ≡ is_held c.args.other.now k). inl e)
      (λ (t : Contains c.args.windows.now (k / 64)). inr (t.0, omega arith, t.1, t.2))
      (c.requires.same k h);
}

pub loop-window-preserved : goal.loop-window-preserved
loop-window-preserved c =
    let i = c.loop-window.invariant in
    record {
      kept = c.write.ensures.kept;
      numbers = c.write.ensures.written.numbers ∙ i.numbers;
      left = left_fewer c.loop-window.self c.args.other.now c.write.new.self c.args.windows.now c.loop-window.window-index (get_or c.args.windows.now c.loop-window.window-index 0) c.word.result c.write.ensures.written c.word.ensures refl (omega (arith, c.loop-window-test.true)) i.left;
    }

pub returns-clause-same : goal.returns-clause-same
returns-clause-same c =
    let i = c.loop-window.invariant in
    let n = i.numbers ∙ c.requires.numbers in
    record {
      numbers = n;
      held = λ k h. left_none c.loop-window.self c.args.other.now c.args.windows.now c.loop-window.window-index (omega (arith, c.loop-window-test.false)) i.left k (omega (arith, h, n));
    }
