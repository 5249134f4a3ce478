use Rattle.std.proofs.Common.{◌≡◌, ◌∙◌, sym, ap, arith}
use Rattle.std.specs.Prelude.{count_by}
use Rattle.zalloc.specs.States.{is_free, is_waiting}
use Rattle.zalloc.specs.Allocator.{states_from}
use Rattle.zalloc.proofs.States.{same_sets}
use Rattle.zalloc.proofs.Allocator.copy.Goals as goal

same : (c : goal.In_ok-waiting) → states_from c.in_ok-free.free c.in_ok-waiting.waiting ≡ states_from c.self.inside.free c.self.inside.waiting
same c =
    let f = c.in_ok-free.ensures.same in
    let w = c.in_ok-waiting.ensures.same in
    same_sets c.self.inside.free c.self.inside.waiting c.in_ok-free.free c.in_ok-waiting.waiting f.numbers (λ k h. (f.held k h, w.held k (omega (arith, h, c.self.invariant.same))))

pub invariant_of-result : goal.invariant_of-result
invariant_of-result c =
    let i = c.self.invariant in
    let f = c.in_ok-free.ensures.same in
    let w = c.in_ok-waiting.ensures.same in
    record {
      free = c.in_ok-free.ensures.kept;
      waiting = c.in_ok-waiting.ensures.kept;
      same = w.numbers ∙ i.same ∙ sym f.numbers;
      apart = λ k h e.
          w.held k (omega (arith, h, f.numbers, i.same)) ∙ i.apart k (omega (arith, h, f.numbers)) (sym (f.held k (omega (arith, h, f.numbers))) ∙ e);
      free_count = i.free_count ∙ ap (count_by is_free) (sym (same c));
      waiting_count = i.waiting_count ∙ ap (count_by is_waiting) (sym (same c));
    }

pub returns-clause-ok : goal.returns-clause-ok
returns-clause-ok c = same c ∙ c.self.view_is
