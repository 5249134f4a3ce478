use Rattle.std.proofs.Common.{◌≡◌, ◌∙◌, sym, ap, replicate}
use Rattle.std.specs.Prelude.{count_by}
use Rattle.zalloc.specs.declared.BlockState.TheVariants.{Free}
use Rattle.zalloc.specs.States.{is_free, is_waiting}
use Rattle.zalloc.specs.Allocator.{states_from}
use Rattle.zalloc.proofs.Counting.{no_count_at_first}
use Rattle.zalloc.proofs.States.{all_free, count_free}
use Rattle.zalloc.proofs.Allocator.new.Goals as goal

all : (c : goal.In_ok-waiting) → states_from c.in_ok-free.free c.in_ok-waiting.waiting ≡ replicate c.args.n Free
all c =
    let n = c.in_ok-free.ensures.numbers in
    all_free c.in_ok-free.free c.in_ok-waiting.waiting (λ k h. c.in_ok-free.ensures.held k) ∙ ap (λ m. replicate m Free) n

pub invariant_of-result : goal.invariant_of-result
invariant_of-result c =
    let n = c.in_ok-free.ensures.numbers in
    record {
      free = c.in_ok-free.ensures.kept;
      waiting = c.in_ok-waiting.ensures.kept;
      same = c.in_ok-waiting.ensures.numbers ∙ sym n;
      apart = λ k h e. c.in_ok-waiting.ensures.held k;
      free_count = sym (ap (count_by is_free) (all c) ∙ count_free c.args.n);
      waiting_count = sym (ap (count_by is_waiting) (all c) ∙ no_count_at_first c.args.n);
    }

pub returns-clause-ok : goal.returns-clause-ok
returns-clause-ok c = all c
