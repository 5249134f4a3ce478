use Rattle.std.proofs.Common.{◌∙◌, sym, ap, arith}
use Rattle.std.specs.Prelude.{slice_get, slice_set, count_by}
use Rattle.zalloc.specs.declared.BlockState.TheVariants.{Free, Allocated}
use Rattle.zalloc.specs.States.{is_free, is_waiting}
use Rattle.zalloc.specs.Allocator.{states_from}
use Rattle.zalloc.proofs.Counting.{count_set, free_to_take}
use Rattle.zalloc.proofs.States.{within_states, taken, still_apart}
use Rattle.zalloc.proofs.Allocator.take.Goals as goal

pub remove-requires-clause-within : goal.remove-requires-clause-within
remove-requires-clause-within c =
    let at = ap (λ s. slice_get s c.args.b.0) c.self.view_is ∙ c.requires in
    omega (arith, within_states c.self.inside.free c.self.inside.waiting c.args.b.0 Free at)

pub overflow_sub-self : goal.overflow_sub-self
overflow_sub-self c =
    let at = ap (λ s. slice_get s c.args.b.0) c.self.view_is ∙ c.requires in
    omega (arith, free_to_take (states_from c.self.inside.free c.self.inside.waiting) c.args.b.0 at, c.self.invariant.free_count)

pub invariant_of-self : goal.invariant_of-self
invariant_of-self c =
    let x = c.self.inside.free in
    let y = c.self.inside.waiting in
    let b = c.args.b.0 in
    let i = c.self.invariant in
    let at = ap (λ s. slice_get s b) c.self.view_is ∙ c.requires in
    let t = taken x y c.remove.new.self b c.remove.ensures.put i.apart at in
    record {
      free = c.remove.ensures.kept;
      waiting = i.waiting;
      same = i.same ∙ sym c.remove.ensures.put.numbers;
      apart = still_apart x y c.remove.new.self b c.remove.ensures.put i.apart;
      free_count = omega (arith, ap (count_by is_free) t, free_to_take (states_from x y) b at, count_set is_free (states_from x y) b Free Allocated at, i.free_count);
      waiting_count = omega (arith, ap (count_by is_waiting) t, count_set is_waiting (states_from x y) b Free Allocated at, i.waiting_count);
    }

pub returns : goal.returns
returns c =
    let at = ap (λ s. slice_get s c.args.b.0) c.self.view_is ∙ c.requires in
    taken c.self.inside.free c.self.inside.waiting c.remove.new.self c.args.b.0 c.remove.ensures.put c.self.invariant.apart at ∙ ap (λ s. slice_set s c.args.b.0 Allocated) c.self.view_is
