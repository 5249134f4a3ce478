use Rattle.std.proofs.Common.{◌+◌, ◌≤◌, refl, ◌∙◌, sym, ap, arith, rules}
use Rattle.std.specs.Prelude.{slice_get, slice_set, count_by}
use Rattle.zalloc.specs.declared.BlockState.TheVariants.{Free, Allocated, Waiting}
use Rattle.zalloc.specs.States.{is_free, is_waiting}
use Rattle.zalloc.specs.Allocator.{states_from}
use Rattle.zalloc.proofs.Counting.{count_set}
use Rattle.zalloc.proofs.States.{states_len, within_states, let_wait, wait_apart, let_free, free_apart, room_for}
use Rattle.zalloc.proofs.Allocator.release.Goals as goal

pub insert-requires-clause-within : goal.insert-requires-clause-within
insert-requires-clause-within c =
    let at = ap (λ s. slice_get s c.args.b.0) c.self.view_is ∙ c.requires in
    omega (arith, within_states c.self.inside.free c.self.inside.waiting c.args.b.0 Allocated at, c.self.invariant.same)

pub overflow_add-self : goal.overflow_add-self
overflow_add-self c =
    let x = c.self.inside.free in
    let y = c.self.inside.waiting in
    let at = ap (λ s. slice_get s c.args.b.0) c.self.view_is ∙ c.requires in
    let p : c.self.inside.waiting_count + 1 ≤ 4194304 = omega (arith, room_for is_waiting (states_from x y) c.args.b.0 Allocated Waiting at refl refl, states_len x y, c.self.invariant.waiting_count, c.self.invariant.free.few) in
    search (rules, p)

pub invariant_of-self : goal.invariant_of-self
invariant_of-self c =
    let x = c.self.inside.free in
    let y = c.self.inside.waiting in
    let b = c.args.b.0 in
    let i = c.self.invariant in
    let at = ap (λ s. slice_get s b) c.self.view_is ∙ c.requires in
    let t = let_wait x y c.insert.new.self b c.insert.ensures.put at in
    record {
      free = i.free;
      waiting = c.insert.ensures.kept;
      same = c.insert.ensures.put.numbers ∙ i.same;
      apart = wait_apart x y c.insert.new.self b c.insert.ensures.put i.apart at;
      free_count = omega (arith, ap (count_by is_free) t, count_set is_free (states_from x y) b Allocated Waiting at, i.free_count);
      waiting_count = omega (arith, ap (count_by is_waiting) t, count_set is_waiting (states_from x y) b Allocated Waiting at, i.waiting_count);
    }

pub insert-requires-else-wait-clause-within : goal.insert-requires-else-wait-clause-within
insert-requires-else-wait-clause-within c =
    let at = ap (λ s. slice_get s c.args.b.0) c.self.view_is ∙ c.requires in
    omega (arith, within_states c.self.inside.free c.self.inside.waiting c.args.b.0 Allocated at)

pub overflow_add-self-else-wait : goal.overflow_add-self-else-wait
overflow_add-self-else-wait c =
    let x = c.self.inside.free in
    let y = c.self.inside.waiting in
    let at = ap (λ s. slice_get s c.args.b.0) c.self.view_is ∙ c.requires in
    let p : c.self.inside.free_count + 1 ≤ 4194304 = omega (arith, room_for is_free (states_from x y) c.args.b.0 Allocated Free at refl refl, states_len x y, c.self.invariant.free_count, c.self.invariant.free.few) in
    search (rules, p)

pub invariant_of-self-else-wait : goal.invariant_of-self-else-wait
invariant_of-self-else-wait c =
    let x = c.self.inside.free in
    let y = c.self.inside.waiting in
    let b = c.args.b.0 in
    let i = c.self.invariant in
    let at = ap (λ s. slice_get s b) c.self.view_is ∙ c.requires in
    let w = c.insert-else-wait.ensures.put in
    let t = let_free x y c.insert-else-wait.new.self b w at in
    record {
      free = c.insert-else-wait.ensures.kept;
      waiting = i.waiting;
      same = i.same ∙ sym w.numbers;
      apart = free_apart x y c.insert-else-wait.new.self b w i.apart at;
      free_count = omega (arith, ap (count_by is_free) t, count_set is_free (states_from x y) b Allocated Free at, i.free_count);
      waiting_count = omega (arith, ap (count_by is_waiting) t, count_set is_waiting (states_from x y) b Allocated Free at, i.waiting_count);
    }

pub returns-then-wait : goal.returns-then-wait
returns-then-wait c =
    let at = ap (λ s. slice_get s c.args.b.0) c.self.view_is ∙ c.requires in
    let t = let_wait c.self.inside.free c.self.inside.waiting c.insert.new.self c.args.b.0 c.insert.ensures.put at ∙ ap (λ s. slice_set s c.args.b.0 Waiting) c.self.view_is in
    rw c.if-wait.true t

pub returns-else-wait : goal.returns-else-wait
returns-else-wait c =
    let at = ap (λ s. slice_get s c.args.b.0) c.self.view_is ∙ c.requires in
    let t = let_free c.self.inside.free c.self.inside.waiting c.insert-else-wait.new.self c.args.b.0 c.insert-else-wait.ensures.put at ∙ ap (λ s. slice_set s c.args.b.0 Free) c.self.view_is in
    rw c.if-wait.false t
