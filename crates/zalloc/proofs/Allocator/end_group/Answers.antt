use Rattle.std.proofs.Common.{◌+◌, ◌≤◌, map, ◌∙◌, sym, ap, arith, rules}
use Rattle.std.specs.Prelude.{count_by}
use Rattle.zalloc.specs.States.{is_free, is_waiting, after_group}
use Rattle.zalloc.specs.Allocator.{states_from}
use Rattle.zalloc.proofs.Counting.{three, ended_free, ended_waiting}
use Rattle.zalloc.proofs.States.{states_len, states_end}
use Rattle.zalloc.proofs.Allocator.end_group.Goals as goal

pub overflow_add-self : goal.overflow_add-self
overflow_add-self c =
    let x = c.self.inside.free in
    let y = c.self.inside.waiting in
    let i = c.self.invariant in
    let p : c.self.inside.free_count + c.self.inside.waiting_count ≤ 4194304 = omega (arith, three (states_from x y), states_len x y, i.free_count, i.waiting_count, i.free.few) in
    search (rules, p)

pub invariant_of-self : goal.invariant_of-self
invariant_of-self c =
    let x = c.self.inside.free in
    let y = c.self.inside.waiting in
    let i = c.self.invariant in
    let e = c.free_all.ensures in
    let t = states_end x y c.free_all.new.free c.free_all.new.waiting e.numbers e.moved e.emptied in
    record {
      free = e.free;
      waiting = e.waiting;
      same = e.same ∙ sym e.numbers;
      apart = λ k h f. e.emptied k (omega (arith, h, e.numbers));
      free_count = omega (arith, ap (count_by is_free) t, ended_free (states_from x y), i.free_count, i.waiting_count);
      waiting_count = sym (ap (count_by is_waiting) t ∙ ended_waiting (states_from x y));
    }

pub returns : goal.returns
returns c =
    let e = c.free_all.ensures in
    states_end c.self.inside.free c.self.inside.waiting c.free_all.new.free c.free_all.new.waiting e.numbers e.moved e.emptied ∙ ap (map after_group) c.self.view_is
