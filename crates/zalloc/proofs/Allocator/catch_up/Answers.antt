use Rattle.std.proofs.Common.{◌≡◌, ◌<◌, List, length, arith, ap, sym, ◌∙◌, subst}
use Rattle.std.specs.Prelude.{count_by}
use Rattle.zalloc.specs.declared.BlockState.{BlockState}
use Rattle.zalloc.specs.States.{is_free, is_waiting}
use Rattle.zalloc.specs.Paired.{AreSameBut}
use Rattle.zalloc.proofs.States.{states_len}
use Rattle.zalloc.proofs.Pairing.{free_but, waiting_but, copied_states}
use Rattle.zalloc.proofs.Allocator.catch_up.Goals as goal

pub copy_windows-requires-clause-numbers : goal.copy_windows-requires-clause-numbers
copy_windows-requires-clause-numbers c = omega (arith, c.requires.len, ap length c.self.view_is, ap length c.other.view_is, states_len c.self.inside.free c.self.inside.waiting, states_len c.other.inside.free c.other.inside.waiting)

pub copy_windows-requires-clause-within : goal.copy_windows-requires-clause-within
copy_windows-requires-clause-within c = λ i h. omega (arith, c.noted.ensures.within i h, c.requires.flags, ap length c.self.view_is, states_len c.self.inside.free c.self.inside.waiting)

pub copy_windows-requires-clause-same : goal.copy_windows-requires-clause-same
copy_windows-requires-clause-same c =
    let x = c.self.inside.free in
    let y = c.self.inside.waiting in
    let v = c.other.inside.free in
    let w = c.other.inside.waiting in
    let n : v.numbers ≡ x.numbers = omega (arith, c.requires.len, ap length c.self.view_is, ap length c.other.view_is, states_len x y, states_len v w) in
    free_but x y v w c.args.touched.now c.noted.result.now n c.self.invariant.apart c.other.invariant.apart
    (subst (λ (z : List BlockState × List BlockState). AreSameBut c.args.touched.now z.0 z.1) (λ i. (sym c.self.view_is i, sym c.other.view_is i)) c.requires.same)
    c.noted.ensures.all

pub copy_windows-requires-2-clause-numbers : goal.copy_windows-requires-2-clause-numbers
copy_windows-requires-2-clause-numbers c = omega (arith, c.requires.len, ap length c.self.view_is, ap length c.other.view_is, states_len c.self.inside.free c.self.inside.waiting, states_len c.other.inside.free c.other.inside.waiting, c.self.invariant.same, c.other.invariant.same)

pub copy_windows-requires-2-clause-within : goal.copy_windows-requires-2-clause-within
copy_windows-requires-2-clause-within c = λ i h. omega (arith, c.noted-2.ensures.within i h, c.requires.flags, ap length c.self.view_is, states_len c.self.inside.free c.self.inside.waiting, c.self.invariant.same)

pub copy_windows-requires-2-clause-same : goal.copy_windows-requires-2-clause-same
copy_windows-requires-2-clause-same c = λ k h.
    let x = c.self.inside.free in
    let y = c.self.inside.waiting in
    let v = c.other.inside.free in
    let w = c.other.inside.waiting in
    let n : v.numbers ≡ x.numbers = omega (arith, c.requires.len, ap length c.self.view_is, ap length c.other.view_is, states_len x y, states_len v w) in
    waiting_but x y v w c.args.touched.now c.noted-2.result.now n c.self.invariant.apart c.other.invariant.apart
    (subst (λ (z : List BlockState × List BlockState). AreSameBut c.args.touched.now z.0 z.1) (λ i. (sym c.self.view_is i, sym c.other.view_is i)) c.requires.same)
    c.noted-2.ensures.all k (omega (arith, h, c.self.invariant.same))

pub invariant_of-self : goal.invariant_of-self
invariant_of-self c =
    let i = c.other.invariant in
    let f = c.copy_windows.ensures in
    let g = c.copy_windows-2.ensures in
    let t = copied_states c.other.inside.free c.other.inside.waiting c.copy_windows.new.self c.copy_windows-2.new.self i.same f.same g.same in
    record {
      free = f.kept;
      waiting = g.kept;
      same = g.same.numbers ∙ i.same ∙ sym f.same.numbers;
      apart = λ k h e.
          let p : k < c.other.inside.free.numbers = omega (arith, h, f.same.numbers) in
          g.same.held k (omega (arith, p, i.same)) ∙ i.apart k p (sym (f.same.held k p) ∙ e);
      free_count = i.free_count ∙ sym (ap (count_by is_free) t);
      waiting_count = i.waiting_count ∙ sym (ap (count_by is_waiting) t);
    }

pub returns : goal.returns
returns c = copied_states c.other.inside.free c.other.inside.waiting c.copy_windows.new.self c.copy_windows-2.new.self c.other.invariant.same c.copy_windows.ensures.same c.copy_windows-2.ensures.same ∙ c.other.view_is
