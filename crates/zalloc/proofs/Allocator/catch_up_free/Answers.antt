use Rattle.std.proofs.Common.{◌≡◌, List, length, arith, ap, sym, ◌∙◌, subst}
use Rattle.std.specs.Prelude.{count_by}
use Rattle.zalloc.specs.declared.BlockState.{BlockState}
use Rattle.zalloc.specs.States.{is_free, is_waiting}
use Rattle.zalloc.specs.Allocator.{states_from}
use Rattle.zalloc.specs.Paired.{AreSameBut, NoneWaits}
use Rattle.zalloc.proofs.States.{states_len}
use Rattle.zalloc.proofs.Pairing.{free_but, copied_states, not_waiting, none_held, none_counted}
use Rattle.zalloc.proofs.Allocator.catch_up_free.Goals as goal

pub copy_windows-requires-clause-numbers : goal.copy_windows-requires-clause-numbers
copy_windows-requires-clause-numbers c = omega (arith, c.requires.len, ap length c.self.view_is, ap length c.other.view_is, states_len c.self.inside.free c.self.inside.waiting, states_len c.other.inside.free c.other.inside.waiting)

pub copy_windows-requires-clause-within : goal.copy_windows-requires-clause-within
copy_windows-requires-clause-within c = λ i h. omega (arith, c.noted.ensures.within i h, c.requires.flags, ap length c.self.view_is, states_len c.self.inside.free c.self.inside.waiting)

pub copy_windows-requires-clause-same : goal.copy_windows-requires-clause-same
copy_windows-requires-clause-same c =
    let x = c.self.inside.free in
    let y = c.self.inside.waiting in
    let v = c.other.inside.free in
    let w = c.other.inside.waiting in
    let n : v.numbers ≡ x.numbers = omega (arith, c.requires.len, ap length c.self.view_is, ap length c.other.view_is, states_len x y, states_len v w) in
    free_but x y v w c.args.touched.now c.noted.result.now n c.self.invariant.apart c.other.invariant.apart
    (subst (λ (z : List BlockState × List BlockState). AreSameBut c.args.touched.now z.0 z.1) (λ i. (sym c.self.view_is i, sym c.other.view_is i)) c.requires.same)
    c.noted.ensures.all

pub invariant_of-self : goal.invariant_of-self
invariant_of-self c =
    let x = c.self.inside.free in
    let y = c.self.inside.waiting in
    let v = c.other.inside.free in
    let w = c.other.inside.waiting in
    let i = c.self.invariant in
    let j = c.other.invariant in
    let f = c.copy_windows.ensures in
    let n : v.numbers ≡ x.numbers = omega (arith, c.requires.len, ap length c.self.view_is, ap length c.other.view_is, states_len x y, states_len v w) in
    let none = subst NoneWaits (sym c.self.view_is) c.requires.none in
    let there = subst NoneWaits (sym c.other.view_is) c.requires.none_there in
    let t = copied_states v w c.copy_windows.new.self y j.same f.same (none_held x y v w n i.same j.same i.apart j.apart none there) in
    record {
      free = f.kept;
      waiting = i.waiting;
      same = i.same ∙ sym n ∙ sym f.same.numbers;
      apart = λ k h e. not_waiting x y i.apart none k (omega (arith, h, n, f.same.numbers));
      free_count = j.free_count ∙ sym (ap (count_by is_free) t);
      waiting_count = i.waiting_count ∙ none_counted (states_from x y) none ∙ sym (ap (count_by is_waiting) t ∙ none_counted (states_from v w) there);
    }

pub returns : goal.returns
returns c =
    let x = c.self.inside.free in
    let y = c.self.inside.waiting in
    let v = c.other.inside.free in
    let w = c.other.inside.waiting in
    let i = c.self.invariant in
    let j = c.other.invariant in
    let n : v.numbers ≡ x.numbers = omega (arith, c.requires.len, ap length c.self.view_is, ap length c.other.view_is, states_len x y, states_len v w) in
    let none = subst NoneWaits (sym c.self.view_is) c.requires.none in
    let there = subst NoneWaits (sym c.other.view_is) c.requires.none_there in
    copied_states v w c.copy_windows.new.self y j.same c.copy_windows.ensures.same (none_held x y v w n i.same j.same i.apart j.apart none there) ∙ c.other.view_is
