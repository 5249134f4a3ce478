use Rattle.std.proofs.Common.{◌∙◌, false, List, length, map, sym, ap, arith, subst}
use Rattle.std.proofs.lemmas.List.{length-map, length-replicate}
use Rattle.zalloc.specs.declared.BlockState.{BlockState}
use Rattle.zalloc.specs.States.{after_group}
use Rattle.zalloc.specs.Numbers.{NumberStates}
use Rattle.zalloc.specs.Paired.{AreSameBut, NoneWaits}
use Rattle.zalloc.proofs.Pairing.{ended_step, same_but, none_after}
use Rattle.zalloc.proofs.numbers.Numbers.end_group.Goals as goal

pub catch_up_free-requires-clause-len : goal.catch_up_free-requires-clause-len
catch_up_free-requires-clause-len c =
    let m = c.self.inside in
    omega (arith, c.self.invariant.len, ap length c.end_group.ensures, length-map m.present after_group)

pub catch_up_free-requires-clause-flags : goal.catch_up_free-requires-clause-flags
catch_up_free-requires-clause-flags c = omega (arith, c.self.invariant.len, c.self.invariant.flags)

pub catch_up_free-requires-clause-same : goal.catch_up_free-requires-clause-same
catch_up_free-requires-clause-same c =
    let m = c.self.inside in
    subst (λ (z : List BlockState). AreSameBut m.touched m.synced z) (sym c.end_group.ensures) (ended_step m.touched m.present m.synced c.self.invariant.none_waits c.self.invariant.same)

pub catch_up_free-requires-clause-none : goal.catch_up_free-requires-clause-none
catch_up_free-requires-clause-none c = c.self.invariant.none_waits

pub catch_up_free-requires-clause-none_there : goal.catch_up_free-requires-clause-none_there
catch_up_free-requires-clause-none_there c = subst NoneWaits (sym c.end_group.ensures) (none_after c.self.inside.present)

pub catch_up_free-requires-2-clause-none_there : goal.catch_up_free-requires-2-clause-none_there
catch_up_free-requires-2-clause-none_there c = subst NoneWaits (sym c.end_group.ensures) (none_after c.self.inside.present)

pub invariant_of-self : goal.invariant_of-self
invariant_of-self c =
    let m = c.self.inside in
    let n = ap length c.end_group.ensures ∙ length-map m.present after_group in
    record {
      len = ap length c.catch_up_free.ensures;
      flags = omega (arith, ap length c.clear.ensures, length-replicate (length m.touched) false, n, c.self.invariant.flags);
      same = same_but c.clear.new.self c.end_group.new.self c.catch_up_free.new.self (sym c.catch_up_free.ensures);
      none_waits = subst NoneWaits (sym (c.catch_up_free.ensures ∙ c.end_group.ensures)) (none_after m.present);
    }

pub returns-clause-present : goal.returns-clause-present
returns-clause-present c = c.end_group.ensures ∙ ap (λ (s : NumberStates). map after_group s.present) c.self.view_is

pub returns-clause-synced : goal.returns-clause-synced
returns-clause-synced c = c.catch_up_free.ensures ∙ c.end_group.ensures ∙ ap (λ (s : NumberStates). map after_group s.present) c.self.view_is
