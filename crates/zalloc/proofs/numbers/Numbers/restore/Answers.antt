use Rattle.std.proofs.Common.{◌∙◌, false, length, sym, ap, arith}
use Rattle.std.proofs.lemmas.List.{length-replicate}
use Rattle.zalloc.specs.Numbers.{NumberStates}
use Rattle.zalloc.proofs.Pairing.{same_but}
use Rattle.zalloc.proofs.numbers.Numbers.restore.Goals as goal

pub catch_up-requires-clause-len : goal.catch_up-requires-clause-len
catch_up-requires-clause-len c = sym c.self.invariant.len

pub catch_up-requires-clause-flags : goal.catch_up-requires-clause-flags
catch_up-requires-clause-flags c = c.self.invariant.flags

pub catch_up-requires-clause-same : goal.catch_up-requires-clause-same
catch_up-requires-clause-same c = c.self.invariant.same

pub invariant_of-self : goal.invariant_of-self
invariant_of-self c =
    let m = c.self.inside in
    let n = ap length c.catch_up.ensures in
    record {
      len = sym n;
      flags = omega (arith, ap length c.clear.ensures, length-replicate (length m.touched) false, n, c.self.invariant.len, c.self.invariant.flags);
      same = same_but c.clear.new.self c.catch_up.new.self m.synced c.catch_up.ensures;
      none_waits = c.self.invariant.none_waits;
    }

pub returns-clause-present : goal.returns-clause-present
returns-clause-present c = c.catch_up.ensures ∙ ap (λ (s : NumberStates). s.synced) c.self.view_is

pub returns-clause-synced : goal.returns-clause-synced
returns-clause-synced c = ap (λ (s : NumberStates). s.synced) c.self.view_is
