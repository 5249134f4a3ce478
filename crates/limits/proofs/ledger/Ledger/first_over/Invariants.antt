use Rattle.std.proofs.Common.{◌≡◌, true, take}
use Rattle.std.specs.List.{list_all}
use Rattle.limits.specs.Lines.{is_in_quota, is_in_refquota}
use Rattle.limits.proofs.ledger.Ledger.first_over.Given as goal

-- no quota was broken so far, and whether a refquota was
abbrev pub invariant-loop-line : goal.invariant-loop-line
invariant-loop-line l = record {
  quotas : list_all is_in_quota (take l.line-index l.line-items) ≡ true;
  refquotas : l.are_in_refquotas ≡ list_all is_in_refquota (take l.line-index l.line-items);
}
