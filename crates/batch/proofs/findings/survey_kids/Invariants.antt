use Rattle.std.proofs.Common.{◌≡◌, ℕ, ◌+◌, ◌-◌, ◌*◌, ◌^◌, ◌<◌, ◌≤◌, ◌++◌, length, take}
use Rattle.std.specs.Prelude.{◌||◌}
use Rattle.base.specs.Counting.{counted}
use Rattle.node.specs.Kid.{places_of}
use Rattle.node.specs.Node.{inner_part, part_of_node}
use Rattle.batch.specs.Said.{said, AreInOrder}
use Rattle.batch.specs.Touch.{any_kid, later_first, touched, stays, claims, released, dropped}
use Rattle.batch.proofs.findings.survey_kids.Given as goal

abbrev pub invariant-loop-back : goal.invariant-loop-back
invariant-loop-back g l =
    let h = g.C.Level.height in
    let os = places_of (part_of_node (inner_part g.C.Level.part) l.fn.old) in
    let s = said l.fn.updates in
    record {
      order : AreInOrder l.halves.1.now;
      same : (n : ℕ) → n < (l.fn.first + (16 - l.back)) * 16 ^ h → said l.halves.1.now n ≡ s n;
      touched : (l.touched || any_kid (touched s h) l.fn.first (take (16 - l.back) os)) ≡ any_kid (touched s h) l.fn.first os;
      stays : (l.stays || any_kid (stays s h) l.fn.first (take (16 - l.back) os)) ≡ any_kid (stays s h) l.fn.first os;
      claims : l.findings.claims.items ++ later_first (claims s l.fn.young.0 h) l.fn.first (take (16 - l.back) os) ≡ l.fn.findings.claims.items ++ later_first (claims s l.fn.young.0 h) l.fn.first os;
      released : l.findings.released.items ++ later_first (released s l.fn.young.0 h) l.fn.first (take (16 - l.back) os) ≡ l.fn.findings.released.items ++ later_first (released s l.fn.young.0 h) l.fn.first os;
      metered : counted l.fn.meter (length (later_first (dropped s l.fn.young.0 h) l.fn.first os)) ≤ counted l.meter (length (later_first (dropped s l.fn.young.0 h) l.fn.first (take (16 - l.back) os)));
      never_lower : l.fn.meter ≤ l.meter;
    }
