use Rattle.std.proofs.Common.{◌≡◌, ℕ, ◌+◌, ◌-◌, ◌*◌, ◌^◌, ◌<◌, ◌≤◌, take, drop, map, length}
use Rattle.std.specs.Prelude.{◌||◌}
use Rattle.base.specs.Counting.{counted}
use Rattle.node.specs.Kid.{places_of}
use Rattle.node.specs.Node.{inner_part, part_of_owner, part_of_slot}
use Rattle.node.specs.Pairs.{places_in}
use Rattle.batch.specs.Said.{said, AreInOrder}
use Rattle.batch.specs.Touch.{any_kid, later_first, touched, stays, dropped}
use Rattle.batch.specs.Build.{made_keys, parts, rebuilt, number_of, HasKeys}
use Rattle.tree.proofs.build.build_kids.Given as goal

abbrev pub invariant-loop-back : goal.invariant-loop-back
invariant-loop-back g l =
    let h = g.C.Level.height in
    let os = places_of (part_of_owner (inner_part g.C.Level.part) l.fn.old) in
    let s = said l.fn.updates in
    record {
      order : AreInOrder l.halves.1.now;
      same : (n : ℕ) → n < (l.fn.first + (16 - l.back)) * 16 ^ h → said l.halves.1.now n ≡ s n;
      touched : (l.any_touched || any_kid (touched s h) l.fn.first (take (16 - l.back) os)) ≡ any_kid (touched s h) l.fn.first os;
      stays : (l.any_stays || any_kid (stays s h) l.fn.first (take (16 - l.back) os)) ≡ any_kid (stays s h) l.fn.first os;
      next : l.at + length (later_first (made_keys s h) l.fn.first (take (16 - l.back) os)) ≡ l.fn.next + length (later_first (made_keys s h) l.fn.first os);
      keys : HasKeys l.fn.made l.at (later_first (made_keys s h) l.fn.first (take (16 - l.back) os));
      metered : counted l.fn.meter (length (later_first (dropped s 0 h) l.fn.first os)) ≤ counted l.meter (length (later_first (dropped s 0 h) l.fn.first (take (16 - l.back) os)));
      metered_made : counted l.fn.meter (l.at - l.fn.next) ≤ l.meter;
      never_lower : l.fn.meter ≤ l.meter;
      sixteen : length (places_in l.kids) ≡ 16;
      parts : drop (16 - l.back) (map (part_of_slot g.C.Level.part) (places_in l.kids)) ≡ drop (16 - l.back) (parts (rebuilt s (number_of l.fn.made) l.fn.group.0 h) l.fn.first os);
    }
