-- The places are made from the last to the first.
use Rattle.std.proofs.Common.{◌≡◌, ◌+◌, ◌-◌, ◌^◌, ◌<◌, None, get_or, length, take, drop, map, refl, sym, ap, subst, ◌∙◌, arith, length-set}
use Rattle.std.proofs.lemmas.List.{take_all}
use Rattle.node.specs.Kid.{birth_of, places_of}
use Rattle.node.specs.Node.{inner_part, shared_part, part_of_owner, part_of_slot}
use Rattle.node.specs.Pairs.{places_in}
use Rattle.batch.specs.Said.{said}
use Rattle.batch.specs.Touch.{any_kid, later_first, touched, stays, dropped}
use Rattle.batch.specs.Build.{made_keys, parts, rebuilt, number_of, HasKeys}
use Rattle.batch.proofs.KidLaws.{or_false, kid_sound, length-parts}
use Rattle.batch.proofs.TouchLaws.{touched_same, stays_same, made_same, dropped_same, rebuilt_same, kid_words, any_back}
use Rattle.batch.proofs.MadeLaws.{keys_here, keys_rest, next_back, parts_back}
use Rattle.batch.proofs.Lists.{drop_past}
use Rattle.batch.proofs.Metering.{meter_back, meter_end}
use Rattle.tree.proofs.Metering.{none_made, made_in_turn}
use Rattle.tree.proofs.build.build_kids.Goals as goal

pub loop-back-init : goal.loop-back-init
loop-back-init g c =
    let h = g.C.Level.height in
    let os = places_of (part_of_owner (inner_part g.C.Level.part) c.args.old) in
    let s = said c.args.updates.now in
    let all : take 16 os ≡ os = take_all 16 os (omega (arith, c.owner_count-back-end.ensures.all)) in
    record {
      order = c.requires.order;
      same = λ n l. refl;
      touched = ap (any_kid (touched s h) c.args.first) all;
      stays = ap (any_kid (stays s h) c.args.first) all;
      next = ap (λ xs. c.args.next + length (later_first (made_keys s h) c.args.first xs)) all;
      keys = subst (λ xs. HasKeys c.args.made.now c.args.next (later_first (made_keys s h) c.args.first xs)) (sym all) c.requires.keys;
      metered = rw all (omega arith);
      metered_made = none_made _ _;
      never_lower = omega arith;
      sixteen = ap length c.no_kids-kids.ensures;
      parts = ap (λ xs. drop 16 (map (part_of_slot g.C.Level.part) xs)) c.no_kids-kids.ensures ∙ sym (drop_past 16 (parts (rebuilt s (number_of c.args.made.now) c.args.group.0 h) c.args.first os) (let n = length-parts (rebuilt s (number_of c.args.made.now) c.args.group.0 h) c.args.first os in omega (arith, n, c.owner_count-back-end.ensures.all)));
    }

pub overflow_add-index : goal.overflow_add-index
overflow_add-index g c =
    let p = Rattle.node.proofs.Order.span_positive c.args.level in
    let m = Rattle.std.proofs.Math.Nat.mul-le-mul_left {m = 1} {n = 16 ^ c.args.level} (c.args.first + 16) p in
    let w = c.requires.within in
    omega (arith, w, m)

pub split_at_leaf-halves-requires : goal.split_at_leaf-halves-requires
split_at_leaf-halves-requires g c = c.loop-back.invariant.order

pub build_kid-requires-clause-sound : goal.build_kid-requires-clause-sound
build_kid-requires-clause-sound g c =
    let old = part_of_owner (inner_part g.C.Level.part) c.args.old in
    kid_sound g.C.Level.height (birth_of old) (15 - c.loop-back.back) old _ c.requires.sound c.owner_at-kid.ensures

pub build_kid-requires-clause-keys : goal.build_kid-requires-clause-keys
build_kid-requires-clause-keys g c =
    let h = g.C.Level.height in
    let old = part_of_owner (inner_part g.C.Level.part) c.args.old in
    let os = places_of old in
    let back = c.loop-back.back in
    let first = c.args.first in
    let s = said c.args.updates.now in
    let mine = said c.split_at_leaf-halves.result.0.now in
    let kid = part_of_owner g.C.Level.part c.owner_at-kid.result in
    let few : back < 16 = omega (arith, c.loop-back-test.true, c.owner_count-back-end.ensures.sixteen) in
    let at : kid ≡ get_or os (15 - back) None = c.owner_at-kid.ensures in
    let sound = kid_sound h (birth_of old) (15 - back) old kid c.requires.sound at in
    let span : c.span-span.result ≡ 16 ^ h = c.span-span.ensures ∙ ap (λ n. 16 ^ n) (c.from.ensures ∙ c.requires.level) in
    let words = kid_words c.loop-back.halves.1.now c.split_at_leaf-halves.result.0.now c.split_at_leaf-halves.result.1.now c.args.updates.now first back c.span-span.result h few span c.split_at_leaf-halves.ensures.after c.split_at_leaf-halves.ensures.before c.loop-back.invariant.same in
    keys_here (made_keys s h) (made_keys mine h) first back os kid c.args.made.now c.loop-back.at few c.owner_count-back-end.ensures.all at c.loop-back.invariant.keys (made_same mine s h (first + (15 - back)) _ kid sound words.0)

pub loop-back-preserved : goal.loop-back-preserved
loop-back-preserved g c =
    let h = g.C.Level.height in
    let old = part_of_owner (inner_part g.C.Level.part) c.args.old in
    let os = places_of old in
    let back = c.loop-back.back in
    let first = c.args.first in
    let s = said c.args.updates.now in
    let number = number_of c.args.made.now in
    let b = c.args.group.0 in
    let mine = said c.split_at_leaf-halves.result.0.now in
    let kid = part_of_owner g.C.Level.part c.owner_at-kid.result in
    let few : back < 16 = omega (arith, c.loop-back-test.true, c.owner_count-back-end.ensures.sixteen) in
    let at : kid ≡ get_or os (15 - back) None = c.owner_at-kid.ensures in
    let sound = kid_sound h (birth_of old) (15 - back) old kid c.requires.sound at in
    let span : c.span-span.result ≡ 16 ^ h = c.span-span.ensures ∙ ap (λ n. 16 ^ n) (c.from.ensures ∙ c.requires.level) in
    let words = kid_words c.loop-back.halves.1.now c.split_at_leaf-halves.result.0.now c.split_at_leaf-halves.result.1.now c.args.updates.now first back c.span-span.result h few span c.split_at_leaf-halves.ensures.after c.split_at_leaf-halves.ensures.before c.loop-back.invariant.same in
    let n = c.owner_count-back-end.ensures.all in
    let i = first + (15 - back) in
    let inv = c.loop-back.invariant in
    let given = c.in_ok-built.ensures in
    let made = made_same mine s h i _ kid sound words.0 in
    record {
      order = c.split_at_leaf-halves.ensures.before_order;
      same = words.1;
      touched = any_back (touched s h) (touched mine h) first back os kid _ _ _ few n at inv.touched given.touched (touched_same mine s h i _ kid sound words.0);
      stays = any_back (stays s h) (stays mine h) first back os kid _ _ _ few n at inv.stays given.stays (stays_same mine s h i _ kid sound words.0);
      next = next_back (made_keys s h) (made_keys mine h) first back os kid _ _ _ few n at inv.next given.next made;
      keys = keys_rest (made_keys s h) (made_keys mine h) first back os kid c.args.made.now _ _ few n at inv.keys given.next made;
      metered = meter_back (dropped s 0 h) (dropped mine 0 h) first back os kid _ _ _ _ few n at inv.metered given.metered (dropped_same mine s 0 h i _ kid sound words.0);
      metered_made = made_in_turn _ _ _ _ _ _ inv.metered_made given.metered_made;
      never_lower = omega (arith, inv.never_lower, given.never_lower);
      sixteen = ap length c.replace_kid.ensures.stands ∙ length-set (places_in c.loop-back.kids) (15 - back) c.in_ok-built.built.part ∙ inv.sixteen;
      parts = ap (λ xs. drop (16 - (back + 1)) (map (part_of_slot g.C.Level.part) xs)) c.replace_kid.ensures.stands ∙ parts_back (shared_part g.C.Level.part) (rebuilt s number b h) (rebuilt mine number b h) first back os kid _ _ few n at inv.sixteen inv.parts given.part (rebuilt_same mine s number b h i _ kid sound words.0);
    }

pub returns-clause-kids : goal.returns-clause-kids
returns-clause-kids g c =
    let z : 16 - c.loop-back.back ≡ 0 = omega (arith, c.loop-back-test.false, c.owner_count-back-end.ensures.sixteen) in
    rw z at c.loop-back.invariant.parts

pub returns-clause-touched : goal.returns-clause-touched
returns-clause-touched g c =
    let z : 16 - c.loop-back.back ≡ 0 = omega (arith, c.loop-back-test.false, c.owner_count-back-end.ensures.sixteen) in
    sym (or_false c.loop-back.any_touched) ∙ rw z at c.loop-back.invariant.touched

pub returns-clause-stays : goal.returns-clause-stays
returns-clause-stays g c =
    let z : 16 - c.loop-back.back ≡ 0 = omega (arith, c.loop-back-test.false, c.owner_count-back-end.ensures.sixteen) in
    sym (or_false c.loop-back.any_stays) ∙ rw z at c.loop-back.invariant.stays

pub returns-clause-next : goal.returns-clause-next
returns-clause-next g c =
    let z : 16 - c.loop-back.back ≡ 0 = omega (arith, c.loop-back-test.false, c.owner_count-back-end.ensures.sixteen) in
    let e : c.loop-back.at ≡ c.loop-back.at + 0 = omega arith in
    e ∙ rw z at c.loop-back.invariant.next

pub returns-clause-metered : goal.returns-clause-metered
returns-clause-metered g c =
    let z : 16 - c.loop-back.back ≡ 0 = omega (arith, c.loop-back-test.false, c.owner_count-back-end.ensures.sixteen) in
    meter_end _ _ 0 _ refl (rw z at c.loop-back.invariant.metered)
