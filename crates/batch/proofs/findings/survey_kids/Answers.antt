-- The places are surveyed from the last to the first.
use Rattle.std.proofs.Common.{◌≡◌, ◌+◌, ◌-◌, ◌^◌, ◌<◌, ◌++◌, None, get_or, take, refl, sym, ap, ◌∙◌, arith, append-nil}
use Rattle.std.proofs.lemmas.List.{take_all}
use Rattle.node.specs.Kid.{birth_of, places_of}
use Rattle.node.specs.Node.{inner_part, part_of_node}
use Rattle.batch.specs.Said.{said}
use Rattle.batch.specs.Touch.{any_kid, later_first, touched, stays, claims, released, dropped}
use Rattle.batch.proofs.KidLaws.{or_false, kid_sound}
use Rattle.batch.proofs.TouchLaws.{touched_same, stays_same, claims_same, released_same, dropped_same, kid_words, any_back, later_back}
use Rattle.batch.proofs.Metering.{meter_back, meter_end}
use Rattle.batch.proofs.findings.survey_kids.Goals as goal

pub loop-back-init : goal.loop-back-init
loop-back-init g c =
    let h = g.C.Level.height in
    let os = places_of (part_of_node (inner_part g.C.Level.part) c.args.old) in
    let s = said c.args.updates.now in
    let all : take 16 os ≡ os = take_all 16 os (omega (arith, c.place_count-back-end.ensures.all)) in
    record {
      order = c.requires.order;
      same = λ n l. refl;
      touched = ap (any_kid (touched s h) c.args.first) all;
      stays = ap (any_kid (stays s h) c.args.first) all;
      claims = ap (λ xs. c.args.findings.now.claims.items ++ later_first (claims s c.args.young.0 h) c.args.first xs) all;
      released = ap (λ xs. c.args.findings.now.released.items ++ later_first (released s c.args.young.0 h) c.args.first xs) all;
      metered = rw all (omega arith);
      never_lower = omega arith;
    }

pub overflow_add-index : goal.overflow_add-index
overflow_add-index g c =
    let p = Rattle.node.proofs.Order.span_positive c.args.level in
    let m = Rattle.std.proofs.Math.Nat.mul-le-mul_left {m = 1} {n = 16 ^ c.args.level} (c.args.first + 16) p in
    let w = c.requires.within in
    omega (arith, w, m)

pub split_at_leaf-halves-requires : goal.split_at_leaf-halves-requires
split_at_leaf-halves-requires g c = c.loop-back.invariant.order

pub survey-requires-clause-sound : goal.survey-requires-clause-sound
survey-requires-clause-sound g c =
    let old = part_of_node (inner_part g.C.Level.part) c.args.old in
    kid_sound g.C.Level.height (birth_of old) (15 - c.loop-back.back) old _ c.requires.sound c.kid_at-kid.ensures

pub loop-back-preserved : goal.loop-back-preserved
loop-back-preserved g c =
    let h = g.C.Level.height in
    let old = part_of_node (inner_part g.C.Level.part) c.args.old in
    let os = places_of old in
    let back = c.loop-back.back in
    let first = c.args.first in
    let y = c.args.young.0 in
    let s = said c.args.updates.now in
    let mine = said c.split_at_leaf-halves.result.0.now in
    let kid = part_of_node g.C.Level.part c.kid_at-kid.result in
    let few : back < 16 = omega (arith, c.loop-back-test.true, c.place_count-back-end.ensures.sixteen) in
    let at : kid ≡ get_or os (15 - back) None = c.kid_at-kid.ensures in
    let sound = kid_sound h (birth_of old) (15 - back) old kid c.requires.sound at in
    let span : c.span-span.result ≡ 16 ^ h = c.span-span.ensures ∙ ap (λ n. 16 ^ n) (c.from.ensures ∙ c.requires.level) in
    let words = kid_words c.loop-back.halves.1.now c.split_at_leaf-halves.result.0.now c.split_at_leaf-halves.result.1.now c.args.updates.now first back c.span-span.result h few span c.split_at_leaf-halves.ensures.after c.split_at_leaf-halves.ensures.before c.loop-back.invariant.same in
    let n = c.place_count-back-end.ensures.all in
    let i = first + (15 - back) in
    let inv = c.loop-back.invariant in
    let given = c.in_ok-fate.ensures in
    record {
      order = c.split_at_leaf-halves.ensures.before_order;
      same = words.1;
      touched = any_back (touched s h) (touched mine h) first back os kid _ _ _ few n at inv.touched given.touched (touched_same mine s h i _ kid sound words.0);
      stays = any_back (stays s h) (stays mine h) first back os kid _ _ _ few n at inv.stays given.stays (stays_same mine s h i _ kid sound words.0);
      claims = later_back (claims s y h) (claims mine y h) first back os kid _ _ _ few n at inv.claims given.claims (claims_same mine s y h i _ kid sound words.0);
      released = later_back (released s y h) (released mine y h) first back os kid _ _ _ few n at inv.released given.released (released_same mine s y h i _ kid sound words.0);
      metered = meter_back (dropped s y h) (dropped mine y h) first back os kid _ _ _ _ few n at inv.metered given.metered (dropped_same mine s y h i _ kid sound words.0);
      never_lower = omega (arith, inv.never_lower, given.never_lower);
    }

pub returns-clause-touched : goal.returns-clause-touched
returns-clause-touched g c =
    let z : 16 - c.loop-back.back ≡ 0 = omega (arith, c.loop-back-test.false, c.place_count-back-end.ensures.sixteen) in
    sym (or_false c.loop-back.touched) ∙ rw z at c.loop-back.invariant.touched

pub returns-clause-stays : goal.returns-clause-stays
returns-clause-stays g c =
    let z : 16 - c.loop-back.back ≡ 0 = omega (arith, c.loop-back-test.false, c.place_count-back-end.ensures.sixteen) in
    sym (or_false c.loop-back.stays) ∙ rw z at c.loop-back.invariant.stays

pub returns-clause-claims : goal.returns-clause-claims
returns-clause-claims g c =
    let z : 16 - c.loop-back.back ≡ 0 = omega (arith, c.loop-back-test.false, c.place_count-back-end.ensures.sixteen) in
    sym (append-nil c.loop-back.findings.claims.items) ∙ rw z at c.loop-back.invariant.claims

pub returns-clause-released : goal.returns-clause-released
returns-clause-released g c =
    let z : 16 - c.loop-back.back ≡ 0 = omega (arith, c.loop-back-test.false, c.place_count-back-end.ensures.sixteen) in
    sym (append-nil c.loop-back.findings.released.items) ∙ rw z at c.loop-back.invariant.released

pub returns-clause-metered : goal.returns-clause-metered
returns-clause-metered g c =
    let z : 16 - c.loop-back.back ≡ 0 = omega (arith, c.loop-back-test.false, c.place_count-back-end.ensures.sixteen) in
    meter_end _ _ 0 _ refl (rw z at c.loop-back.invariant.metered)
