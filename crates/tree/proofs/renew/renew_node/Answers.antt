use Rattle.std.proofs.Common.{◌≡◌, ◌+◌, suc, ◌*◌, ◌-◌, ◌^◌, ◌≤◌, [], Some, None, get_or, length, refl, sym, ap, subst, ◌∙◌, arith, Option, Result, Ok, Err, List}
use Rattle.std.specs.Prelude.{OnErr}
use Rattle.base.specs.Counting.{counted}
use Rattle.base.specs.declared.number.Dead.{Dead}
use Rattle.node.specs.Entries.{key_at}
use Rattle.node.specs.Node.{inner_part, shared_part}
use Rattle.node.specs.Pairs.{places_in}
use Rattle.batch.specs.Said.{said}
use Rattle.node.specs.Shape.{Part, Forest, forest_of}
use Rattle.batch.specs.Touch.{touched, dropped}
use Rattle.batch.specs.Build.{made_keys, number_of, HasKeys, no_block}
use Rattle.batch.proofs.KidLaws.{kid_sound}
use Rattle.node.proofs.Places.{kids_of, length-places}
use Rattle.batch.proofs.MadeLaws.{key_place}
use Rattle.batch.proofs.TouchLaws.{key_fits, kid_span, dropped_down}
use Rattle.batch.proofs.OneLeaf.{place_at, keys_below, kid_touched, own_key, all_passed, dropped_below, node_same, node_renewed}
use Rattle.tree.proofs.Metering.{node_counted, more_made}
use Rattle.tree.proofs.renew.renew_node.Goals as goal

on_err : {T E : Type 0} (r : Result T E) {P : Type 0} → P → OnErr r P
on_err (Ok x) p = tt
on_err (Err e) p = p

pub overflow_mul-index : goal.overflow_mul-index
overflow_mul-index g c = let b = key_fits c.args.level c.args.index c.requires.within in omega (arith, b)

pub overflow_add-index : goal.overflow_add-index
overflow_add-index g c = let b = key_fits c.args.level c.args.index c.requires.within in omega (arith, b, c.requires.way.few)

pub renew_kid-requires : goal.renew_kid-requires
renew_kid-requires g c =
    let h = g.C.Level.height in
    let f = shared_part g.C.Level.part in
    let o = inner_part g.C.Level.part c.args.node.now in
    let kids = places_in c.args.node.now.kids in
    let way = c.requires.way in
    let p = c.args.way.place in
    let w = c.args.way.writes in
    let s = said c.args.updates.now in
    let wide : length kids ≡ 16 = sym (length-places f kids) ∙ (kids_of h o.cell.birth (Some o) c.requires.sound).0 in
    let here = place_at f kids p None (omega (arith, c.requires.way.few, wide)) in
    let span = kid_span c.args.level h c.args.index c.requires.level c.requires.within in
    let within = (Rattle.batch.proofs.KidLaws.kid_within (16 * c.args.index) p (16 ^ (c.args.level - 1)) c.requires.way.few span).1 in
    let sound = kid_sound h o.cell.birth p (Some o) _ c.requires.sound (sym here) in
    let changed = ap (touched s h (16 * c.args.index + p)) (sym here) ∙ kid_touched s h o.cell.birth c.args.index p w way (Some o) c.requires.sound c.requires.touched in
    let keys =
    subst (λ (x : Option Part). HasKeys c.args.made.now c.args.next (made_keys s h (16 * c.args.index + p) x)) here
    (keys_below s h o.cell.birth c.args.index p w way (Some o) c.requires.sound c.args.made.now c.args.next c.requires.keys) in
    (omega arith, (way.few, (omega (arith, c.requires.level), (within, (omega (arith, c.requires.low), (c.requires.order, (sound, (changed, (keys, c.requires.once)))))))))

pub returns-in_err-at-clause-same : goal.returns-in_err-at-clause-same
returns-in_err-at-clause-same g c =
    let f = shared_part g.C.Level.part in
    let node = c.args.node.now in
    let p = c.args.way.place in
    let kids = places_in node.kids in
    let new = get_or (places_in c.renew_kid.new.kids) p None in
    let below = ap (forest_of f) c.in_err-at.ensures.beside ∙ node_same f kids p new None c.in_err-at.ensures.same in
    let e : inner_part g.C.Level.part (record { block = node.block; birth = node.birth; kids = c.renew_kid.new.kids }) ≡ inner_part g.C.Level.part node =
    ap (λ (below : Forest). record { cell = record { number = node.block.0; birth = node.birth.0; bytes = [] }; below = below }) below in
    on_err c.from_residual.result e

pub number_at-after-requires : goal.number_at-after-requires
number_at-after-requires g c =
    let h = g.C.Level.height in
    let f = shared_part g.C.Level.part in
    let o = inner_part g.C.Level.part c.args.node.now in
    let kids = places_in c.args.node.now.kids in
    let way = c.requires.way in
    let w = c.args.way.writes in
    let s = said c.args.updates.now in
    let wide : length kids ≡ 16 = sym (length-places f kids) ∙ (kids_of h o.cell.birth (Some o) c.requires.sound).0 in
    let here = place_at f kids c.args.way.place None (omega (arith, c.requires.way.few, wide)) in
    let key = own_key s h o.cell.birth c.args.index c.args.way.place w way (Some o) c.requires.sound c.requires.touched c.requires.stays c.args.made.now c.args.next c.in_ok-at.at _ here c.in_ok-at.ensures.next c.requires.keys in
    let place = key_place c.args.made.now c.in_ok-at.at (key_at (suc h) c.args.index) [] no_block c.requires.once key in
    place.0

pub returns-clause-part : goal.returns-clause-part
returns-clause-part g c =
    let h = g.C.Level.height in
    let f = shared_part g.C.Level.part in
    let o = inner_part g.C.Level.part c.args.node.now in
    let kids = places_in c.args.node.now.kids in
    let way = c.requires.way in
    let w = c.args.way.writes in
    let s = said c.args.updates.now in
    let wide : length kids ≡ 16 = sym (length-places f kids) ∙ (kids_of h o.cell.birth (Some o) c.requires.sound).0 in
    let here = place_at f kids c.args.way.place None (omega (arith, c.requires.way.few, wide)) in
    let key = own_key s h o.cell.birth c.args.index c.args.way.place w way (Some o) c.requires.sound c.requires.touched c.requires.stays c.args.made.now c.args.next c.in_ok-at.at _ here c.in_ok-at.ensures.next c.requires.keys in
    let place = key_place c.args.made.now c.in_ok-at.at (key_at (suc h) c.args.index) [] no_block c.requires.once key in
    let new = get_or (places_in c.renew_kid.new.kids) c.args.way.place None in
    ap (λ xs. Some (record { cell = record { number = c.number_at-after.result.0.0; birth = c.args.group.0; bytes = [] }; below = forest_of f xs })) c.in_ok-at.ensures.beside
    ∙ node_renewed s h o.cell.birth c.args.index c.args.way.place w way c.args.group.0 c.number_at-after.result.0.0 (number_of c.args.made.now) f o kids new None c.requires.sound c.requires.touched c.requires.stays refl wide c.in_ok-at.ensures.part (ap (λ b. b.0) c.number_at-after.ensures.number ∙ place.1)

pub returns-clause-next : goal.returns-clause-next
returns-clause-next g c =
    let h = g.C.Level.height in
    let f = shared_part g.C.Level.part in
    let o = inner_part g.C.Level.part c.args.node.now in
    let kids = places_in c.args.node.now.kids in
    let way = c.requires.way in
    let w = c.args.way.writes in
    let s = said c.args.updates.now in
    let wide : length kids ≡ 16 = sym (length-places f kids) ∙ (kids_of h o.cell.birth (Some o) c.requires.sound).0 in
    let here = place_at f kids c.args.way.place None (omega (arith, c.requires.way.few, wide)) in
    c.number_at-after.ensures.next ∙ all_passed s h o.cell.birth c.args.index c.args.way.place w way (Some o) c.requires.sound c.requires.touched c.requires.stays c.args.made.now c.args.next c.in_ok-at.at _ here c.in_ok-at.ensures.next

pub returns-clause-metered : goal.returns-clause-metered
returns-clause-metered g c =
    let h = g.C.Level.height in
    let f = shared_part g.C.Level.part in
    let o = inner_part g.C.Level.part c.args.node.now in
    let kids = places_in c.args.node.now.kids in
    let way = c.requires.way in
    let p = c.args.way.place in
    let w = c.args.way.writes in
    let s = said c.args.updates.now in
    let wide : length kids ≡ 16 = sym (length-places f kids) ∙ (kids_of h o.cell.birth (Some o) c.requires.sound).0 in
    let here = place_at f kids p None (omega (arith, c.requires.way.few, wide)) in
    let below = dropped_below s h o.cell.birth c.args.index p w way (Some o) c.requires.sound 0 ∙ ap (dropped s 0 h (16 * c.args.index + p)) here in
    node_counted _ _ _ _ 0 (Some o) _ _ (dropped_down s 0 h c.args.index (Some o)) c.reach.ensures.metered
    (subst (λ (ds : List Dead). counted c.reach.new.meter (length ds) ≤ c.renew_kid.new.meter) (sym below) c.in_ok-at.ensures.metered)

pub returns-clause-metered_made : goal.returns-clause-metered_made
returns-clause-metered_made g c = more_made _ _ _ _ _ _ c.reach.ensures.metered c.in_ok-at.ensures.metered_made (omega (arith, c.number_at-after.ensures.next))
