-- What stands at the place, by its pair: first where it is, and then anew.
use Rattle.std.proofs.Common.{◌≡◌, ◌+◌, ◌/◌, ◌%◌, ◌<◌, ◌≤◌, length, get_or, Result, Ok, Err, sym, ap, subst, ◌∙◌, arith}
use Rattle.std.specs.Prelude.{OnErr, is_some}
use Rattle.std.specs.Option.{option_map}
use Rattle.base.specs.Counting.{counted}
use Rattle.node.specs.Kid.{IsSoundKid}
use Rattle.node.specs.Node.{shared_part}
use Rattle.node.specs.Pairs.{side_of}
use Rattle.node.proofs.Options.{if_some}
use Rattle.batch.specs.Said.{said}
use Rattle.batch.specs.Touch.{touched, dropped}
use Rattle.batch.specs.Build.{made_keys, rebuilt, number_of, HasKeys}
use Rattle.tree.proofs.Metering.{counted_later}
use Rattle.tree.proofs.Sides.{side_put, part_here, part_after, owner_after, part_put, beside_put}
use Rattle.tree.proofs.Staying.{if_none, on_some}
use Rattle.tree.proofs.renew.renew_kid.Goals as goal

on_err : {T E : Type 0} (r : Result T E) {P : Type 0} → P → OnErr r P
on_err (Ok x) p = tt
on_err (Err e) p = p

pub renew_side-requires-clause-sound : goal.renew_side-requires-clause-sound
renew_side-requires-clause-sound g c =
    let f = shared_part g.C.Level.part in
    let h = g.C.Level.height in
    let s = said c.args.updates.now in
    let kids = c.args.kids.now in
    let i = c.args.place in
    let d = c.index-kids-place.result in
    let w : i / 2 < length kids = omega (arith, c.told-kids, c.requires.place) in
    let here = part_here f kids i d w in
    subst (IsSoundKid h) here c.requires.sound

pub renew_side-requires-clause-touched : goal.renew_side-requires-clause-touched
renew_side-requires-clause-touched g c =
    let f = shared_part g.C.Level.part in
    let h = g.C.Level.height in
    let s = said c.args.updates.now in
    let kids = c.args.kids.now in
    let i = c.args.place in
    let d = c.index-kids-place.result in
    let w : i / 2 < length kids = omega (arith, c.told-kids, c.requires.place) in
    let here = part_here f kids i d w in
    ap (touched s h c.args.index) (sym here) ∙ c.requires.touched

pub renew_side-requires-clause-keys : goal.renew_side-requires-clause-keys
renew_side-requires-clause-keys g c =
    let f = shared_part g.C.Level.part in
    let h = g.C.Level.height in
    let s = said c.args.updates.now in
    let kids = c.args.kids.now in
    let i = c.args.place in
    let d = c.index-kids-place.result in
    let w : i / 2 < length kids = omega (arith, c.told-kids, c.requires.place) in
    let here = part_here f kids i d w in
    subst (λ x. HasKeys c.args.made.now c.args.next (made_keys s h c.args.index x)) here c.requires.keys

pub returns-in_err-renewed-clause-same : goal.returns-in_err-renewed-clause-same
returns-in_err-renewed-clause-same g c =
    let f = shared_part g.C.Level.part in
    let h = g.C.Level.height in
    let s = said c.args.updates.now in
    let kids = c.args.kids.now in
    let i = c.args.place in
    let d = c.index-kids-place.result in
    let w : i / 2 < length kids = omega (arith, c.told-kids, c.requires.place) in
    let here = part_here f kids i d w in
    let q = c.renew_side.new.pair in
    on_err c.from_residual.result (part_after f kids i d w q ∙ c.in_err-renewed.ensures.same ∙ sym here)

pub returns-in_err-renewed-clause-beside : goal.returns-in_err-renewed-clause-beside
returns-in_err-renewed-clause-beside g c =
    let f = shared_part g.C.Level.part in
    let h = g.C.Level.height in
    let s = said c.args.updates.now in
    let kids = c.args.kids.now in
    let i = c.args.place in
    let d = c.index-kids-place.result in
    let w : i / 2 < length kids = omega (arith, c.told-kids, c.requires.place) in
    let here = part_here f kids i d w in
    let q = c.renew_side.new.pair in
    side_put kids i d w q c.in_err-renewed.ensures.right c.in_err-renewed.ensures.left

pub returns-in-Some-clause-part : goal.returns-in-Some-clause-part
returns-in-Some-clause-part g c =
    let f = shared_part g.C.Level.part in
    let h = g.C.Level.height in
    let s = said c.args.updates.now in
    let kids = c.args.kids.now in
    let i = c.args.place in
    let d = c.index-kids-place.result in
    let w : i / 2 < length kids = omega (arith, c.told-kids, c.requires.place) in
    let here = part_here f kids i d w in
    let q = c.renew_side.new.pair in
    part_after f kids i d w q ∙ on_some _ _ _ c.in-Some.is c.in_ok-renewed.ensures.part ∙ ap (rebuilt s (number_of c.args.made.now) c.args.group.0 h c.args.index) (sym here)

pub returns-in-Some-clause-next : goal.returns-in-Some-clause-next
returns-in-Some-clause-next g c =
    let f = shared_part g.C.Level.part in
    let h = g.C.Level.height in
    let s = said c.args.updates.now in
    let kids = c.args.kids.now in
    let i = c.args.place in
    let d = c.index-kids-place.result in
    let w : i / 2 < length kids = omega (arith, c.told-kids, c.requires.place) in
    let here = part_here f kids i d w in
    let q = c.renew_side.new.pair in
    if_some (λ n. n ≡ c.args.next + length (made_keys s h c.args.index (option_map f (side_of (get_or kids (i / 2) d) (i % 2))))) _ _ c.in-Some.is c.in_ok-renewed.ensures.next ∙ ap (λ x. c.args.next + length (made_keys s h c.args.index x)) (sym here)

pub returns-in-Some-clause-metered : goal.returns-in-Some-clause-metered
returns-in-Some-clause-metered g c =
    let f = shared_part g.C.Level.part in
    let h = g.C.Level.height in
    let s = said c.args.updates.now in
    let kids = c.args.kids.now in
    let i = c.args.place in
    let d = c.index-kids-place.result in
    let w : i / 2 < length kids = omega (arith, c.told-kids, c.requires.place) in
    let here = part_here f kids i d w in
    let q = c.renew_side.new.pair in
    subst (λ x. counted c.args.meter.now (length (dropped s 0 h c.args.index x)) ≤ c.renew_side.new.meter) (sym here) (on_some _ _ _ c.in-Some.is c.in_ok-renewed.ensures.metered)

pub returns-in-Some-clause-beside : goal.returns-in-Some-clause-beside
returns-in-Some-clause-beside g c =
    let f = shared_part g.C.Level.part in
    let h = g.C.Level.height in
    let s = said c.args.updates.now in
    let kids = c.args.kids.now in
    let i = c.args.place in
    let d = c.index-kids-place.result in
    let w : i / 2 < length kids = omega (arith, c.told-kids, c.requires.place) in
    let here = part_here f kids i d w in
    let q = c.renew_side.new.pair in
    side_put kids i d w q c.in_ok-renewed.ensures.right c.in_ok-renewed.ensures.left

pub build-requires-clause-sound : goal.build-requires-clause-sound
build-requires-clause-sound g c =
    let f = shared_part g.C.Level.part in
    let h = g.C.Level.height in
    let s = said c.args.updates.now in
    let kids = c.args.kids.now in
    let i = c.args.place in
    let d = c.index-kids-place.result in
    let w : i / 2 < length kids = omega (arith, c.told-kids, c.requires.place) in
    let here = part_here f kids i d w in
    let q = c.renew_side.new.pair in
    let alike = if_none _ _ (ap is_some c.in_default.is) c.in_ok-renewed.ensures.alike in
    let old = owner_after f kids i d w q c.kid_at-old.result c.kid_at-old.ensures alike in
    subst (IsSoundKid h) (sym old) c.requires.sound

pub build-requires-clause-keys : goal.build-requires-clause-keys
build-requires-clause-keys g c =
    let f = shared_part g.C.Level.part in
    let h = g.C.Level.height in
    let s = said c.args.updates.now in
    let kids = c.args.kids.now in
    let i = c.args.place in
    let d = c.index-kids-place.result in
    let w : i / 2 < length kids = omega (arith, c.told-kids, c.requires.place) in
    let here = part_here f kids i d w in
    let q = c.renew_side.new.pair in
    let alike = if_none _ _ (ap is_some c.in_default.is) c.in_ok-renewed.ensures.alike in
    let old = owner_after f kids i d w q c.kid_at-old.result c.kid_at-old.ensures alike in
    subst (λ x. HasKeys c.args.made.now c.args.next (made_keys s h c.args.index x)) (sym old) c.requires.keys

pub returns-in_err-built-clause-same : goal.returns-in_err-built-clause-same
returns-in_err-built-clause-same g c =
    let f = shared_part g.C.Level.part in
    let h = g.C.Level.height in
    let s = said c.args.updates.now in
    let kids = c.args.kids.now in
    let i = c.args.place in
    let d = c.index-kids-place.result in
    let w : i / 2 < length kids = omega (arith, c.told-kids, c.requires.place) in
    let here = part_here f kids i d w in
    let q = c.renew_side.new.pair in
    let alike = if_none _ _ (ap is_some c.in_default.is) c.in_ok-renewed.ensures.alike in
    on_err _ (part_after f kids i d w q ∙ alike ∙ sym here)

pub returns-in_err-built-clause-beside : goal.returns-in_err-built-clause-beside
returns-in_err-built-clause-beside g c =
    let f = shared_part g.C.Level.part in
    let h = g.C.Level.height in
    let s = said c.args.updates.now in
    let kids = c.args.kids.now in
    let i = c.args.place in
    let d = c.index-kids-place.result in
    let w : i / 2 < length kids = omega (arith, c.told-kids, c.requires.place) in
    let here = part_here f kids i d w in
    let q = c.renew_side.new.pair in
    side_put kids i d w q c.in_ok-renewed.ensures.right c.in_ok-renewed.ensures.left

pub returns-clause-part : goal.returns-clause-part
returns-clause-part g c =
    let f = shared_part g.C.Level.part in
    let h = g.C.Level.height in
    let s = said c.args.updates.now in
    let kids = c.args.kids.now in
    let i = c.args.place in
    let d = c.index-kids-place.result in
    let w : i / 2 < length kids = omega (arith, c.told-kids, c.requires.place) in
    let here = part_here f kids i d w in
    let q = c.renew_side.new.pair in
    let alike = if_none _ _ (ap is_some c.in_default.is) c.in_ok-renewed.ensures.alike in
    let old = owner_after f kids i d w q c.kid_at-old.result c.kid_at-old.ensures alike in
    ap (option_map f) (part_put f kids i d w q c.in_ok-built.built.part _ c.replace_kid.ensures.stands) ∙ c.in_ok-built.ensures.part ∙ ap (rebuilt s (number_of c.args.made.now) c.args.group.0 h c.args.index) old

pub returns-clause-next : goal.returns-clause-next
returns-clause-next g c =
    let f = shared_part g.C.Level.part in
    let h = g.C.Level.height in
    let s = said c.args.updates.now in
    let kids = c.args.kids.now in
    let i = c.args.place in
    let d = c.index-kids-place.result in
    let w : i / 2 < length kids = omega (arith, c.told-kids, c.requires.place) in
    let here = part_here f kids i d w in
    let q = c.renew_side.new.pair in
    let alike = if_none _ _ (ap is_some c.in_default.is) c.in_ok-renewed.ensures.alike in
    let old = owner_after f kids i d w q c.kid_at-old.result c.kid_at-old.ensures alike in
    c.in_ok-built.ensures.next ∙ ap (λ x. c.args.next + length (made_keys s h c.args.index x)) old

pub returns-clause-metered : goal.returns-clause-metered
returns-clause-metered g c =
    let f = shared_part g.C.Level.part in
    let h = g.C.Level.height in
    let s = said c.args.updates.now in
    let kids = c.args.kids.now in
    let i = c.args.place in
    let d = c.index-kids-place.result in
    let w : i / 2 < length kids = omega (arith, c.told-kids, c.requires.place) in
    let here = part_here f kids i d w in
    let q = c.renew_side.new.pair in
    let alike = if_none _ _ (ap is_some c.in_default.is) c.in_ok-renewed.ensures.alike in
    let old = owner_after f kids i d w q c.kid_at-old.result c.kid_at-old.ensures alike in
    counted_later c.args.meter.now c.renew_side.new.meter _ _ c.in_ok-renewed.ensures.never_lower (subst (λ x. counted c.renew_side.new.meter (length (dropped s 0 h c.args.index x)) ≤ c.build.new.meter) old c.in_ok-built.ensures.metered)

pub returns-clause-metered_made : goal.returns-clause-metered_made
returns-clause-metered_made g c =
    let f = shared_part g.C.Level.part in
    let h = g.C.Level.height in
    let s = said c.args.updates.now in
    let kids = c.args.kids.now in
    let i = c.args.place in
    let d = c.index-kids-place.result in
    let w : i / 2 < length kids = omega (arith, c.told-kids, c.requires.place) in
    let here = part_here f kids i d w in
    let q = c.renew_side.new.pair in
    counted_later c.args.meter.now c.renew_side.new.meter _ _ c.in_ok-renewed.ensures.never_lower c.in_ok-built.ensures.metered_made

pub returns-clause-beside : goal.returns-clause-beside
returns-clause-beside g c =
    let f = shared_part g.C.Level.part in
    let h = g.C.Level.height in
    let s = said c.args.updates.now in
    let kids = c.args.kids.now in
    let i = c.args.place in
    let d = c.index-kids-place.result in
    let w : i / 2 < length kids = omega (arith, c.told-kids, c.requires.place) in
    let here = part_here f kids i d w in
    let q = c.renew_side.new.pair in
    beside_put f kids i d w q c.in_ok-built.built.part _ c.replace_kid.ensures.stands c.in_ok-renewed.ensures.right c.in_ok-renewed.ensures.left
