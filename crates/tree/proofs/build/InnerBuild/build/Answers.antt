use Rattle.std.proofs.Common.{not, suc, ◌+◌, ◌*◌, [], ◌∷◌, length, Some, sym, ap, subst, ◌∙◌, arith, length-append}
use Rattle.node.specs.Entries.{key_at}
use Rattle.node.specs.Kid.{places_of}
use Rattle.node.specs.Node.{inner_part, shared_part, part_of_owner}
use Rattle.node.specs.Pairs.{places_in}
use Rattle.batch.specs.Said.{said}
use Rattle.batch.specs.Touch.{later_first}
use Rattle.batch.specs.Build.{made_keys, number_of, HasKeys, no_block}
use Rattle.node.proofs.Options.{some_mapped}
use Rattle.batch.proofs.TouchLaws.{idle_touched, untouched_stays, untouched_made, untouched_dropped, untouched_rebuilt, dropped_down, fate_touched, key_fits, kid_span}
use Rattle.batch.proofs.MadeLaws.{keys_of_kids, key_of_own, key_place, made_stays, made_goes, made_same_place, rebuilt_gone, rebuilt_anew, stays_below}
use Rattle.batch.proofs.Metering.{none_counted}
use Rattle.tree.proofs.Metering.{node_counted, more_made, none_made}
use Rattle.tree.proofs.build.InnerBuild.build.Goals as goal

pub returns-then-is_idle-clause-part : goal.returns-then-is_idle-clause-part
returns-then-is_idle-clause-part g c =
    let h = g.C.Level.height in
    let o = part_of_owner (inner_part g.C.Level.part) c.args.old in
    let e = idle_touched (said c.args.updates.now) (suc h) c.args.index o c.is_some-present.result (c.is_some-present.ensures ∙ sym (some_mapped _ c.args.old)) (c.is_idle.ensures.idle c.if-is_idle.true) in
    c.in_ok-keep.ensures ∙ sym (untouched_rebuilt (said c.args.updates.now) (number_of c.args.made.now) c.args.group.0 (suc h) c.args.index o e)

pub returns-then-is_idle-clause-touched : goal.returns-then-is_idle-clause-touched
returns-then-is_idle-clause-touched g c =
    let o = part_of_owner (inner_part g.C.Level.part) c.args.old in
    sym (idle_touched (said c.args.updates.now) (suc g.C.Level.height) c.args.index o c.is_some-present.result (c.is_some-present.ensures ∙ sym (some_mapped _ c.args.old)) (c.is_idle.ensures.idle c.if-is_idle.true))

pub returns-then-is_idle-clause-stays : goal.returns-then-is_idle-clause-stays
returns-then-is_idle-clause-stays g c =
    let o = part_of_owner (inner_part g.C.Level.part) c.args.old in
    let e = idle_touched (said c.args.updates.now) (suc g.C.Level.height) c.args.index o c.is_some-present.result (c.is_some-present.ensures ∙ sym (some_mapped _ c.args.old)) (c.is_idle.ensures.idle c.if-is_idle.true) in
    c.is_some-present.ensures ∙ sym (some_mapped _ c.args.old) ∙ sym (untouched_stays (said c.args.updates.now) (suc g.C.Level.height) c.args.index o e)

pub returns-then-is_idle-clause-next : goal.returns-then-is_idle-clause-next
returns-then-is_idle-clause-next g c =
    let o = part_of_owner (inner_part g.C.Level.part) c.args.old in
    let e = idle_touched (said c.args.updates.now) (suc g.C.Level.height) c.args.index o c.is_some-present.result (c.is_some-present.ensures ∙ sym (some_mapped _ c.args.old)) (c.is_idle.ensures.idle c.if-is_idle.true) in
    let n = ap length (untouched_made (said c.args.updates.now) (suc g.C.Level.height) c.args.index o e) in
    omega (arith, n)

pub overflow_mul-index : goal.overflow_mul-index
overflow_mul-index g c = let b = key_fits c.args.level c.args.index c.requires.within in omega (arith, b)

pub build_kids-requires : goal.build_kids-requires
build_kids-requires g c =
    let o = part_of_owner (inner_part g.C.Level.part) c.args.old in
    let w = kid_span c.args.level g.C.Level.height c.args.index c.requires.level c.requires.within in (
      omega arith,
      (
        omega arith,
        (
          omega (arith, c.requires.level),
          (
            w,
            (
              omega (arith, c.requires.low),
              (
                c.requires.order,
                (
                  c.requires.sound,
                  (keys_of_kids (said c.args.updates.now) g.C.Level.height c.args.index o c.args.made.now c.args.next c.requires.keys, c.requires.once),
                ),
              ),
            ),
          ),
        ),
      ),
    )

pub returns-then-not-below-clause-part : goal.returns-then-not-below-clause-part
returns-then-not-below-clause-part g c =
    let h = g.C.Level.height in
    let o = part_of_owner (inner_part g.C.Level.part) c.args.old in
    let e = sym (fate_touched (said c.args.updates.now) h c.args.index o _ c.in_ok-below.ensures.touched) ∙ c.if-not-below.true in
    c.in_ok-keep-2.ensures ∙ sym (untouched_rebuilt (said c.args.updates.now) (number_of c.args.made.now) c.args.group.0 (suc h) c.args.index o e)

pub returns-then-not-below-clause-touched : goal.returns-then-not-below-clause-touched
returns-then-not-below-clause-touched g c =
    let o = part_of_owner (inner_part g.C.Level.part) c.args.old in
    sym (sym (fate_touched (said c.args.updates.now) g.C.Level.height c.args.index o _ c.in_ok-below.ensures.touched) ∙ c.if-not-below.true)

pub returns-then-not-below-clause-stays : goal.returns-then-not-below-clause-stays
returns-then-not-below-clause-stays g c =
    let o = part_of_owner (inner_part g.C.Level.part) c.args.old in
    let e = sym (fate_touched (said c.args.updates.now) g.C.Level.height c.args.index o _ c.in_ok-below.ensures.touched) ∙ c.if-not-below.true in
    c.is_some-present.ensures ∙ sym (some_mapped _ c.args.old) ∙ sym (untouched_stays (said c.args.updates.now) (suc g.C.Level.height) c.args.index o e)

pub returns-then-not-below-clause-next : goal.returns-then-not-below-clause-next
returns-then-not-below-clause-next g c =
    let o = part_of_owner (inner_part g.C.Level.part) c.args.old in
    let e = sym (fate_touched (said c.args.updates.now) g.C.Level.height c.args.index o _ c.in_ok-below.ensures.touched) ∙ c.if-not-below.true in
    c.in_ok-below.ensures.next ∙ ap (λ xs. c.args.next + length xs) (sym (made_same_place (said c.args.updates.now) g.C.Level.height c.args.index o e))

pub returns-then-not-below-2-clause-part : goal.returns-then-not-below-2-clause-part
returns-then-not-below-2-clause-part g c =
    let h = g.C.Level.height in
    let s = said c.args.updates.now in
    let o = part_of_owner (inner_part g.C.Level.part) c.args.old in
    let t = sym (fate_touched s h c.args.index o _ c.in_ok-below.ensures.touched) ∙ c.if-not-below.false in
    let p = sym (stays_below s h c.args.index o _ t c.in_ok-below.ensures.stays) ∙ c.if-not-below-2.true in
    sym (rebuilt_gone s (number_of c.args.made.now) c.args.group.0 h c.args.index o t p)

pub returns-then-not-below-2-clause-touched : goal.returns-then-not-below-2-clause-touched
returns-then-not-below-2-clause-touched g c =
    let o = part_of_owner (inner_part g.C.Level.part) c.args.old in
    sym (sym (fate_touched (said c.args.updates.now) g.C.Level.height c.args.index o _ c.in_ok-below.ensures.touched) ∙ c.if-not-below.false)

pub returns-then-not-below-2-clause-stays : goal.returns-then-not-below-2-clause-stays
returns-then-not-below-2-clause-stays g c =
    let h = g.C.Level.height in
    let s = said c.args.updates.now in
    let o = part_of_owner (inner_part g.C.Level.part) c.args.old in
    let t = sym (fate_touched s h c.args.index o _ c.in_ok-below.ensures.touched) ∙ c.if-not-below.false in
    sym (sym (stays_below s h c.args.index o _ t c.in_ok-below.ensures.stays) ∙ c.if-not-below-2.true)

pub returns-then-not-below-2-clause-next : goal.returns-then-not-below-2-clause-next
returns-then-not-below-2-clause-next g c =
    let h = g.C.Level.height in
    let s = said c.args.updates.now in
    let o = part_of_owner (inner_part g.C.Level.part) c.args.old in
    let t = sym (fate_touched s h c.args.index o _ c.in_ok-below.ensures.touched) ∙ c.if-not-below.false in
    let p = sym (stays_below s h c.args.index o _ t c.in_ok-below.ensures.stays) ∙ c.if-not-below-2.true in
    c.in_ok-below.ensures.next ∙ ap (λ xs. c.args.next + length xs) (sym (made_goes s h c.args.index o p))

pub number_at-after-requires : goal.number_at-after-requires
number_at-after-requires g c =
    let h = g.C.Level.height in
    let s = said c.args.updates.now in
    let o = part_of_owner (inner_part g.C.Level.part) c.args.old in
    let t = sym (fate_touched s h c.args.index o _ c.in_ok-below.ensures.touched) ∙ c.if-not-below.false in
    let p = sym (stays_below s h c.args.index o _ t c.in_ok-below.ensures.stays) ∙ c.if-not-below-2.false in
    let k = key_of_own s h c.args.index o c.args.made.now c.args.next t p c.requires.keys in
    let w = (key_place c.args.made.now _ (key_at (suc h) c.args.index) [] no_block c.requires.once k).0 in
    omega (arith, w, c.in_ok-below.ensures.next)

pub returns-clause-part : goal.returns-clause-part
returns-clause-part g c =
    let h = g.C.Level.height in
    let s = said c.args.updates.now in
    let o = part_of_owner (inner_part g.C.Level.part) c.args.old in
    let t = sym (fate_touched s h c.args.index o _ c.in_ok-below.ensures.touched) ∙ c.if-not-below.false in
    let p = sym (stays_below s h c.args.index o _ t c.in_ok-below.ensures.stays) ∙ c.if-not-below-2.false in
    let k = subst (λ n. HasKeys c.args.made.now n (key_at (suc h) c.args.index ∷ [])) (sym c.in_ok-below.ensures.next) (key_of_own s h c.args.index o c.args.made.now c.args.next t p c.requires.keys) in
    let w = (key_place c.args.made.now _ (key_at (suc h) c.args.index) [] no_block c.requires.once k).1 in
    ap Some (ap (inner_part g.C.Level.part) (c.in_ok-new.ensures.ok ∙ c.new.ensures))
    ∙ rebuilt_anew s (number_of c.args.made.now) c.args.group.0 h c.args.index o t p (shared_part g.C.Level.part) (places_in c.in_ok-below.below.kids) _ (ap (λ b. b.0) c.number_at-after.ensures.number ∙ w) c.in_ok-below.ensures.kids

pub returns-clause-touched : goal.returns-clause-touched
returns-clause-touched g c =
    let o = part_of_owner (inner_part g.C.Level.part) c.args.old in
    sym (sym (fate_touched (said c.args.updates.now) g.C.Level.height c.args.index o _ c.in_ok-below.ensures.touched) ∙ c.if-not-below.false)

pub returns-clause-stays : goal.returns-clause-stays
returns-clause-stays g c =
    let h = g.C.Level.height in
    let s = said c.args.updates.now in
    let o = part_of_owner (inner_part g.C.Level.part) c.args.old in
    let t = sym (fate_touched s h c.args.index o _ c.in_ok-below.ensures.touched) ∙ c.if-not-below.false in
    sym (sym (stays_below s h c.args.index o _ t c.in_ok-below.ensures.stays) ∙ c.if-not-below-2.false)

pub returns-clause-next : goal.returns-clause-next
returns-clause-next g c =
    let h = g.C.Level.height in
    let s = said c.args.updates.now in
    let o = part_of_owner (inner_part g.C.Level.part) c.args.old in
    let t = sym (fate_touched s h c.args.index o _ c.in_ok-below.ensures.touched) ∙ c.if-not-below.false in
    let p = sym (stays_below s h c.args.index o _ t c.in_ok-below.ensures.stays) ∙ c.if-not-below-2.false in
    let m = ap length (made_stays s h c.args.index o t p) in
    let a = length-append (later_first (made_keys s h) (16 * c.args.index) (places_of o)) (key_at (suc h) c.args.index ∷ []) in
    omega (arith, m, a, c.number_at-after.ensures.next, c.in_ok-below.ensures.next)

pub returns-then-is_idle-clause-metered : goal.returns-then-is_idle-clause-metered
returns-then-is_idle-clause-metered g c =
    let o = part_of_owner (inner_part g.C.Level.part) c.args.old in
    let e = idle_touched (said c.args.updates.now) (suc g.C.Level.height) c.args.index o c.is_some-present.result (c.is_some-present.ensures ∙ sym (some_mapped _ c.args.old)) (c.is_idle.ensures.idle c.if-is_idle.true) in
    none_counted _ _ (untouched_dropped (said c.args.updates.now) 0 (suc g.C.Level.height) c.args.index o e)

pub returns-then-is_idle-clause-metered_made : goal.returns-then-is_idle-clause-metered_made
returns-then-is_idle-clause-metered_made g c = none_made _ _

pub returns-then-not-below-clause-metered : goal.returns-then-not-below-clause-metered
returns-then-not-below-clause-metered g c =
    let o = part_of_owner (inner_part g.C.Level.part) c.args.old in
    node_counted _ _ _ _ 0 o _ _ (dropped_down (said c.args.updates.now) 0 g.C.Level.height c.args.index o) c.reach.ensures.metered c.in_ok-below.ensures.metered

pub returns-then-not-below-clause-metered_made : goal.returns-then-not-below-clause-metered_made
returns-then-not-below-clause-metered_made g c = more_made _ _ _ _ _ _ c.reach.ensures.metered c.in_ok-below.ensures.metered_made (omega arith)

pub returns-then-not-below-2-clause-metered : goal.returns-then-not-below-2-clause-metered
returns-then-not-below-2-clause-metered g c =
    let o = part_of_owner (inner_part g.C.Level.part) c.args.old in
    node_counted _ _ _ _ 0 o _ _ (dropped_down (said c.args.updates.now) 0 g.C.Level.height c.args.index o) c.reach.ensures.metered c.in_ok-below.ensures.metered

pub returns-then-not-below-2-clause-metered_made : goal.returns-then-not-below-2-clause-metered_made
returns-then-not-below-2-clause-metered_made g c = more_made _ _ _ _ _ _ c.reach.ensures.metered c.in_ok-below.ensures.metered_made (omega arith)

pub returns-clause-metered : goal.returns-clause-metered
returns-clause-metered g c =
    let o = part_of_owner (inner_part g.C.Level.part) c.args.old in
    node_counted _ _ _ _ 0 o _ _ (dropped_down (said c.args.updates.now) 0 g.C.Level.height c.args.index o) c.reach.ensures.metered c.in_ok-below.ensures.metered

pub returns-clause-metered_made : goal.returns-clause-metered_made
returns-clause-metered_made g c = more_made _ _ _ _ _ _ c.reach.ensures.metered c.in_ok-below.ensures.metered_made (omega (arith, c.number_at-after.ensures.next))

pub grow-requires : goal.grow-requires
grow-requires g c =
    (omega arith, (c.is_none.ensures ∙ ap not c.if-is_none.true, (c.in-Some.ensures.way, (search, (c.requires.level, (c.requires.within, (c.requires.low, (c.requires.order, (c.requires.sound, (c.requires.keys, c.requires.once))))))))))
