use Rattle.std.proofs.Common.{◌≡◌, ◌≤◌, true, false, ⊎_elim, length, ◌+◌, ◌-◌, ◌*◌, ◌++◌, ◌^◌, refl, sym, ap, subst, ◌∙◌, arith}
use Rattle.std.specs.Prelude.{true}
use Rattle.base.specs.Counting.{counted}
use Rattle.node.specs.Kid.{birth_of, places_of}
use Rattle.node.specs.Node.{inner_part, part_of_node}
use Rattle.batch.specs.Said.{said, IsWay}
use Rattle.batch.specs.Touch.{any_kid, touched, stays, claims, released, dropped}
use Rattle.batch.proofs.KidLaws.{kid_sound, kid_within}
use Rattle.batch.proofs.TouchLaws.{key_fits, kid_span}
use Rattle.batch.proofs.OneLeaf.{touched_below, stays_by_way, stays_by_other, stays_alone, claims_below, released_below, dropped_below}
use Rattle.batch.proofs.findings.survey_below.Goals as goal

pub overflow_mul-first : goal.overflow_mul-first
overflow_mul-first g c = let b = key_fits c.args.level c.args.index c.requires.within in omega (arith, b)

pub survey-requires-clause-within : goal.survey-requires-clause-within
survey-requires-clause-within g c =
    let w = kid_span c.args.level g.C.Level.height c.args.index c.requires.level c.requires.within in
    (kid_within (16 * c.args.index) c.in-Some.way.place (16 ^ (c.args.level - 1)) c.in-Some.ensures.way.few w).1

pub survey-requires-clause-sound : goal.survey-requires-clause-sound
survey-requires-clause-sound g c =
    let o = part_of_node (inner_part g.C.Level.part) c.args.old in
    kid_sound g.C.Level.height (birth_of o) c.in-Some.way.place o _ c.requires.sound c.kid_at-kid.ensures

pub survey_kids-requires : goal.survey_kids-requires
survey_kids-requires g c =
    let w = kid_span c.args.level g.C.Level.height c.args.index c.requires.level c.requires.within in
    (omega arith, (omega (arith, c.requires.level), (w, (omega (arith, c.requires.low), (c.requires.order, c.requires.sound)))))

pub returns-clause-touched : goal.returns-clause-touched
returns-clause-touched g c =
    let h = g.C.Level.height in
    let s = said c.args.updates.now in
    let o = part_of_node (inner_part g.C.Level.part) c.args.old in
    let p = c.in-Some.way.place in
    let w = c.in-Some.way.writes in
    let j = 16 * c.args.index + p in
    let way : IsWay s h c.args.index p w = subst (λ l. IsWay s l c.args.index p w) (let e : c.args.level - 1 ≡ h = omega (arith, c.requires.level) in e) c.in-Some.ensures.way in
    c.in_ok-fate.ensures.touched ∙ sym (touched_below s h (birth_of o) c.args.index p w way o c.requires.sound ∙ ap (touched s h j) (sym c.kid_at-kid.ensures))

pub returns-clause-claims : goal.returns-clause-claims
returns-clause-claims g c =
    let h = g.C.Level.height in
    let s = said c.args.updates.now in
    let o = part_of_node (inner_part g.C.Level.part) c.args.old in
    let p = c.in-Some.way.place in
    let w = c.in-Some.way.writes in
    let j = 16 * c.args.index + p in
    let way : IsWay s h c.args.index p w = subst (λ l. IsWay s l c.args.index p w) (let e : c.args.level - 1 ≡ h = omega (arith, c.requires.level) in e) c.in-Some.ensures.way in
    c.in_ok-fate.ensures.claims ∙ ap (λ xs. c.args.findings.now.claims.items ++ xs) (sym (claims_below s h (birth_of o) c.args.index p w way o c.requires.sound c.args.young.0 ∙ ap (claims s c.args.young.0 h j) (sym c.kid_at-kid.ensures)))

pub returns-clause-released : goal.returns-clause-released
returns-clause-released g c =
    let h = g.C.Level.height in
    let s = said c.args.updates.now in
    let o = part_of_node (inner_part g.C.Level.part) c.args.old in
    let p = c.in-Some.way.place in
    let w = c.in-Some.way.writes in
    let j = 16 * c.args.index + p in
    let way : IsWay s h c.args.index p w = subst (λ l. IsWay s l c.args.index p w) (let e : c.args.level - 1 ≡ h = omega (arith, c.requires.level) in e) c.in-Some.ensures.way in
    c.in_ok-fate.ensures.released ∙ ap (λ xs. c.args.findings.now.released.items ++ xs) (sym (released_below s h (birth_of o) c.args.index p w way o c.requires.sound c.args.young.0 ∙ ap (released s c.args.young.0 h j) (sym c.kid_at-kid.ensures)))

pub returns-clause-metered : goal.returns-clause-metered
returns-clause-metered g c =
    let h = g.C.Level.height in
    let s = said c.args.updates.now in
    let o = part_of_node (inner_part g.C.Level.part) c.args.old in
    let p = c.in-Some.way.place in
    let w = c.in-Some.way.writes in
    let j = 16 * c.args.index + p in
    let way : IsWay s h c.args.index p w = subst (λ l. IsWay s l c.args.index p w) (let e : c.args.level - 1 ≡ h = omega (arith, c.requires.level) in e) c.in-Some.ensures.way in
    subst (λ xs. counted c.args.meter.now (length xs) ≤ c.survey.new.meter) (sym (dropped_below s h (birth_of o) c.args.index p w way o c.requires.sound c.args.young.0 ∙ ap (dropped s c.args.young.0 h j) (sym c.kid_at-kid.ensures))) c.in_ok-fate.ensures.metered

pub returns-clause-stays : goal.returns-clause-stays
returns-clause-stays g c =
    let h = g.C.Level.height in
    let s = said c.args.updates.now in
    let o = part_of_node (inner_part g.C.Level.part) c.args.old in
    let p = c.in-Some.way.place in
    let w = c.in-Some.way.writes in
    let j = 16 * c.args.index + p in
    let way : IsWay s h c.args.index p w = subst (λ l. IsWay s l c.args.index p w) (let e : c.args.level - 1 ≡ h = omega (arith, c.requires.level) in e) c.in-Some.ensures.way in
    let os = places_of o in
    let all = any_kid (stays s h) (16 * c.args.index) os in
    let is = ap (stays s h j) (sym c.kid_at-kid.ensures) in
    elim c.stays_beside-stays.result as (λ b. c.stays_beside-stays.result ≡ b → b ≡ all) [
      | true ↦ λ e.
          sym (⊎_elim
          (λ k. stays_by_way s h (birth_of o) c.args.index p w way o c.requires.sound (is ∙ sym c.in_ok-fate.ensures.stays ∙ k))
          (λ k. stays_by_other s h (birth_of o) c.args.index p w way o c.requires.sound k)
          (c.stays_beside-stays.ensures.stays e))
      | false ↦ λ e. sym (stays_alone s h (birth_of o) c.args.index p w way o c.requires.sound (c.stays_beside-stays.ensures.alone e) ∙ is ∙ sym c.in_ok-fate.ensures.stays ∙ c.stays_beside-stays.ensures.goes e)
    ] refl
