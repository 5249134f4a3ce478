use Rattle.std.proofs.Common.{◌≡◌, ◌+◌, suc, set, ◌*◌, ◌-◌, ◌^◌, ◌≤◌, [], length, Some, true, sym, ap, subst, ◌∙◌, arith, Option, List}
use Rattle.base.specs.Counting.{counted}
use Rattle.base.specs.declared.number.Dead.{Dead}
use Rattle.node.specs.Entries.{key_at}
use Rattle.node.specs.Kid.{birth_of}
use Rattle.node.specs.Node.{inner_part, shared_part, part_of_owner}
use Rattle.node.specs.Shape.{Part, forest_of}
use Rattle.batch.specs.Said.{said, IsWay}
use Rattle.batch.specs.Touch.{dropped}
use Rattle.batch.specs.Build.{made_keys, rebuilt, number_of, HasKeys, no_block}
use Rattle.batch.proofs.KidLaws.{kid_sound, kid_within}
use Rattle.batch.proofs.MadeLaws.{key_place}
use Rattle.batch.proofs.TouchLaws.{key_fits, kid_span, dropped_down}
use Rattle.batch.proofs.OneLeaf.{keys_below, stays_written, own_key, all_passed, dropped_below}
use Rattle.tree.proofs.Metering.{node_counted, more_made}
use Rattle.tree.proofs.Growing.{none_there, nothing_at, touched_written, node_grown}
use Rattle.tree.proofs.build.grow.Goals as goal

pub overflow_mul-index : goal.overflow_mul-index
overflow_mul-index g c = let b = key_fits c.args.level c.args.index c.requires.within in omega (arith, b)

pub overflow_add-index : goal.overflow_add-index
overflow_add-index g c = let b = key_fits c.args.level c.args.index c.requires.within in omega (arith, b, c.requires.way.few)

pub build-requires-clause-within : goal.build-requires-clause-within
build-requires-clause-within g c =
    let w = kid_span c.args.level g.C.Level.height c.args.index c.requires.level c.requires.within in
    (kid_within (16 * c.args.index) c.args.way.place (16 ^ (c.args.level - 1)) c.requires.way.few w).1

pub build-requires-clause-sound : goal.build-requires-clause-sound
build-requires-clause-sound g c =
    let o = part_of_owner (inner_part g.C.Level.part) c.args.old in
    kid_sound g.C.Level.height (birth_of o) c.args.way.place o _ c.requires.sound c.owner_at-kid.ensures

pub build-requires-clause-keys : goal.build-requires-clause-keys
build-requires-clause-keys g c =
    let h = g.C.Level.height in
    let f = shared_part g.C.Level.part in
    let o = part_of_owner (inner_part g.C.Level.part) c.args.old in
    let j = c.args.index in
    let p = c.args.way.place in
    let s = said c.args.updates.now in
    let any : IsWay s h j p c.args.way.writes = subst (λ l. IsWay s l j p c.args.way.writes) (let e : c.args.level - 1 ≡ h = omega (arith, c.requires.level) in e) c.requires.way in
    let way : IsWay s h j p true = subst (IsWay s h j p) c.requires.writes any in
    let gone = none_there (λ a. inner_part g.C.Level.part a.now.value) c.args.old c.requires.absent in
    let here = sym c.owner_at-kid.ensures in
    let changed = touched_written s h (birth_of o) j p way o c.requires.sound gone in
    let lasts = stays_written s h (birth_of o) j p way o c.requires.sound in
    subst (λ (x : Option Part). HasKeys c.args.made.now c.args.next (made_keys s h (16 * j + p) x)) here
    (keys_below s h (birth_of o) j p true way o c.requires.sound c.args.made.now c.args.next c.requires.keys)

pub number_at-after-requires : goal.number_at-after-requires
number_at-after-requires g c =
    let h = g.C.Level.height in
    let f = shared_part g.C.Level.part in
    let o = part_of_owner (inner_part g.C.Level.part) c.args.old in
    let j = c.args.index in
    let p = c.args.way.place in
    let s = said c.args.updates.now in
    let any : IsWay s h j p c.args.way.writes = subst (λ l. IsWay s l j p c.args.way.writes) (let e : c.args.level - 1 ≡ h = omega (arith, c.requires.level) in e) c.requires.way in
    let way : IsWay s h j p true = subst (IsWay s h j p) c.requires.writes any in
    let gone = none_there (λ a. inner_part g.C.Level.part a.now.value) c.args.old c.requires.absent in
    let here = sym c.owner_at-kid.ensures in
    let changed = touched_written s h (birth_of o) j p way o c.requires.sound gone in
    let lasts = stays_written s h (birth_of o) j p way o c.requires.sound in
    let key = own_key s h (birth_of o) j p true way o c.requires.sound changed lasts c.args.made.now c.args.next c.in_ok-built.built.next _ here c.in_ok-built.ensures.next c.requires.keys in
    let place = key_place c.args.made.now c.in_ok-built.built.next (key_at (suc h) j) [] no_block c.requires.once key in
    place.0

pub returns-clause-part : goal.returns-clause-part
returns-clause-part g c =
    let h = g.C.Level.height in
    let f = shared_part g.C.Level.part in
    let o = part_of_owner (inner_part g.C.Level.part) c.args.old in
    let j = c.args.index in
    let p = c.args.way.place in
    let s = said c.args.updates.now in
    let any : IsWay s h j p c.args.way.writes = subst (λ l. IsWay s l j p c.args.way.writes) (let e : c.args.level - 1 ≡ h = omega (arith, c.requires.level) in e) c.requires.way in
    let way : IsWay s h j p true = subst (IsWay s h j p) c.requires.writes any in
    let gone = none_there (λ a. inner_part g.C.Level.part a.now.value) c.args.old c.requires.absent in
    let here = sym c.owner_at-kid.ensures in
    let changed = touched_written s h (birth_of o) j p way o c.requires.sound gone in
    let lasts = stays_written s h (birth_of o) j p way o c.requires.sound in
    let key = own_key s h (birth_of o) j p true way o c.requires.sound changed lasts c.args.made.now c.args.next c.in_ok-built.built.next _ here c.in_ok-built.ensures.next c.requires.keys in
    let place = key_place c.args.made.now c.in_ok-built.built.next (key_at (suc h) j) [] no_block c.requires.once key in
    let kids = c.replace_kid.ensures.stands ∙ ap (λ xs. set xs p c.in_ok-built.built.part) c.no_kids-kids.ensures in
    ap Some (ap (inner_part g.C.Level.part) (c.in_ok-new.ensures.ok ∙ c.new.ensures))
    ∙ ap (λ xs. Some (record { cell = record { number = c.number_at-after.result.0.0; birth = c.args.group.0; bytes = [] }; below = forest_of f xs })) kids
    ∙ node_grown s h (birth_of o) j p true way c.args.group.0 c.number_at-after.result.0.0 (number_of c.args.made.now) f o c.in_ok-built.built.part c.requires.sound changed lasts gone (c.in_ok-built.ensures.part ∙ ap (rebuilt s (number_of c.args.made.now) c.args.group.0 h (16 * j + p)) (c.owner_at-kid.ensures ∙ nothing_at o p gone)) (ap (λ b. b.0) c.number_at-after.ensures.number ∙ place.1)

pub returns-clause-touched : goal.returns-clause-touched
returns-clause-touched g c =
    let h = g.C.Level.height in
    let f = shared_part g.C.Level.part in
    let o = part_of_owner (inner_part g.C.Level.part) c.args.old in
    let j = c.args.index in
    let p = c.args.way.place in
    let s = said c.args.updates.now in
    let any : IsWay s h j p c.args.way.writes = subst (λ l. IsWay s l j p c.args.way.writes) (let e : c.args.level - 1 ≡ h = omega (arith, c.requires.level) in e) c.requires.way in
    let way : IsWay s h j p true = subst (IsWay s h j p) c.requires.writes any in
    let gone = none_there (λ a. inner_part g.C.Level.part a.now.value) c.args.old c.requires.absent in
    let here = sym c.owner_at-kid.ensures in
    let changed = touched_written s h (birth_of o) j p way o c.requires.sound gone in
    let lasts = stays_written s h (birth_of o) j p way o c.requires.sound in
    sym changed

pub returns-clause-stays : goal.returns-clause-stays
returns-clause-stays g c =
    let h = g.C.Level.height in
    let f = shared_part g.C.Level.part in
    let o = part_of_owner (inner_part g.C.Level.part) c.args.old in
    let j = c.args.index in
    let p = c.args.way.place in
    let s = said c.args.updates.now in
    let any : IsWay s h j p c.args.way.writes = subst (λ l. IsWay s l j p c.args.way.writes) (let e : c.args.level - 1 ≡ h = omega (arith, c.requires.level) in e) c.requires.way in
    let way : IsWay s h j p true = subst (IsWay s h j p) c.requires.writes any in
    let gone = none_there (λ a. inner_part g.C.Level.part a.now.value) c.args.old c.requires.absent in
    let here = sym c.owner_at-kid.ensures in
    let changed = touched_written s h (birth_of o) j p way o c.requires.sound gone in
    let lasts = stays_written s h (birth_of o) j p way o c.requires.sound in
    sym lasts

pub returns-clause-next : goal.returns-clause-next
returns-clause-next g c =
    let h = g.C.Level.height in
    let f = shared_part g.C.Level.part in
    let o = part_of_owner (inner_part g.C.Level.part) c.args.old in
    let j = c.args.index in
    let p = c.args.way.place in
    let s = said c.args.updates.now in
    let any : IsWay s h j p c.args.way.writes = subst (λ l. IsWay s l j p c.args.way.writes) (let e : c.args.level - 1 ≡ h = omega (arith, c.requires.level) in e) c.requires.way in
    let way : IsWay s h j p true = subst (IsWay s h j p) c.requires.writes any in
    let gone = none_there (λ a. inner_part g.C.Level.part a.now.value) c.args.old c.requires.absent in
    let here = sym c.owner_at-kid.ensures in
    let changed = touched_written s h (birth_of o) j p way o c.requires.sound gone in
    let lasts = stays_written s h (birth_of o) j p way o c.requires.sound in
    c.number_at-after.ensures.next ∙ all_passed s h (birth_of o) j p true way o c.requires.sound changed lasts c.args.made.now c.args.next c.in_ok-built.built.next _ here c.in_ok-built.ensures.next

pub returns-clause-metered : goal.returns-clause-metered
returns-clause-metered g c =
    let h = g.C.Level.height in
    let f = shared_part g.C.Level.part in
    let o = part_of_owner (inner_part g.C.Level.part) c.args.old in
    let j = c.args.index in
    let p = c.args.way.place in
    let s = said c.args.updates.now in
    let any : IsWay s h j p c.args.way.writes = subst (λ l. IsWay s l j p c.args.way.writes) (let e : c.args.level - 1 ≡ h = omega (arith, c.requires.level) in e) c.requires.way in
    let way : IsWay s h j p true = subst (IsWay s h j p) c.requires.writes any in
    let gone = none_there (λ a. inner_part g.C.Level.part a.now.value) c.args.old c.requires.absent in
    let here = sym c.owner_at-kid.ensures in
    let changed = touched_written s h (birth_of o) j p way o c.requires.sound gone in
    let lasts = stays_written s h (birth_of o) j p way o c.requires.sound in
    let below = dropped_below s h (birth_of o) j p true way o c.requires.sound 0 ∙ ap (dropped s 0 h (16 * j + p)) here in
    node_counted _ _ _ _ 0 o _ _ (dropped_down s 0 h j o) c.reach.ensures.metered
    (subst (λ (ds : List Dead). counted c.reach.new.meter (length ds) ≤ c.build.new.meter) (sym below) c.in_ok-built.ensures.metered)

pub returns-clause-metered_made : goal.returns-clause-metered_made
returns-clause-metered_made g c = more_made _ _ _ _ _ _ c.reach.ensures.metered c.in_ok-built.ensures.metered_made (omega (arith, c.number_at-after.ensures.next))
