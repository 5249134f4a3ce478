use Rattle.std.proofs.Common.{◌≡◌, ◌+◌, map, ap, ◌∙◌, arith, vec_len}
use Rattle.std.proofs.lemmas.List.{map-append}
use Rattle.std.specs.FinMap.{len, insert}
use Rattle.model.specs.Ids.{snap_id}
use Rattle.snap.specs.Entries.{entry_of}
use Rattle.snap.specs.Viewing.{Viewing}
use Rattle.snap.proofs.Numbered.{views_of, with_last, with_last_sorted, with_last_is, with_last_below}
use Rattle.snap.proofs.Kept.{count_is, has_place, has_number}
use Rattle.snap.proofs.list.Views.«open».Goals as goal

-- there is room
pub push_reserved-requires : goal.push_reserved-requires
push_reserved-requires c =
    let same : vec_len c.self.inside.open ≡ len c.args.self.now.opened = count_is c.self.inside c.self.invariant ∙ ap (λ (v : Viewing). len v.opened) c.self.view_is in
    let place = has_place c.args.self.now c.requires in
    let room = c.self.invariant.room in
    omega (arith, same, place, room)

-- the view stands behind the others
pub invariant_of-self : goal.invariant_of-self
invariant_of-self c =
    let id = snap_id c.args.id in
    let old = map entry_of c.self.inside.open.items in
    let items : map entry_of c.push_reserved.new.self.items ≡ with_last old c.self.inside.next id = ap (map entry_of) c.push_reserved.ensures.items ∙ map-append entry_of c.self.inside.open.items _ in
    let same : vec_len c.self.inside.open ≡ len c.args.self.now.opened = count_is c.self.inside c.self.invariant ∙ ap (λ (v : Viewing). len v.opened) c.self.view_is in
    let next = ap (λ (v : Viewing). v.next) c.self.view_is in
    let place = has_place c.args.self.now c.requires in
    let number = has_number c.args.self.now c.requires in
    record {
      sorted = rw items (with_last_sorted old c.self.invariant.sorted c.self.inside.next id c.self.invariant.below);
      below = rw items (with_last_below old c.self.invariant.sorted c.self.inside.next id c.self.invariant.below);
      few = omega (arith, same, place, c.push_reserved.ensures.len, c.push_reserved.new.self.ok.0);
      room = rw c.push_reserved.ensures.capacity c.self.invariant.room;
      next = omega (arith, next, number);
    }

pub returns : goal.returns
returns c =
    let id = snap_id c.args.id in
    let old = map entry_of c.self.inside.open.items in
    let items : map entry_of c.push_reserved.new.self.items ≡ with_last old c.self.inside.next id = ap (map entry_of) c.push_reserved.ensures.items ∙ map-append entry_of c.self.inside.open.items _ in
    ap (λ m. record { opened = m; next = c.self.inside.next + 1 }) (ap views_of items ∙ with_last_is old c.self.invariant.sorted c.self.inside.next id c.self.invariant.below)
    ∙ ap (λ (v : Viewing). record { opened = insert v.opened v.next id; next = v.next + 1 }) c.self.view_is
