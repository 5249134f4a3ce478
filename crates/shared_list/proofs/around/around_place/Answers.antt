use Rattle.std.proofs.Common.{◌+◌, ◌<◌, None, Some, length, sym, subst, arith}
use Rattle.std.specs.Option.{option_copied}
use Rattle.shared_list.specs.Around.{IsAround}
use Rattle.shared_list.specs.Elements.{flattened}
use Rattle.shared_list.specs.Places.{IsItem, place_index}
use Rattle.shared_list.proofs.Chunks.{got_within}
use Rattle.shared_list.proofs.Neighbours.{before_end, none_behind}
use Rattle.shared_list.proofs.Points.{inside, read_of}
use Rattle.shared_list.proofs.around.around_place.Goals as goal

pub returns-in_default : goal.returns-in_default
returns-in_default g c =
    let all = flattened c.args.chunks.now in
    subst (λ q. IsAround all (place_index (λ v. v) c.args.chunks.now q) record { before = c.last_item.result; at = None; after = None }) (sym c.in_default.is) record {
      within = omega arith;
      before = before_end all (option_copied c.last_item.result) c.last_item.ensures;
      at = sym (none_behind all (length all) (omega arith));
      after = sym (none_behind all (length all + 1) (omega arith));
    }

pub get-requires : goal.get-requires
get-requires g c =
    let p = c.in-Some.place in
    let item : IsItem (λ v. v) c.args.chunks.now p.k p.at = rw c.in-Some.is at c.requires in
    subst (λ v. p.at < length v) (sym (read_of c.args.chunks.now p.k c.at-chunk.result.now c.at-chunk.ensures c.at-chunk.result.now)) (item.within c.at-chunk.result.now)

pub returns : goal.returns
returns g c =
    let xs = c.args.chunks.now in
    let p = c.in-Some.place in
    let item : IsItem (λ v. v) xs p.k p.at = rw c.in-Some.is at c.requires in
    let a = c.at-chunk.result.now in
    let read = read_of xs p.k a c.at-chunk.ensures a in
    let within = subst (λ v. p.at < length v) (sym read) (item.within a) in
    let lt = inside (λ v. v) xs p.k p.at item.chunk item.within in
    subst (λ q. IsAround (flattened xs) (place_index (λ v. v) xs q) record { before = c.item_before.result; at = Some c.get.result; after = c.item_after.result }) (sym c.in-Some.is) record {
      within = omega (arith, lt);
      before = c.item_before.ensures;
      at = sym (got_within (λ v. v) xs p.k p.at a c.get.result.now item.chunk read within c.get.ensures);
      after = c.item_after.ensures;
    }
