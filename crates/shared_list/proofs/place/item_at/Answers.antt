use Rattle.std.proofs.Common.{◌<◌, sym, subst, length}
use Rattle.shared_list.proofs.Chunks.{got_within}
use Rattle.shared_list.proofs.Points.{read_of}
use Rattle.shared_list.proofs.place.item_at.Goals as goal

pub returns : goal.returns
returns g c =
    let xs = c.args.chunks.now in
    let k = c.args.place.k in
    let at = c.args.place.at in
    let a = c.at.result.now in
    let read = read_of xs k a c.at.ensures a in
    let within = subst (λ v. at < length v) (sym read) (c.requires.within a) in
    got_within (λ v. v) xs k at a c.get.result.now c.requires.chunk read within c.get.ensures
