use Rattle.std.proofs.Common.{◌≡◌, ◌<◌, suc, sym, subst, length, take, drop, arith}
use Rattle.shared_list.specs.Elements.{flattened}
use Rattle.shared_list.proofs.Chunks.{whole, taken, dropped, taken_between, cut_between, ended, begun}
use Rattle.shared_list.proofs.Points.{read_of}
use Rattle.shared_list.proofs.edits.cut_off.Goals as goal

pub returns-then-at-eq0-clause-ok : goal.returns-then-at-eq0-clause-ok
returns-then-at-eq0-clause-ok g c =
    let xs = c.args.chunks.now in
    let k = c.place_of-k.result.k in
    let seam : c.args.index ≡ length (flattened (take k xs)) = omega arith in
    cc (taken_between (λ v. v) xs k c.args.index seam, c.in_ok-rest.ensures.ok)

pub returns-then-at-eq0-clause-rest : goal.returns-then-at-eq0-clause-rest
returns-then-at-eq0-clause-rest g c =
    let xs = c.args.chunks.now in
    let k = c.place_of-k.result.k in
    let seam : c.args.index ≡ length (flattened (take k xs)) = omega arith in
    cc (cut_between (λ v. v) xs k c.args.index seam, c.in_ok-rest.ensures.rest)

pub split-requires-clause-index : goal.split-requires-clause-index
split-requires-clause-index g c =
    let a = c.at.result.now in
    subst (λ v. c.place_of-k.result.at < length v) (sym (read_of c.args.chunks.now c.place_of-k.result.k a c.at.ensures a)) (c.place_of-k.ensures.place.within a)

pub returns-clause-ok : goal.returns-clause-ok
returns-clause-ok g c =
    let p = c.place_of-k.ensures in
    let xs = c.args.chunks.now in
    let k = c.place_of-k.result.k in
    let at = c.place_of-k.result.at in
    let a = c.at.result.now in
    let read = read_of xs k a c.at.ensures a in
    let within = subst (λ v. at < length v) (sym read) (p.place.within a) in
    let before = taken (flattened xs) (flattened (take k xs)) a (flattened (drop (suc k) xs)) c.args.index at (whole (λ v. v) xs k a p.place.chunk read) p.index within in
    cc (before, ended (λ v. v) (take k xs) c.in_ok-low.low.value, c.in_ok-low.ensures.0, c.in_ok-front.ensures, c.in_ok-rest-2.ensures.ok, c.in_ok-push_shared.ensures.ok)

pub returns-clause-rest : goal.returns-clause-rest
returns-clause-rest g c =
    let p = c.place_of-k.ensures in
    let xs = c.args.chunks.now in
    let k = c.place_of-k.result.k in
    let at = c.place_of-k.result.at in
    let a = c.at.result.now in
    let read = read_of xs k a c.at.ensures a in
    let within = subst (λ v. at < length v) (sym read) (p.place.within a) in
    let behind = dropped (flattened xs) (flattened (take k xs)) a (flattened (drop (suc k) xs)) c.args.index at (whole (λ v. v) xs k a p.place.chunk read) p.index within in
    cc (behind, begun (λ v. v) xs k c.in_ok-low.high.value p.place.chunk, c.in_ok-low.ensures.1, c.in_ok-front.ensures, c.in_ok-rest-2.ensures.rest, c.in_ok-set_shared.ensures.ok)
