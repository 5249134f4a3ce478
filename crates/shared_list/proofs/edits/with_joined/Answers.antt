use Rattle.std.proofs.Common.{◌≡◌, suc, ◌-◌, arith}
use Rattle.shared_list.proofs.Chunks.{met}
use Rattle.shared_list.proofs.Points.{read_of}
use Rattle.shared_list.proofs.edits.with_joined.Goals as goal

pub returns : goal.returns
returns g c =
    let xs = c.args.chunks.now in
    let k = c.args.k in
    let a = c.at.result.now in
    let b = c.at-2.result.now in
    let next : k ≡ suc (k - 1) = omega arith in
    let whole = met (λ v. v) xs (k - 1) k a b c.in_ok-whole.whole.value next c.requires.k (read_of xs (k - 1) a c.at.ensures a) (read_of xs k b c.at-2.ensures b) c.in_ok-whole.ensures in
    cc (whole, c.in_ok-copy.ensures, c.in_ok-set_shared.ensures.ok, c.in_ok-remove.ensures.ok)
