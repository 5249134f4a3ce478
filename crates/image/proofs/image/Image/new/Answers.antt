use Rattle.std.proofs.Common.{◌≡◌, ℕ, ◌-◌, ◌*◌, ◌++◌, length, replicate, ap, ◌∙◌, arith}
use Rattle.image.specs.Image.{padded}
use Rattle.image.proofs.image.Image.new.Goals as goal

pub returns : goal.returns
unfolding padded
returns c =
    let size : 512 * c.args.n - 0 ≡ 512 * c.args.n = omega arith in
    let bytes = ap (λ xs. xs ++ replicate {A = ℕ} (512 * c.args.n - length xs) 0) c.in_ok-written.ensures.items ∙ ap (λ n. replicate {A = ℕ} n 0) size in
    (λ i. record { bytes = bytes i; kept = c.in-Ok.ensures.ok i; keeps = 0 })
