use Rattle.std.proofs.Common.{◌≡◌, ◌*◌, ◌/◌, length, replicate, ap, ◌∙◌, arith}
use Rattle.zalloc.specs.declared.BlockState.TheVariants.{Free}
use Rattle.image.proofs.Padded.{padded_long}
use Rattle.image.proofs.image.Image.from_bytes.Goals as goal

pub returns-clause-ok : goal.returns-clause-ok
returns-clause-ok c =
    let size : c.len-blocks.result ≡ length c.args.bytes.items = omega (arith, c.len-blocks.ensures, c.args.bytes.ok.0) in
    let bytes = padded_long (512 * (c.len-blocks.result / 512)) c.args.bytes.items (omega (arith, size)) in
    let kept = c.in_ok-kept.ensures.ok ∙ ap (λ n. replicate (n / 512) Free) size in
    (λ i. record { bytes = bytes i; kept = kept i; keeps = 0 })

pub returns-clause-size : goal.returns-clause-size
returns-clause-size c = record {
  blocks = c.len-blocks.result / 512;
  some = omega (arith, c.if-blocks-eq0.false);
  few = omega (arith, c.if-blocks.false);
  is = omega (arith, c.len-blocks.ensures, c.len.ensures, c.args.bytes.ok.0, c.if-len-ne0.false);
}
