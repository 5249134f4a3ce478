use Rattle.std.proofs.Common.{[], ◌∷◌, sym, ap, subst, ◌∙◌, arith, true≢false}
use Rattle.batch.specs.Updates.{IsBatch}
use Rattle.image.specs.PathWrites.{block_on}
use Rattle.image.specs.Writes.{IsMissing, IsPathOf, IsThere}
use Rattle.image.specs.declared.writes.ChangedPath.{ChangedPath}
use Rattle.image.proofs.OnePath.{path_known}
use Rattle.image.proofs.Standing.{there_some}
use Rattle.image.proofs.writes.writes_after.Goals as goal

pub returns-then-is_missing : goal.returns-then-is_missing
returns-then-is_missing c n old new tree has was =
    subst (λ (p : ChangedPath). IsMissing p.before c.args.update.now) c.deref.ensures (c.is_missing.ensures.missing c.if-is_missing.true)

pub returns : goal.returns
returns c n old new tree has was =
    let u = c.args.update.now in
    let there = subst (λ (p : ChangedPath). IsThere p.before u) c.deref.ensures (c.is_missing.ensures.there (λ t. true≢false (sym t ∙ c.if-is_missing.false))) in
    let batch : IsBatch (u ∷ []) = (omega arith, c.requires.of_tree, tt) in
    let known = path_known n old new tree u batch c.args.group.0 has.number has.new_is (there_some old c.args.path.value.before u batch was there) c.args.made.now has.each (block_on c.place.new.path) c.place.ensures in
    let same = c.deref_mut.ensures.value in
    let begun = ap (λ (p : ChangedPath). p.leaf) same ∙ c.requires.begun in (
      (begun, c.contents_of.ensures.written, c.contents_of.ensures.size),
      ap (λ (p : ChangedPath). p.before) same,
      subst (λ leaf. IsPathOf new leaf (block_on c.place.new.path)) (sym begun) known,
      there,
    )
