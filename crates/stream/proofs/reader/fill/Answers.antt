use Rattle.std.proofs.Common.{◌≡◌, ℕ, ◌+◌, ◌-◌, ◌≤◌, List, ◌++◌, rules, arith, length, take, slice_range, sym, ap, ◌∙◌, subst, le_refl, drop_at, length-take-le, take_all}
use Rattle.std.proofs.lemmas.Slice.{take-put_mid_below}
use Rattle.std.specs.Io.KnownBytes.{Consumes}
use Rattle.std.proofs.KnownBytes.{Consumes-trans, Consumes-kept}
use borrow.Rule.Slice.PartMut.{put_mid, post_of}
use lib.Seq.{take-add, take-append-le}
use Rattle.stream.proofs.reader.fill.Goals.{in-Ok, in-Err+else-ne}
use Rattle.stream.proofs.reader.fill.Goals as goal

take_split : (a b : ℕ) (old new : List ℕ) → a ≤ b → take a new ≡ take a old → take a old ++ slice_range new a b ≡ take b new
take_split a b old new h front =
    let same : a + (b - a) ≡ b = omega arith in
    ap (λ l. l ++ slice_range new a b) (sym front) ∙ sym (take-add a (b - a) new) ∙ ap (λ n. take n new) same

slice_range-put_mid : (a k n : ℕ) (xs ys : List ℕ) → a ≤ length xs → n ≤ length ys → slice_range (put_mid a k xs ys) a (a + n) ≡ take n ys
slice_range-put_mid a k n xs ys within fits =
    let same : (a + n) - a ≡ n = omega arith in
    let after = post_of a k xs in
    ap (take ((a + n) - a)) (drop_at (take a xs) (ys ++ after) a (length-take-le a xs within)) ∙ ap (λ m. take m (ys ++ after)) same ∙ take-append-le n ys after fits

pub returns-then-at-buf-clause-ok : goal.returns-then-at-buf-clause-ok
returns-then-at-buf-clause-ok g c = subst (Consumes _ _) (take_all c.reads.at c.reads.buf c.if-at-buf.true) c.reads.invariant.2

pub reads-preserved : goal.reads-preserved
reads-preserved g c =
    let from = c.reads.at in
    let room = length c.reads.buf - from in
    let within = c.reads.invariant.1 in
    elim c.match-read.branch [
      | in-Ok w ↦
          let part = slice_range-put_mid from room w.in-Ok.n c.reads.buf c.read.new.buf within w.in-Ok.ensures.bound.0 in
          let joined = take_split from (from + w.in-Ok.n) c.reads.buf (put_mid from room c.reads.buf c.read.new.buf) (omega arith) (take-put_mid_below _ _ _ _ _ (le_refl _) within) in
          rw w.at-is (search rules, search rules, subst (Consumes _ _) (ap (λ l. take from c.reads.buf ++ l) (sym part) ∙ joined) (Consumes-trans _ _ _ _ _ c.reads.invariant.2 w.in-Ok.ensures.bytes.0))
      | in-Err+else-ne w ↦
          rw w.at-is (search rules, search rules, subst (Consumes _ _) (sym (take-put_mid_below _ _ _ _ _ (le_refl _) within)) (Consumes-kept _ _ _ _ c.reads.invariant.2 w.in-Err.ensures.bytes))
    ]
