use Rattle.std.proofs.Common.{◌<◌, ◌&&◌, not, nat_eq, slice_index_or, ◌-◌, length, ap, sym, ◌∙◌, arith}
use Rattle.script.specs.Words.{joins, joins_from}
use Rattle.script.proofs.WordsLemmas.{range_from}
use Rattle.script.proofs.Joined.{begins, joins_all}
use Rattle.script.proofs.words.has_only_words.Goals as goal

pub returns : goal.returns
returns c =
    let line = c.args.line.now in
    let some : 0 < length line = omega (arith, c.if-len-eq0.false) in
    let seen = c.goes_on_by-seen-2.result in
    let left = c.goes_on_by-seen-2.ensures.left ∙ c.goes_on_by-seen.ensures.left in
    let first = sym c.goes_on.ensures ∙ c.if-not-goes_on.false in
    ap (λ b. b && not (nat_eq (slice_index_or line (length line - 1) 0) 32))
    (c.goes_on-2.ensures ∙ ap (joins (nat_eq (slice_index_or line (seen - 1) 0) 32)) (range_from line seen) ∙ left ∙ ap (λ b. b && joins_from 1 line) (sym first) ∙ begins line some)
    ∙ joins_all line some
