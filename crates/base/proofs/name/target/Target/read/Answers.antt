use Rattle.std.proofs.Common.{◌∙◌, ap, get_or, eq-eqb, sym}
use Rattle.std.proofs.lemmas.Bool.{ne_eqb}
use Rattle.base.proofs.Marks.{marked_if, target_marked}
use Rattle.base.proofs.name.target.Target.read.Goals as goal

pub returns-then-bytes-end-eq64 : goal.returns-then-bytes-end-eq64
returns-then-bytes-end-eq64 c =
    let bs = c.args.bytes.now in
    let n = c.in-Some.end in
    target_marked bs n _ _ (sym c.in-Some.ensures.place) c.if-bytes-gt-NAME_LIMIT.false c.in_ok-read-2.ensures c.in_ok-read-3.ensures
    ∙ ap (marked_if c.in_ok-read-2.field-0 c.in_ok-read-3.field-0) (eq-eqb (get_or bs n 0) 64 c.if-bytes-end-eq64.true)

pub returns-else-bytes-end-eq64 : goal.returns-else-bytes-end-eq64
returns-else-bytes-end-eq64 c =
    let bs = c.args.bytes.now in
    let n = c.in-Some.end in
    target_marked bs n _ _ (sym c.in-Some.ensures.place) c.if-bytes-gt-NAME_LIMIT.false c.in_ok-read-2.ensures c.in_ok-read-3.ensures
    ∙ ap (marked_if c.in_ok-read-2.field-0 c.in_ok-read-3.field-0) (ne_eqb (get_or bs n 0) 64 c.if-bytes-end-eq64.false)
