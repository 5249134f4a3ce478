use Rattle.std.proofs.Common.{sym, ap, ◌∙◌, ◌&&◌, ◌∷◌, length, drop}
use Rattle.std.proofs.lemmas.Bool.{eq-eqb, ne_eqb}
use Rattle.std.specs.Str.{bytes_eq}
use Rattle.script.proofs.Within.{eq_joined, eq_after}
use Rattle.script.proofs.WordsLemmas.{range_from}
use Rattle.script.proofs.spare.is_joined.Goals as goal

pub returns-in_default : goal.returns-in_default
returns-in_default c =
    let front = c.args.front.now in
    sym (eq_joined front c.args.word.now (c.args.mark ∷ c.args.back.now) ∙ ap (λ b. b && bytes_eq (drop (length front) c.args.word.now) (c.args.mark ∷ c.args.back.now)) c.in_default.ensures.cases)

pub returns-then-first-mark : goal.returns-then-first-mark
returns-then-first-mark c =
    let rest = c.in-Some.rest.now in
    c.same_bytes.ensures
    ∙ ap (λ l. bytes_eq l c.args.back.now) (range_from rest 1)
    ∙ sym (eq_after c.args.word.now c.args.front.now rest c.args.back.now c.args.mark c.in-Some.ensures.cases.0 c.in-Some.ensures.cases.1 c.in-len1-up.len_at_least
    ∙ ap (λ b. b && bytes_eq (drop 1 rest) c.args.back.now) (eq-eqb _ _ c.if-first-mark.true))

pub returns-else-first-mark : goal.returns-else-first-mark
returns-else-first-mark c =
    let rest = c.in-Some.rest.now in
    let other = ne_eqb _ _ c.if-first-mark.false in
    other
    ∙ sym (eq_after c.args.word.now c.args.front.now rest c.args.back.now c.args.mark c.in-Some.ensures.cases.0 c.in-Some.ensures.cases.1 c.in-len1-up.len_at_least
    ∙ ap (λ b. b && bytes_eq (drop 1 rest) c.args.back.now) other)
