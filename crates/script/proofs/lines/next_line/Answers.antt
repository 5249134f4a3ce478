use Rattle.std.proofs.Common.{◌≡◌, ap, subst, ◌∙◌, arith, eqb, length, vec_len, rules}
use Rattle.std.proofs.KnownBytes.{Keeps-trans}
use Rattle.script.specs.Lines.{Looks}
use Rattle.script.proofs.LinesLemmas.{TakesMore-more, GivesLine-feed, GivesLine-kept, GivesLine-end, GivesNone-end, MatchBool-nonempty, HasMore-before}
use Rattle.script.proofs.lines.next_line.Goals as goal

pub looks-preserved : goal.looks-preserved
looks-preserved g c =
    let look = subst (Looks _ _ _ _) c.in-More.is c.in_ok-look.ensures.looks in
    (TakesMore-more _ _ _ _ _ c.looks.invariant.0 look, omega (arith, c.in_ok-look.ensures.short), Keeps-trans _ _ _ c.looks.invariant.2 c.in_ok-flush_before.ensures.written)

pub returns-in-Feed-clause-ok : goal.returns-in-Feed-clause-ok
returns-in-Feed-clause-ok g c =
    let look = subst (Looks _ _ _ _) c.in-Feed.is c.in_ok-look.ensures.looks in
    GivesLine-kept _ _ _ _ (GivesLine-feed _ _ _ _ _ c.looks.invariant.0 look) c.pass.ensures.same

pub returns-in-End-clause-ok : goal.returns-in-End-clause-ok
returns-in-End-clause-ok g c =
    let look = subst (Looks _ _ _ _) c.in-End.is c.in_ok-look.ensures.looks in
    let same : vec_len c.look.new.kept ≡ length c.look.new.kept.items = omega arith in
    MatchBool-nonempty c.is_empty.result c.look.new.kept.items _ _ (c.is_empty.ensures ∙ ap (λ n. eqb n 0) same)
    (λ some. GivesLine-end _ _ _ _ _ c.looks.invariant.0 look some)
    (λ none. GivesNone-end _ _ _ _ _ c.looks.invariant.0 look none)

pub returns-in_err-look-clause-no_memory : goal.returns-in_err-look-clause-no_memory
returns-in_err-look-clause-no_memory g c = λ e. HasMore-before _ _ _ c.looks.invariant.0 (c.in_err-look.ensures.no_memory (search rules))
