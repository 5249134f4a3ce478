use Rattle.std.proofs.Common.{◌∙◌, ◌∷◌, ◌+◌, ap, sym, take}
use Rattle.script.specs.Words.{words_of}
use Rattle.script.proofs.WordsLemmas.{words_of-space, words_of-none, range_from}
use Rattle.script.proofs.words.next_word.Goals as goal

pub returns-in-Some : goal.returns-in-Some
returns-in-Some c =
    let first = c.in-Some.ensures in
    words_of-space c.args.line.now c.in-Some.end first.0.high first.0.before first.1
    ∙ ap (λ l. take c.in-Some.end c.args.line.now ∷ words_of l) (sym (range_from c.args.line.now (c.in-Some.end + 1)))

pub returns-in-None : goal.returns-in-None
returns-in-None c = words_of-none c.args.line.now c.in-None.ensures
