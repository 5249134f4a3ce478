use Rattle.std.proofs.Common.{◌∙◌, rules}
use Rattle.script.specs.Meaning.{since_word_of}
use Rattle.script.proofs.Within.{since_asked, since_refused}
use Rattle.script.proofs.space.since_word.Goals as goal

pub returns-in_err-target : goal.returns-in_err-target
unfolding since_word_of
returns-in_err-target c = search rules

pub returns-in_err-since : goal.returns-in_err-since
returns-in_err-since c =
    let h = since_refused c.args.since.now c.args.target.now c.as_bytes.result.now c.in_ok-target.target c.in_err-since.field-0.0
    c.in_ok-target.ensures.reads (c.as_bytes.ensures.value ∙ c.file_system_of.ensures) c.in_err-since.ensures in
    search (rules, h)

pub returns : goal.returns
returns c =
    since_asked c.args.since.now c.args.target.now c.as_bytes.result.now c.in_ok-target.target c.in_ok-since.since
    c.in_ok-target.ensures.reads (c.as_bytes.ensures.value ∙ c.file_system_of.ensures) c.in_ok-since.ensures
