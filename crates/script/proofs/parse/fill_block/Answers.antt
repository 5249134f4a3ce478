use Rattle.script.proofs.WordsLemmas.{block-filled}
use Rattle.script.proofs.parse.fill_block.Goals as goal

pub returns-clause-filled : goal.returns-clause-filled
returns-clause-filled c =
    block-filled c.decode_into.result c.args.word.now c.args.block.now c.decode_into.new.out c.if-len-lt2.false c.if-len-gt1024.false
    c.decode_into.ensures.len c.requires c.decode_into.ensures.decoded
