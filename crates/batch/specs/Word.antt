-- What a word of the program stands for.
use Rattle.batch.specs.declared.update.Word.{Word}
use Rattle.batch.specs.declared.update.Word.TheVariants.{Silent, Hole, Full}
use Rattle.batch.specs.Said.{Said, silent, hole, full}

-- (profile)
abbrev pub word_said : Word → Said
word_said Silent = silent
word_said Hole = hole
word_said (Full bytes) = full bytes.now
