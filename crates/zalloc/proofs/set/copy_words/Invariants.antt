use Rattle.std.proofs.Common.{◌≡◌, take, vec_capacity}
use Rattle.zalloc.proofs.set.copy_words.Given as goal

abbrev pub invariant-loop-word : goal.invariant-loop-word
invariant-loop-word l = record {
  items : l.copies.items ≡ take l.word-index l.words.items;
  room : vec_capacity l.copies ≡ vec_capacity l.words;
}
