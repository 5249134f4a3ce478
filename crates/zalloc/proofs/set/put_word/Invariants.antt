use Rattle.std.proofs.Common.{◌≡◌, ◌+◌, ◌-◌, ℕ, vec_capacity, vec_len}
use Rattle.zalloc.specs.Sets.{word_at}
use Rattle.zalloc.proofs.set.put_word.Given as goal

abbrev pub invariant-loop-words : goal.invariant-loop-words
invariant-loop-words l = record {
  same : (i : ℕ) → word_at l.fill l.words.items i ≡ word_at l.fill l.initial.words.items i;
  room : vec_capacity l.words ≡ vec_capacity l.initial.words;
}

abbrev pub decreases-loop-words : goal.decreases-loop-words
decreases-loop-words l = l.index + 1 - vec_len l.words
