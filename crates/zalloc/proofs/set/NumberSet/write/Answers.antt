use Rattle.std.proofs.Common.{◌/◌, ◌∙◌, ap, sym}
use Rattle.zalloc.specs.Sets.{word_at, has_one}
use Rattle.zalloc.proofs.Sets.{still_tells}
use Rattle.zalloc.proofs.set.NumberSet.write.Goals as goal

pub returns-clause-kept : goal.returns-clause-kept
returns-clause-kept c =
    let s = c.args.self.now in
    let k = c.requires.kept in
    let w = c.args.window in
    let g = c.put_bit.new.words.items in
    record {
      few = k.few;
      fill = k.fill;
      groups = still_tells s.fill s.groups.items s.words.items g c.put_word.new.words.items w k.groups (c.put_bit.ensures.here ∙ ap has_one (sym c.put_word.ensures.here)) c.put_bit.ensures.there c.put_word.ensures.there;
      tops = still_tells s.fill s.tops.items s.groups.items c.put_bit-2.new.words.items g (w / 64) k.tops (c.put_bit-2.ensures.here ∙ ap has_one (c.word_at-some.ensures ∙ ap (λ xs. word_at s.fill xs (w / 64)) c.deref.ensures.value)) c.put_bit-2.ensures.there c.put_bit.ensures.others;
      words_room = c.put_word.ensures.room ∙ k.words_room;
      groups_room = c.put_bit.ensures.room ∙ k.groups_room;
      tops_room = c.put_bit-2.ensures.room ∙ k.tops_room;
    }
