use Rattle.std.proofs.Common.{◌+◌, ◌++◌, take, drop, ap, ◌∙◌}
use Rattle.deadlist.specs.Held.{Held}
use Rattle.snap.specs.Members.{dead_blocks, members}
use Rattle.snap.proofs.Pieces.{last_piece, entries_off, entries_left}
use Rattle.snap.proofs.piece.take_dead.Goals as goal

pub returns-clause-blocks : goal.returns-clause-blocks
returns-clause-blocks c =
    let olds = c.args.taken.now.items in
    let news = c.take_entries.new.taken.items in
    let all = c.args.list.now.value.entries in
    let more = members c.args.pieces.now in
    let from = c.args.first in
    let count = c.min-count.result in
    ap (λ xs. dead_blocks news ++ xs) (ap members c.in_ok-push.ensures.ok ∙ last_piece c.args.pieces.now _)
    ∙ ap (λ (h : Held). dead_blocks news ++ (dead_blocks (drop (from + count) h.entries) ++ more)) c.in_ok-list.ensures
    ∙ entries_off olds news (take count (drop from all)) (drop (from + count) all) more (c.in_ok-take_entries.ensures.entries ∙ ap (λ (h : Held). olds ++ take count (drop from h.entries)) c.deref-2.ensures)
    ∙ ap (λ ds. dead_blocks olds ++ (dead_blocks ds ++ more)) (entries_left all from count)
