use Rattle.std.proofs.Common.{◌++◌, sym, ap, ◌∙◌}
use Rattle.std.proofs.lemmas.Result.{on_ok_weaker}
use Rattle.snap.specs.Members.{dead_blocks, piece_blocks, members, tops_after}
use Rattle.snap.proofs.Pieces.{some_off}
use Rattle.snap.proofs.piece.take_piece.Goals as goal

pub returns-in_ok-take_tops-in-Trees-clause-blocks : goal.returns-in_ok-take_tops-in-Trees-clause-blocks
returns-in_ok-take_tops-in-Trees-clause-blocks c =
    on_ok_weaker c.keep_tops.result
    (λ e.
    some_off (dead_blocks c.args.taken.now.items) (dead_blocks c.take_tops.new.taken.items) (tops_after c.in-Trees.cut.0 c.take_tops.new.tops.items) (tops_after c.in-Trees.cut.0 c.in-Trees.tops.items) (members c.args.pieces.now) (members c.keep_tops.new.pieces)
    (c.in_ok-take_tops-in-Trees.ensures.blocks ∙ ap (λ ts. dead_blocks c.args.taken.now.items ++ tops_after c.in-Trees.cut.0 ts) (c.in_ok-tops-in-Trees.ensures.ok ∙ c.deref.ensures.value))
    e
    ∙ ap (λ p. dead_blocks c.args.taken.now.items ++ (piece_blocks p ++ members c.args.pieces.now)) (sym c.in-Trees.is))
    c.keep_tops.ensures.blocks
