use Rattle.std.proofs.Common.{◌≡◌, ◌+◌, ◌++◌, sym, ap, subst, ◌∙◌, arith, length, min}
use Rattle.std.proofs.lemmas.List.{length-append, length-map}
use Rattle.std.specs.FinSet.{difference}
use Rattle.base.specs.Map.{BlockSet}
use Rattle.base.specs.Surveys.{dead_block}
use Rattle.world.specs.Sets.{Has}
use Rattle.snap.specs.Members.{members, dead_blocks, dead_set}
use Rattle.snap.proofs.Together.{parted, len_is}
use Rattle.snap.proofs.freeing.Freeing.slice.Goals as goal

pub invariant_of-rest : goal.invariant_of-rest
invariant_of-rest c =
    let taken = dead_blocks c.in_ok-taken.taken.items in
    let rest = members c.take_blocks.new.pieces in
    let all = members c.self.inside.pieces in
    let whole : taken ++ rest ≡ all = c.in_ok-taken.ensures.blocks ∙ ap members c.in_ok-pieces.ensures in
    let long : length taken + length rest ≡ length all = sym (length-append taken rest) ∙ ap length whole in
    let count = length-map c.in_ok-taken.taken.items dead_block in
    let wanted = c.in_ok-taken.ensures.count in
    let kept = c.self.invariant.1 in (
      (parted taken rest all whole c.self.invariant.0).once_left,
      omega (arith, long, count, wanted, kept),
    )

pub returns-clause-once : goal.returns-clause-once
returns-clause-once c =
    (parted (dead_blocks c.in_ok-taken.taken.items) (members c.take_blocks.new.pieces) (members c.self.inside.pieces) (c.in_ok-taken.ensures.blocks ∙ ap members c.in_ok-pieces.ensures) c.self.invariant.0).once

pub returns-clause-within : goal.returns-clause-within
returns-clause-within c = λ b h.
    subst (λ (s : BlockSet). Has s b) c.self.view_is
    ((parted (dead_blocks c.in_ok-taken.taken.items) (members c.take_blocks.new.pieces) (members c.self.inside.pieces) (c.in_ok-taken.ensures.blocks ∙ ap members c.in_ok-pieces.ensures) c.self.invariant.0).within b h)

pub returns-clause-count : goal.returns-clause-count
returns-clause-count c =
    c.in_ok-taken.ensures.count
    ∙ c.min-wanted.ensures
    ∙ ap (min c.args.n) (len_is (members c.self.inside.pieces) c.args.self.now c.self.inside.len c.self.invariant.1 c.self.invariant.0 c.self.view_is)

pub returns-clause-rest : goal.returns-clause-rest
returns-clause-rest c =
    (parted (dead_blocks c.in_ok-taken.taken.items) (members c.take_blocks.new.pieces) (members c.self.inside.pieces) (c.in_ok-taken.ensures.blocks ∙ ap members c.in_ok-pieces.ensures) c.self.invariant.0).left
    ∙ ap (λ (s : BlockSet). difference s (dead_set c.in_ok-taken.taken.items)) c.self.view_is
