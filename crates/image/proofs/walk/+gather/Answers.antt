use Rattle.std.proofs.Common.{ℕ, ◌-◌, ◌<◌, List, [], ◌∷◌, ◌++◌, Some, sym, ap, subst, ◌∙◌, arith}
use Rattle.std.specs.Prelude.{IfSome}
use Rattle.tree.specs.declared.block.Root.{Root}
use Rattle.image.specs.ImageBlocks.{root_block, maybe_block}
use Rattle.image.specs.Image.{blocks_in}
use Rattle.image.specs.ImageWalk.{pointer_in}
use Rattle.image.proofs.Gathering.{behind, leaf_is, begins, goes_on, stops, ends, finds_none, finds_block, finds_bad, child_within, index_small}
use Rattle.image.proofs.walk.+gather.Goals as goal
use Rattle.image.proofs.walk.+gather.Goals.{in-Some+in_default-gather, in_default}

pub returns-then-level-eq0-clause-ok : goal.returns-then-level-eq0-clause-ok
returns-then-level-eq0-clause-ok t c =
    ap (behind c.args.out.now.items) (leaf_is (blocks_in c.args.count c.args.written.now) c.args.count c.args.level c.args.index (root_block c.args.top) c.if-level-eq0.true)
    ∙ ap Some (sym (c.in_ok-push.ensures.items ∙ ap (λ x. c.args.out.now.items ++ (c.args.index, x) ∷ []) c.block_of-block.ensures))

pub loop-place-init : goal.loop-place-init
loop-place-init t c = begins (blocks_in c.args.count c.args.written.now) c.args.count c.args.level c.args.index (root_block c.args.top) c.args.out.now.items (omega (arith, c.if-level-eq0.false))

pub returns-in-Err-clause-bad : goal.returns-in-Err-clause-bad
returns-in-Err-clause-bad t c = λ _.
    stops (blocks_in c.args.count c.args.written.now) c.args.count c.args.level c.args.index (root_block c.args.top) c.args.out.now.items c.loop-place.out.items c.loop-place.place c.loop-place.invariant c.loop-place-test.true
    (finds_bad (blocks_in c.args.count c.args.written.now) c.args.count c.args.level c.args.index (root_block c.args.top) c.loop-place.place
    (ap (λ x. pointer_in c.args.count (c.args.level - 1) c.args.top.birth.0 x c.loop-place.place) (sym c.block_of-block.ensures) ∙ c.in-Err.ensures.pointer.1))

pub overflow_mul-index : goal.overflow_mul-index
overflow_mul-index t c = omega (arith, index_small c.args.level c.args.index (omega (arith, c.if-level-eq0.false)) c.requires.within)

pub overflow_add-index : goal.overflow_add-index
overflow_add-index t c = omega (arith, index_small c.args.level c.args.index (omega (arith, c.if-level-eq0.false)) c.requires.within, c.loop-place-test.true)

pub gather-requires : goal.gather-requires
gather-requires t c = (
  omega (arith, c.decreases, c.if-level-eq0.false),
  (
    c.requires.whole,
    (
      c.requires.size,
      (
        subst (λ o. IfSome o (λ (r : Root). r.block.0 < c.args.count)) c.in-Some.is c.in-Ok.ensures.within,
        (
          omega (arith, c.requires.low),
          child_within c.args.level c.args.index c.loop-place.place (omega (arith, c.if-level-eq0.false)) c.loop-place-test.true c.requires.within,
        ),
      ),
    ),
  ),
)

pub returns-in-Err-gather-clause-bad : goal.returns-in-Err-gather-clause-bad
returns-in-Err-gather-clause-bad t c = λ e.
    let read = λ (x : List ℕ). pointer_in c.args.count (c.args.level - 1) c.args.top.birth.0 x c.loop-place.place in
    stops (blocks_in c.args.count c.args.written.now) c.args.count c.args.level c.args.index (root_block c.args.top) c.args.out.now.items c.loop-place.out.items c.loop-place.place c.loop-place.invariant c.loop-place-test.true
    (finds_block (blocks_in c.args.count c.args.written.now) c.args.count c.args.level c.args.index (root_block c.args.top) c.loop-place.place (root_block c.in-Some.below)
    (ap read (sym c.block_of-block.ensures) ∙ c.in-Ok.ensures.pointer ∙ ap (λ o. Some (maybe_block o)) c.in-Some.is) ∙ c.in-Err-gather.ensures.bad e)

pub loop-place-preserved : goal.loop-place-preserved
loop-place-preserved t c =
    let read = λ (x : List ℕ). pointer_in c.args.count (c.args.level - 1) c.args.top.birth.0 x c.loop-place.place in
    let out = c.loop-place.out.items in
    elim c.match-pointer.branch [
      | in-Some+in_default-gather w ↦ rw w.out-is (goes_on (blocks_in c.args.count c.args.written.now) c.args.count c.args.level c.args.index (root_block c.args.top) c.args.out.now.items out w.gather.new.out.items c.loop-place.place c.loop-place.invariant c.loop-place-test.true
          (ap (behind out) (finds_block (blocks_in c.args.count c.args.written.now) c.args.count c.args.level c.args.index (root_block c.args.top) c.loop-place.place (root_block w.in-Some.below)
          (ap read (sym c.block_of-block.ensures) ∙ c.in-Ok.ensures.pointer ∙ ap (λ o. Some (maybe_block o)) w.in-Some.is)) ∙ w.in_default-gather.ensures.ok))
      | in_default w ↦ rw w.out-is (goes_on (blocks_in c.args.count c.args.written.now) c.args.count c.args.level c.args.index (root_block c.args.top) c.args.out.now.items out out c.loop-place.place c.loop-place.invariant c.loop-place-test.true
          (finds_none (blocks_in c.args.count c.args.written.now) c.args.count c.args.level c.args.index (root_block c.args.top) out c.loop-place.place
          (ap read (sym c.block_of-block.ensures) ∙ c.in-Ok.ensures.pointer ∙ ap (λ o. Some (maybe_block o)) w.in_default.is)))
    ]

pub returns-clause-ok : goal.returns-clause-ok
returns-clause-ok t c =
    ends (blocks_in c.args.count c.args.written.now) c.args.count c.args.level c.args.index (root_block c.args.top) c.args.out.now.items c.loop-place.out.items c.loop-place.place c.loop-place.invariant c.loop-place-test.false
