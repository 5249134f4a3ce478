use Rattle.std.proofs.Common.{◌≡◌, true, false, Some, refl, sym, ap, ◌∙◌}
use Rattle.std.specs.Prelude.{◌==◌}
use Rattle.std.proofs.lemmas.Option.{slice_get-get_or}
use Rattle.std.proofs.lemmas.Bool.{eq-eqb}
use Rattle.base.specs.Key.{covers}
use Rattle.batch.specs.declared.update.Update.TheVariants.{Punch}
use Rattle.batch.specs.Said.{silent, hole, full}
use Rattle.batch.proofs.SaidLaws.{said_over, said_is}
use Rattle.node.proofs.Digits.{eq_not}
use Rattle.batch.proofs.update.word_of.Goals as goal
use Rattle.batch.proofs.update.word_of.Goals.{in-Write+else-own-leaf, in-Punch+else-is_over}

pub loop-update-init : goal.loop-update-init
loop-update-init c = refl

pub returns-then-own-leaf : goal.returns-then-own-leaf
returns-then-own-leaf c =
    let t : (c.in-Write.own == c.args.leaf) ≡ true = eq-eqb c.in-Write.own c.args.leaf c.if-own-leaf.true in
    sym (sym c.loop-update.invariant ∙ said_is c.args.updates.now c.loop-update.update-index c.args.leaf _ _ (full c.in-Write.bytes.now) c.loop-update-test.true c.in-Write.is (rw t refl) ∙ refl)

pub is_over-requires : goal.is_over-requires
is_over-requires c = c.requires.own c.loop-update.update-index (Punch c.in-Punch.key) (slice_get-get_or c.args.updates.now c.loop-update.update-index _ c.loop-update-test.true ∙ ap Some c.in-Punch.is)

pub returns-then-is_over : goal.returns-then-is_over
returns-then-is_over c =
    let t : covers c.in-Punch.key c.args.leaf ≡ true = sym c.is_over.ensures ∙ c.if-is_over.true in
    sym (sym c.loop-update.invariant ∙ said_is c.args.updates.now c.loop-update.update-index c.args.leaf _ _ hole c.loop-update-test.true c.in-Punch.is (rw t refl) ∙ refl)

pub loop-update-preserved : goal.loop-update-preserved
loop-update-preserved c = elim c.match-update.branch [
  | in-Write+else-own-leaf w ↦
      let t : (w.in-Write.own == c.args.leaf) ≡ false = eq_not w.in-Write.own c.args.leaf w.if-own-leaf.false in
      sym (said_is c.args.updates.now c.loop-update.update-index c.args.leaf _ _ silent c.loop-update-test.true w.in-Write.is (rw t refl)) ∙ c.loop-update.invariant
  | in-Punch+else-is_over w ↦
      let t : covers w.in-Punch.key c.args.leaf ≡ false = sym w.is_over.ensures ∙ w.if-is_over.false in
      sym (said_is c.args.updates.now c.loop-update.update-index c.args.leaf _ _ silent c.loop-update-test.true w.in-Punch.is (rw t refl)) ∙ c.loop-update.invariant
]

pub returns : goal.returns
returns c = sym (said_over c.args.updates.now c.loop-update.update-index c.args.leaf c.loop-update-test.false) ∙ c.loop-update.invariant
