use Rattle.std.proofs.Common.{◌≡◌, true, false, Ok, Err, sym, ap, subst, rules}
use Rattle.std.specs.FinMap.{get}
use Rattle.base.specs.declared.refusal.Refusal.TheVariants.{BadKey}
use Rattle.base.specs.Key.{leaf_index}
use Rattle.base.specs.Map.{contents}
use Rattle.model.specs.declared.request.Request.TheVariants.{Read}
use Rattle.model.specs.Step.{Step}
use Rattle.model.specs.Targets.{is_block}
use Rattle.model.proofs.Blocks.{block_tells, not_false}
use Rattle.session.specs.Views.{reply_of}
use Rattle.session.proofs.Reading.{reads_refused, reads_done}
use Rattle.session.proofs.AtOpening.{reads_at_opening}
use Rattle.session.proofs.view.View.read.Goals as goal

pub returns-in_err-bytes-clause-as_read : goal.returns-in_err-bytes-clause-as_read
returns-in_err-bytes-clause-as_read g c = λ s target d numbered here is map.
    let e = c.in_err-bytes.ensures in
    let bad : is_block c.args.object c.args.block ≡ false = (block_tells c.args.object c.args.block e.bad_key).0 (ap Err e.only) in
    let is_bad : c.from_residual.result ≡ Err BadKey = search rules in
    subst (λ r. Step s (Read target c.args.object c.args.block) (reply_of r) s) (sym is_bad) (reads_refused s target c.args.object c.args.block here bad)

pub returns-clause-as_read : goal.returns-clause-as_read
returns-clause-as_read g c = λ s target d numbered here is map.
    let e = c.in_ok-bytes.ensures in
    let inside : is_block c.args.object c.args.block ≡ true = not_false (is_block c.args.object c.args.block) (λ f. cc ((block_tells c.args.object c.args.block e.bad_key).1 f)) in
    let same : c.copied.result ≡ get (contents c.args.self.now.sight.map) (leaf_index c.args.object c.args.block) = search rules in
    reads_done s target c.args.object c.args.block here d c.args.self.now.sight.map c.copied.result numbered is map inside same

pub returns-in_err-bytes-clause-at_opening : goal.returns-in_err-bytes-clause-at_opening
returns-in_err-bytes-clause-at_opening g c = reads_at_opening c.args.self.now c.args.object c.args.block c.from_residual.result (returns-in_err-bytes-clause-as_read g c)

pub returns-clause-at_opening : goal.returns-clause-at_opening
returns-clause-at_opening g c = reads_at_opening c.args.self.now c.args.object c.args.block (Ok c.copied.result) (returns-clause-as_read g c)
