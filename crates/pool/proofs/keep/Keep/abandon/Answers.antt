use Rattle.std.proofs.Common.{◌∙◌}
use Rattle.steps.proofs.requests.Abandoning.{abandon_busy}
use Rattle.pool.specs.Pools.{state_in}
use Rattle.pool.proofs.Synced.{lost_put, may_go, may_sweep, back_few, back_bare, back_performed, any_open, none_open}
use Rattle.pool.proofs.keep.Keep.abandon.Goals as goal

pub returns-then-len-gt0-clause-performed : goal.returns-then-len-gt0-clause-performed
returns-then-len-gt0-clause-performed c = abandon_busy (state_in c.args.self.now c.args.world.now) (any_open c.args.self.now.views.opened c.len.result c.len.ensures.len c.if-len-gt0.true)

pub sweep-requires-clause-apart : goal.sweep-requires-clause-apart
sweep-requires-clause-apart c = may_go c.args.self.now c.args.world.now c.requires c.in_ok-edit.edit.to c.in_ok-edit.edit.freeing c.in_ok-edit.ensures.ok.0 c.in_ok-edit.ensures.ok.1

pub sweep-requires-clause-swept : goal.sweep-requires-clause-swept
sweep-requires-clause-swept c = rw c.deref.ensures.value (may_sweep c.args.self.now c.args.world.now c.requires c.in_ok-edit.edit.to c.in_ok-edit.edit.freeing c.in_ok-edit.ensures.ok.0 c.in_ok-edit.ensures.ok.1)

pub renew-requires-clause-few : goal.renew-requires-clause-few
renew-requires-clause-few c = back_few c.args.self.now c.args.world.now c.requires c.in_ok-edit.edit.to c.in_ok-edit.edit.freeing c.in_ok-edit.ensures.ok.0 c.in_ok-edit.ensures.ok.1
    (none_open c.args.self.now.views.opened c.len.result c.len.ensures.len c.if-len-gt0.false) c.put.new.table c.put.new.freeing (c.put.ensures.to ∙ c.in_ok-sweep.ensures.ok)
    (lost_put c.in_ok-edit.edit.to c.sweep.new.self.to c.put.new.table c.in_ok-edit.edit.freeing c.sweep.new.self.freeing c.put.new.freeing c.put.ensures.to c.put.ensures.freeing c.in_ok-sweep.ensures.lost)

pub renew-requires-clause-unlimited : goal.renew-requires-clause-unlimited
renew-requires-clause-unlimited c = λ bare. back_bare c.args.self.now c.args.world.now c.requires c.in_ok-edit.edit.to c.in_ok-edit.edit.freeing c.in_ok-edit.ensures.ok.0 c.in_ok-edit.ensures.ok.1
    (none_open c.args.self.now.views.opened c.len.result c.len.ensures.len c.if-len-gt0.false) c.put.new.table c.put.new.freeing (c.put.ensures.to ∙ c.in_ok-sweep.ensures.ok)
    (lost_put c.in_ok-edit.edit.to c.sweep.new.self.to c.put.new.table c.in_ok-edit.edit.freeing c.sweep.new.self.freeing c.put.new.freeing c.put.ensures.to c.put.ensures.freeing c.in_ok-sweep.ensures.lost) c.in_ok-ledger.ledger c.in_ok-ledger.ensures.ok bare

pub returns-clause-performed : goal.returns-clause-performed
returns-clause-performed c = back_performed c.args.self.now c.args.world.now c.requires c.in_ok-edit.edit.to c.in_ok-edit.edit.freeing c.in_ok-edit.ensures.ok.0 c.in_ok-edit.ensures.ok.1
    (none_open c.args.self.now.views.opened c.len.result c.len.ensures.len c.if-len-gt0.false) c.put.new.table c.put.new.freeing (c.put.ensures.to ∙ c.in_ok-sweep.ensures.ok)
    (lost_put c.in_ok-edit.edit.to c.sweep.new.self.to c.put.new.table c.in_ok-edit.edit.freeing c.sweep.new.self.freeing c.put.new.freeing c.put.ensures.to c.put.ensures.freeing c.in_ok-sweep.ensures.lost) c.renew.new.ledger c.renew.ensures
