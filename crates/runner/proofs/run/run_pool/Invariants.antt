use Rattle.session.specs.declared.book.book.TheConstants.{CALL_LIMIT}
use Rattle.runner.proofs.run.run_pool.Given as goal

-- what the session begins from
abbrev pub ghosts-run_beside : goal.ghosts-run_beside
ghosts-run_beside g a = record { opening = a.pool.state; limit = CALL_LIMIT }
