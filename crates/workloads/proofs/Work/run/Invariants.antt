use Rattle.session.specs.declared.book.book.TheConstants.{CALL_LIMIT}
use Rattle.workloads.proofs.Work.run.Given as goal

-- the session begins at the pool that it is handed, and takes as many calls as are asked
abbrev pub ghosts-called : goal.ghosts-called
ghosts-called g a = record { opening = a.pool.state; limit = a.calls }

-- it takes as many calls as a session may
abbrev pub ghosts-viewed : goal.ghosts-viewed
ghosts-viewed g a = record { opening = a.pool.state; limit = CALL_LIMIT }
