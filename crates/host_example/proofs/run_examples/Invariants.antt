use Rattle.host_example.specs.declared.threads.TheConstants.{CALLS}
use Rattle.host_example.proofs.run_examples.Given as goal

-- the session begins at the pool that it is handed, and takes as many calls as the example says
abbrev pub ghosts-four_threads : goal.ghosts-four_threads
ghosts-four_threads g a = record { opening = a.pool.state; limit = CALLS }
