use Rattle.model.specs.State.{fresh_state}
use Rattle.session_rows.proofs.sections.open.Given as goal

-- what the session begins from
abbrev pub ghosts-section : goal.ghosts-section
ghosts-section g a = record { opening = fresh_state 1 a.blocks; limit = a.limit }
