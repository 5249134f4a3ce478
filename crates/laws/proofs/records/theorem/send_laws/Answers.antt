use Rattle.laws.proofs.Applied.{sends_difference, full_sends}
use Rattle.laws.proofs.Blocks.{blocks_are_enough, old_blocks_are_enough, sources_become_snapshots}
use Rattle.laws.proofs.Ordered.{sends_are_streams}
use Rattle.laws.proofs.records.theorem.send_laws.Goals as goal

pub returns-clause-difference : goal.returns-clause-difference
returns-clause-difference c = sends_difference

pub returns-clause-full : goal.returns-clause-full
returns-clause-full c = full_sends

pub returns-clause-blocks : goal.returns-clause-blocks
returns-clause-blocks c = blocks_are_enough

pub returns-clause-old_blocks : goal.returns-clause-old_blocks
returns-clause-old_blocks c = old_blocks_are_enough

pub returns-clause-sources : goal.returns-clause-sources
returns-clause-sources c = sources_become_snapshots

pub returns-clause-streams : goal.returns-clause-streams
returns-clause-streams c = sends_are_streams
