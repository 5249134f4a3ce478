use Rattle.laws.proofs.Sends.{full_send_of, full_send_after, source_sends, snapshot_sends, bookmark_sends, history_sends}
use Rattle.laws.proofs.records.theorem.dataset_send_laws.Goals as goal

pub returns-clause-full : goal.returns-clause-full
returns-clause-full c = full_send_of

pub returns-clause-full_after : goal.returns-clause-full_after
returns-clause-full_after c = full_send_after

pub returns-clause-sources : goal.returns-clause-sources
returns-clause-sources c = source_sends

pub returns-clause-snapshots : goal.returns-clause-snapshots
returns-clause-snapshots c = snapshot_sends

pub returns-clause-bookmarks : goal.returns-clause-bookmarks
returns-clause-bookmarks c = bookmark_sends

pub returns-clause-histories : goal.returns-clause-histories
returns-clause-histories c = history_sends
