use Rattle.std.proofs.Common.{◌∙◌}
use Rattle.datasets.specs.Rows.{entry_of}
use Rattle.lookups.proofs.Yielded.{own_are}
use Rattle.lookups.proofs.names.push_names.Goals as goal

-- the file system's name, and then those of its snapshots and of its bookmarks
pub returns-clause-ok : goal.returns-clause-ok
returns-clause-ok c =
    own_are c.args.names.now.items c.push.new.self.items c.push_snapshots.new.names.items c.push_bookmarks.new.names.items c.as_bytes.result.now _ (entry_of c.args.file_system.now)
    c.in_ok-push.ensures.items c.in_ok-text_of.ensures.ok (c.as_bytes.ensures.value ∙ c.name.ensures) c.in_ok-push_snapshots.ensures.ok c.in_ok-push_bookmarks.ensures.ok
