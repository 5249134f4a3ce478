use Rattle.std.proofs.Common.{◌≡◌, ℕ, List, subst}
use Rattle.std.specs.Prelude.{OnOk}
use Rattle.file_system.specs.Deferred.{edited_at, with_snap_name}
use Rattle.file_system.specs.Rows.{with_system}
use Rattle.file_system.proofs.file_system.FileSystem.rename_snapshot.Goals as goal

pub returns-clause-ok : goal.returns-clause-ok
returns-clause-ok c =
    subst (λ (n : List ℕ). OnOk c.edit.result (c.edit.new.self ≡ with_system c.args.self.now (edited_at (with_snap_name n) c.args.self.now.system c.args.group.0)))
    c.in_ok-name.ensures.ok c.edit.ensures.ok
