-- How requests are answered.
use Rattle.std.specs.Prelude.{None, if◌then◌else◌}
use Rattle.model.specs.declared.request.Request.{Request}
use Rattle.model.specs.declared.request.Request.TheVariants.{Snapshot, Rollback, Promote, Rename, OpenView}
use Rattle.model.specs.requests.{rule_of}
use Rattle.pool.specs.declared.kind.Kind.{Kind}
use Rattle.pool.specs.declared.kind.Kind.TheVariants.{Question, View, Change, Asking}

-- a request that doesn't only read opens a view, or changes the present world; and a snapshot, a rollback, a promote and a rename ask limits of
-- the world that they lead to as a whole (profile)
abbrev pub other_kind : Request → Kind
other_kind (OpenView target) = View
other_kind (Snapshot names recursive) = Asking
other_kind (Rollback target later) = Asking
other_kind (Promote name) = Asking
other_kind (Rename name to) = Asking
other_kind request = Change

-- a request that only reads by its rule is a question (profile)
abbrev pub kind_of : Request → Kind
kind_of q = if (rule_of q None).only_reads then Question else other_kind q
