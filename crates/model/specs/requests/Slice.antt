-- Slice (zpool-features(7): async_destroy; the request is profile).
use Rattle.std.specs.Prelude.{ℕ, ◌==◌, ◌&&◌, Bool, true, false, [], min}
use Rattle.std.specs.FinSet as set
use Rattle.model.specs.declared.reply.Reply.TheVariants.{Count}
use Rattle.model.specs.State.{State}
use Rattle.model.specs.Edits.{with_now}
use Rattle.model.specs.Rule.{Choice, Rule}

-- how many blocks it takes: as many as it asks for, or all where they are fewer (profile)
abbrev pub slice_size : State → ℕ → ℕ
slice_size s count = min count (set.len s.now.freeing)

-- it may take any of what is to be freed (zpool-features(7): async_destroy)
abbrev pub may_slice : ℕ → State → Choice → Bool
may_slice count s c = set.is_subset c.taken s.now.freeing && (set.len c.taken == slice_size s count)

-- they are no longer to be freed (zpool-features(7): async_destroy)
abbrev pub slice_rule : ℕ → Rule
slice_rule count = record {
  row = λ s asked. [];
  after = λ s c. with_now s (record s.now { freeing = set.difference s.now.freeing c.taken });
  reply = λ s. Count (slice_size s count);
  may = may_slice count;
  only_reads = false;
  takes_memory = true;
}
