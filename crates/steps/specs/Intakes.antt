-- What a receive makes of a pool, by what the pool keeps.
use Rattle.std.specs.Prelude.{◌≡◌, ◌⊎◌, ◌+◌, ℕ, false, List, [], ◌∷◌, None, Some, map}
use Rattle.base.specs.declared.refusal.Refusal.{Refusal}
use Rattle.base.specs.declared.refusal.Refusal.TheVariants.{BadStream, NoMemory}
use Rattle.base.specs.Surveys.{dead_block}
use Rattle.base.specs.declared.name.member.Member.{Member}
use Rattle.batch.specs.Updates.{changes_of, IsBatch}
use Rattle.batch.specs.declared.update.Update.{Update}
use Rattle.datasets.specs.Snapshots.{with_snap_at}
use Rattle.datasets.specs.Writes.{HasWritten}
use Rattle.stream.specs.Records.{changes_of as changes_of_records}
use Rattle.stream.specs.Spelling.{Sending, IsNoStream}
use Rattle.model.specs.declared.receiving.Receiving.{Receiving}
use Rattle.model.specs.declared.request.Request.TheVariants.{Receive}
use Rattle.model.specs.declared.reply.Reply.TheVariants.{Done}
use Rattle.model.specs.Edits.{with_now}
use Rattle.model.specs.Numbers.{HasStates}
use Rattle.model.specs.Rule.{first_of}
use Rattle.model.specs.State.{State}
use Rattle.model.specs.Step.{Step}
use Rattle.model.specs.requests.Change.{limit_row}
use Rattle.model.specs.requests.Receive.{before_receive, stream_row}
use Rattle.world.specs.Tables.{Datasets, world_of}
use Rattle.world.specs.Takings.{AreTakable}
use Rattle.world.specs.Worlds.{IsPoolState}
use Rattle.zalloc.specs.declared.BlockState.{BlockState}
use Rattle.limits.specs.Limits.{IsUnlimited}
use Rattle.limits.specs.Changes.{IsRecounted}
use Rattle.removals.specs.declared.working_copy.WorkingCopy.{WorkingCopy}
use Rattle.removals.specs.Edits.{HasLost}
use Rattle.receives.specs.Ends.{CanFinish}
use Rattle.receives.specs.Requests.{begun}
use Rattle.steps.specs.Edits.{datasets_of, StaysUnlimited}
use Rattle.steps.specs.Received.{asked_by_receive, put_freeing, CanReceive}
use Rattle.steps.specs.Steady.{IsSteady}
use Rattle.steps.specs.declared.intake.Present.{Present}
use Rattle.batch.specs.declared.draft.Draft.{Draft}

-- why bytes aren't read: they are no stream, or there is no memory for it (zfs-receive(8))
abbrev pub IsUnread : List ℕ → Refusal → Type 0
IsUnread bytes e = ((e ≡ BadStream) × IsNoStream bytes) ⊎ (e ≡ NoMemory)

-- a pool keeps this in this state, between two steps (profile)
pub record IsPresent (s : State) (p : Present) : Type 0 where
  pub steady : IsSteady s
  pub states : HasStates s p.allocator.now
  pub datasets : datasets_of s ≡ p.table.now
  pub freeing : s.now.freeing ≡ p.freeing.now
  pub views : s.views ≡ p.views.now.opened
  pub synced : s.last.group ≡ p.synced.0
  pub size : s.size ≡ p.size
  pub unlimited : p.is_limited ≡ false → IsUnlimited s.now.file_systems

-- in such a state, a receive of what was sent, which no row but that of the limits refuses, has begun with these datasets, and its records are
-- these updates (zfs-receive(8))
pub record IsUnderWay (s : State) (p : Present) (m : Member) (sent : Sending) (mode : Receiving) (edit : WorkingCopy) (us : List Update) : Type 0 where
  pub present : IsPresent s p
  pub none : first_of (stream_row s.now s.views m sent mode) ≡ None
  pub to : edit.to ≡ begun p.table.now m.file_system sent mode
  pub lost : HasLost p.table.now p.freeing.now edit.to edit.freeing
  pub ready : CanFinish edit.to m
  pub batch : IsBatch us
  pub changes : changes_of us ≡ changes_of_records sent.records

-- what a receive of what was sent makes: its records are in force in the live map that it begins with, and that is kept as the snapshot
-- (zfs-receive(8))
pub record IsMadeOf (s : State) (m : Member) (mode : Receiving) (sent : Sending) (i : WorkingCopy) (done : Draft) : Type 0 where
  pub begun : IsPoolState (with_now s (before_receive s.now m.file_system sent mode))
  pub there : AreTakable (before_receive s.now m.file_system sent mode).file_systems (m ∷ [])
  pub written : Datasets
  pub states : List BlockState
  pub change : HasWritten (datasets_of (with_now s (before_receive s.now m.file_system sent mode))) written m.file_system (changes_of_records sent.records) s.last.group states done
  pub kept : i.to ≡ with_snap_at (record written { group = written.group + 1 }) m.file_system m.component sent.target written.group

-- the pool can put this in the place of what it keeps, from which it differs at one name alone, and then the receive is done (zfs-receive(8))
pub record IsIntakeOf (s : State) (m : Member) (bytes : List ℕ) (mode : Receiving) (i : WorkingCopy) (done : Draft) : Type 0 where
  pub sent : Sending
  pub made : IsMadeOf s m mode sent i done
  pub one : IsRecounted (world_of (datasets_of s)) (world_of i.to) m.file_system
  pub can : CanReceive s i.to i.freeing (map dead_block done.released.items) (map (λ n. n.0) done.taken.items)
  pub unlimited : StaysUnlimited s i.to
  pub step : Step s (Receive m bytes mode) Done (put_freeing s i.to i.freeing)

-- this is the first of the limits that are asked which doesn't hold (zfsprops(7): quota, refquota, reservation)
abbrev pub BreaksLimit : State → Member → Sending → Receiving → Refusal → Type 0
BreaksLimit s m sent mode why = first_of (limit_row (asked_by_receive s m sent mode)) ≡ Some why
