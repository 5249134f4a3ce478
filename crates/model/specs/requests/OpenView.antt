-- OpenView (profile; a view counts as a hold, zfs-hold(8)).
use Rattle.std.specs.Prelude.{ℕ, ◌+◌, true, false, not, ◌||◌, [], ◌∷◌, nat_lt, is_some}
use Rattle.std.specs.Option.{option_map_or}
use Rattle.std.specs.FinMap.{insert, len}
use Rattle.base.specs.declared.refusal.Refusal.TheVariants.{NoDataset, NotSnapshot, Deferred, TooMany}
use Rattle.base.specs.declared.name.target.Target.{Target}
use Rattle.model.specs.declared.reply.Reply.TheVariants.{Done, Opened}
use Rattle.model.specs.World.{Snap, id_of}
use Rattle.model.specs.State.{State}
use Rattle.model.specs.Targets.{is_snapshot_name, number_limit}
use Rattle.model.specs.Rule.{Row, Rule, any_choice}
use Rattle.model.specs.requests.Rollback.{placed}
use Rattle.model.specs.requests.Send.{sight_of}

-- the most open views of a pool (profile)
abbrev pub view_limit : ℕ
view_limit = 1024

-- the next view stands at the snapshot (profile)
abbrev pub with_view : State → Snap → State
with_view s t = record s { views = insert s.views s.next_view (id_of t); next_view = s.next_view + 1 }

-- a view can't be opened of what is no snapshot, isn't there, or is to go, nor where there are too many (profile)
abbrev pub open_view_row : State → Target → Row
open_view_row s target =
    (not (is_snapshot_name target), NotSnapshot)
    ∷ (not (is_some (placed s.now target)), NoDataset)
    ∷ (option_map_or (λ p. p.1.deferred) (placed s.now target) false, Deferred)
    ∷ (nat_lt view_limit (len s.views + 1) || nat_lt number_limit s.next_view, TooMany)
    ∷ []

-- the next view stands at the snapshot, and the reply shows it as it is, with what a send of it may start from (profile)
abbrev pub open_view_rule : Target → Rule
open_view_rule target = record {
  row = λ s asked. open_view_row s target;
  after = λ s c. option_map_or (λ p. with_view s p.1) (placed s.now target) s;
  reply = λ s. option_map_or (λ p. Opened s.next_view (sight_of s.now (id_of p.1))) (placed s.now target) Done;
  may = any_choice;
  only_reads = false;
  takes_memory = true;
}
