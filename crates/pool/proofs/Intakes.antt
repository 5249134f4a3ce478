-- What a receive makes of a world.
use Rattle.std.proofs.Common.{◌≡◌, ◌<◌, ◌^◌, ℕ, List, Option, None, Ok, false, map, subst}
use Rattle.std.specs.FinSet as set
use Rattle.std.specs.declared.alloc.Global.{Global}
use Rattle.std.specs.declared.vec.Vec.{Vec}
use Rattle.base.specs.declared.name.member.Member.{Member}
use Rattle.base.specs.declared.number.BlockNo.{BlockNo}
use Rattle.datasets.specs.Rows.{live_of}
use Rattle.image.specs.BlockWrites.{writes_of, written_pair}
use Rattle.tree.specs.ChangeParts.{made_pair}
use Rattle.zalloc.specs.declared.BlockState.{BlockState}
use Rattle.model.specs.declared.receiving.Receiving.{Receiving}
use Rattle.model.specs.Numbers.{HasStates}
use Rattle.model.specs.State.{State}
use Rattle.model.specs.World.{union_of}
use Rattle.model.specs.declared.request.Request.TheVariants.{Receive}
use Rattle.world.specs.Tables.{world_of}
use Rattle.limits.specs.Limits.{IsUnlimited}
use Rattle.steps.specs.Edits.{datasets_of}
use Rattle.steps.specs.Handed.{IsAccounted, Line}
use Rattle.steps.specs.Intakes.{IsPresent, IsIntakeOf}
use Rattle.steps.specs.Limiting.{CanRecount}
use Rattle.steps.specs.Received.{put_freeing}
use Rattle.removals.specs.declared.working_copy.WorkingCopy.{WorkingCopy}
use Rattle.batch.specs.declared.draft.Draft.{Draft}
use Rattle.std.specs.Prelude.{Box}
use Rattle.steps.specs.declared.intake.Present.{Present}
use Rattle.steps.proofs.requests.Receiving.{receive_release, receive_take}
use Rattle.pool.specs.declared.effect.Effect.TheVariants.{Blocks}
use Rattle.pool.specs.declared.keep.Keep.{Keep}
use Rattle.pool.specs.declared.worlds.World.{World}
use Rattle.pool.specs.Numbers.{synced_numbers}
use Rattle.pool.specs.Effects.{turned, CanTurn, IsPerformed}
use Rattle.pool.specs.Pools.{state_in, IsSound, IsHeld}
use Rattle.image.specs.Writes.{ArePresent, MayWrite}
use Rattle.image.specs.declared.writes.Writes.TheVariants.{Each}
use Rattle.pool.proofs.NewBlocks.{present as present_blocks, each_may, each_leads}
use Rattle.pool.proofs.Commits.{few, sound_received}
use Rattle.pool.proofs.Performed.{unlimited}

-- what a sound pool keeps is what a receive looks at
pub present : (s : State) (numbers : List BlockState) → IsSound s numbers → (p : Present) → numbers ≡ p.allocator.now → datasets_of s ≡ p.table.now
    → s.now.freeing ≡ p.freeing.now → s.views ≡ p.views.now.opened → s.last.group ≡ p.synced.0 → s.size ≡ p.size → (p.is_limited ≡ false → IsUnlimited s.now.file_systems) → IsPresent s p
present s numbers sound p known datasets freeing views synced size unlimited = record {
  steady = sound.steady;
  states = subst (HasStates s) known sound.states;
  datasets = datasets;
  freeing = freeing;
  views = views;
  synced = synced;
  size = size;
  unlimited = unlimited;
}

module _ (k : Keep) (w : World) (held : IsHeld k w) (m : Member) (bytes : List ℕ) (mode : Receiving) (i : WorkingCopy) (done : Draft) (is : IsIntakeOf (state_in k w) m bytes mode i done) where
  abbrev s : State
  s = state_in k w

  abbrev numbers : List BlockState
  numbers = turned s.last.group k.numbers.present done

  sound : IsSound (put_freeing s i.to i.freeing) numbers
  sound = sound_received s k.numbers.present held.sound i.to i.freeing _ _ is.can

  pub intake_few : set.len (union_of (world_of i.to)) < 2 ^ 32
  intake_few = few (put_freeing s i.to i.freeing) numbers sound

  pub intake_bare : w.ledger ≡ None → IsUnlimited i.to.file_systems
  intake_bare none = is.unlimited (unlimited k w held none)

  -- the live tree has a block at each key that the receive tells
  pub intake_present : ArePresent (live_of i.to.file_systems m.file_system) done.made.items
  intake_present = present_blocks s held.sound.steady.good m mode is.sent i done is.made is.can.steady.good

  -- the ledger that is kept can be brought up to date
  pub intake_counted : CanRecount (datasets_of s) i.to m.file_system w.ledger
  intake_counted = record { kept = held.now; hierarchy = held.sound.steady.good.now.systems.hierarchy; differs = is.one }

  pub intake_may : (blocks : Vec (BlockNo × List ℕ) Global) → map written_pair blocks.items ≡ writes_of (live_of i.to.file_systems m.file_system) (map made_pair done.made.items)
      → CanTurn s.last.group k.numbers.present done × MayWrite (synced_numbers s.size s.last) (Each blocks)
  intake_may blocks told = (
    (
      receive_release s held.sound.steady k.numbers.present held.sound.states i.to i.freeing _ _ is.can,
      receive_take s held.sound.steady k.numbers.present held.sound.states i.to i.freeing _ _ is.can,
    ),
    each_may s held.sound.steady.good m mode is.sent i done is.made is.can.steady.good blocks told,
  )

module _ (k : Keep) (w : World) (held : IsHeld k w) (m : Member) (bytes : List ℕ) (mode : Receiving) (i : WorkingCopy) (draft : Box Draft Global) (is : IsIntakeOf (state_in k w) m bytes mode i draft.value) where
  pub intake_performed : (ledger : Option (List Line)) → IsAccounted i.to ledger
      → (blocks : Vec (BlockNo × List ℕ) Global) → map written_pair blocks.items ≡ writes_of (live_of i.to.file_systems m.file_system) (map made_pair draft.value.made.items)
      → IsPerformed (state_in k w) k.numbers.present (record { table = i.to; freeing = i.freeing; ledger = ledger }) (Receive m bytes mode) (Ok (Blocks draft (Each blocks)))
  intake_performed ledger kept blocks told = (
    record {
      sound = sound k w held m bytes mode i draft.value is;
      kept = kept;
      may = intake_may k w held m bytes mode i draft.value is blocks told;
      leads = each_leads (state_in k w) held.sound.steady.good m mode is.sent i draft.value is.made is.can.steady.good blocks told;
    },
    is.step,
  )
