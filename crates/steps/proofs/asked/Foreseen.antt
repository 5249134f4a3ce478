-- What limits are asked of a receive is a change of one account: what is told of it before a record is in force.
use Rattle.std.proofs.Common.{◌≡◌, ℕ, ◌<◌, ◌^◌, List, [], ◌∷◌, Some, None, refl, sym, ap, subst, ◌∙◌, ⊎_elim, arith}
use Rattle.std.specs.FinMap.{get, keys}
use Rattle.std.specs.FinSet as set
use Rattle.std.specs.FinSet.{difference}
use Rattle.base.specs.declared.number.Key.{Key}
use Rattle.base.specs.Map.{Block}
use Rattle.base.specs.Rewrite.{Changes, rewrite}
use Rattle.base.specs.Surveys.{IsSurvey}
use Rattle.base.specs.declared.name.member.Member.{Member}
use Rattle.stream.specs.Records.{changes_of}
use Rattle.stream.specs.Spelling.{Sending}
use Rattle.zalloc.specs.declared.BlockState.{BlockState}
use Rattle.model.specs.declared.receiving.Receiving.{Receiving}
use Rattle.model.specs.World.{World, FileSystem, Live, union_of, reach_of}
use Rattle.model.specs.State.{State, waiting_of}
use Rattle.model.specs.Edits.{with_now, with_next_group, after_change}
use Rattle.model.specs.Numbers.{HasStates}
use Rattle.model.specs.Refusals.{fresh_number}
use Rattle.model.specs.Rule.{first_of}
use Rattle.model.specs.Sums.{used_here, referenced_of}
use Rattle.model.specs.requests.Receive.{before_receive, received, stream_row}
use Rattle.model.specs.requests.Snapshot.{with_snapshot}
use Rattle.world.specs.Sets.{Has}
use Rattle.world.specs.Blocks.{block_order as o}
use Rattle.world.specs.Shapes.{Name, name_order}
use Rattle.world.specs.Takings.{AreTakable}
use Rattle.world.specs.Tables.{world_of}
use Rattle.world.specs.Worlds.{AreFileSystems}
use Rattle.world.proofs.changes.Kept.{reach_is}
use Rattle.world.proofs.lists.Maps.{same_value, key_cases}
use Rattle.world.proofs.lineage.Put.{put_here}
use Rattle.world.proofs.lists.SetCounts.{in_union_left, len-subset}
use Rattle.limits.proofs.AskedChanges.{after_is, change_frees_none}
use Rattle.limits.proofs.AskedSteps.{asked_systems}
use Rattle.limits.proofs.Taken.{taken_is, taken_systems, taken_there, taken_others, taken_others_here, taken_referenced, taken_freeing}
use Rattle.limits.specs.Changes.{IsChanged}
use Rattle.steps.specs.Steady.{IsSteady}
use Rattle.steps.specs.Edits.{datasets_of}
use Rattle.steps.specs.Received.{asked_by_receive}
use Rattle.steps.proofs.requests.Beginning.{IsBegun, begun_world}
use Rattle.steps.proofs.numbers.Counts.{count-free}
use Rattle.steps.proofs.quotas.Foretold.{changed_keys, foretold}
use Rattle.steps.proofs.numbers.Known.{states_of}

module _ (s : State) (steady : IsSteady s) (m : Member) (sent : Sending) (mode : Receiving) (none : first_of (stream_row s.now s.views m sent mode) ≡ None)
    (can : AreTakable (before_receive s.now m.file_system sent mode).file_systems (m ∷ [])) where
  abbrev w : World
  w = before_receive s.now m.file_system sent mode

  abbrev begun : State
  begun = with_now s w

  abbrev name : Name
  name = m.file_system

  abbrev ch : Changes
  ch = changes_of sent.records

  abbrev f : FileSystem
  f = can.0.0

  is : IsBegun s w
  is = begun_world s steady m sent mode none

  abbrev asked : World
  asked = after_change w name ch (fresh_number s)

  abbrev last : World
  last = with_next_group (with_snapshot asked m sent.target)

  pub receive_asked_is : asked_by_receive s m sent mode ≡ with_now s (with_next_group (with_snapshot (after_change (before_receive s.now m.file_system sent mode) m.file_system (changes_of sent.records) (fresh_number s)) m sent.target))
  unfolding received
  receive_asked_is = refl

  systems : AreFileSystems asked.file_systems asked.group
  systems = asked_systems begun is.good name f can.0.1 ch

  there : get asked.file_systems name ≡ Some (record f { live = rewrite f.live ch w.group (fresh_number s) })
  there = ap (λ (x : World). get x.file_systems name) (after_is w name f can.0.1 ch (fresh_number s)) ∙ put_here w.file_systems name (record f { live = rewrite f.live ch w.group (fresh_number s) })

  abbrev can_take : AreTakable asked.file_systems (m ∷ [])
  can_take = ((record f { live = rewrite f.live ch w.group (fresh_number s) }, there, can.0.2), (λ k i. absurd i), tt)

  -- as many blocks wait as before
  pub begun_waiting : set.len (waiting_of (with_now s (before_receive s.now m.file_system sent mode))) ≡ set.len (waiting_of s)
  unfolding waiting_of
  begun_waiting = ap (λ r. set.len (difference (reach_of s.last) r)) is.reach

  -- what is to be freed then is to be freed from the beginning
  pub asked_freeing : (asked_by_receive s m sent mode).now.freeing ≡ (before_receive s.now m.file_system sent mode).freeing
  asked_freeing = ap (λ (x : State). x.now.freeing) receive_asked_is ∙ taken_freeing asked systems m sent.target can_take ∙ change_frees_none w name f can.0.1 ch (fresh_number s)

  -- what its datasets have can be counted by so many bits
  pub begun_few : (numbers : List BlockState) → HasStates s numbers → s.size < 2 ^ 32 → set.len (union_of (before_receive s.now m.file_system sent mode)) < 2 ^ 32
  begun_few numbers known small =
      let l = len-subset o (union_of w) (set.union (reach_of s.now) (reach_of s.last))
      (λ b h. in_union_left o (reach_of s.now) (reach_of s.last) b (subst (λ y. Has y b) (sym (reach_is w) ∙ is.reach) (in_union_left o (union_of w) w.freeing b h))) in
      let c = count-free (reach_of s.now) (reach_of s.last) s.last.group s.now.group s.size steady.good.pair.reached numbers (states_of s numbers known) in
      omega (arith, l, c, small)

  module _ (dropped : List Block) (made : List Key) (survey : IsSurvey f.live ch dropped made) (here referenced : ℕ)
      (is_here : here ≡ used_here (asked_by_receive s m sent mode).now m.file_system)
      (is_referenced : referenced ≡ referenced_of (asked_by_receive s m sent mode).now (Live m.file_system)) where
    mid : IsChanged (world_of (datasets_of begun)) asked name (used_here asked name) (referenced_of asked (Live name))
    mid = foretold begun is.good name f can.0.1 ch dropped made survey (used_here asked name) (referenced_of asked (Live name)) refl refl

    last_keys : keys last.file_systems ≡ keys asked.file_systems
    last_keys = ap (λ (x : World). keys x.file_systems) (taken_is asked systems m sent.target can_take) ∙ changed_keys asked.file_systems name can_take.0.0 _ there

    last_limits : (other : Name) (x y : FileSystem) → get begun.now.file_systems other ≡ Some x → get last.file_systems other ≡ Some y → y.limits ≡ x.limits
    last_limits other x y a b = ⊎_elim
        (λ (e : other ≡ name).
        let new = same_value _ y (sym (taken_there asked systems m sent.target can_take) ∙ ap (get last.file_systems) (sym e) ∙ b) in
        ap (λ (z : FileSystem). z.limits) (sym new) ∙ mid.limits other x can_take.0.0 a (ap (get asked.file_systems) e ∙ there))
        (λ apart. mid.limits other x y a (sym (taken_others asked systems m sent.target can_take other (⊎_elim apart (λ z. z))) ∙ b))
        (key_cases name_order other name)

    later : IsChanged (world_of (datasets_of begun)) last name here referenced
    later = record {
      hierarchy = (taken_systems asked systems m sent.target can_take).hierarchy;
      names = last_keys ∙ mid.names;
      limits = last_limits;
      others = λ other out.
          let a = mid.others other out in
          let b = taken_others_here asked systems m sent.target can_take other out in
          record { here = b.here ∙ a.here; reserved = b.reserved ∙ a.reserved };
      others_referenced = λ other apart. taken_referenced asked systems m sent.target can_take other ∙ mid.others_referenced other apart;
      is_here = ap (λ (x : State). used_here x.now name) (sym receive_asked_is) ∙ sym is_here;
      is_referenced = ap (λ (x : State). referenced_of x.now (Live name)) (sym receive_asked_is) ∙ sym is_referenced;
    }

    -- in the world that they are asked of, one account is another
    pub receive_foretold : IsChanged (world_of (datasets_of (with_now s (before_receive s.now m.file_system sent mode)))) (asked_by_receive s m sent mode).now m.file_system here referenced
    receive_foretold = subst (λ (x : State). IsChanged (world_of (datasets_of begun)) x.now name here referenced) (sym receive_asked_is) later
