-- Receives: why they are refused, and their steps.
use Rattle.std.proofs.Common.{◌≡◌, ℕ, ◌<◌, ◌≤◌, ◌+◌, Bool, true, false, cond, not, map, List, [], ◌∷◌, Option, Some, None, refl, sym, ap, subst, ◌∙◌, inl, inr, ⊎_elim, length, arith}
use Rattle.std.specs.Prelude.{nat_le, count_by}
use Rattle.std.specs.Option.{option_map_or}
use Rattle.std.specs.FinMap.{get, insert}
use Rattle.std.specs.FinSet as set
use Rattle.std.proofs.lemmas.Bool.{le-leb}
use Rattle.std.proofs.lemmas.Bool.Decides.{leb_tells}
use Rattle.base.specs.declared.number.Key.{Key}
use Rattle.base.specs.declared.refusal.Refusal.{Refusal}
use Rattle.base.specs.declared.refusal.Refusal.TheVariants.{BadStream, Quota, RefQuota, NoSpace, NoMemory}
use Rattle.base.specs.Map.{Block, BlockSet}
use Rattle.base.specs.Rewrite.{Changes, rewrite}
use Rattle.base.specs.Surveys.{IsIn, IsSurvey, dead_block}
use Rattle.base.specs.declared.name.member.Member.{Member}
use Rattle.stream.specs.Records.{changes_of}
use Rattle.stream.specs.Spelling.{Sending, IsStream, IsNoStream}
use Rattle.zalloc.specs.declared.BlockState.{BlockState}
use Rattle.zalloc.specs.declared.BlockState.TheVariants.{Free}
use Rattle.zalloc.specs.States.{is_free}
use Rattle.batch.specs.declared.draft.Draft.{Draft}
use Rattle.tree.specs.Change.{HasRoom, LacksRoom, young_count}
use Rattle.tree.specs.Taking.{takes, AllFree}
use Rattle.datasets.specs.Rows.{live_of, with_snap}
use Rattle.datasets.specs.Snapshots.{with_snap_at}
use Rattle.datasets.specs.Writes.{young_of, HasWritten}
use Rattle.model.specs.declared.receiving.Receiving.{Receiving}
use Rattle.model.specs.declared.request.Request.TheVariants.{Receive}
use Rattle.model.specs.declared.reply.Reply.TheVariants.{Done, Refused}
use Rattle.model.specs.World.{World, FileSystem, Snap, union_of, reach_of}
use Rattle.model.specs.State.{State, block_state}
use Rattle.model.specs.Edits.{with_now, with_next_group, after_change}
use Rattle.model.specs.Fits.{pool_holds}
use Rattle.model.specs.Hierarchy.{FileSystems}
use Rattle.model.specs.Numbers.{HasStates}
use Rattle.model.specs.Rule.{Rule, first_of}
use Rattle.model.specs.Refusals.{refusal_of, state_asked, fresh_number}
use Rattle.model.specs.Step.{Step, out_of_memory}
use Rattle.model.specs.requests.Change.{limit_row}
use Rattle.model.specs.requests.Receive.{before_receive, received, stream_row, receive_rule}
use Rattle.model.specs.requests.Snapshot.{snap_of_live, with_snapshot}
use Rattle.world.specs.Plans.{IsSettling}
use Rattle.world.specs.Sets.{AreDisjoint}
use Rattle.world.specs.Shapes.{Name}
use Rattle.world.specs.Takings.{AreTakable}
use Rattle.world.specs.Tables.{Datasets, with_system}
use Rattle.world.specs.Worlds.{AreFileSystems, IsPoolState, IsSwept}
use Rattle.world.proofs.lists.Finding.{in_left, in_either}
use Rattle.world.proofs.lists.Maps.{same_value}
use Rattle.world.proofs.lineage.Put.{put_here}
use Rattle.world.proofs.steps.StateSteps.{snapshots_before, swept_stays}
use Rattle.limits.specs.Limits.{IsUnlimited, AreQuotasMet}
use Rattle.limits.proofs.AskedChanges.{after_is}
use Rattle.limits.proofs.AskedSteps.{asked_systems, asked_alike}
use Rattle.limits.proofs.Limits.{limits_met}
use Rattle.limits.proofs.AskedRows.{limits_asked}
use Rattle.limits.proofs.Taken.{taken_is, taken_systems, taken_union, taken_freeing, taken_reach}
use Rattle.limits.proofs.TakenAlike.{taken_holds}
use Rattle.limits.proofs.Unlimited.{quotas_unlimited, refquotas_unlimited}
use Rattle.steps.specs.Settles.{AreStatesOf, releases, AllAllocated, AreTakable as AreTakableNumbers}
use Rattle.steps.specs.Steady.{IsSteady}
use Rattle.steps.specs.Edits.{datasets_of, with_datasets}
use Rattle.steps.specs.Received.{asked_by_receive, put_freeing, CanReceive}
use Rattle.steps.proofs.quotas.Bounded.{first_left, first_after}
use Rattle.steps.proofs.ledgers.Grown.{IsGrown, IsPruned, grown_then, grown_put, pruned_then, begun_pruned}
use Rattle.steps.proofs.requests.Batching.{live_there_is, batch_apart, batch_enough, batch_room, batch_leads, batch_good, batch_swept, batch_there, batch_unlimited, batch_settles, batch_takable}
use Rattle.steps.proofs.requests.Beginning.{IsBegun, begun_world}
use Rattle.steps.proofs.numbers.Known.{states_of, of_states}
use Rattle.steps.proofs.numbers.Ruled.{refused_by, done_by}
use Rattle.steps.proofs.numbers.Settling as settling
use Rattle.steps.proofs.quotas.Unlimited.{AreKnown, AreOriginsIn, unlimited_put, same_known, put_known, same_origins, put_origins}

-- ---- why it is refused

module _ (s : State) (m : Member) (bytes : List ℕ) (mode : Receiving) where
  -- memory is wanting, whatever the bytes say
  pub receive_no_memory : Step s (Receive m bytes mode) (Refused NoMemory) s
  receive_no_memory = record { reading = None; read = inr refl; follows = out_of_memory (record { may = refl; reply_is = refl; unchanged = refl }) }

  -- bytes that are no stream
  pub receive_bad_stream : IsNoStream bytes → Step s (Receive m bytes mode) (Refused BadStream) s
  unfolding refusal_of
  receive_bad_stream none = refused_by (Receive m bytes mode) (receive_rule m None mode) (None, none, refl) s BadStream refl

  module _ (sent : Sending) (is : IsStream bytes sent) where
    abbrev rule : Rule
    rule = receive_rule m (Some sent) mode

    -- a stream that another row refuses than that of the limits
    pub receive_refused : (why : Refusal) → first_of (stream_row s.now s.views m sent mode) ≡ Some why → Step s (Receive m bytes mode) (Refused why) s
    unfolding refusal_of
    receive_refused why e = refused_by (Receive m bytes mode) rule (Some sent, is, refl) s why
        (first_left (stream_row s.now s.views m sent mode) (limit_row (state_asked s rule)) why e)

    module _ (none : first_of (stream_row s.now s.views m sent mode) ≡ None) where
      -- what earlier rows don't refuse, the limits say
      row_is : refusal_of s (receive_rule m (Some sent) mode) ≡ first_of (limit_row (asked_by_receive s m sent mode))
      unfolding refusal_of state_asked
      row_is = first_after (stream_row s.now s.views m sent mode) (limit_row (state_asked s rule)) none

      -- a stream by which a limit would be passed
      pub receive_refused_by_limit : (why : Refusal) → first_of (limit_row (asked_by_receive s m sent mode)) ≡ Some why → Step s (Receive m bytes mode) (Refused why) s
      receive_refused_by_limit why over = refused_by (Receive m bytes mode) rule (Some sent, is, refl) s why (row_is ∙ over)

      -- and one that nothing refuses, with new blocks of these numbers
      pub receive_done_by : (number : Key → ℕ) (t : State) → first_of (limit_row (asked_by_receive s m sent mode)) ≡ None
          → t ≡ with_now s (received s.now m sent mode number) → IsSteady t → Step s (Receive m bytes mode) Done t
      receive_done_by number t fits after steady = done_by (Receive m bytes mode) rule (Some sent, is, refl) s (record { number = number; taken = set.empty }) t Done
          refl refl (row_is ∙ fits) refl after steady

-- ---- other datasets put in place, with other blocks to be freed: no number is in another state than the worlds give it

module _ (s : State) (steady : IsSteady s) (numbers : List BlockState) (known : HasStates s numbers) (t : Datasets) (freeing : BlockSet) (released : List Block) (taken : List ℕ)
    (can : CanReceive s t freeing released taken) where
  abbrev new : BlockSet
  new = reach_of (put_freeing s t freeing).now

  takable_numbers : AreTakableNumbers numbers s.last.group released taken
  takable_numbers n i = ⊎_elim (λ f. inl (known.each n f.0 ∙ ap Some f.1)) (λ w. inr w) (can.takable n i)

  pub receive_release : AllAllocated s.last.group numbers released
  receive_release = settling.release_them (reach_of s.now) new (reach_of s.last) s.last.group s.now.group s.size steady.good.pair.reached released taken can.settling
      numbers (states_of s numbers known) takable_numbers

  pub receive_take : AllFree (releases s.last.group numbers released) taken
  receive_take = settling.take_them (reach_of s.now) new (reach_of s.last) s.last.group s.now.group s.size steady.good.pair.reached released taken can.settling
      numbers (states_of s numbers known) takable_numbers

  pub receive_states : HasStates (put_freeing s t freeing) (takes (releases s.last.group numbers released) taken)
  receive_states = of_states (put_freeing s t freeing) (takes (releases s.last.group numbers released) taken)
      (settling.settled (reach_of s.now) new (reach_of s.last) s.last.group s.now.group s.size steady.good.pair.reached released taken can.settling
      numbers (states_of s numbers known) takable_numbers)

-- ---- what it leads to

-- limits of which the pool's room alone may be wanting
row-value : (q f p b : Bool) → q ≡ true → f ≡ true → p ≡ b
    → cond {A = Option Refusal} (not q) (Some Quota) (cond (not f) (Some RefQuota) (cond (not p) (Some NoSpace) None)) ≡ cond b None (Some NoSpace)
row-value q f p true a c e = rw (a, c, e) refl
row-value q f p false a c e = rw (a, c, e) refl

not_le : (x y : ℕ) → y < x → nat_le x y ≡ false
not_le x y h = ⊎_elim (λ t. let l = t.1 in absurd (omega arith)) (λ t. t.0) (leb_tells x y)

module _ (s : State) (steady : IsSteady s) (numbers : List BlockState) (known : HasStates s numbers) (m : Member) (sent : Sending) (mode : Receiving)
    (none : first_of (stream_row s.now s.views m sent mode) ≡ None)
    (can : AreTakable (before_receive s.now m.file_system sent mode).file_systems (m ∷ [])) where
  -- the state that it begins with, before any record
  abbrev pub begun : State
  begun = with_now s (before_receive s.now m.file_system sent mode)

  abbrev w : World
  w = before_receive s.now m.file_system sent mode

  abbrev name : Name
  name = m.file_system

  abbrev ch : Changes
  ch = changes_of sent.records

  abbrev f : FileSystem
  f = can.0.0

  is : IsBegun s w
  is = begun_world s steady m sent mode none

  -- no number changes its state
  pub begun_states : HasStates (with_now s (before_receive s.now m.file_system sent mode)) numbers
  begun_states = of_states begun numbers (subst (λ r. AreStatesOf r (reach_of s.last) s.size numbers) (sym is.reach) (states_of s numbers known))

  -- ---- the world that limits are asked of

  abbrev asked : World
  asked = after_change w name ch (fresh_number s)

  systems : AreFileSystems asked.file_systems asked.group
  systems = asked_systems begun is.good name f can.0.1 ch

  there : (number : Key → ℕ) → get (after_change w name ch number).file_systems name ≡ Some (record f { live = rewrite f.live ch w.group number })
  there number = ap (λ (x : World). get x.file_systems name) (after_is w name f can.0.1 ch number) ∙ put_here w.file_systems name (record f { live = rewrite f.live ch w.group number })

  abbrev can_take : (number : Key → ℕ) → AreTakable (after_change w name ch number).file_systems (m ∷ [])
  can_take number = ((record f { live = rewrite f.live ch w.group number }, there number, can.0.2), (λ k i. absurd i), tt)

  abbrev last : World
  last = with_next_group (with_snapshot asked m sent.target)

  asked_is : asked_by_receive s m sent mode ≡ with_now s last
  unfolding received
  asked_is = refl

  last_systems : AreFileSystems last.file_systems last.group
  last_systems = taken_systems asked systems m sent.target (can_take (fresh_number s))

  last_reach : reach_of last ≡ reach_of asked
  last_reach = taken_reach asked systems m sent.target (can_take (fresh_number s))

  last_unlimited : IsUnlimited s.now.file_systems → IsUnlimited last.file_systems
  last_unlimited bare =
      let mid = subst (λ (x : World). IsUnlimited x.file_systems) (sym (after_is w name f can.0.1 ch (fresh_number s)))
      (unlimited_put w.file_systems (is.unlimited bare) name (record f { live = rewrite f.live ch w.group (fresh_number s) }) (is.unlimited bare name f can.0.1)) in
      subst (λ (x : World). IsUnlimited x.file_systems) (sym (taken_is asked systems m sent.target (can_take (fresh_number s))))
      (unlimited_put asked.file_systems mid name _ (is.unlimited bare name f can.0.1))

  -- ---- the room that it takes

  module _ (dropped : List Block) (made : List Key) (survey : IsSurvey (live_of w.file_systems name) ch dropped made) where
    live_survey : IsSurvey f.live ch dropped made
    live_survey = subst (λ x. IsSurvey x ch dropped made) (live_there_is w.file_systems name f can.0.1) survey

    last_apart : AreDisjoint (union_of last) last.freeing
    last_apart =
        let u = taken_union asked systems m sent.target (can_take (fresh_number s)) in
        let g = taken_freeing asked systems m sent.target (can_take (fresh_number s)) in
        subst (λ (p : BlockSet × BlockSet). AreDisjoint p.0 p.1) (λ i. (sym u i, sym g i)) (batch_apart begun is.good numbers begun_states name f can.0.1 ch dropped made live_survey)

    -- where the limits hold, the Free numbers and the dropped young blocks are enough
    enough : first_of (limit_row (asked_by_receive s m sent mode)) ≡ None → length made ≤ count_by is_free numbers + young_count (young_of (datasets_of begun) name s.last.group) dropped
    enough fits = batch_enough begun is.good numbers begun_states name f can.0.1 ch dropped made live_survey last last_systems last_apart last_reach
        (ap pool_holds (sym asked_is) ∙ (limits_met (asked_by_receive s m sent mode) (limits_asked (asked_by_receive s m sent mode) fits)).1)

    -- and where no file system has a limit, they hold exactly then
    limits_bare : IsUnlimited s.now.file_systems → (b : Bool) → nat_le (length made) (count_by is_free numbers + young_count (young_of (datasets_of begun) name s.last.group) dropped) ≡ b
        → first_of (limit_row (asked_by_receive s m sent mode)) ≡ cond b None (Some NoSpace)
    limits_bare bare b e =
        ap (λ x. first_of (limit_row x)) asked_is
        ∙ row-value _ _ _ b (quotas_unlimited last (last_unlimited bare)) (refquotas_unlimited last (last_unlimited bare))
        (batch_room begun is.good numbers begun_states name f can.0.1 ch dropped made live_survey last last_systems last_apart last_reach (last_unlimited bare) ∙ e)

  -- where no file system has a limit and there is room, the limits hold
  pub receive_fits : IsUnlimited s.now.file_systems → HasRoom (live_of w.file_systems name) ch (young_of (datasets_of begun) name s.last.group) numbers
      → first_of (limit_row (asked_by_receive s m sent mode)) ≡ None
  receive_fits bare room = limits_bare room.dropped room.made room.survey bare true (le-leb _ _ room.enough)

  -- and where there is none, the pool is full
  pub receive_short : IsUnlimited s.now.file_systems → LacksRoom (live_of w.file_systems name) ch (young_of (datasets_of begun) name s.last.group) numbers
      → first_of (limit_row (asked_by_receive s m sent mode)) ≡ Some NoSpace
  receive_short bare lacks = limits_bare lacks.dropped lacks.made lacks.survey bare false (not_le _ _ lacks.short)

  -- where they hold, there is room
  pub receive_not_short : first_of (limit_row (asked_by_receive s m sent mode)) ≡ None
      → LacksRoom (live_of w.file_systems name) ch (young_of (datasets_of begun) name s.last.group) numbers → ⊥
  receive_not_short fits lacks =
      let e = enough lacks.dropped lacks.made lacks.survey fits in
      let l = lacks.short in
      absurd (omega arith)

  -- ---- the records in force, and the snapshot

  module _ (written to : Datasets) (done : Draft) (change : HasWritten (datasets_of begun) written name ch s.last.group numbers done)
      (kept : to ≡ with_snap_at (record written { group = written.group + 1 }) name m.component sent.target written.group)
      (freeing : BlockSet) (freeing_is : freeing ≡ w.freeing) where
    abbrev mid : State
    mid = with_datasets begun written

    leads : (number : Key → ℕ) × (mid ≡ with_now begun (after_change w name ch number)) × IsPoolState (with_now begun (after_change w name ch number))
    leads = batch_leads begun is.good numbers begun_states name f can.0.1 ch written done change

    mid_good : IsPoolState mid
    mid_good = batch_good begun is.good numbers begun_states name f can.0.1 ch written done change

    abbrev changed : FileSystem
    changed = record f { live = change.change.new }

    changed_there : get written.file_systems name ≡ Some changed
    changed_there = batch_there begun is.good numbers begun_states name f can.0.1 ch written done change

    abbrev can_keep : AreTakable written.file_systems (m ∷ [])
    can_keep = ((changed, changed_there, can.0.2), (λ k i. absurd i), tt)

    abbrev end : World
    end = with_next_group (with_snapshot mid.now m sent.target)

    end_taken : end ≡ record mid.now { file_systems = insert written.file_systems name (with_snap changed m.component sent.target written.group); group = written.group + 1 }
    end_taken = taken_is mid.now mid_good.now.systems m sent.target can_keep

    to_is : to ≡ with_system (record written { group = written.group + 1 }) name (with_snap changed m.component sent.target written.group)
    to_is = kept ∙ ap (λ x. option_map_or (λ (y : FileSystem). with_system (record written { group = written.group + 1 }) name (with_snap y m.component sent.target written.group)) x (record written { group = written.group + 1 })) changed_there

    -- the file system of its name alone is another, or new, and has the snapshots that it had
    pub received_pruned : IsPruned s.now.file_systems to.file_systems m.file_system
    received_pruned = pruned_then s.now.file_systems w.file_systems to.file_systems name (begun_pruned s steady m sent mode none)
        (grown_then w.file_systems written.file_systems to.file_systems name
        (subst (λ (x : FileSystems). IsGrown w.file_systems x name) (sym written_is) (grown_put w.file_systems name live_changed (λ g v at i. subst (λ (y : FileSystem). IsIn y.snaps v) (same_value g f (sym at ∙ can.0.1)) i)))
        (subst (λ (x : Datasets). IsGrown written.file_systems x.file_systems name) (sym to_is)
        (grown_put written.file_systems name (with_snap changed m.component sent.target written.group)
        (λ g v at i. in_left changed.snaps _ v (subst (λ (y : FileSystem). IsIn y.snaps v) (same_value g changed (sym at ∙ changed_there)) i)))))
      where
        live_changed : FileSystem
        live_changed = record f { live = rewrite f.live ch w.group leads.0 }

        written_is : written.file_systems ≡ insert w.file_systems name live_changed
        written_is = ap (λ (x : State). x.now.file_systems) leads.1 ∙ ap (λ (x : World). x.file_systems) (after_is w name f can.0.1 ch leads.0)

    end_is : put_freeing s to freeing ≡ with_now mid end
    end_is = (λ i. put_freeing s (to_is i) (freeing_is i)) ∙ sym (ap (with_now mid) end_taken)

    end_swept : IsSwept (with_now mid end)
    end_swept =
        let longer = with_snap changed m.component sent.target written.group in
        swept_stays mid (with_now mid end) refl
        (subst (λ (x : World). AreKnown written.file_systems x.file_systems) (sym end_taken)
        (put_known written.file_systems written.file_systems (same_known written.file_systems) name longer
        (λ t i. ⊎_elim (λ k. inr (name, changed, changed_there, k)) (λ k. ⊎_elim (λ e. inl (ap (λ (u : Snap). u.deferred) e)) (λ z. absurd z) k) (in_either changed.snaps (snap_of_live mid.now changed m.component sent.target ∷ []) t i))))
        (subst (λ (x : World). AreOriginsIn written.file_systems x.file_systems) (sym end_taken)
        (put_origins written.file_systems written.file_systems (same_origins written.file_systems) name changed longer changed_there refl))
        (batch_swept begun is.good numbers begun_states name f can.0.1 ch written done change is.swept)

    end_met : first_of (limit_row (asked_by_receive s m sent mode)) ≡ None → AreQuotasMet end
    end_met fits =
        subst (λ (x : State). AreQuotasMet (with_next_group (with_snapshot x.now m sent.target))) (sym leads.1)
        (taken_holds asked (after_change w name ch leads.0) systems leads.2.now.systems
        (asked_alike begun is.good name f can.0.1 ch (record { number = leads.0; taken = set.empty }) leads.2) m sent.target (can_take (fresh_number s)) (can_take leads.0)
        (subst (λ (x : State). AreQuotasMet x.now) asked_is (limits_met (asked_by_receive s m sent mode) (limits_asked (asked_by_receive s m sent mode) fits)).0))

    end_steady : first_of (limit_row (asked_by_receive s m sent mode)) ≡ None → IsSteady (put_freeing s to freeing)
    end_steady fits = subst IsSteady (sym end_is) (record {
      good = snapshots_before mid mid_good sent.target (m ∷ []) can_keep;
      swept = end_swept;
      limits = record { now = end_met fits; last = steady.limits.last };
    })

    end_reach : reach_of (put_freeing s to freeing).now ≡ reach_of mid.now
    end_reach = ap (λ (x : State). reach_of x.now) end_is ∙ taken_reach mid.now mid_good.now.systems m sent.target can_keep

    -- where the limits hold, the datasets can be put in place
    pub receive_can : first_of (limit_row (asked_by_receive s m sent mode)) ≡ None
        → CanReceive s to freeing (map dead_block done.released.items) (map (λ n. n.0) done.taken.items)
    receive_can fits = record {
      steady = end_steady fits;
      settling = subst (λ r. IsSettling r (reach_of (put_freeing s to freeing).now) (reach_of s.last) s.last.group (map dead_block done.released.items) (map (λ n. n.0) done.taken.items)) is.reach
          (subst (λ r. IsSettling (reach_of w) r (reach_of s.last) s.last.group (map dead_block done.released.items) (map (λ n. n.0) done.taken.items)) (sym end_reach)
          (batch_settles begun is.good numbers begun_states name f can.0.1 ch written done change));
      takable = λ n i. ⊎_elim
          (λ (e : (n < s.size) × (block_state begun n ≡ Free)). inl (e.0, same_value _ _ (sym (known.each n e.0) ∙ begun_states.each n e.0 ∙ ap Some e.1)))
          inr
          (batch_takable begun is.good numbers begun_states name f can.0.1 ch written done change n i);
    }

    -- where no file system had a limit, none has one
    pub receive_unlimited : IsUnlimited s.now.file_systems → IsUnlimited to.file_systems
    receive_unlimited bare =
        let mid_bare = batch_unlimited begun is.good numbers begun_states name f can.0.1 ch written done change (is.unlimited bare) in
        subst (λ (x : Datasets). IsUnlimited x.file_systems) (sym to_is)
        (unlimited_put written.file_systems mid_bare name (with_snap changed m.component sent.target written.group) (is.unlimited bare name f can.0.1))

    -- and the receive is done
    pub receive_done : (bytes : List ℕ) → IsStream bytes sent → first_of (limit_row (asked_by_receive s m sent mode)) ≡ None
        → Step s (Receive m bytes mode) Done (put_freeing s to freeing)
    unfolding received
    receive_done bytes stream fits = receive_done_by s m bytes mode sent stream none leads.0 (put_freeing s to freeing) fits
        (end_is ∙ ap (λ (x : State). with_now s (with_next_group (with_snapshot x.now m sent.target))) leads.1) (end_steady fits)
