-- What a receive makes of a pool leads to its step.
use Rattle.std.proofs.Common.{◌≡◌, ℕ, Bool, true, false, List, [], ◌∷◌, Some, None, refl, sym, ap, subst, ◌∙◌, ◌⊎◌, ⊎_elim}
use Rattle.base.specs.Map.{BlockSet}
use Rattle.base.specs.Rewrite.{Changes}
use Rattle.base.specs.declared.refusal.Refusal.{Refusal}
use Rattle.base.specs.declared.refusal.Refusal.TheVariants.{NoSpace, NoMemory}
use Rattle.batch.specs.Updates.{changes_of, IsBatch}
use Rattle.batch.specs.declared.update.Update.{Update}
use Rattle.base.specs.declared.name.member.Member.{Member}
use Rattle.stream.specs.Records.{changes_of as changes_of_records}
use Rattle.stream.specs.Spelling.{Sending, IsStream}
use Rattle.stream.specs.declared.record.Record.{Record}
use Rattle.batch.specs.declared.draft.Draft.{Draft}
use Rattle.tree.specs.Asking.{IsNoSpaceOrNoMemory}
use Rattle.tree.specs.Change.{HasRoom, LacksRoom}
use Rattle.datasets.specs.Rows.{live_of}
use Rattle.datasets.specs.Writes.{young_of, AllowsWrite, HasWritten}
use Rattle.model.specs.declared.receiving.Receiving.{Receiving}
use Rattle.model.specs.declared.request.Request.TheVariants.{Receive}
use Rattle.model.specs.declared.reply.Reply.TheVariants.{Refused}
use Rattle.model.specs.World.{World, union_of}
use Rattle.model.specs.State.{State}
use Rattle.model.specs.Edits.{with_now}
use Rattle.model.specs.Rule.{first_of}
use Rattle.model.specs.Step.{Step}
use Rattle.model.specs.requests.Change.{limit_row}
use Rattle.model.specs.requests.Receive.{before_receive, stream_row}
use Rattle.world.specs.Sets.{Has, AreDisjoint}
use Rattle.world.specs.Takings.{AreTakable}
use Rattle.world.specs.Tables.{Datasets, world_of}
use Rattle.limits.specs.Limits.{IsUnlimited}
use Rattle.removals.specs.declared.working_copy.WorkingCopy.{WorkingCopy}
use Rattle.removals.specs.Edits.{HasLost}
use Rattle.receives.specs.Ends.{CanFinish, HasReceived}
use Rattle.receives.specs.Requests.{begun, receive_refusal}
use Rattle.steps.specs.Edits.{datasets_of}
use Rattle.steps.specs.Received.{asked_by_receive}
use Rattle.limits.proofs.Recounted.{recounted}
use Rattle.steps.proofs.ledgers.Grown.{pruned_alike}
use Rattle.steps.proofs.requests.Batching.{batch_allows}
use Rattle.steps.proofs.requests.Beginning.{IsBegun, begun_world, begun_datasets, begun_freeing}
use Rattle.steps.proofs.requests.Receiving.{receive_no_memory, receive_bad_stream, receive_refused, receive_refused_by_limit, begun_states, receive_fits, receive_short, receive_not_short, receive_can, receive_unlimited, received_pruned, receive_done}
use Rattle.steps.proofs.requests.Writing.{union_is}
use Rattle.steps.specs.declared.intake.Present.{Present}
use Rattle.steps.specs.Intakes.{IsUnread, IsPresent, IsUnderWay, BreaksLimit, IsIntakeOf}

-- ---- before the datasets are another's

module _ (s : State) (p : Present) (is : IsPresent s p) where
  here_apart : AreDisjoint (union_of (world_of (datasets_of s))) s.now.freeing
  here_apart b h k = is.steady.good.now.freeing_apart b (subst (λ y. Has y b) (union_is s) h) k

  -- what is to be freed is no dataset's
  pub present_apart : AreDisjoint (union_of (world_of p.table.now)) p.freeing.now
  present_apart = subst (λ (x : Datasets × BlockSet). AreDisjoint (union_of (world_of x.0)) x.1) (λ i. (is.datasets i, is.freeing i)) here_apart

  module _ (m : Member) (bytes : List ℕ) (mode : Receiving) where
    pub no_memory : (why : Refusal) → why ≡ NoMemory → Step s (Receive m bytes mode) (Refused why) s
    no_memory why e = subst (λ z. Step s (Receive m bytes mode) (Refused z) s) (sym e) (receive_no_memory s m bytes mode)

    -- bytes that aren't read
    pub not_read : (why : Refusal) → IsUnread bytes why → Step s (Receive m bytes mode) (Refused why) s
    not_read why which = ⊎_elim
        (λ k. subst (λ z. Step s (Receive m bytes mode) (Refused z) s) (sym k.0) (receive_bad_stream s m bytes mode k.1))
        (no_memory why)
        which

    module _ (sent : Sending) (stream : IsStream bytes sent) where
      -- the table's refusal is the state's
      pub row_here : receive_refusal p.table.now p.views.now.opened m sent mode ≡ first_of (stream_row s.now s.views m sent mode)
      row_here = λ i. receive_refusal (sym is.datasets i) (sym is.views i) m sent mode

      -- a receive that isn't begun
      pub not_begun : (why : Refusal) → (receive_refusal p.table.now p.views.now.opened m sent mode ≡ Some why) ⊎ (why ≡ NoMemory) → Step s (Receive m bytes mode) (Refused why) s
      not_begun why which = ⊎_elim (λ e. receive_refused s m bytes mode sent stream why (sym row_here ∙ e)) (no_memory why) which

      -- a receive that is begun, with its records as updates
      pub under_way : (edit : WorkingCopy) → receive_refusal p.table.now p.views.now.opened m sent mode ≡ None → edit.to ≡ begun p.table.now m.file_system sent mode
          → HasLost p.table.now p.freeing.now edit.to edit.freeing → CanFinish edit.to m
          → (items us : List Update) → us ≡ items → IsBatch items → (records : List Record) → records ≡ sent.records → changes_of items ≡ changes_of_records records
          → IsUnderWay s p m sent mode edit us
      under_way edit may to lost ready items us same batch records all changes = record {
        present = is;
        none = sym row_here ∙ may;
        to = to;
        lost = lost;
        ready = ready;
        batch = subst IsBatch (sym same) batch;
        changes = ap changes_of same ∙ changes ∙ ap changes_of_records all;
      }

-- ---- a receive that has begun

module _ (s : State) (p : Present) (m : Member) (sent : Sending) (mode : Receiving) (edit : WorkingCopy) (us : List Update) (way : IsUnderWay s p m sent mode edit us) where
  abbrev w : World
  w = before_receive s.now m.file_system sent mode

  abbrev here : State
  here = with_now s w

  abbrev ch : Changes
  ch = changes_of_records sent.records

  is_begun : IsBegun s w
  is_begun = begun_world s way.present.steady m sent mode way.none

  -- the datasets are those of the world that it begins with
  pub to_is : edit.to ≡ datasets_of (with_now s (before_receive s.now m.file_system sent mode))
  to_is = way.to ∙ ap (λ t. begun t m.file_system sent mode) (sym way.present.datasets) ∙ begun_datasets s m.file_system sent mode

  -- and so is what is to be freed
  pub freeing_is : edit.freeing ≡ (before_receive s.now m.file_system sent mode).freeing
  freeing_is = begun_freeing s way.present.steady w is_begun p.table.now edit.to edit.freeing
      (ap (λ (t : Datasets). t.file_systems) (sym way.present.datasets)) (ap (λ (t : Datasets). t.file_systems) to_is)
      (subst (λ x. HasLost p.table.now x edit.to edit.freeing) (sym way.present.freeing) way.lost)

  pub can_take : AreTakable (before_receive s.now m.file_system sent mode).file_systems (m ∷ [])
  can_take = subst (λ (t : Datasets). AreTakable t.file_systems (m ∷ [])) to_is way.ready.takable

  -- the batch may be made
  pub batch_may : AllowsWrite edit.to us p.synced.0 p.allocator.now
  batch_may = subst (λ t. AllowsWrite t us p.synced.0 p.allocator.now) (sym to_is)
      (subst (λ g. AllowsWrite (datasets_of here) us g p.allocator.now) way.present.synced
      (batch_allows here is_begun.good p.allocator.now (begun_states s way.present.steady p.allocator.now way.present.states m sent mode way.none can_take) us way.batch))

  module _ (bytes : List ℕ) (stream : IsStream bytes sent) where
    -- what the limits refuse
    pub not_fitting : (why : Refusal) → BreaksLimit s m sent mode why ⊎ (why ≡ NoMemory) → Step s (Receive m bytes mode) (Refused why) s
    not_fitting why which = ⊎_elim (λ e. receive_refused_by_limit s m bytes mode sent stream way.none why e) (no_memory s p way.present m bytes mode why) which

    module _ (fits : p.is_limited ≡ true → first_of (limit_row (asked_by_receive s m sent mode)) ≡ None) where
      -- where limits were asked, or no file system has one
      by_limits : {X : Type 0} → (first_of (limit_row (asked_by_receive s m sent mode)) ≡ None → X) → (IsUnlimited s.now.file_systems → X) → X
      by_limits {X} asked bare = by p.is_limited refl
        where
          by : (b : Bool) → p.is_limited ≡ b → X
          by true e = asked (fits e)
          by false e = bare (way.present.unlimited e)

      lacks_here : LacksRoom (live_of edit.to.file_systems m.file_system) (changes_of us) (young_of edit.to m.file_system p.synced.0) p.allocator.now
          → LacksRoom (live_of w.file_systems m.file_system) ch (young_of (datasets_of here) m.file_system s.last.group) p.allocator.now
      lacks_here lacks =
          subst (λ (x : Datasets × ℕ × Changes). LacksRoom (live_of x.0.file_systems m.file_system) x.2 (young_of x.0 m.file_system x.1) p.allocator.now)
          (λ i. (to_is i, sym way.present.synced i, way.changes i)) lacks

      has_here : HasRoom (live_of edit.to.file_systems m.file_system) (changes_of us) (young_of edit.to m.file_system p.synced.0) p.allocator.now
          → HasRoom (live_of w.file_systems m.file_system) ch (young_of (datasets_of here) m.file_system s.last.group) p.allocator.now
      has_here room =
          subst (λ (x : Datasets × ℕ × Changes). HasRoom (live_of x.0.file_systems m.file_system) x.2 (young_of x.0 m.file_system x.1) p.allocator.now)
          (λ i. (to_is i, sym way.present.synced i, way.changes i)) room

      -- records that aren't put in force
      pub not_finished : (why : Refusal) → (why ≡ NoSpace → LacksRoom (live_of edit.to.file_systems m.file_system) (changes_of us) (young_of edit.to m.file_system p.synced.0) p.allocator.now)
          → IsNoSpaceOrNoMemory why → Step s (Receive m bytes mode) (Refused why) s
      not_finished why lacks which = ⊎_elim
          (λ e. by_limits
          (λ none. absurd (receive_not_short s way.present.steady p.allocator.now way.present.states m sent mode way.none can_take none (lacks_here (lacks e))))
          (λ bare. subst (λ z. Step s (Receive m bytes mode) (Refused z) s) (sym e)
          (receive_refused_by_limit s m bytes mode sent stream way.none NoSpace
          (receive_short s way.present.steady p.allocator.now way.present.states m sent mode way.none can_take bare (lacks_here (lacks e))))))
          (no_memory s p way.present m bytes mode why)
          which

      -- and those that are
      pub finished : (to : Datasets) (done : Draft) → HasReceived edit.to to m sent.target (changes_of us) p.synced.0 p.allocator.now done
          → HasRoom (live_of edit.to.file_systems m.file_system) (changes_of us) (young_of edit.to m.file_system p.synced.0) p.allocator.now
          → IsIntakeOf s m bytes mode (record { to = to; freeing = edit.freeing }) done
      finished to done r room =
          let change = subst (λ (x : Datasets × ℕ × Changes). HasWritten x.0 r.written m.file_system x.2 x.1 p.allocator.now done) (λ i. (to_is i, sym way.present.synced i, way.changes i)) r.change in
          let none = by_limits (λ e. e) (λ bare. receive_fits s way.present.steady p.allocator.now way.present.states m sent mode way.none can_take bare (has_here room)) in
          let may = receive_can s way.present.steady p.allocator.now way.present.states m sent mode way.none can_take r.written to done change r.kept edit.freeing freeing_is none in
          record {
            sent = sent;
            made = record { begun = is_begun.good; there = can_take; written = r.written; states = p.allocator.now; change = change; kept = r.kept };
            one = recounted (datasets_of s) to way.present.steady.good.now.systems may.steady.good.now.systems m.file_system
                (pruned_alike (datasets_of s) to m.file_system (received_pruned s way.present.steady p.allocator.now way.present.states m sent mode way.none can_take r.written to done change r.kept edit.freeing freeing_is));
            can = may;
            unlimited = receive_unlimited s way.present.steady p.allocator.now way.present.states m sent mode way.none can_take r.written to done change r.kept edit.freeing freeing_is;
            step = receive_done s way.present.steady p.allocator.now way.present.states m sent mode way.none can_take r.written to done change r.kept edit.freeing freeing_is bytes stream none;
          }
