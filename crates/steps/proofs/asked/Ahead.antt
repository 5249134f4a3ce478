-- What limits say of a receive that has begun, by what is foretold of its records.
use Rattle.std.proofs.Common.{◌≡◌, ℕ, ◌+◌, ◌≤◌, ◌<◌, ◌^◌, List, [], ◌∷◌, Option, Some, map, refl, sym, ap, subst, ◌∙◌, arith}
use Rattle.std.specs.Prelude.{count_by}
use Rattle.std.specs.Option.{option_map}
use Rattle.std.specs.FinMap.{get, keys}
use Rattle.std.specs.FinSet as set
use Rattle.base.specs.Map.{Map}
use Rattle.base.specs.Rewrite.{Changes}
use Rattle.base.specs.Surveys.{IsSurvey, dead_block}
use Rattle.base.specs.declared.refusal.Refusal.{Refusal}
use Rattle.batch.specs.Forecast.{IsForecast}
use Rattle.batch.specs.Updates.{changes_of}
use Rattle.batch.specs.declared.forecast.Forecast.{Forecast}
use Rattle.batch.specs.declared.update.Update.{Update}
use Rattle.base.specs.declared.name.member.Member.{Member}
use Rattle.stream.specs.Records.{changes_of as changes_of_records}
use Rattle.stream.specs.Spelling.{Sending}
use Rattle.zalloc.specs.States.{is_waiting}
use Rattle.datasets.specs.Rows.{Row}
use Rattle.datasets.specs.Clones.{row_in}
use Rattle.model.specs.declared.receiving.Receiving.{Receiving}
use Rattle.model.specs.World.{World, FileSystem, Live, reach_of, union_of}
use Rattle.model.specs.State.{State, waiting_of}
use Rattle.model.specs.Edits.{with_now, with_next_group, after_change}
use Rattle.model.specs.Hierarchy.{IsHierarchy}
use Rattle.model.specs.Refusals.{fresh_number}
use Rattle.model.specs.Rule.{first_of}
use Rattle.model.specs.Sums.{used_here, referenced_of}
use Rattle.model.specs.requests.Change.{limit_row}
use Rattle.model.specs.requests.Receive.{before_receive}
use Rattle.model.specs.requests.Snapshot.{with_snapshot}
use Rattle.world.specs.Blocks.{block_order as o}
use Rattle.world.specs.Takings.{AreTakable}
use Rattle.world.specs.Tables.{Datasets, world_of}
use Rattle.world.proofs.changes.Kept.{union-fields}
use Rattle.world.proofs.lists.Maps.{same_value}
use Rattle.world.proofs.lists.SetCounts.{in_union_right, len-difference, len-subset}
use Rattle.limits.specs.Changes.{IsChanged}
use Rattle.limits.specs.Ledgers.{ledger_of, IsSpaceOf}
use Rattle.limits.specs.declared.line.Line.{Line}
use Rattle.limits.specs.declared.pool_space.Space.{Space}
use Rattle.limits.proofs.Rows.{found_row}
use Rattle.limits.specs.Outlooks.{IsAhead, IsKeptOutlookOf}
use Rattle.limits.specs.declared.outlook.outlook.Outlook.{Outlook}
use Rattle.removals.specs.declared.working_copy.WorkingCopy.{WorkingCopy}
use Rattle.steps.specs.Edits.{datasets_of}
use Rattle.steps.specs.Received.{asked_by_receive}
use Rattle.steps.proofs.requests.Beginning.{IsBegun, begun_world}
use Rattle.steps.proofs.numbers.Counts.{count-free, count-waiting}
use Rattle.steps.proofs.asked.Foreseen.{receive_asked_is, begun_waiting, asked_freeing, begun_few, receive_foretold}
use Rattle.steps.proofs.numbers.Known.{states_of}
use Rattle.steps.specs.declared.intake.Present.{Present}
use Rattle.steps.specs.Intakes.{IsUnderWay}
use Rattle.steps.proofs.requests.Taking.{to_is, freeing_is, can_take}

module _ (s : State) (p : Present) (m : Member) (sent : Sending) (mode : Receiving) (edit : WorkingCopy) (us : List Update) (way : IsUnderWay s p m sent mode edit us) where
  abbrev w : World
  w = before_receive s.now m.file_system sent mode

  abbrev here : State
  here = with_now s w

  abbrev name : List ℕ
  name = m.file_system

  abbrev ch : Changes
  ch = changes_of_records sent.records

  abbrev can : AreTakable w.file_systems (m ∷ [])
  can = can_take s p m sent mode edit us way

  abbrev asked : State
  asked = asked_by_receive s m sent mode

  is_begun : IsBegun s w
  is_begun = begun_world s way.present.steady m sent mode way.none

  pub hierarchy_to : IsHierarchy edit.to.file_systems
  hierarchy_to = subst (λ (t : Datasets). IsHierarchy t.file_systems) (sym (to_is s p m sent mode edit us way)) is_begun.good.now.systems.hierarchy

  -- as many numbers wait as blocks
  counted : count_by is_waiting p.allocator.now ≡ set.len (waiting_of s)
  unfolding waiting_of
  counted = count-waiting (reach_of s.now) (reach_of s.last) s.last.group s.now.group s.size way.present.steady.good.pair.reached p.allocator.now (states_of s p.allocator.now way.present.states)

  -- no more waits than the last synced world has
  few_wait : (v : World) → set.len (waiting_of (with_now s v)) ≤ s.size
  unfolding waiting_of
  few_wait v =
      let d = len-difference o (reach_of s.last) (reach_of v) in
      let l = len-subset o (reach_of s.last) (set.union (reach_of s.now) (reach_of s.last)) (λ b h. in_union_right o (reach_of s.now) (reach_of s.last) b h) in
      let f = count-free (reach_of s.now) (reach_of s.last) s.last.group s.now.group s.size way.present.steady.good.pair.reached p.allocator.now (states_of s p.allocator.now way.present.states) in
      omega (arith, d, l, f)

  module _ (small : p.size < 2 ^ 32) where
    size_small : s.size < 2 ^ 32
    size_small = let e = way.present.size in omega (arith, e, small)

    -- what its datasets have can be counted by so many bits
    pub few_to : set.len (union_of (world_of edit.to)) < 2 ^ 32
    few_to = subst (λ t. set.len (union_of (world_of t)) < 2 ^ 32) (sym (to_is s p m sent mode edit us way))
        (subst (λ u. set.len u < 2 ^ 32) (sym (union-fields (world_of (datasets_of here)) w refl))
        (begun_few s way.present.steady m sent mode way.none can p.allocator.now way.present.states size_small))

    module _ (k : Member) (same : k ≡ m) (r : Row)
        (found : Some r ≡ option_map {T = FileSystem} {U = Row} (λ f. row_in edit.to.file_systems (k.file_system, f)) (get edit.to.file_systems k.file_system)) (live : Map) (live_is : live ≡ r.system.live) (f : Forecast) (forecast : IsForecast live (changes_of us) f) where
      found_here : Some r ≡ option_map {T = FileSystem} {U = Row} (λ f. row_in w.file_systems (name, f)) (get w.file_systems name)
      found_here =
          subst (λ (t : Datasets). Some r ≡ option_map {T = FileSystem} {U = Row} (λ f. row_in t.file_systems (name, f)) (get t.file_systems name)) (to_is s p m sent mode edit us way)
          (subst (λ (j : Member). Some r ≡ option_map {T = FileSystem} {U = Row} (λ f. row_in edit.to.file_systems (j.file_system, f)) (get edit.to.file_systems j.file_system)) same found)

      named : r.name ≡ name
      named = (found_row (datasets_of here) name r found_here).1

      there : get w.file_systems r.name ≡ Some r.system
      there = (found_row (datasets_of here) name r found_here).0.there

      -- it is a forecast of the records
      pub is_ahead : IsAhead (with_now s (before_receive s.now m.file_system sent mode)) (changes_of_records sent.records) r f p.synced.0
      is_ahead = record {
        good = is_begun.good;
        there = there;
        below = ap (λ (x : Row). x.below) (found_row (datasets_of here) name r found_here).0.is;
        forecast = subst (λ (x : Map × Changes). IsForecast x.0 x.1 f) (λ i. (live_is i, way.changes i)) forecast;
        opened = sym way.present.synced;
        few = begun_few s way.present.steady m sent mode way.none can p.allocator.now way.present.states size_small;
      }

      survey_here : IsSurvey can.0.0.live ch (map dead_block f.dropped.items) is_ahead.forecast.made
      survey_here = subst (λ (x : FileSystem). IsSurvey x.live ch (map dead_block f.dropped.items) is_ahead.forecast.made)
          (same_value r.system can.0.0 (sym there ∙ ap (get w.file_systems) named ∙ can.0.1)) is_ahead.forecast.survey

      module _ (look : Outlook)
          (told : (x : State) (c : Changes) → IsAhead x c r f p.synced.0 → (k : Member) → k.file_system ≡ r.name → AreTakable x.now.file_systems (k ∷ []) → (guid : ℕ) → IsKeptOutlookOf x c r k guid look) where
        is_look : IsKeptOutlookOf here ch r m sent.target look
        is_look = told here ch is_ahead m (sym named) can sent.target

        kept_is : with_now s (with_next_group (with_snapshot (after_change w r.name ch (fresh_number s)) m sent.target)) ≡ asked
        kept_is = ap (λ n. with_now s (with_next_group (with_snapshot (after_change w n ch (fresh_number s)) m sent.target))) named ∙ sym (receive_asked_is s way.present.steady m sent mode way.none can)

        is_here : look.here ≡ used_here asked.now name
        is_here = is_look.here ∙ (λ i. used_here (kept_is i).now (named i))

        is_referenced : look.referenced ≡ referenced_of asked.now (Live name)
        is_referenced = is_look.referenced ∙ (λ i. referenced_of (kept_is i).now (Live (named i)))

        waits : set.len (waiting_of s) + look.waiting ≡ set.len (waiting_of asked)
        waits =
            let a = is_look.waiting in
            let b = begun_waiting s way.present.steady m sent mode way.none can in
            let c = ap (λ x. set.len (waiting_of x)) kept_is in
            omega (arith, a, b, c)

        -- so many can be counted
        pub few_more : (n : ℕ) → n ≡ count_by is_waiting p.allocator.now → n + look.waiting < 2 ^ 32
        few_more n is =
            let c = counted in
            let a = waits in
            let l = subst (λ x. set.len (waiting_of x) ≤ s.size) kept_is (few_wait (with_next_group (with_snapshot (after_change w r.name ch (fresh_number s)) m sent.target))) in
            omega (arith, is, c, a, l, size_small)

        -- one account is another
        is_changed : IsChanged (world_of edit.to) asked.now name look.here look.referenced
        is_changed = subst (λ t. IsChanged (world_of t) asked.now name look.here look.referenced) (sym (to_is s p m sent mode edit us way))
            (receive_foretold s way.present.steady m sent mode way.none can (map dead_block f.dropped.items) is_ahead.forecast.made survey_here look.here look.referenced is_here is_referenced)

        module _ (space : Space) (size : space.size ≡ p.size) (freed : space.freeing ≡ set.len edit.freeing) (waiting : space.waiting ≡ count_by is_waiting p.allocator.now + look.waiting) where
          beside : IsSpaceOf asked space
          beside = record {
            size = size ∙ sym way.present.size;
            freeing = freed ∙ ap set.len (freeing_is s p m sent mode edit us way ∙ sym (asked_freeing s way.present.steady m sent mode way.none can));
            waiting = let c = counted in let a = waits in omega (arith, waiting, c, a);
          }

          -- what is said by the ledger of those datasets, once it is settled so, is what the row of limits says
          pub over_is : (filled lines : List Line) → filled ≡ ledger_of (world_of edit.to)
              → ((old new : World) → IsHierarchy old.file_systems → keys old.file_systems ≡ keys edit.to.file_systems → filled ≡ ledger_of old → IsChanged old new k.file_system look.here look.referenced → lines ≡ ledger_of new)
              → (over : Option Refusal) → ((x : State) → IsHierarchy x.now.file_systems → lines ≡ ledger_of x.now → IsSpaceOf x space → over ≡ first_of (limit_row x))
              → over ≡ first_of (limit_row (asked_by_receive s m sent mode))
          over_is filled lines of settled over said =
              said asked is_changed.hierarchy (settled (world_of edit.to) asked.now hierarchy_to refl of (subst (λ (j : Member). IsChanged (world_of edit.to) asked.now j.file_system look.here look.referenced) (sym same) is_changed)) beside
