-- A batch of changes of a live map in a state whose limits nobody has asked: the facts of the worlds hold again, and the numbers are settled.
use Rattle.std.proofs.Common.{◌≡◌, ℕ, ◌+◌, ◌<◌, ◌≤◌, true, List, Some, map, refl, sym, ap, subst, ◌∙◌, ◌⊎◌, inl, inr, ⊎_elim, length, arith}
use Rattle.std.specs.Prelude.{nat_le, nat_lt, count_by, slice_get}
use Rattle.std.specs.List.{filter}
use Rattle.std.specs.Option.{option_map_or}
use Rattle.std.specs.FinMap.{get, insert}
use Rattle.std.specs.FinMap as finmap
use Rattle.std.specs.FinSet.{union, len}
use Rattle.std.proofs.lemmas.Bool.{le-leb, lt-ltb}
use Rattle.std.proofs.lemmas.Bool.Decides.{leb_tells}
use Rattle.std.proofs.lemmas.Option.{slice_get_within}
use Rattle.base.specs.declared.number.Key.{Key}
use Rattle.base.specs.Map.{Map, Block, BlockSet, blocks}
use Rattle.base.specs.Rewrite.{Changes, rewrite}
use Rattle.base.specs.Surveys.{IsIn, IsSurvey, dead_block}
use Rattle.zalloc.specs.declared.BlockState.{BlockState}
use Rattle.zalloc.specs.declared.BlockState.TheVariants.{Free}
use Rattle.zalloc.specs.States.{is_free}
use Rattle.batch.specs.declared.update.Update.{Update}
use Rattle.batch.specs.Updates.{IsBatch}
use Rattle.batch.specs.declared.draft.Draft.{Draft}
use Rattle.tree.specs.Change.{Shown, IsChange, young_count}
use Rattle.datasets.specs.Rows.{live_of}
use Rattle.datasets.specs.Writes.{young_of, AllowsWrite, HasWritten}
use Rattle.model.specs.World.{World, FileSystem, Live, union_of, reach_of}
use Rattle.model.specs.State.{State, block_state}
use Rattle.model.specs.Edits.{with_now, after_change}
use Rattle.model.specs.Hierarchy.{FileSystems}
use Rattle.model.specs.Numbers.{HasStates}
use Rattle.model.specs.Fits.{pool_holds}
use Rattle.model.specs.Refusals.{fresh_number}
use Rattle.world.specs.Sets.{Has, AreDisjoint}
use Rattle.world.specs.Blocks.{block_order as o}
use Rattle.world.specs.Shapes.{Name}
use Rattle.world.specs.Plans.{IsSettling, AreTakable as AreTakableOf}
use Rattle.world.specs.Tables.{Datasets}
use Rattle.world.specs.Worlds.{AreFileSystems, IsPoolState, IsSwept}
use Rattle.world.specs.Dead.{base_of}
use Rattle.world.proofs.lists.Maps.{same_value}
use Rattle.world.proofs.lists.SetCounts.{in_union_left, in_union_right}
use Rattle.world.proofs.lists.Finding.{in_filter}
use Rattle.world.proofs.changes.Kept.{reach_is}
use Rattle.world.proofs.changes.Plans.{plan_settles}
use Rattle.world.proofs.lineage.Put.{put_here}
use Rattle.world.proofs.steps.StateSteps.{change_before, swept_stays}
use Rattle.limits.specs.Limits.{IsUnlimited}
use Rattle.limits.proofs.AskedChanges.{after_is}
use Rattle.limits.proofs.AskedNumbers.{once_of_pair}
use Rattle.limits.proofs.Enough.{room_is_enough}
use Rattle.limits.proofs.Unlimited.{pool_unlimited}
use Rattle.steps.specs.Settles.{state_at}
use Rattle.steps.specs.Edits.{datasets_of, with_datasets}
use Rattle.steps.proofs.numbers.States.{not_free, state_at-now}
use Rattle.steps.proofs.numbers.Known.{states_of}
use Rattle.steps.proofs.quotas.Room.{room_of_change, fresh_or_old, dropped_reached}
use Rattle.steps.proofs.numbers.Counts.{count-free, len-young}
use Rattle.steps.proofs.quotas.Unlimited.{AreKnown, AreOriginsIn, unlimited_put, same_known, put_known, same_origins, put_origins}
use Rattle.steps.proofs.numbers.Gives.{gives_way, live_there, union_comes}
use Rattle.steps.proofs.requests.Planning.{with_live_is}
use Rattle.steps.proofs.requests.Writing.{union_is, base_is, young_is}

-- a sum within the size, where another one and what is free are the size
same_test : (a y u n f z : ℕ) → a + y ≡ u + n → f + u ≡ z → nat_le a z ≡ nat_le n (f + y)
same_test a y u n f z e g = ⊎_elim
    (λ x. x.0 ∙ sym (le-leb n (f + y) (let l = x.1 in omega arith)))
    (λ x. x.0 ∙ ⊎_elim (λ t. let l = x.1 in let m = t.1 in absurd (omega arith)) (λ t. sym t.0) (leb_tells n (f + y)))
    (leb_tells a z)

-- the live map of a file system that is there
pub live_there_is : (ss : FileSystems) (name : Name) (f : FileSystem) → get ss name ≡ Some f → live_of ss name ≡ f.live
live_there_is ss name f was = ap (λ x. option_map_or (λ (y : FileSystem). y.live) x finmap.empty) was

-- what a table asks before a batch: it may be made
pub batch_allows : (s : State) → IsPoolState s → (numbers : List BlockState) → HasStates s numbers → (us : List Update) → IsBatch us → AllowsWrite (datasets_of s) us s.last.group numbers
batch_allows s good numbers known us batch = record {
  batch = batch;
  not_after = good.pair.reached.since.later;
  allocated = λ b h.
      let k = subst (λ y. Has y b) (sym (reach_is s.now)) (in_union_left o (union_of s.now) s.now.freeing b (subst (λ y. Has y b) (union_is s) h)) in
      (states_of s numbers known).each b.number (good.pair.reached.small b (in_union_left o (reach_of s.now) (reach_of s.last) b k))
      ∙ ap Some (state_at-now (reach_of s.now) (reach_of s.last) b k);
}

module _ (s : State) (good : IsPoolState s) (numbers : List BlockState) (known : HasStates s numbers) (name : Name) (f : FileSystem) (was : get s.now.file_systems name ≡ Some f)
    (ch : Changes) where
  abbrev A : BlockSet
  A = reach_of s.now

  abbrev L : BlockSet
  L = reach_of s.last

  abbrev base : ℕ
  base = base_of s.now (Live name)

  abbrev young : ℕ
  young = young_of (datasets_of s) name s.last.group

  inside : (b : Block) → Has (blocks f.live) b → Has A b
  inside b h = subst (λ y. Has y b) (sym (reach_is s.now)) (in_union_left o (union_of s.now) s.now.freeing b
      (live_there s.size s.now good.now name f was f.live (λ c i. inl i) b h))

  -- ---- the room that it takes

  module _ (dropped : List Block) (made : List Key) (survey : IsSurvey f.live ch dropped made) where
    fresh_once : (j k : Key) → IsIn made j → IsIn made k → fresh_number s j ≡ fresh_number s k → j ≡ k
    fresh_once j k h g e =
        let a = survey.levels j h in
        let b = survey.levels k g in
        let level : j.level ≡ k.level = omega arith in
        let index : j.index ≡ k.index = omega arith in
        λ i. record { level = level i; index = index i }

    fresh_free : (k : Key) (b : Block) → Has (union A L) b → b.number ≡ fresh_number s k → ⊥
    fresh_free k b u n = let l = good.pair.reached.small b u in absurd (omega arith)

    abbrev m : Map
    m = rewrite f.live ch s.now.group (fresh_number s)

    abbrev asked : World
    asked = record s.now { file_systems = insert s.now.file_systems name (record f { live = m }) }

    new_or_old : (b : Block) → Has (blocks m) b → Has (blocks f.live) b ⊎ ((b.birth ≡ s.now.group) × ¬ (Has (union A L) b))
    new_or_old = fresh_or_old f.live base A L s.now.group (once_of_pair s.size s.now s.last good.pair name f was) inside ch dropped made survey (fresh_number s) fresh_once fresh_free

    not_in_both : (b : Block) → ¬ (Has (union A L) b) → ¬ (Has (union_of s.now) b) × ¬ (Has s.now.freeing b)
    not_in_both b out = (
      λ h. out (in_union_left o A L b (subst (λ y. Has y b) (sym (reach_is s.now)) (in_union_left o (union_of s.now) s.now.freeing b h))),
      λ h. out (in_union_left o A L b (subst (λ y. Has y b) (sym (reach_is s.now)) (in_union_right o (union_of s.now) s.now.freeing b h))),
    )

    new : (b : Block) → Has (blocks m) b → Has (blocks f.live) b ⊎ ((b.birth ≡ s.now.group) × ¬ (Has (union_of s.now) b))
    new b h = ⊎_elim inl (λ k. inr (k.0, (not_in_both b k.1).0)) (new_or_old b h)

    asked_apart : AreDisjoint (union_of asked) s.now.freeing
    asked_apart b h k = ⊎_elim
        (λ i. ⊎_elim (λ j. good.now.freeing_apart b (live_there s.size s.now good.now name f was m new b j) k) (λ j. (not_in_both b j.1).1 k) (new_or_old b i))
        (λ i. good.now.freeing_apart b i k)
        (union_comes s.size s.now good.now name f was m new b h)

    -- what is to be freed is no dataset's in the world that limits are asked of
    pub batch_apart : AreDisjoint (union_of (after_change s.now name ch (fresh_number s))) (after_change s.now name ch (fresh_number s)).freeing
    batch_apart = subst (λ (x : World). AreDisjoint (union_of x) x.freeing) (sym (after_is s.now name f was ch (fresh_number s))) asked_apart

    reach_asked : len (union (reach_of asked) L) + young_count young dropped ≡ len (union A L) + length made
    reach_asked =
        let y = len-young A L s.last.group s.now.group s.size good.pair.reached numbers (states_of s numbers known) base young (young_is s name) dropped survey.gone_once
        (dropped_reached f.live base A L s.now.group (once_of_pair s.size s.now s.last good.pair name f was) inside ch dropped made survey (fresh_number s) fresh_once fresh_free) in
        let r = room_of_change f.live base A L s.now.group (once_of_pair s.size s.now s.last good.pair name f was) inside ch dropped made survey (fresh_number s) fresh_once fresh_free
        (reach_of asked) (gives_way s.size s.now good.now name f was m new) in
        omega (arith, y, r)

    free_now : count_by is_free numbers + len (union A L) ≡ s.size
    free_now = count-free A L s.last.group s.now.group s.size good.pair.reached numbers (states_of s numbers known)

    -- a world that reaches what that one does
    module _ (w : World) (systems : AreFileSystems w.file_systems w.group) (apart : AreDisjoint (union_of w) w.freeing)
        (same : reach_of w ≡ reach_of (after_change s.now name ch (fresh_number s))) where
      reach_there : len (union (reach_of w) L) + young_count young dropped ≡ len (union A L) + length made
      reach_there = subst (λ r. len (union r L) + young_count young dropped ≡ len (union A L) + length made)
          (ap reach_of (sym (after_is s.now name f was ch (fresh_number s))) ∙ sym same) reach_asked

      -- where the pool has room for it, the Free numbers and the dropped young blocks are enough for what the batch makes
      pub batch_enough : pool_holds (with_now s w) ≡ true → length made ≤ count_by is_free numbers + young_count (young_of (datasets_of s) name s.last.group) dropped
      batch_enough holds =
          let fits = room_is_enough (with_now s w) systems apart holds in
          let taken = reach_there in
          let free = free_now in
          omega (arith, fits, taken, free)

      -- and where no file system has a limit, it has room exactly then
      pub batch_room : IsUnlimited w.file_systems
          → pool_holds (with_now s w) ≡ nat_le (length made) (count_by is_free numbers + young_count (young_of (datasets_of s) name s.last.group) dropped)
      batch_room bare = pool_unlimited (with_now s w) systems apart bare ∙ same_test _ _ _ _ _ _ reach_there free_now

  -- ---- a batch that is in force

  module _ (to : Datasets) (done : Draft) (w : HasWritten (datasets_of s) to name ch s.last.group numbers done) where
    abbrev v : Shown
    v = w.change

    abbrev number : Key → ℕ
    number = w.is.number

    change : IsChange f.live ch s.now.group young numbers v
    change = subst (λ x. IsChange x ch s.now.group young numbers v) (live_there_is s.now.file_systems name f was) w.is

    late : s.last.group ≤ young
    late = let y = young_is s name in omega (arith, y)

    own_late : base < young
    own_late = let y = young_is s name in omega (arith, y)

    free_small : (n : ℕ) → slice_get numbers n ≡ Some Free → n < s.size
    free_small n e = let l = slice_get_within numbers n Free e in let c = known.count in omega arith

    takable : AreTakableOf (union A L) s.size young v.released v.taken
    takable n i = ⊎_elim
        (λ e. inl (free_small n e, λ b h k. not_free A L b h (ap (state_at A L) k ∙ same_value _ _ (sym ((states_of s numbers known).each n (free_small n e)) ∙ e))))
        (λ w. inr w)
        (change.taken_free n i)

    abbrev planned : World
    planned = record s.now { file_systems = insert s.now.file_systems name (record f { live = rewrite f.live ch s.now.group change.number }) }

    to_planned : (with_datasets s to).now ≡ planned
    to_planned =
        ap (λ (t : Datasets). (with_datasets s t).now) w.to_is
        ∙ (λ i. record s.now { file_systems = with_live_is s.now.file_systems name f v.new was i })
        ∙ (λ i. record s.now { file_systems = insert s.now.file_systems name (record f { live = change.new_is i }) })

    -- it leads to the model's state, whatever numbers its new blocks have
    pub batch_leads : (number : Key → ℕ) × (with_datasets s to ≡ with_now s (after_change s.now name ch number)) × IsPoolState (with_now s (after_change s.now name ch number))
    batch_leads = (
      change.number,
      ap (with_now s) (to_planned ∙ sym (after_is s.now name f was ch change.number)),
      change_before s good name f was ch young late own_late numbers v change takable,
    )

    -- what holds of a pool's worlds and views holds again
    pub batch_good : IsPoolState (with_datasets s to)
    batch_good = subst IsPoolState (sym batch_leads.1) batch_leads.2

    systems_are : to.file_systems ≡ insert s.now.file_systems name (record f { live = v.new })
    systems_are = ap (λ (t : Datasets). t.file_systems) w.to_is ∙ with_live_is s.now.file_systems name f v.new was

    -- the file system is there, with the new map and all else as it was
    pub batch_there : get to.file_systems name ≡ Some (record f { live = w.change.new })
    batch_there = ap (λ ss. get ss name) systems_are ∙ put_here s.now.file_systems name (record f { live = v.new })

    -- there is nothing to sweep
    pub batch_swept : IsSwept s → IsSwept (with_datasets s to)
    batch_swept = swept_stays s (with_datasets s to) refl
        (subst (AreKnown s.now.file_systems) (sym systems_are)
        (put_known s.now.file_systems s.now.file_systems (same_known s.now.file_systems) name (record f { live = v.new }) (λ t i. inr (name, f, was, i))))
        (subst (AreOriginsIn s.now.file_systems) (sym systems_are)
        (put_origins s.now.file_systems s.now.file_systems (same_origins s.now.file_systems) name f (record f { live = v.new }) was refl))

    -- where no file system had a limit, none has one
    pub batch_unlimited : IsUnlimited s.now.file_systems → IsUnlimited to.file_systems
    batch_unlimited bare = subst IsUnlimited (sym systems_are) (unlimited_put s.now.file_systems bare name (record f { live = v.new }) (bare name f was))

    released_are : filter (λ b. nat_lt base b.birth) v.released ≡ map dead_block done.released.items
    released_are = ap (λ n. filter (λ (b : Block). nat_lt n b.birth) v.released) (sym (base_is s name)) ∙ sym w.released

    -- its numbers are settled
    pub batch_settles : IsSettling (reach_of s.now) (reach_of (with_datasets s to).now) (reach_of s.last) s.last.group (map dead_block done.released.items) (map (λ n. n.0) done.taken.items)
    batch_settles =
        subst (λ r. IsSettling A r L s.last.group (map dead_block done.released.items) (map (λ n. n.0) done.taken.items)) (sym (ap reach_of to_planned))
        (subst (λ bs. IsSettling A (reach_of planned) L s.last.group bs (map (λ n. n.0) done.taken.items)) released_are
        (subst (λ ns. IsSettling A (reach_of planned) L s.last.group (filter (λ b. nat_lt base b.birth) v.released) ns) (sym w.taken)
        (plan_settles s.size s.now s.last good.now good.last good.pair name f was ch young late own_late numbers v change takable)))

    young_stays : (b : Block) → IsIn v.released b → young ≤ b.birth → IsIn (filter (λ b. nat_lt base b.birth) v.released) b
    young_stays b i l = in_filter (λ b. nat_lt base b.birth) v.released b i (lt-ltb base b.birth (let k = own_late in omega arith))

    -- each number is Free, or that of a released block that the last synced world hasn't
    pub batch_takable : (n : ℕ) → IsIn (map (λ n. n.0) done.taken.items) n
        → ((n < s.size) × (block_state s n ≡ Free)) ⊎ ((b : Block) × IsIn (map dead_block done.released.items) b × (s.last.group ≤ b.birth) × (b.number ≡ n))
    batch_takable n i = ⊎_elim
        (λ e. inl (free_small n e, same_value _ _ (sym (known.each n (free_small n e)) ∙ e)))
        (λ w. inr (w.0, subst (λ bs. IsIn bs w.0) released_are (young_stays w.0 w.1 w.2), (let l = w.2 in omega (arith, l, late)), w.3))
        (change.taken_free n (subst (λ ns. IsIn ns n) w.taken i))
