-- A live map changed, as its tree prepares it: the facts of the worlds hold again, and the numbers are settled.
use Rattle.std.proofs.Common.{◌≡◌, ℕ, ◌+◌, ◌<◌, ◌≤◌, Bool, true, false, cond, not, List, Option, Some, None, refl, sym, ap, subst, ◌∙◌, ◌⊎◌, inl, inr, ⊎_elim, length, arith}
use Rattle.std.specs.Prelude.{is_some, nat_le, nat_lt, count_by, slice_get, max}
use Rattle.std.specs.List.{filter}
use Rattle.std.specs.Option.{option_map_or}
use Rattle.std.specs.FinMap.{get, insert}
use Rattle.std.specs.FinSet.{union, len}
use Rattle.std.specs.FinSet as set
use Rattle.std.proofs.lemmas.Bool.{le-leb, lt-ltb}
use Rattle.std.proofs.lemmas.Bool.Decides.{leb_tells}
use Rattle.std.proofs.lemmas.Option.{slice_get_within}
use Rattle.base.specs.declared.number.Key.{Key}
use Rattle.base.specs.declared.refusal.Refusal.{Refusal}
use Rattle.base.specs.declared.refusal.Refusal.TheVariants.{NoDataset, Quota, RefQuota, NoSpace}
use Rattle.base.specs.Map.{Map, Block, BlockSet, blocks}
use Rattle.base.specs.Rewrite.{Changes, rewrite}
use Rattle.base.specs.Surveys.{IsIn, IsSurvey}
use Rattle.zalloc.specs.declared.BlockState.{BlockState}
use Rattle.zalloc.specs.declared.BlockState.TheVariants.{Free}
use Rattle.zalloc.specs.States.{is_free}
use Rattle.tree.specs.Change.{Shown, IsChange, young_count}
use Rattle.datasets.specs.Rows.{with_live}
use Rattle.model.specs.World.{World, FileSystem, Live, union_of, reach_of}
use Rattle.model.specs.State.{State}
use Rattle.model.specs.Hierarchy.{FileSystems}
use Rattle.model.specs.Edits.{with_now, after_change}
use Rattle.model.specs.Numbers.{HasStates}
use Rattle.model.specs.Fits.{pool_holds}
use Rattle.model.specs.Outcome.{state_after_sweep, state_after}
use Rattle.model.specs.Rule.{first_of}
use Rattle.model.specs.requests.Change.{limit_row}
use Rattle.model.specs.Refusals.{fresh_number, state_asked, refusal_of}
use Rattle.world.specs.Sets.{Has, AreDisjoint}
use Rattle.world.specs.Blocks.{block_order as o}
use Rattle.world.specs.Shapes.{Name}
use Rattle.world.specs.Plans.{IsSettling, AreTakable as AreTakableOf}
use Rattle.world.specs.Tables.{Datasets}
use Rattle.world.specs.Worlds.{AreFileSystems, IsPoolState, IsSwept}
use Rattle.world.specs.Dead.{base_of}
use Rattle.world.proofs.lists.Maps.{same_value}
use Rattle.world.proofs.lists.SetCounts.{in_union_left, in_union_right}
use Rattle.world.proofs.lists.Finding.{in_filter}
use Rattle.world.proofs.changes.Kept.{reach_is}
use Rattle.world.proofs.changes.Plans.{plan_settles}
use Rattle.world.proofs.steps.StateSteps.{change_is, change_before, swept_idle}
use Rattle.world.proofs.changes.TableWrites.{live_systems}
use Rattle.limits.specs.Limits.{IsUnlimited, HasLimits}
use Rattle.limits.proofs.AskedSteps.{change_limits_after}
use Rattle.limits.proofs.Enough.{room_is_enough}
use Rattle.limits.proofs.Unlimited.{quotas_unlimited, refquotas_unlimited, pool_unlimited}
use Rattle.steps.specs.Settles.{state_at}
use Rattle.steps.specs.Steady.{IsSteady}
use Rattle.steps.specs.Asked.{asked_by_change}
use Rattle.steps.specs.Edits.{datasets_of, with_datasets, StaysUnlimited, CanChange}
use Rattle.steps.proofs.numbers.States.{not_free}
use Rattle.steps.proofs.numbers.Known.{states_of}
use Rattle.steps.proofs.quotas.Room.{room_of_change, fresh_or_old, dropped_reached}
use Rattle.steps.proofs.numbers.Counts.{count-free, len-young}
use Rattle.steps.proofs.quotas.Limits.{bare_limits}
use Rattle.steps.proofs.quotas.Unlimited.{unlimited_put, still_swept, AreKnown, AreOriginsIn, same_known, put_known, same_origins, put_origins, live_once}
use Rattle.steps.proofs.numbers.Gives.{gives_way, live_there, union_comes}

-- a sum within the size, where another one and what is free are the size
same_test : (a y u n f z : ℕ) → a + y ≡ u + n → f + u ≡ z → nat_le a z ≡ nat_le n (f + y)
same_test a y u n f z e g = ⊎_elim
    (λ x. x.0 ∙ sym (le-leb n (f + y) (let l = x.1 in omega arith)))
    (λ x. x.0 ∙ ⊎_elim (λ t. let l = x.1 in let m = t.1 in absurd (omega arith)) (λ t. sym t.0) (leb_tells n (f + y)))
    (leb_tells a z)

-- limits of which the pool's room alone may be wanting
row-value : (q f p b : Bool) → q ≡ true → f ≡ true → p ≡ b
    → cond {A = Option Refusal} (not q) (Some Quota) (cond (not f) (Some RefQuota) (cond (not p) (Some NoSpace) None)) ≡ cond b None (Some NoSpace)
row-value q f p true a c e = rw (a, c, e) refl
row-value q f p false a c e = rw (a, c, e) refl

-- the file systems with another live map
pub with_live_is : (ss : FileSystems) (name : Name) (f : FileSystem) (m : Map) → get ss name ≡ Some f → with_live ss name m ≡ insert ss name (record f { live = m })
with_live_is ss name f m was = ap (λ x. option_map_or (λ (y : FileSystem). insert ss name (record y { live = m })) x ss) was

-- where there was no limit, there is none
pub live_unlimited : (s : State) (name : Name) (m : Map) → StaysUnlimited s (record (datasets_of s) { file_systems = with_live s.now.file_systems name m })
live_unlimited s name m bare = at (get s.now.file_systems name) refl
  where
    at : (x : Option FileSystem) → get s.now.file_systems name ≡ x → IsUnlimited (option_map_or (λ (y : FileSystem). insert s.now.file_systems name (record y { live = m })) x s.now.file_systems)
    at None e = bare
    at (Some f) e = unlimited_put s.now.file_systems bare name (record f { live = m }) (bare name f e)

module _ (s : State) (steady : IsSteady s) (name : Name) (f : FileSystem) (was : get s.now.file_systems name ≡ Some f) where
  abbrev A : BlockSet
  A = reach_of s.now

  abbrev L : BlockSet
  L = reach_of s.last

  inside : (b : Block) → Has (blocks f.live) b → Has (reach_of s.now) b
  inside b h = subst (λ y. Has y b) (sym (reach_is s.now)) (in_union_left o (union_of s.now) s.now.freeing b
      (live_there s.size s.now steady.good.now name f was f.live (λ c i. inl i) b h))

  -- ---- the limits after a change, with any fresh numbers

  module _ (ch : Changes) (dropped : List Block) (made : List Key) (survey : IsSurvey f.live ch dropped made) where
    fresh_once : (j k : Key) → IsIn made j → IsIn made k → fresh_number s j ≡ fresh_number s k → j ≡ k
    fresh_once j k h g e =
        let a = survey.levels j h in
        let b = survey.levels k g in
        let level : j.level ≡ k.level = omega arith in
        let index : j.index ≡ k.index = omega arith in
        λ i. record { level = level i; index = index i }

    fresh_free : (k : Key) (b : Block) → Has (union (reach_of s.now) (reach_of s.last)) b → b.number ≡ fresh_number s k → ⊥
    fresh_free k b u n = let l = steady.good.pair.reached.small b u in absurd (omega arith)

    abbrev m : Map
    m = rewrite f.live ch s.now.group (fresh_number s)

    -- the world that it would lead to
    abbrev pub asked : World
    asked = record s.now { file_systems = insert s.now.file_systems name (record f { live = rewrite f.live ch s.now.group (fresh_number s) }) }

    -- which the definition asks of
    pub asked_change : after_change s.now name ch (fresh_number s) ≡ asked
    asked_change = ap (λ y. option_map_or (λ (z : FileSystem). record s.now { file_systems = insert s.now.file_systems name (record z { live = rewrite z.live ch s.now.group (fresh_number s) }) }) y s.now) was

    new_or_old : (b : Block) → Has (blocks (rewrite f.live ch s.now.group (fresh_number s))) b
        → Has (blocks f.live) b ⊎ ((b.birth ≡ s.now.group) × ¬ (Has (union (reach_of s.now) (reach_of s.last)) b))
    new_or_old = fresh_or_old f.live (base_of s.now (Live name)) A L s.now.group (live_once s steady name f was) inside ch dropped made survey (fresh_number s) fresh_once fresh_free

    not_in_both : (b : Block) → ¬ (Has (union (reach_of s.now) (reach_of s.last)) b) → ¬ (Has (union_of s.now) b) × ¬ (Has s.now.freeing b)
    not_in_both b out = (
      λ h. out (in_union_left o A L b (subst (λ y. Has y b) (sym (reach_is s.now)) (in_union_left o (union_of s.now) s.now.freeing b h))),
      λ h. out (in_union_left o A L b (subst (λ y. Has y b) (sym (reach_is s.now)) (in_union_right o (union_of s.now) s.now.freeing b h))),
    )

    new : (b : Block) → Has (blocks (rewrite f.live ch s.now.group (fresh_number s))) b → Has (blocks f.live) b ⊎ ((b.birth ≡ s.now.group) × ¬ (Has (union_of s.now) b))
    new b h = ⊎_elim inl (λ k. inr (k.0, (not_in_both b k.1).0)) (new_or_old b h)

    pub asked_systems : AreFileSystems (insert s.now.file_systems name (record f { live = rewrite f.live ch s.now.group (fresh_number s) })) s.now.group
    asked_systems = live_systems s.now steady.good.now.systems name f was m new

    asked_apart : AreDisjoint (union_of asked) s.now.freeing
    asked_apart b h k = ⊎_elim
        (λ i. ⊎_elim (λ j. steady.good.now.freeing_apart b (live_there s.size s.now steady.good.now name f was m new b j) k) (λ j. (not_in_both b j.1).1 k) (new_or_old b i))
        (λ i. steady.good.now.freeing_apart b i k)
        (union_comes s.size s.now steady.good.now name f was m new b h)

    -- the room that the change takes, by how many keys it makes and how many young blocks it drops
    module _ (young : ℕ) (young_is : young ≡ max s.last.group (base_of s.now (Live name) + 1)) (states : List BlockState) (known : HasStates s states) where
      taken_asked : len (union (reach_of asked) L) + young_count young dropped ≡ len (union A L) + length made
      taken_asked =
          let dropped_young = len-young A L s.last.group s.now.group s.size steady.good.pair.reached states (states_of s states known) (base_of s.now (Live name)) young young_is dropped survey.gone_once
          (dropped_reached f.live (base_of s.now (Live name)) A L s.now.group (live_once s steady name f was) inside ch dropped made survey (fresh_number s) fresh_once fresh_free) in
          let room = room_of_change f.live (base_of s.now (Live name)) A L s.now.group (live_once s steady name f was) inside ch dropped made survey (fresh_number s) fresh_once fresh_free
          (reach_of asked) (gives_way s.size s.now steady.good.now name f was m new) in
          omega (arith, dropped_young, room)

      free_now : count_by is_free states + len (union A L) ≡ s.size
      free_now = count-free A L s.last.group s.now.group s.size steady.good.pair.reached states (states_of s states known)

      -- where the pool has room then, the Free numbers and the dropped young blocks are enough for what it makes
      pub room_enough : pool_holds (with_now s asked) ≡ true → length made ≤ count_by is_free states + young_count young dropped
      room_enough holds =
          let fits = room_is_enough (with_now s asked) asked_systems asked_apart holds in
          let taken = taken_asked in
          let free = free_now in
          omega (arith, fits, taken, free)

      module _ (bare : IsUnlimited s.now.file_systems) where
        asked_unlimited : IsUnlimited asked.file_systems
        asked_unlimited = unlimited_put s.now.file_systems bare name (record f { live = m }) (bare name f was)

        -- and where no file system has a limit, the pool has room exactly then
        room_asked : pool_holds (with_now s asked) ≡ nat_le (length made) (count_by is_free states + young_count young dropped)
        room_asked =
            pool_unlimited (with_now s asked) asked_systems asked_apart asked_unlimited
            ∙ same_test _ _ _ _ _ _ taken_asked free_now

        -- which is all that is asked
        pub limits_asked_bare : (b : Bool) → nat_le (length made) (count_by is_free states + young_count young dropped) ≡ b
            → first_of (limit_row (with_now s asked)) ≡ cond b None (Some NoSpace)
        limits_asked_bare b e = row-value _ _ _ b (quotas_unlimited asked asked_unlimited) (refquotas_unlimited asked asked_unlimited) (room_asked ∙ e)

  -- ---- a change that the tree has prepared

  module _ (states : List BlockState) (known : HasStates s states) (ch : Changes) (young : ℕ) (young_is : young ≡ max s.last.group (base_of s.now (Live name) + 1))
      (v : Shown) (is : IsChange f.live ch s.now.group young states v) where
    late : s.last.group ≤ young
    late = omega (arith, young_is)

    own_late : base_of s.now (Live name) < young
    own_late = omega (arith, young_is)

    free_small : (n : ℕ) → slice_get states n ≡ Some Free → n < s.size
    free_small n e = let l = slice_get_within states n Free e in let c = known.count in omega arith

    takable : AreTakableOf (union (reach_of s.now) (reach_of s.last)) s.size young v.released v.taken
    takable n i = ⊎_elim
        (λ e. inl (free_small n e, λ b h k. not_free A L b h (ap (state_at A L) k ∙ same_value _ _ (sym ((states_of s states known).each n (free_small n e)) ∙ e))))
        (λ w. inr w)
        (is.taken_free n i)

    abbrev planned : World
    planned = record s.now { file_systems = insert s.now.file_systems name (record f { live = rewrite f.live ch s.now.group is.number }) }

    -- the datasets with the changed live map
    abbrev pub after_it : Datasets
    after_it = record (datasets_of s) { file_systems = with_live s.now.file_systems name v.new }

    to_planned : (with_datasets s after_it).now ≡ planned
    to_planned =
        (λ i. record s.now { file_systems = with_live_is s.now.file_systems name f v.new was i })
        ∙ (λ i. record s.now { file_systems = insert s.now.file_systems name (record f { live = is.new_is i }) })

    -- the state afterwards is that of the model
    pub leads_to : with_datasets s after_it ≡ with_now s (after_change s.now name ch is.number)
    leads_to = ap (with_now s) (to_planned ∙ sym (change_is s steady.good name f was ch young late own_late states v is takable))

    change_good : IsPoolState (with_datasets s after_it)
    change_good = subst IsPoolState (sym leads_to) (change_before s steady.good name f was ch young late own_late states v is takable)

    change_swept : IsSwept (with_datasets s after_it)
    change_swept = still_swept s (with_datasets s after_it) steady refl (subst (AreKnown s.now.file_systems) (sym (with_live_is s.now.file_systems name f v.new was))
        (put_known s.now.file_systems s.now.file_systems (same_known s.now.file_systems) name (record f { live = v.new }) (λ t i. inr (name, f, was, i))))
        (subst (AreOriginsIn s.now.file_systems) (sym (with_live_is s.now.file_systems name f v.new was))
        (put_origins s.now.file_systems s.now.file_systems (same_origins s.now.file_systems) name f (record f { live = v.new }) was refl))

    -- limits that hold with fresh numbers hold with those that are taken
    change_limits : first_of (limit_row (asked_by_change s name ch)) ≡ None → HasLimits (with_datasets s after_it)
    unfolding refusal_of state_asked state_after
    change_limits fits = subst HasLimits (ap state_after_sweep (sym leads_to) ∙ swept_idle (with_datasets s after_it) change_swept)
        (change_limits_after s steady.good name f was ch (record { number = is.number; taken = set.empty })
        (change_before s steady.good name f was ch young late own_late states v is takable) true
        (ap (λ b. cond {A = Option Refusal} (not b) (Some NoDataset) (first_of (limit_row (asked_by_change s name ch)))) (ap is_some was) ∙ fits)
        steady.limits)

    -- what holds of the pool between two steps holds again, where they do
    pub change_steady_within : first_of (limit_row (asked_by_change s name ch)) ≡ None → IsSteady (with_datasets s after_it)
    change_steady_within fits = record { good = change_good; swept = change_swept; limits = change_limits fits }

    -- and where no file system has a limit
    pub change_steady_bare : IsUnlimited s.now.file_systems → IsSteady (with_datasets s after_it)
    change_steady_bare bare = record {
      good = change_good;
      swept = change_swept;
      limits = bare_limits s (with_datasets s after_it) refl (live_unlimited s name v.new bare) steady.limits;
    }

    young_stays : (b : Block) → IsIn v.released b → young ≤ b.birth → IsIn (filter (λ b. nat_lt (base_of s.now (Live name)) b.birth) v.released) b
    young_stays b i l = in_filter (λ b. nat_lt (base_of s.now (Live name)) b.birth) v.released b i (lt-ltb (base_of s.now (Live name)) b.birth (let k = own_late in omega arith))

    -- and it can be put in place, where the released blocks are those that the live map alone has
    pub change_can : IsSteady (with_datasets s after_it) → CanChange s after_it (filter (λ b. nat_lt (base_of s.now (Live name)) b.birth) v.released) v.taken
    change_can after_steady = record {
      steady = after_steady;
      settling = subst (λ r. IsSettling A r L s.last.group (filter (λ b. nat_lt (base_of s.now (Live name)) b.birth) v.released) v.taken) (sym (ap reach_of to_planned))
          (plan_settles s.size s.now s.last steady.good.now steady.good.last steady.good.pair name f was ch young late own_late states v is takable);
      takable = λ n i. ⊎_elim
          (λ e. inl (free_small n e, same_value _ _ (sym (known.each n (free_small n e)) ∙ e)))
          (λ w. inr (w.0, young_stays w.0 w.1 w.2, (let l = w.2 in omega (arith, l, late)), w.3))
          (is.taken_free n i);
    }
