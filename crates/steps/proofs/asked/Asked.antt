-- What limits say of a change of one live map, of a limit that is set, and of what is available.
use Rattle.std.proofs.Common.{◌≡◌, ◌⊎◌, ◌<◌, ◌^◌, ◌+◌, ℕ, true, List, Option, Some, None, Result, Ok, Err, refl, sym, ap, subst, ◌∙◌, inr, arith}
use Rattle.std.specs.Prelude.{is_some, IsSome, IfErr, IsErrAnd}
use Rattle.std.specs.Option.{option_map}
use Rattle.std.specs.FinMap.{get}
use Rattle.std.specs.FinSet as set
use Rattle.base.specs.Rewrite.{Changes}
use Rattle.base.specs.declared.refusal.Refusal.{Refusal}
use Rattle.base.specs.declared.refusal.Refusal.TheVariants.{NoDataset, NoMemory}
use Rattle.batch.specs.Forecast.{IsForecast}
use Rattle.batch.specs.declared.forecast.Forecast.{Forecast}
use Rattle.model.specs.declared.limits.Limit.{Limit}
use Rattle.model.specs.declared.request.Request.TheVariants.{Set}
use Rattle.model.specs.declared.reply.Reply.TheVariants.{Refused}
use Rattle.model.specs.Refusals.{fresh_number}
use Rattle.model.specs.Rule.{first_of}
use Rattle.model.specs.requests.Change.{limit_row}
use Rattle.model.specs.State.{State}
use Rattle.model.specs.Step.{Step}
use Rattle.model.specs.Sums.{free_of, room_of}
use Rattle.model.specs.World.{FileSystem, union_of}
use Rattle.world.specs.Tables.{Datasets, world_of}
use Rattle.world.proofs.changes.Kept.{union-fields}
use Rattle.limits.specs.Limits.{IsUnlimited, AreQuotasMet}
use Rattle.limits.proofs.AskedChanges.{change_frees_none}
use Rattle.limits.proofs.UnlimitedRooms.{room_free}
use Rattle.datasets.specs.Rows.{Row}
use Rattle.datasets.specs.Clones.{row_in}
use Rattle.datasets.specs.Limits.{with_limit_of}
use Rattle.steps.specs.Asked.{asked_by_change, asked_by_set}
use Rattle.steps.specs.Edits.{datasets_of}
use Rattle.steps.proofs.quotas.Bounded.{IsUnasked, unasked_waiting}
use Rattle.steps.proofs.requests.Setting as setting
use Rattle.limits.specs.Changes.{IsChanged}
use Rattle.limits.specs.Ledgers.{IsSpaceOf}
use Rattle.limits.specs.declared.line.Line.{Line}
use Rattle.limits.specs.declared.pool_space.Space.{Space}
use Rattle.limits.proofs.Rows.{found_row}
use Rattle.lookups.specs.Accounted.{IsAccounted}
use Rattle.limits.specs.Outlooks.{IsAhead, IsOutlookOf}
use Rattle.limits.specs.declared.outlook.outlook.Outlook.{Outlook}
use Rattle.steps.specs.Limiting.{IsStateWith, IsNoChange, MayChange, Foretells}
use Rattle.steps.proofs.quotas.Balanced.{few, few_unasked, few_wait}
use Rattle.steps.proofs.quotas.Foretold.{met_alike, foretold}

-- what holds of an error holds of the one that comes of it
pub refused_by : {A E : Type 0} (r : Result A E) (e : E) (P : E → Type 0) → IsErrAnd r (λ x. x ≡ e) → P e → IfErr r P
refused_by (Ok v) e P is holds = absurd is
refused_by (Err x) e P is holds = subst P (sym is) holds

-- what there is
given : (x : Option ℕ) → is_some x ≡ true → (n : ℕ) × (x ≡ Some n)
given None e = absurd cc
given (Some n) e = (n, refl)

-- where nothing is kept, no file system has a limit
pub nothing_kept : (t : Datasets) (lines : Option (List Line)) → IsAccounted t lines → lines ≡ None → IsUnlimited t.file_systems
nothing_kept t lines kept none = subst (IsAccounted t) none kept

module _ (s : State) (t : Datasets) (space : Space) (is : IsStateWith s t space) where
  small_here : space.size < 2 ^ 32 → s.size < 2 ^ 32
  small_here small = subst (λ n. n < 2 ^ 32) is.beside.size small

  -- no file system of the state has a limit, where none of its datasets has
  pub bare_in : IsUnlimited t.file_systems → IsUnlimited s.now.file_systems
  bare_in bare = subst (λ (d : Datasets). IsUnlimited d.file_systems) (sym is.datasets) bare

  -- a file system that isn't in the table isn't in the state
  pub absent_in : (name : List ℕ) → get t.file_systems name ≡ None → get s.now.file_systems name ≡ None
  absent_in name none = ap (λ (d : Datasets). get d.file_systems name) is.datasets ∙ none

  -- what is free is available, where there is no limit
  pub free_told : IsUnlimited t.file_systems → (free : ℕ) → free ≡ free_of s → (name : List ℕ) → IsSome (get t.file_systems name) → free ≡ room_of s name
  free_told bare free told name there =
      told
      ∙ sym (room_free s is.steady.good.now.systems is.steady.good.now.freeing_apart (bare_in bare) is.balanced name (subst (λ (d : Datasets). IsSome (get d.file_systems name)) (sym is.datasets) there))

  -- ---- a limit that is set

  module _ (name : List ℕ) (limit : Limit) (amount : Option ℕ) where
    abbrev to : Datasets
    to = with_limit_of t name limit amount

    same_to : to ≡ with_limit_of (datasets_of s) name limit amount
    same_to = ap (λ d. with_limit_of d name limit amount) (sym is.datasets)

    abbrev unasked : IsUnasked s (asked_by_set s name limit amount)
    unasked = setting.set_unasked s name limit amount is.steady

    pub set_few : space.size < 2 ^ 32 → (d : Datasets) → d ≡ to → set.len (union_of (world_of d)) < 2 ^ 32
    set_few small d same = few_unasked s is.balanced (asked_by_set s name limit amount) unasked (small_here small) d (ap (λ (d : Datasets). d.file_systems) (same ∙ same_to))

    -- what the table refuses, or memory
    pub set_not : (why : Refusal) → (why ≡ NoDataset → get t.file_systems name ≡ None) → (why ≡ NoDataset) ⊎ (why ≡ NoMemory) → Step s (Set name limit amount) (Refused why) s
    set_not why tells which = setting.set_refused s name limit amount why (λ e. absent_in name (tells e)) which

    -- the pool has as much beside its file systems then
    set_space : IsSpaceOf (asked_by_set s name limit amount) space
    set_space = record {
      size = is.beside.size;
      freeing = is.beside.freeing;
      waiting = is.beside.waiting ∙ ap set.len (sym (unasked_waiting s (asked_by_set s name limit amount) unasked));
    }

    module _ (d : Datasets) (same : d ≡ to) (r : Option Refusal) (over : (asked : State) → asked.now.file_systems ≡ d.file_systems → IsSpaceOf asked space → r ≡ first_of (limit_row asked)) where
      set_row : r ≡ first_of (limit_row (asked_by_set s name limit amount))
      set_row = over (asked_by_set s name limit amount) (ap (λ (d : Datasets). d.file_systems) (sym (same ∙ same_to))) set_space

      -- a limit that would be broken
      pub set_over : (get t.file_systems name ≡ None → ⊥) → is_some amount ≡ true → (why : Refusal) → r ≡ Some why → Step s (Set name limit amount) (Refused why) s
      set_over there some why broken =
          let n = given amount some in
          setting.set_refused_by_limit s name limit amount (λ none. there (ap (λ (d : Datasets). get d.file_systems name) (sym is.datasets) ∙ none)) n.0 n.1 why (sym set_row ∙ broken)

      -- or none
      pub set_fits : r ≡ None → first_of (limit_row (asked_by_set s name limit amount)) ≡ None
      set_fits none = sym set_row ∙ none

  -- ---- a change of a live map

  module _ (small : space.size < 2 ^ 32) (name : List ℕ) (r : Row) (found : Some r ≡ option_map {T = FileSystem} {U = Row} (λ f. row_in t.file_systems (name, f)) (get t.file_systems name))
      (live : _) (live_is : live ≡ r.system.live) (c : Changes) (f : Forecast) (forecast : IsForecast live c f) (synced : ℕ) (opened : synced ≡ s.last.group) where
    found_here : Some r ≡ option_map {T = FileSystem} {U = Row} (λ f. row_in s.now.file_systems (name, f)) (get s.now.file_systems name)
    found_here = subst (λ (d : Datasets). Some r ≡ option_map {T = FileSystem} {U = Row} (λ f. row_in d.file_systems (name, f)) (get d.file_systems name)) (sym is.datasets) found

    named : r.name ≡ name
    named = (found_row (datasets_of s) name r found_here).1

    -- it is a forecast of the change
    pub is_ahead : IsAhead s c r f synced
    is_ahead =
        let at = found_row (datasets_of s) name r found_here in
        record {
          good = is.steady.good;
          there = at.0.there;
          below = ap (λ (x : Row). x.below) at.0.is;
          forecast = subst (λ m. IsForecast m c f) live_is forecast;
          opened = opened;
          few = few_now;
        }
      where
        few_now : set.len (union_of s.now) < 2 ^ 32
        few_now = subst (λ b. set.len b < 2 ^ 32) (union-fields (world_of (datasets_of s)) s.now refl) (few s is.balanced (small_here small))

    module _ (look : Outlook) (told : (s : State) (c : Changes) → IsAhead s c r f synced → IsOutlookOf s c r look) where
      is_outlook : IsOutlookOf s c r look
      is_outlook = told s c is_ahead

      -- so much can be counted
      pub few_more : space.waiting + look.waiting < 2 ^ 32
      few_more =
          let e = is.beside.waiting in
          let w = is_outlook.waiting in
          let l = few_wait s is.balanced (asked_by_change s r.name c).now in
          let k = small_here small in
          omega (arith, e, w, l, k)

      changed_here : IsChanged (world_of (datasets_of s)) (asked_by_change s name c).now name look.here look.referenced
      changed_here = subst (λ n. IsChanged (world_of (datasets_of s)) (asked_by_change s n c).now n look.here look.referenced) named
          (foretold s is.steady.good r.name r.system is_ahead.there c _ _ is_ahead.forecast.survey look.here look.referenced is_outlook.here is_outlook.referenced)

      changed : IsChanged (world_of t) (asked_by_change s name c).now name look.here look.referenced
      changed = subst (λ d. IsChanged (world_of d) (asked_by_change s name c).now name look.here look.referenced) is.datasets changed_here

      met : AreQuotasMet (world_of t)
      met = subst (λ d. AreQuotasMet (world_of d)) is.datasets (met_alike s.now (world_of (datasets_of s)) refl is.steady.limits.now)

      -- what it comes to is what is told
      pub change_foretold : look.here < 2 ^ 42 → Foretells s name c (Some look)
      change_foretold little = (little, changed_here)

      module _ (more : Space) (size : more.size ≡ space.size) (freeing : more.freeing ≡ space.freeing) (waiting : more.waiting ≡ space.waiting + look.waiting) (over : Option Refusal)
          (asked : (s' : State) → IsChanged (world_of t) s'.now name look.here look.referenced → AreQuotasMet (world_of t) → IsSpaceOf s' more → over ≡ first_of (limit_row s')) where
        change_row : over ≡ first_of (limit_row (asked_by_change s name c))
        change_row = asked (asked_by_change s name c) changed met (subst (λ m. IsSpaceOf (asked_by_change s m c) more) named (record {
          size = size ∙ is.beside.size;
          freeing = freeing ∙ is.beside.freeing ∙ ap set.len (sym (change_frees_none s.now r.name r.system is_ahead.there c (fresh_number s)));
          waiting = waiting ∙ ap (λ k. k + look.waiting) is.beside.waiting ∙ is_outlook.waiting;
        }))

        -- a limit would be broken
        pub change_over : (why : Refusal) → over ≡ Some why → IsNoChange s name c why
        change_over why broken = inr (inr (there, sym change_row ∙ broken))
          where
            there : IsSome (get s.now.file_systems name)
            there = subst (λ m. IsSome (get s.now.file_systems m)) named (ap is_some is_ahead.there)

        -- or none
        pub change_fits : over ≡ None → MayChange s name c
        change_fits none = inr (sym change_row ∙ none)
