-- The steps of a write to a live map whose file system may have snapshots.
use Rattle.std.proofs.Common.{◌≡◌, ℕ, ◌+◌, ◌<◌, ◌≤◌, Bool, true, false, cond, map, List, Option, Some, None, refl, sym, ap, subst, ◌∙◌, ◌⊎◌, inl, inr, ⊎_elim, length, arith}
use Rattle.std.specs.Prelude.{◌↔◌, nat_le, nat_lt, count_by, max}
use Rattle.std.specs.List.{filter}
use Rattle.std.specs.Option.{option_map_or}
use Rattle.std.specs.FinMap.{get}
use Rattle.std.specs.FinMap as finmap
use Rattle.std.specs.FinSet as set
use Rattle.std.proofs.lemmas.Bool.{le-leb}
use Rattle.std.proofs.lemmas.Bool.Decides.{leb_tells}
use Rattle.base.specs.declared.name.target.Target.{Target}
use Rattle.base.specs.declared.name.target.Target.TheVariants.{FileSystem as OfFileSystem}
use Rattle.base.specs.declared.number.Key.{Key}
use Rattle.base.specs.declared.refusal.Refusal.{Refusal}
use Rattle.base.specs.declared.refusal.Refusal.TheVariants.{NoDataset, NoSpace, NoMemory}
use Rattle.base.specs.Map.{Block}
use Rattle.base.specs.Rewrite.{Changes}
use Rattle.base.specs.Surveys.{IsSurvey, dead_block}
use Rattle.zalloc.specs.declared.BlockState.{BlockState}
use Rattle.zalloc.specs.States.{is_free}
use Rattle.batch.specs.declared.update.Update.{Update}
use Rattle.batch.specs.Updates.{IsBatch}
use Rattle.batch.specs.declared.draft.Draft.{Draft}
use Rattle.tree.specs.Change.{IsChange, HasRoom, LacksRoom, young_count}
use Rattle.datasets.specs.Rows.{live_of, with_live}
use Rattle.datasets.specs.Writes.{young_of, AllowsWrite, HasWritten}
use Rattle.model.specs.declared.request.Request.{Request}
use Rattle.model.specs.declared.reply.Reply.TheVariants.{Done, Refused}
use Rattle.model.specs.World.{FileSystem, Live, previous_of, union_of, reach_of}
use Rattle.model.specs.State.{State}
use Rattle.model.specs.Fits.{pool_holds}
use Rattle.model.specs.Edits.{with_now}
use Rattle.model.specs.Numbers.{HasStates}
use Rattle.model.specs.Rule.{Rule, first_of}
use Rattle.model.specs.requests.Change.{limit_row, change_rule, state_after_change}
use Rattle.model.specs.Refusals.{refusal_of}
use Rattle.model.specs.Step.{Step}
use Rattle.world.specs.Sets.{Has}
use Rattle.world.specs.Blocks.{block_order as o}
use Rattle.world.specs.Shapes.{Name}
use Rattle.world.specs.Dead.{base_of}
use Rattle.world.specs.Tables.{Datasets, world_of}
use Rattle.world.proofs.lists.SetCounts.{in_union_left}
use Rattle.world.proofs.changes.Kept.{reach_is, union-fields}
use Rattle.limits.specs.Limits.{IsUnlimited}
use Rattle.limits.proofs.Limits.{limits_met}
use Rattle.limits.proofs.AskedRows.{limits_asked}
use Rattle.steps.specs.Ruled.{HasRule}
use Rattle.steps.specs.Steady.{IsSteady, HasNoDataset}
use Rattle.steps.specs.Asked.{asked_by_change}
use Rattle.steps.specs.Edits.{datasets_of, with_datasets, StaysUnlimited, CanChange}
use Rattle.steps.proofs.numbers.Known.{states_of}
use Rattle.steps.proofs.numbers.States.{state_at-now}
use Rattle.steps.proofs.numbers.Ruled.{refused_by}
use Rattle.steps.proofs.requests.Changing.{change_no_dataset, change_no_memory, change_asks, change_leads}
use Rattle.steps.proofs.requests.Planning.{live_unlimited, asked, asked_change, room_enough, limits_asked_bare, leads_to, change_steady_within, change_steady_bare, change_can}

-- ---- the world of the datasets alone has the same blocks, and the same stands before its live maps

pub union_is : (s : State) → union_of (world_of (datasets_of s)) ≡ union_of s.now
union_is s = union-fields (world_of (datasets_of s)) s.now refl

pub base_is : (s : State) (name : Name) → base_of (world_of (datasets_of s)) (Live name) ≡ base_of s.now (Live name)
unfolding base_of previous_of
base_is s name = refl

pub young_is : (s : State) (name : Name) → young_of (datasets_of s) name s.last.group ≡ max s.last.group (base_of s.now (Live name) + 1)
young_is s name = ap (λ b. max s.last.group (b + 1)) (base_is s name)

-- ---- what a table asks before a write

module _ (s : State) (steady : IsSteady s) (numbers : List BlockState) (known : HasStates s numbers) (us : List Update) where
  reached : (b : Block) → Has (union_of (world_of (datasets_of s))) b → Has (reach_of s.now) b
  reached b h = subst (λ y. Has y b) (sym (reach_is s.now)) (in_union_left o (union_of s.now) s.now.freeing b (subst (λ y. Has y b) (union_is s) h))

  -- a batch of updates may be made
  pub allows : IsBatch us → AllowsWrite (datasets_of s) us s.last.group numbers
  allows batch = record {
    batch = batch;
    not_after = steady.good.pair.reached.since.later;
    allocated = λ b h.
        let k = reached b h in
        (states_of s numbers known).each b.number (steady.good.pair.reached.small b (in_union_left o (reach_of s.now) (reach_of s.last) b k))
        ∙ ap Some (state_at-now (reach_of s.now) (reach_of s.last) b k);
  }

-- ---- a write in force

-- the file system of a name that is there
pub record IsThere (s : State) (name : Name) : Type 0 where
  pub system : FileSystem
  pub is : get s.now.file_systems name ≡ Some system

pub there_or : (s : State) (name : Name) → IsThere s name ⊎ (get s.now.file_systems name ≡ None)
there_or s name = by (get s.now.file_systems name) refl
  where
    by : (x : Option FileSystem) → get s.now.file_systems name ≡ x → IsThere s name ⊎ (get s.now.file_systems name ≡ None)
    by (Some f) e = inl (record { system = f; is = e })
    by None e = inr e

live_is : (s : State) (name : Name) (there : IsThere s name) → live_of s.now.file_systems name ≡ there.system.live
live_is s name there = ap (λ x. option_map_or (λ (f : FileSystem). f.live) x finmap.empty) there.is

-- where no file system had a limit, none has one
pub written_unlimited : (s : State) (numbers : List BlockState) (name : Name) (to : Datasets) (ch : Changes) (done : Draft)
    → HasWritten (datasets_of s) to name ch s.last.group numbers done → StaysUnlimited s to
written_unlimited s numbers name to ch done w bare = subst (λ (t : Datasets). IsUnlimited t.file_systems) (sym w.to_is) (live_unlimited s name w.change.new bare)

module _ (s : State) (steady : IsSteady s) (numbers : List BlockState) (known : HasStates s numbers) (name : Name) (to : Datasets) (ch : Changes) (done : Draft)
    (w : HasWritten (datasets_of s) to name ch s.last.group numbers done) where
  abbrev young : ℕ
  young = young_of (datasets_of s) name s.last.group

  -- the datasets after it
  abbrev after_it : Datasets
  after_it = record (datasets_of s) { file_systems = with_live s.now.file_systems name w.change.new }

  module _ (there : IsThere s name) where
    change_is : IsChange there.system.live ch s.now.group (young_of (datasets_of s) name s.last.group) numbers w.change
    change_is = subst (λ m. IsChange m ch s.now.group young numbers w.change) (live_is s name there) w.is

    released_is : filter (λ b. nat_lt (base_of s.now (Live name)) b.birth) w.change.released ≡ map dead_block done.released.items
    released_is = ap (λ n. filter (λ (b : Block). nat_lt n b.birth) w.change.released) (sym (base_is s name)) ∙ sym w.released

    can_there : IsSteady (with_datasets s after_it) → CanChange s to (map dead_block done.released.items) (map (λ n. n.0) done.taken.items)
    can_there after_steady =
        subst (λ t. CanChange s t (map dead_block done.released.items) (map (λ n. n.0) done.taken.items)) (sym w.to_is)
        (subst (λ bs. CanChange s after_it bs (map (λ n. n.0) done.taken.items)) released_is
        (subst (λ ns. CanChange s after_it (filter (λ b. nat_lt (base_of s.now (Live name)) b.birth) w.change.released) ns) (sym w.taken)
        (change_can s steady name there.system there.is numbers known ch young (young_is s name) w.change change_is after_steady)))

    steady_within : first_of (limit_row (asked_by_change s name ch)) ≡ None → IsSteady (with_datasets s after_it)
    steady_within = change_steady_within s steady name there.system there.is numbers known ch young (young_is s name) w.change change_is

    steady_bare : IsUnlimited s.now.file_systems → IsSteady (with_datasets s after_it)
    steady_bare = change_steady_bare s steady name there.system there.is numbers known ch young (young_is s name) w.change change_is

  -- the datasets after a write to a file system that is there can be put in place, where the limits hold then
  pub written_can_within : first_of (limit_row (asked_by_change s name ch)) ≡ None → (get s.now.file_systems name ≡ None → ⊥)
      → CanChange s to (map dead_block done.released.items) (map (λ n. n.0) done.taken.items)
  written_can_within fits there = ⊎_elim (λ t. can_there t (steady_within t fits)) (λ none. absurd (there none)) (there_or s name)

  -- and where no file system has a limit
  written_can_bare : IsUnlimited s.now.file_systems → (get s.now.file_systems name ≡ None → ⊥)
      → CanChange s to (map dead_block done.released.items) (map (λ n. n.0) done.taken.items)
  written_can_bare bare there = ⊎_elim (λ t. can_there t (steady_bare t bare)) (λ none. absurd (there none)) (there_or s name)

pub written_can : (s : State) → IsSteady s → IsUnlimited s.now.file_systems → (numbers : List BlockState) → HasStates s numbers → (name : Name) (to : Datasets) (ch : Changes) (done : Draft)
    → HasWritten (datasets_of s) to name ch s.last.group numbers done → (get s.now.file_systems name ≡ None → ⊥)
    → CanChange s to (map dead_block done.released.items) (map (λ n. n.0) done.taken.items)
written_can s steady bare numbers known name to ch done w = written_can_bare s steady numbers known name to ch done w bare

-- ---- the limits after a write to a file system that is there

not_le : (x y : ℕ) → y < x → nat_le x y ≡ false
not_le x y h = ⊎_elim (λ t. let l = t.1 in absurd (omega arith)) (λ t. t.0) (leb_tells x y)

module _ (s : State) (steady : IsSteady s) (numbers : List BlockState) (known : HasStates s numbers) (name : Name) (ch : Changes) (there : get s.now.file_systems name ≡ None → ⊥) where
  here : IsThere s name
  here = ⊎_elim (λ t. t) (λ none. absurd (there none)) (there_or s name)

  module _ (dropped : List Block) (made : List Key) (survey : IsSurvey (live_of s.now.file_systems name) ch dropped made) where
    live_survey : IsSurvey here.system.live ch dropped made
    live_survey = subst (λ m. IsSurvey m ch dropped made) (live_is s name here) survey

    asked_is : asked_by_change s name ch ≡ with_now s (asked s steady name here.system here.is ch dropped made live_survey)
    asked_is = ap (with_now s) (asked_change s steady name here.system here.is ch dropped made live_survey)

    -- where no file system has a limit, they are the room by the survey's counts
    pub limits_of_survey : IsUnlimited s.now.file_systems
        → (b : Bool) → nat_le (length made) (count_by is_free numbers + young_count (young_of (datasets_of s) name s.last.group) dropped) ≡ b
        → first_of (limit_row (asked_by_change s name ch)) ≡ cond b None (Some NoSpace)
    limits_of_survey bare b e =
        ap (λ x. first_of (limit_row x)) asked_is
        ∙ limits_asked_bare s steady name here.system here.is ch dropped made live_survey (young_of (datasets_of s) name s.last.group) (young_is s name) numbers known bare b e

    -- where they hold, the Free numbers and the dropped young blocks are enough
    survey_enough : first_of (limit_row (asked_by_change s name ch)) ≡ None
        → length made ≤ count_by is_free numbers + young_count (young_of (datasets_of s) name s.last.group) dropped
    survey_enough fits = room_enough s steady name here.system here.is ch dropped made live_survey (young_of (datasets_of s) name s.last.group) (young_is s name) numbers known
        (ap pool_holds (sym asked_is) ∙ (limits_met (asked_by_change s name ch) (limits_asked (asked_by_change s name ch) fits)).1)

  -- where no file system has a limit and there is room, they hold
  pub change_fits : IsUnlimited s.now.file_systems → HasRoom (live_of s.now.file_systems name) ch (young_of (datasets_of s) name s.last.group) numbers
      → first_of (limit_row (asked_by_change s name ch)) ≡ None
  change_fits bare room = limits_of_survey room.dropped room.made room.survey bare true (le-leb _ _ room.enough)

  -- and where there is none, the pool is full
  pub change_short : IsUnlimited s.now.file_systems → LacksRoom (live_of s.now.file_systems name) ch (young_of (datasets_of s) name s.last.group) numbers
      → first_of (limit_row (asked_by_change s name ch)) ≡ Some NoSpace
  change_short bare lacks = limits_of_survey lacks.dropped lacks.made lacks.survey bare false (not_le _ _ lacks.short)

  -- where they hold, there is room
  pub change_not_short : first_of (limit_row (asked_by_change s name ch)) ≡ None
      → LacksRoom (live_of s.now.file_systems name) ch (young_of (datasets_of s) name s.last.group) numbers → ⊥
  change_not_short fits lacks =
      let e = survey_enough lacks.dropped lacks.made lacks.survey fits in
      let l = lacks.short in
      absurd (omega arith)

-- ---- steps

module _ (s : State) (steady : IsSteady s) (name : Name) (q : Request) (target : Target) (named : target ≡ OfFileSystem name) (ch : Changes) (in_range : Bool)
    (is : HasRule q (change_rule target ch in_range)) (within : in_range ≡ true) where
  abbrev rule : Rule
  rule = change_rule target ch in_range

  row_is : IsThere s name → refusal_of s (change_rule target ch in_range) ≡ first_of (limit_row (asked_by_change s name ch))
  row_is there = change_asks s steady q target ch in_range is name there.system named there.is within

  no_dataset_here : get s.now.file_systems name ≡ None → Step s q (Refused NoDataset) s
  no_dataset_here none = change_no_dataset s steady q target ch in_range is (subst (HasNoDataset s.now.file_systems) (sym named) none)

  -- a write by which a limit would be passed
  pub write_refused_by_limit : (get s.now.file_systems name ≡ None → ⊥) → (why : Refusal) → first_of (limit_row (asked_by_change s name ch)) ≡ Some why → Step s q (Refused why) s
  write_refused_by_limit there why over = ⊎_elim
      (λ t. refused_by q rule is s why (row_is t ∙ over))
      (λ none. absurd (there none))
      (there_or s name)

module _ (s : State) (steady : IsSteady s) (numbers : List BlockState) (known : HasStates s numbers) (name : Name) (q : Request) (target : Target)
    (named : target ≡ OfFileSystem name) (ch : Changes) (in_range : Bool) (is : HasRule q (change_rule target ch in_range)) (within : in_range ≡ true) where
  module _ (why : Refusal) (tells : (why ≡ NoDataset) ↔ (get s.now.file_systems name ≡ None))
      (lacks : why ≡ NoSpace → LacksRoom (live_of s.now.file_systems name) ch (young_of (datasets_of s) name s.last.group) numbers)
      (which : (why ≡ NoDataset) ⊎ ((why ≡ NoSpace) ⊎ (why ≡ NoMemory))) where
    with_reason : (y : Refusal) → why ≡ y → Step s q (Refused y) s → Step s q (Refused why) s
    with_reason y e step = subst (λ z. Step s q (Refused z) s) (sym e) step

    apart : NoSpace ≡ NoDataset → ⊥
    apart e = cc

    -- where it wanted room, the file system is there
    there_full : why ≡ NoSpace → get s.now.file_systems name ≡ None → ⊥
    there_full e none = apart (sym e ∙ tells.1 none)

    by_reason : (why ≡ NoSpace → Step s q (Refused NoSpace) s) → Step s q (Refused why) s
    by_reason full = ⊎_elim
        (λ e. with_reason NoDataset e (no_dataset_here s steady name q target named ch in_range is within (tells.0 e)))
        (⊎_elim
        (λ e. with_reason NoSpace e (full e))
        (λ e. with_reason NoMemory e (change_no_memory s steady q target ch in_range is)))
        which

    -- a write that the table refused: where the limits hold then, it doesn't want room
    pub write_refused_within : first_of (limit_row (asked_by_change s name ch)) ≡ None → Step s q (Refused why) s
    write_refused_within fits = by_reason (λ e. absurd (change_not_short s steady numbers known name ch (there_full e) fits (lacks e)))

    -- and where no file system has a limit, it does where the pool is full
    write_refused_bare : IsUnlimited s.now.file_systems → Step s q (Refused why) s
    write_refused_bare bare = by_reason (λ e. write_refused_by_limit s steady name q target named ch in_range is within (there_full e) NoSpace
        (change_short s steady numbers known name ch (there_full e) bare (lacks e)))

  module _ (to : Datasets) (done : Draft) (w : HasWritten (datasets_of s) to name ch s.last.group numbers done) where
    done_there : first_of (limit_row (asked_by_change s name ch)) ≡ None → IsThere s name → Step s q Done (with_datasets s to)
    done_there fits there =
        let change = change_is s steady numbers known name to ch done w there in
        subst (λ t. Step s q Done (with_datasets s t)) (sym w.to_is)
        (change_leads s steady q target ch in_range is (record { number = change.number; taken = set.empty })
        (record (datasets_of s) { file_systems = with_live s.now.file_systems name w.change.new })
        (row_is s steady name q target named ch in_range is within there ∙ fits)
        (leads_to s steady name there.system there.is numbers known ch (young_of (datasets_of s) name s.last.group) (young_is s name) w.change change
        ∙ sym (ap (λ t. state_after_change s t ch (record { number = change.number; taken = set.empty })) named))
        (steady_within s steady numbers known name to ch done w there fits))

    -- a write in force, to a file system that is there, where the limits hold then
    pub written_done_within : first_of (limit_row (asked_by_change s name ch)) ≡ None → (get s.now.file_systems name ≡ None → ⊥) → Step s q Done (with_datasets s to)
    written_done_within fits there = ⊎_elim (done_there fits) (λ none. absurd (there none)) (there_or s name)

-- ---- where no file system has a limit

module _ (s : State) (steady : IsSteady s) (bare : IsUnlimited s.now.file_systems) (numbers : List BlockState) (known : HasStates s numbers) (name : Name) (q : Request) (target : Target)
    (named : target ≡ OfFileSystem name) (ch : Changes) (in_range : Bool) (is : HasRule q (change_rule target ch in_range)) (within : in_range ≡ true) where
  -- a write that the table refused
  pub write_refused : (why : Refusal) → (why ≡ NoDataset) ↔ (get s.now.file_systems name ≡ None)
      → (why ≡ NoSpace → LacksRoom (live_of s.now.file_systems name) ch (young_of (datasets_of s) name s.last.group) numbers)
      → (why ≡ NoDataset) ⊎ ((why ≡ NoSpace) ⊎ (why ≡ NoMemory)) → Step s q (Refused why) s
  write_refused why tells lacks which = write_refused_bare s steady numbers known name q target named ch in_range is within why tells lacks which bare

  module _ (to : Datasets) (done : Draft) (w : HasWritten (datasets_of s) to name ch s.last.group numbers done) where
    -- a write in force, to a file system that is there
    pub written_done : HasRoom (live_of s.now.file_systems name) ch (young_of (datasets_of s) name s.last.group) numbers → (get s.now.file_systems name ≡ None → ⊥)
        → Step s q Done (with_datasets s to)
    written_done room there = written_done_within s steady numbers known name q target named ch in_range is within to done w
        (change_fits s steady numbers known name ch there bare room) there
