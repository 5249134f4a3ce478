-- Why a receive is refused.
use Rattle.std.proofs.Common.{◌≡◌, ℕ, ◌+◌, ◌≤◌, ◌<◌, Bool, true, false, not, cond, ◌||◌, Option, Some, None, refl, sym, ap, subst, ◌∙◌, true≢false, ◌-◌, List, ◌∷◌, arith}
use Rattle.std.specs.Prelude.{nat_lt, nat_le, nat_eq, is_some, ◌==◌, if◌then◌else◌}
use Rattle.std.proofs.lemmas.Bool.Decides.{nat_tests, Decides-eqb, Decides-like, same_from_decides}
use Rattle.std.specs.FinMap as finmap
use Rattle.std.specs.FinMap.{contains_key, len}
use Rattle.base.specs.declared.number.Key.{Key}
use Rattle.base.specs.declared.refusal.Refusal.{Refusal}
use Rattle.base.specs.declared.refusal.Refusal.TheVariants.{Exists, NoParent, TooMany, NoDataset, Deferred, WrongSource}
use Rattle.base.specs.Map.{Map, Cell, blocks}
use Rattle.node.specs.Unique.{IsUnique}
use Rattle.model.specs.Sums.{size_without}
use Rattle.model.specs.World.{World, Snap, snap_named}
use Rattle.base.specs.declared.name.member.Member.{Member}
use Rattle.base.specs.declared.number.Guid.{Guid}
use Rattle.stream.specs.Spelling.{Sending, source_guid}
use Rattle.model.specs.Hierarchy.{file_system_limit, has_parent}
use Rattle.model.specs.declared.receiving.Receiving.{Receiving}
use Rattle.model.specs.State.{Views}
use Rattle.model.specs.Rule.{Row, first_of}
use Rattle.model.specs.requests.Create.{create_refusal}
use Rattle.model.specs.requests.Receive.{same_map, has_no_room, new_row, origin_row, full_row, incremental_row}
use Rattle.datasets.specs.Rows.{snap_count}
use Rattle.world.specs.Tables.{Datasets, world_of}
use Rattle.std.specs.Option.{option_map_or}
use Rattle.world.proofs.lists.Maps.{same_value, no_value}
use Rattle.world.proofs.views.ViewedRequests.{rest_none}
use Rattle.removals.proofs.Rooms.{snaps_counted}
use Rattle.receives.specs.Requests.{receive_refusal}
use Rattle.receives.proofs.Alike.{decides_map, same_by_counts, counts_of_same}

-- ---- room for one snapshot more

one_more : (most n : ℕ) → nat_lt most (n + 1) ≡ nat_le most n
one_more most n = Prim.grind (arith, nat_tests)

one_instead : (most going n : ℕ) → 0 < most → nat_lt (most + going) (n + 1) ≡ nat_le most (n - going)
one_instead most going n some = Prim.grind (arith, nat_tests)

pub room_is : (w : World) (going : ℕ) → has_no_room w going ≡ (nat_le 65536 (snap_count w.file_systems - going) || nat_le 9223372036854775807 w.group)
room_is w going = λ i. (ap (λ n. nat_lt (65536 + going) (n + 1)) (snaps_counted w) ∙ one_instead 65536 going (snap_count w.file_systems) (Prim.omega arith)) i || one_more 9223372036854775807 w.group i

-- ---- a full stream

-- the row, whether there is room for the file system and for the snapshot
abbrev full_by : Bool → Bool → Bool → Bool → Option Refusal
full_by there orphan many full = cond there (Some Exists) (cond orphan (Some NoParent) (cond (many || full) (Some TooMany) None))

pub no_system : (there orphan many full : Bool) (e : Refusal) → cond there (Some Exists) (cond orphan (Some NoParent) (cond many (Some TooMany) None)) ≡ Some e → Some e ≡ full_by there orphan many full
no_system true orphan many full e k = sym k
no_system false true many full e k = sym k
no_system false false true full e k = sym k
no_system false false false full e k = absurd (no_value e k)

pub can_create : (there orphan many full : Bool) → cond {A = Option Refusal} there (Some Exists) (cond orphan (Some NoParent) (cond many (Some TooMany) None)) ≡ None
    → cond full (Some TooMany) None ≡ full_by there orphan many full
can_create true orphan many full k = absurd (no_value Exists (sym k))
can_create false true many full k = absurd (no_value NoParent (sym k))
can_create false false true full k = absurd (no_value TooMany (sym k))
can_create false false false full k = refl

-- ---- whether the live map isn't the newest snapshot's

pub is_more : (live kept : Map) (n : ℕ) → n ≡ size_without (blocks live) (blocks kept) → 0 < n → true ≡ not (same_map live kept)
is_more live kept n is some = by_test (same_map live kept) refl
  where
    by_test : (b : Bool) → same_map live kept ≡ b → true ≡ not b
    by_test true e = let k = (counts_of_same live kept ((decides_map live kept).0 e)).0 in absurd (Prim.omega arith)
    by_test false e = refl

pub by_counts : (live kept : Map) (n a b : ℕ) → n ≡ size_without (blocks live) (blocks kept) → n ≤ 0 → IsUnique live → IsUnique kept → a ≡ finmap.len live → b ≡ finmap.len kept
    → ((j k : Key) (x y : Cell) → finmap.get live j ≡ Some x → finmap.get kept k ≡ Some y → x.number ≡ y.number → (j ≡ k) × (x ≡ y))
    → nat_eq a b ≡ same_map live kept
by_counts live kept n a b is none ul uk al bk one = same_from_decides (nat_eq a b) (same_map live kept)
    (Decides-like (nat_eq a b)
    (λ e. same_by_counts live kept one ul uk (Prim.omega arith) (sym al ∙ e ∙ bk))
    (λ e. al ∙ (counts_of_same live kept e).1 ∙ sym bk)
    (Decides-eqb a b))
    (decides_map live kept)

-- ---- what nothing refuses

-- the rows' conditions, by the source's test
abbrev row_by : Datasets → Views → Member → Sending → Receiving → Bool → Row
row_by t views m s mode b = if b then full_row (world_of t) views m mode else incremental_row (world_of t) views m s.source mode

abbrev source_by : Bool → ℕ → Option Guid
source_by b n = if b then None else Some (record { 0 = n })

-- a full stream's row
pub full_none : (t : Datasets) (views : Views) (m : Member) (s : Sending) (mode : Receiving) → receive_refusal t views m s mode ≡ None → is_some (source_guid s.source) ≡ false
    → first_of (full_row (world_of t) views m mode) ≡ None
full_none t views m s mode none full = by_source (s.source == 0) none full
  where
    by_source : (b : Bool) → first_of (row_by t views m s mode b) ≡ None → is_some (source_by b s.source) ≡ false → first_of (full_row (world_of t) views m mode) ≡ None
    by_source true e k = e
    by_source false e k = absurd (true≢false k)

-- that of one from a source
pub incremental_none : (t : Datasets) (views : Views) (m : Member) (s : Sending) (mode : Receiving) → receive_refusal t views m s mode ≡ None → (g : Guid) → source_guid s.source ≡ Some g
    → first_of (incremental_row (world_of t) views m g.0 mode) ≡ None
incremental_none t views m s mode none g is = by_source (s.source == 0) none is
  where
    by_source : (b : Bool) → first_of (row_by t views m s mode b) ≡ None → source_by b s.source ≡ Some g → first_of (incremental_row (world_of t) views m g.0 mode) ≡ None
    by_source true e k = absurd (no_value g k)
    by_source false e k = subst (λ (x : Guid). first_of (incremental_row (world_of t) views m x.0 mode) ≡ None) (same_value (record { 0 = s.source }) g k) e

-- a file system can be made
pub can_make : (w : World) (name : List ℕ) → first_of (new_row w name) ≡ None → create_refusal w.file_systems name ≡ None
unfolding create_refusal
can_make w name = by_tests (contains_key w.file_systems name) (not (has_parent w.file_systems name)) (nat_le file_system_limit (len w.file_systems)) (has_no_room w 0)
  where
    by_tests : (there orphan many full : Bool) → full_by there orphan many full ≡ None → cond {A = Option Refusal} there (Some Exists) (cond orphan (Some NoParent) (cond many (Some TooMany) None)) ≡ None
    by_tests true orphan many full k = absurd (no_value Exists (sym k))
    by_tests false true many full k = absurd (no_value NoParent (sym k))
    by_tests false false true full k = absurd (no_value TooMany (sym k))
    by_tests false false false full k = refl

-- also where a row of a clone refuses nothing
pub can_clone : (w : World) (name : List ℕ) (origin : Member) (source : ℕ) → first_of (origin_row w name origin source) ≡ None → create_refusal w.file_systems name ≡ None
can_clone w name origin source none =
    let from = snap_named w origin in
    let last : Bool × Refusal = (not (option_map_or (λ (t : Snap). t.guid == source) from false), WrongSource) in
    let next : Bool × Refusal = (option_map_or (λ (t : Snap). t.deferred) from false, Deferred) in
    can_make w name (rest_none last (new_row w name) (rest_none next (last ∷ new_row w name) (rest_none (not (is_some from), NoDataset) (next ∷ last ∷ new_row w name) none)))
