-- What has gone from each dataset of a file system to the one after it.
use Rattle.std.specs.Prelude.{◌+◌, ℕ, Bool, true, false, ◌&&◌, List, [], ◌∷◌, Option, None, Some, option_map, filter, length, nat_lt, nat_le, if◌then◌else◌}
use Rattle.std.specs.List.{sum_by}
use Rattle.std.specs.Option.{option_map_or}
use Rattle.std.specs.Arc.{arc_value}
use Rattle.std.specs.FinSet.{len, difference}
use Rattle.base.specs.Map.{Map, BlockSet, blocks}
use Rattle.base.specs.declared.number.Dead.{Dead}
use Rattle.deadlist.specs.Bits.{search_steps}
use Rattle.deadlist.specs.Entries.{is_upto, is_after}
use Rattle.deadlist.specs.Held.{Held}
use Rattle.model.specs.World.{Snap}
use Rattle.snapshots.specs.declared.kept.Kept.{Kept}
use Rattle.world.specs.Blocks.{upto, after}
use Rattle.file_system.specs.Rows.{Row}
use Rattle.file_system.specs.declared.gone.Asked.{Asked}
use Rattle.file_system.specs.declared.gone.Side.{Side}
use Rattle.file_system.specs.declared.gone.Side.TheVariants.{Upto, After}

-- what has gone with a dataset of this group, or with the live map, which has none: the blocks that what stands before it has and it hasn't
-- (On-Disk Specification, chapter 4: ds_deadlist_obj)
pub record Gone : Type 0 where
  pub group : Option ℕ
  pub blocks : BlockSet

-- what has gone with each of these snapshots, which stand above these blocks, and then with the live map (On-Disk Specification, chapter 4:
-- ds_deadlist_obj)
abbrev pub gone_in : BlockSet → List Snap → Map → List Gone
gone_in bs [] live = record { group = None; blocks = difference bs (blocks live) } ∷ []
gone_in bs (t ∷ ts) live = record { group = Some t.group; blocks = difference bs (blocks t.map) } ∷ gone_in (blocks t.map) ts live

-- a dataset of this group, or the live map, comes after the snapshot of that group, where there is one (zfsprops(7): written@snapshot)
abbrev pub is_later : Option ℕ → Option ℕ → Bool
is_later from group = option_map_or (λ a. option_map_or (λ g. nat_lt a g) group true) from true

-- and it is the snapshot of that group or comes before it, where there is one (zfs-destroy(8): a range of snapshots)
abbrev pub is_by : Option ℕ → Option ℕ → Bool
is_by until group = option_map_or (λ u. option_map_or (λ g. nat_le g u) group false) until true

-- it stands between the two: after the first, and no later than the second (zfs-destroy(8): a range of snapshots)
abbrev pub is_between : Option ℕ → Option ℕ → Option ℕ → Bool
is_between from until group = is_later from group && is_by until group

-- what has gone with the datasets of a row that stand between the two (profile)
abbrev pub dead_between : Option ℕ → Option ℕ → Row → List Gone
dead_between from until r = filter (λ g. is_between from until g.group) (gone_in (blocks r.below) r.system.snaps r.system.live)

-- how many blocks of a set were born by a group, or after it (profile)
abbrev pub size_on : Side → ℕ → BlockSet → ℕ
size_on Upto cut s = len (upto cut s)
size_on After cut s = len (after cut s)

-- how many entries (profile)
abbrev pub count_on : Side → ℕ → List Dead → ℕ
count_on Upto cut es = length (filter (is_upto cut) es)
count_on After cut es = length (filter (is_after cut) es)

-- it stands between the two that are asked for (profile)
abbrev pub is_asked : Asked → Option ℕ → Bool
is_asked a group = is_between (option_map (λ g. g.0) a.from) (option_map (λ g. g.0) a.until) group

-- how many entries count, of a dead list of a dataset of this group (profile)
abbrev pub asked_count : Asked → Option ℕ → List Dead → ℕ
asked_count a group es = if is_asked a group then count_on a.side a.cut.0 es else 0

-- and of a snapshot's (profile)
abbrev pub kept_count : Asked → Kept → ℕ
kept_count a k = asked_count a (Some k.snapshot.group) (arc_value k.dead).entries

-- and of all these and the live map's (profile)
abbrev pub entry_count : Asked → List Kept → List Dead → ℕ
entry_count a ks es = sum_by (kept_count a) ks + asked_count a None es

-- how many blocks have gone (profile)
abbrev pub gone_size : Asked → List Gone → ℕ
gone_size a gs = sum_by (λ g. size_on a.side a.cut.0 g.blocks) (filter (λ g. is_asked a g.group) gs)

-- how much a count in a dead list may add to the count of segments: each of its segments, and each entry that it looks at (profile)
abbrev pub reach_of : Held → ℕ
reach_of h = (length h.cuts + 1) + (h.steps + h.waiting)

-- of that of a dataset of this group, where it is asked for (profile)
abbrev pub asked_reach : Asked → Option ℕ → Held → ℕ
asked_reach a group h = if is_asked a group then reach_of h else 0

-- and of that of a snapshot (profile)
abbrev pub kept_reach : Asked → Kept → ℕ
kept_reach a k = asked_reach a (Some k.snapshot.group) (arc_value k.dead)

-- and of all these and that of the live map (profile)
abbrev pub whole_reach : Asked → List Kept → Held → ℕ
whole_reach a ks h = sum_by (kept_reach a) ks + asked_reach a None h

-- How much a count in the dead list of a dataset of a file system adds to the count of segments, at most, where so many blocks have gone
-- with it: the one segment, the entries that wait, which are 126 at most, and of the others about the square of the logarithm (profile)
abbrev pub most_reached : ℕ → ℕ
most_reached n = 127 + search_steps n

-- and of what has gone with some datasets, each in a list of its own (profile)
abbrev pub lists_reach : List Gone → ℕ
lists_reach = sum_by (λ g. most_reached (len g.blocks))
