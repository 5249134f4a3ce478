-- The records of a send, and what they do to contents (zfs-send(8); the records are profile).
use Rattle.std.specs.Prelude.{ℕ, Bool, false, List, [], ◌∷◌, ◌++◌, ◌+◌, ◌-◌, ◌*◌, ◌^◌, None, Some, ◌==◌, nat_lt, if◌then◌else◌, not, ◌||◌, ◌&&◌, map}
use Rattle.std.specs.List.{filter, filter_map, flat_map, range_with_len}
use Rattle.std.specs.Ordering.{nat_cmp}
use Rattle.std.specs.FinMap.{contains_key, entries, values, from_entries, len}
use Rattle.base.specs.declared.number.Key.{Key}
use Rattle.base.specs.Key.{covers, first_leaf}
use Rattle.base.specs.Map.{Map, Contents}
use Rattle.base.specs.Rewrite.{Changes, changed_contents}
use Rattle.stream.specs.declared.record.Record.{Record}
use Rattle.stream.specs.declared.record.Record.TheVariants.{Write, Free}

-- the first leaf that a record covers (profile)
abbrev pub start_of : Record → ℕ
start_of (Write leaf bytes) = leaf
start_of (Free k) = first_leaf k

-- one past the last leaf that a record covers (profile)
abbrev pub end_of : Record → ℕ
end_of (Write leaf bytes) = leaf + 1
end_of (Free k) = (k.index + 1) * 16 ^ k.level

-- records by the first leaf of each: no two have the same first leaf, so the map from first leaves has them all, in order (profile)
abbrev pub in_order : List Record → List Record
in_order records = values (from_entries {R = nat_cmp} (map (λ r. (start_of r, r)) records))

-- a write for each leaf born after t (zfs-send(8), -i)
abbrev pub write_records : Map → ℕ → List Record
write_records m t = filter_map (λ e. if (e.0.level == 0) && nat_lt t e.1.birth then Some (Write e.0.index e.1.bytes) else None) (entries m)

-- the sixteen keys below one (On-Disk Specification, chapters 2 and 3)
abbrev pub children : Key → List Key
children k = map (λ i. record { level = k.level - 1; index = i }) (range_with_len (16 * k.index) 16)

-- a free for each absent key whose parent is present and born after t (zfs-send(8), -i; profile)
abbrev pub free_records : Map → ℕ → List Record
free_records m t =
    flat_map (λ e. if nat_lt 0 e.0.level && nat_lt t e.1.birth then map Free (filter (λ k. not (contains_key m k)) (children e.0)) else []) (entries m)

-- the free of everything, where the map is empty (profile)
abbrev pub empty_records : Map → List Record
empty_records m = if len m == 0 then Free (record { level = 5; index = 0 }) ∷ [] else []

-- what a send of this map from group t has, in order (zfs-send(8); profile)
unfoldable pub records_since : Map → ℕ → List Record
records_since m t = in_order (write_records m t ++ free_records m t ++ empty_records m)

-- the writes of a list of records (zfs-receive(8))
abbrev pub written_leaves : List Record → List (ℕ × List ℕ)
written_leaves [] = []
written_leaves (Write leaf bytes ∷ rs) = (leaf, bytes) ∷ written_leaves rs
written_leaves (Free k ∷ rs) = written_leaves rs

-- whether a record frees this leaf (zfs-receive(8))
abbrev pub is_freed : List Record → ℕ → Bool
is_freed [] leaf = false
is_freed (Write n bytes ∷ rs) leaf = is_freed rs leaf
is_freed (Free k ∷ rs) leaf = covers k leaf || is_freed rs leaf

-- all writes and frees as one change (zfs-receive(8))
abbrev pub changes_of : List Record → Changes
changes_of records = record { writes = from_entries (written_leaves records); punches = is_freed records }

-- the contents after all writes and frees (zfs-receive(8))
abbrev pub apply_records : List Record → Contents → Contents
apply_records records old = changed_contents old (changes_of records)
