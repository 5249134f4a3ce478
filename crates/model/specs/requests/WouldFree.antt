-- WouldFree (zfs-destroy(8): -nv of a range of snapshots).
use Rattle.std.specs.Prelude.{ℕ, not, false, ◌&&◌, ◌||◌, List, [], ◌∷◌, map, nat_lt, nat_le}
use Rattle.std.specs.List.{filter}
use Rattle.std.specs.Option.{option_map_or}
use Rattle.base.specs.declared.refusal.Refusal.TheVariants.{NoDataset, NotAncestor, HasClones}
use Rattle.base.specs.declared.name.member.Member.{Member}
use Rattle.model.specs.declared.reply.Reply.TheVariants.{Value as ValueIs}
use Rattle.model.specs.World.{SnapId, id_of, file_system_at, snap_named}
use Rattle.model.specs.State.{State}
use Rattle.model.specs.Sums.{would_free}
use Rattle.model.specs.Properties.{in_bytes}
use Rattle.model.specs.Targets.{has_snap}
use Rattle.model.specs.Rule.{Row, Rule, question}
use Rattle.model.specs.requests.Rollback.{has_clone_outside}

-- the snapshot of a file system by its name within it (zfs(8))
abbrev pub within : List ℕ → List ℕ → Member
within name component = record { file_system = name; component = component }

-- a snapshot's creation group (zfsprops(7), createtxg)
abbrev pub group_named : State → Member → ℕ
group_named s m = option_map_or (λ t. t.group) (snap_named s.now m) 0

-- the snapshots of a file system from one to another (zfs-destroy(8): filesystem@first%last)
abbrev pub range_of : State → List ℕ → List ℕ → List ℕ → List SnapId
range_of s name first last =
    option_map_or (λ f. map id_of (filter (λ t. nat_le (group_named s (within name first)) t.group && nat_le t.group (group_named s (within name last))) f.snaps))
    (file_system_at s.now name) []

-- zfs-destroy(8), -nv; the order is profile
abbrev pub would_free_row : State → List ℕ → List ℕ → List ℕ → Row
would_free_row s name first last =
    (not (has_snap s (within name first)) || not (has_snap s (within name last)), NoDataset)
    ∷ (nat_lt (group_named s (within name last)) (group_named s (within name first)), NotAncestor)
    ∷ (has_clone_outside s.now [] (range_of s name first last), HasClones)
    ∷ []

-- how many bytes of blocks would be freed with these snapshots (zfs-destroy(8), -nv)
abbrev pub would_free_rule : List ℕ → List ℕ → List ℕ → Rule
would_free_rule name first last =
    question (λ s. would_free_row s name first last) (λ s. ValueIs (in_bytes (would_free s.now (range_of s name first last)))) false
