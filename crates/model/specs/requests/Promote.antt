-- Promote (zfs-promote(8)).
use Rattle.std.specs.Prelude.{ℕ, Bool, true, false, not, List, length, [], ◌∷◌, ◌++◌, Option, Some, is_some}
use Rattle.std.specs.List.{list_any}
use Rattle.std.specs.Option.{option_map, option_map_or, option_and_then}
use Rattle.std.specs.FinMap.{insert}
use Rattle.base.specs.declared.refusal.Refusal.TheVariants.{NoDataset, NotClone, BadName, NameClash}
use Rattle.base.specs.Names.{same_name}
use Rattle.model.specs.declared.reply.Reply.TheVariants.{Done}
use Rattle.model.specs.World.{World, FileSystem, Snap, SnapId, file_system_at, snap_at}
use Rattle.model.specs.Lengths.{any_long}
use Rattle.model.specs.Edits.{with_now}
use Rattle.model.specs.Rule.{Row, Rule, any_choice}
use Rattle.model.specs.requests.Change.{limit_row}
use Rattle.model.specs.requests.Rollback.{snaps_upto, snaps_after}

-- what a promote is between: the clone, its origin, and the file system that owns the origin (zfs-promote(8))
pub record Promotion : Type 0 where
  pub clone : FileSystem
  pub origin : SnapId
  pub owner : List ℕ
  pub system : FileSystem

-- none where the file system isn't a clone (zfs-promote(8))
abbrev pub promotion_of : World → List ℕ → Option Promotion
promotion_of w name =
    option_and_then (λ clone. option_and_then (λ id. option_and_then (λ p. option_map (λ system. record { clone = clone; origin = id; owner = p.0; system = system })
    (file_system_at w p.0)) (snap_at w id)) clone.origin) (file_system_at w name)

-- the snapshots that change sides: the origin and all older ones (zfs-promote(8))
abbrev pub promoted_snaps : Promotion → List Snap
promoted_snaps p = snaps_upto p.system p.origin.group

-- ---- the state after it

-- the other file system afterwards: its origin is now the snapshot between the two (zfs-promote(8))
abbrev pub demoted : Promotion → FileSystem
demoted p = record p.system { snaps = snaps_after p.system p.origin.group; origin = Some p.origin }

-- the clone afterwards: it gains the snapshots and the other's origin (zfs-promote(8))
abbrev pub promoted : Promotion → FileSystem
promoted p = record p.clone { snaps = promoted_snaps p ++ p.clone.snaps; origin = p.system.origin }

-- zfs-promote(8)
abbrev pub after_promotion : World → List ℕ → Promotion → World
after_promotion w name p = record w { file_systems = insert (insert w.file_systems p.owner (demoted p)) name (promoted p) }

-- ---- its refusals

-- a snapshot's whole name would be too long under the clone's (zfs-promote(8); the limit is profile)
abbrev pub has_long_name : List ℕ → Promotion → Bool
has_long_name name p = any_long (length name) (promoted_snaps p)

-- the clone has a snapshot of the name of one that it would get (zfs-promote(8))
abbrev pub has_clash : Promotion → Bool
has_clash p = list_any (λ t. list_any (λ u. same_name u.name t.name) p.clone.snaps) (promoted_snaps p)

-- what refuses it whatever the limits (zfs-promote(8); the order is profile)
abbrev pub promotion_row : World → List ℕ → Row
promotion_row w name =
    (not (is_some (file_system_at w name)), NoDataset)
    ∷ (not (is_some (promotion_of w name)), NotClone)
    ∷ (option_map_or (has_long_name name) (promotion_of w name) false, BadName)
    ∷ (option_map_or has_clash (promotion_of w name) false, NameClash)
    ∷ []

-- zfs-promote(8)
abbrev pub promote_rule : List ℕ → Rule
promote_rule name = record {
  row = λ s asked. promotion_row s.now name ++ limit_row asked;
  after = λ s c. option_map_or (λ p. with_now s (after_promotion s.now name p)) (promotion_of s.now name) s;
  reply = λ s. Done;
  may = any_choice;
  only_reads = false;
  takes_memory = true;
}
