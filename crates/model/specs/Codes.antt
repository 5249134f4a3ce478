-- The codes of the worlds' types, by which a proof tells their values apart: with them each can be the value of a model.
use Rattle.std.specs.Prelude.{ℕ, Bool, List, Option}
use Rattle.std.specs.Ordering.{nat_cmp}
use Rattle.std.proofs.Common.{refl}
use Rattle.std.specs.Coded.{Coded, code_by, coded×, coded_ℕ, coded_bool, coded_list, coded_option}
use Rattle.std.specs.FinMap as finmap
use Rattle.base.specs.Names.{name_cmp}
use Rattle.base.specs.Map.{Map, BlockSet}
use Rattle.base.specs.Codes.{blocks_code, map_code}
use Rattle.model.specs.World.{SnapId, Snap, Bookmark, Limits, FileSystem, World}
use Rattle.model.specs.State.{State}

-- each code is that of the tuple of the fields
abbrev pub id_code : Coded SnapId
id_code =
    code_by (ℕ × ℕ) (coded× coded_ℕ coded_ℕ) (λ x. (x.group, x.guid)) (λ p. record { group = p.0; guid = p.1 }) (λ _. refl)

abbrev pub snap_code : Coded Snap
snap_code =
    code_by (List ℕ × (Map × (ℕ × (ℕ × (List (List ℕ) × Bool)))))
    (coded× (coded_list coded_ℕ) (coded× map_code (coded× coded_ℕ (coded× coded_ℕ
    (coded× (coded_list (coded_list coded_ℕ)) coded_bool)))))
    (λ x. (x.name, (x.map, (x.guid, (x.group, (x.tags, x.deferred))))))
    (λ p. record { name = p.0; map = p.1.0; guid = p.1.1.0; group = p.1.1.1.0; tags = p.1.1.1.1.0; deferred = p.1.1.1.1.1 })
    (λ _. refl)

abbrev pub bookmark_code : Coded Bookmark
bookmark_code =
    code_by (ℕ × ℕ) (coded× coded_ℕ coded_ℕ) (λ x. (x.guid, x.group)) (λ p. record { guid = p.0; group = p.1 }) (λ _. refl)

abbrev pub limits_code : Coded Limits
limits_code =
    code_by (Option ℕ × (Option ℕ × (Option ℕ × Option ℕ)))
    (coded× (coded_option coded_ℕ) (coded× (coded_option coded_ℕ) (coded× (coded_option coded_ℕ) (coded_option coded_ℕ))))
    (λ x. (x.quota, (x.refquota, (x.reservation, x.refreservation))))
    (λ p. record { quota = p.0; refquota = p.1.0; reservation = p.1.1.0; refreservation = p.1.1.1 })
    (λ _. refl)

abbrev pub file_system_code : Coded FileSystem
file_system_code =
    code_by (Map × (List Snap × (Option SnapId × (Limits × finmap.FinMap name_cmp Bookmark))))
    (coded× map_code (coded× (coded_list snap_code) (coded× (coded_option id_code)
    (coded× limits_code (finmap.code (coded_list coded_ℕ) bookmark_code)))))
    (λ x. (x.live, (x.snaps, (x.origin, (x.limits, x.bookmarks)))))
    (λ p. record { live = p.0; snaps = p.1.0; origin = p.1.1.0; limits = p.1.1.1.0; bookmarks = p.1.1.1.1 })
    (λ _. refl)

abbrev pub world_code : Coded World
world_code =
    code_by (finmap.FinMap name_cmp FileSystem × (BlockSet × ℕ))
    (coded× (finmap.code (coded_list coded_ℕ) file_system_code) (coded× blocks_code coded_ℕ))
    (λ x. (x.file_systems, (x.freeing, x.group)))
    (λ p. record { file_systems = p.0; freeing = p.1.0; group = p.1.1 })
    (λ _. refl)

abbrev pub state_code : Coded State
state_code =
    code_by (World × (World × (finmap.FinMap nat_cmp SnapId × (ℕ × (ℕ × (ℕ × ℕ))))))
    (coded× world_code (coded× world_code (coded× (finmap.code coded_ℕ id_code)
    (coded× coded_ℕ (coded× coded_ℕ (coded× coded_ℕ coded_ℕ))))))
    (λ x. (x.now, (x.last, (x.views, (x.next_guid, (x.next_view, (x.size, x.pool)))))))
    (λ p. record {
      now = p.0;
      last = p.1.0;
      views = p.1.1.0;
      next_guid = p.1.1.1.0;
      next_view = p.1.1.1.1.0;
      size = p.1.1.1.1.1.0;
      pool = p.1.1.1.1.1.1;
    })
    (λ _. refl)
