-- Walks along a lineage, file system by file system.
use Rattle.std.proofs.Common.{◌≡◌, ℕ, ◌+◌, Bool, true, false, ◌||◌, List, [], ◌∷◌, ◌++◌, Option, Some, None, map, refl, sym, ap, ◌∙◌, append_assoc, arith}
use Rattle.std.specs.List.{list_any}
use Rattle.std.specs.Option.{option_map_or}
use Rattle.std.specs.FinMap.{get}
use Rattle.model.specs.World.{World, FileSystem, Snap, SnapId, Dataset, Snapped, id_of, same_id, newest_or_origin, older_of}
use Rattle.world.specs.Worlds.{AreFileSystems}
use Rattle.world.specs.Dead.{next_in}
use Rattle.world.specs.Sums.{dead_by}
use Rattle.limits.specs.Space.{IsPath, on_path, with_next}
use Rattle.limits.proofs.Older.{older_none, older_step}
use Rattle.limits.proofs.Next.{newest_last, next_there, next_previous}

-- the datasets of a range, and the one that comes next
pub on_path_range : (name : List ℕ) (range newer : List Snap) → on_path (map id_of range) (next_in name newer) ≡ with_next name range newer
on_path_range name [] newer = refl
on_path_range name (t ∷ range) newer = ap (λ ds. Snapped (id_of t) ∷ ds) (on_path_range name range newer)

module _ (w : World) where
  -- one path after another
  pub path_join : (id : SnapId) (ids : List SnapId) (j : SnapId) (js : List SnapId) (d : Dataset) → IsPath w id ids (Snapped j) → IsPath w j js d → IsPath w id (ids ++ j ∷ js) d
  path_join id [] j js d p q = (p.0, p.1, q)
  path_join id (i ∷ is) j js d p q = (p.0, p.1, path_join i is j js d p.2 q)

  pub on_path_join : (cut : ℕ) (ids : List SnapId) (j : SnapId) (js : List SnapId) (d : Dataset)
      → dead_by w cut (on_path (ids ++ j ∷ js) d) ≡ dead_by w cut (on_path ids (Snapped j)) + dead_by w cut (on_path js d)
  on_path_join cut [] j js d = omega arith
  on_path_join cut (i ∷ is) j js d = let r = on_path_join cut is j js d in omega (arith, r)

module _ (w : World) (good : AreFileSystems w.file_systems w.group) where
  -- ---- how many blocks were born by a group

  -- ---- within a file system

  module _ (name : List ℕ) (s : FileSystem) (at : get w.file_systems name ≡ Some s) where
    -- from what stands before a range, or before what comes next, to what comes next after the range
    pub path_in : (older range newer : List Snap) → s.snaps ≡ older ++ (range ++ newer) → (id : SnapId) → newest_or_origin s older ≡ Some id
        → IsPath w id (map id_of range) (next_in name newer)
    path_in older [] newer is id e = (next_there w good name s older newer at is, next_previous w good name s older newer at is ∙ e)
    path_in older (t ∷ range) newer is id e = (
      next_there w good name s older (t ∷ range ++ newer) at is,
      next_previous w good name s older (t ∷ range ++ newer) at is ∙ e,
      path_in (older ++ t ∷ []) range newer (is ∙ sym (append_assoc older (t ∷ []) (range ++ newer))) (id_of t) (newest_last s older t),
    )

    -- the lineage of what comes next after some snapshots: these, and then the origin and what is older than it
    older_parts : (id : SnapId) (older range newer : List Snap) → s.snaps ≡ older ++ (range ++ newer)
        → list_any (same_id id) (older_of w (next_in name newer)) ≡ (list_any (same_id id) (map id_of range) || list_any (same_id id) (older_of w (next_in name (range ++ newer))))
    older_parts id older [] newer is = refl
    older_parts id older (t ∷ range) newer is =
        let split : s.snaps ≡ (older ++ t ∷ []) ++ (range ++ newer) = is ∙ sym (append_assoc older (t ∷ []) (range ++ newer)) in
        older_parts id (older ++ t ∷ []) range newer split
        ∙ ap (λ b. list_any (same_id id) (map id_of range) || b)
        (older_step w good id (id_of t) (next_in name (range ++ newer)) (next_there w good name s (older ++ t ∷ []) (range ++ newer) at split)
        (next_previous w good name s (older ++ t ∷ []) (range ++ newer) at split ∙ newest_last s older t))
        ∙ turn (list_any (same_id id) (map id_of range)) (same_id id (id_of t)) (list_any (same_id id) (older_of w (Snapped (id_of t))))
      where
        turn : (a b c : Bool) → (a || (b || c)) ≡ ((b || a) || c)
        turn true true c = refl
        turn true false c = refl
        turn false true c = refl
        turn false false c = refl

    pub older_in : (id : SnapId) (older newer : List Snap) → s.snaps ≡ older ++ newer
        → list_any (same_id id) (older_of w (next_in name newer))
        ≡ (list_any (same_id id) (map id_of older) || option_map_or (λ j. same_id id j || list_any (same_id id) (older_of w (Snapped j))) s.origin false)
    older_in id older newer is =
        older_parts id [] older newer is
        ∙ ap (λ b. list_any (same_id id) (map id_of older) || b) (by_origin s.origin refl)
      where
        by_origin : (x : Option SnapId) → s.origin ≡ x
            → list_any (same_id id) (older_of w (next_in name (older ++ newer))) ≡ option_map_or (λ j. same_id id j || list_any (same_id id) (older_of w (Snapped j))) x false
        by_origin None e = ap (list_any (same_id id)) (older_none w (next_in name (older ++ newer)) (next_previous w good name s [] (older ++ newer) at is ∙ e))
        by_origin (Some j) e =
            older_step w good id j (next_in name (older ++ newer)) (next_there w good name s [] (older ++ newer) at is) (next_previous w good name s [] (older ++ newer) at is ∙ e)
