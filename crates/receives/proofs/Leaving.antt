-- What goes before a receive, and why it can't.
use Rattle.std.proofs.Common.{◌≡◌, ℕ, Bool, true, false, not, cond, List, [], ◌∷◌, ◌++◌, Option, Some, None, refl, sym, ap, ◌∙◌, length, map, arith}
use Rattle.std.specs.Prelude.{is_some}
use Rattle.std.specs.Option.{option_map_or, option_and_then}
use Rattle.std.specs.List.{list_any}
use Rattle.std.specs.FinMap.{get}
use Rattle.base.specs.declared.refusal.Refusal.{Refusal}
use Rattle.base.specs.declared.refusal.Refusal.TheVariants.{NoDataset, Exists, Busy, HasClones, TooMany}
use Rattle.model.specs.World.{FileSystem, Snap, id_of}
use Rattle.model.specs.State.{Views}
use Rattle.model.specs.requests.Destroy.{snaps_within}
use Rattle.model.specs.Rule.{first_of}
use Rattle.model.specs.requests.Receive.{has_no_room, going_row, replace_row}
use Rattle.model.specs.requests.Rollback.{snaps_after}
use Rattle.world.specs.Tables.{Datasets, world_of}
use Rattle.world.specs.Worlds.{AreFileSystems}
use Rattle.world.proofs.lineage.Bridge.{start, rising}
use Rattle.world.proofs.lists.Finding.{append_none}
use Rattle.world.proofs.lists.Listed.{length-mapped}
use Rattle.world.proofs.lists.Maps.{no_value}
use Rattle.removals.specs.Needs.{is_held_after, has_clone, has_clone_and_is_later}
use Rattle.removals.proofs.Clones.{outside_is}
use Rattle.removals.proofs.Needed.{later_held}
use Rattle.removals.proofs.Rolled.{all_later}
use Rattle.removals.proofs.Seen.{any_later}
use Rattle.receives.specs.Requests.{going_refusal}

-- what refuses that they go, and then whether there is no room
abbrev pub going_by : Bool → Bool → Bool → Option Refusal
going_by held cloned full = cond held (Some Busy) (cond cloned (Some HasClones) (cond full (Some TooMany) None))

module _ (t : Datasets) (good : AreFileSystems t.file_systems t.group) (name : List ℕ) (f : FileSystem) (at : get t.file_systems name ≡ Some f) where
  pub going_is : (views : Views) (group : ℕ)
      → going_refusal t f group views
      ≡ going_by (list_any (is_held_after views group) f.snaps) (list_any (has_clone_and_is_later t group) f.snaps) (has_no_room (world_of t) (length (snaps_after f group)))
  going_is views group = λ i. going_by (later_held t good views name f at group i)
      ((outside_is t (map id_of (snaps_after f group)) ∙ any_later (has_clone t) group f.snaps) i)
      (has_no_room (world_of t) (length-mapped id_of (snaps_after f group) i))

  -- all its snapshots are of a later group than 0
  pub all_go : snaps_within (world_of t) (name ∷ []) ≡ map id_of (snaps_after f 0)
  all_go =
      ap (λ x. option_map_or (λ (g : FileSystem). map {A = Snap} id_of g.snaps) x [] ++ []) at
      ∙ append_none (map {A = Snap} id_of f.snaps)
      ∙ ap (map {A = Snap} id_of) (sym (all_later 0 (start t.file_systems t.group good.lines name f at).base f.snaps (Prim.omega arith) (rising t.file_systems t.group good.lines name f at)).1)

  -- what refuses that it is replaced, where it is no clone
  pub replaced_by : (views : Views) → is_some f.origin ≡ false → going_refusal t f 0 views ≡ first_of (replace_row (world_of t) views name)
  replaced_by views bare =
      let rest = going_row (world_of t) views (snaps_within (world_of t) (name ∷ [])) in
      ap (λ ids. first_of (going_row (world_of t) views ids)) (sym all_go)
      ∙ sym (ap (λ (x : Option FileSystem). first_of ((not (is_some x), NoDataset) ∷ (is_some (option_and_then (λ (h : FileSystem). h.origin) x), Exists) ∷ rest)) at
      ∙ ap (λ b. cond b (Some Exists) (first_of rest)) bare)

-- where they can't go
pub not_going : (held cloned full : Bool) (e : Refusal) → cond held (Some Busy) (cond cloned (Some HasClones) None) ≡ Some e → Some e ≡ going_by held cloned full
not_going true cloned full e k = sym k
not_going false true full e k = sym k
not_going false false full e k = absurd (no_value e k)

-- and where they can
pub room_says : (held cloned full : Bool) → cond {A = Option Refusal} held (Some Busy) (cond cloned (Some HasClones) None) ≡ None → cond {A = Option Refusal} full (Some TooMany) None ≡ going_by held cloned full
room_says true cloned full k = absurd (no_value Busy (sym k))
room_says false true full k = absurd (no_value HasClones (sym k))
room_says false false full k = refl
