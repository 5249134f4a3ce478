-- What is available to a file system, from what is to the one above it.
use Rattle.std.proofs.Common.{◌≡◌, ℕ, zero, suc, ◌+◌, ◌<◌, List, Option, Some, None, refl, ap, ◌∙◌, arith}
use Rattle.std.specs.Prelude.{is_some}
use Rattle.std.specs.Option.{option_map_or}
use Rattle.std.specs.FinMap.{get}
use Rattle.std.specs.FinMap as finmap
use Rattle.base.specs.Names.{parent_of}
use Rattle.model.specs.World.{FileSystem}
use Rattle.model.specs.State.{State}
use Rattle.model.specs.Hierarchy.{IsHierarchy}
use Rattle.model.specs.Sums.{used_of, within_quota, unspent_of, pool_room, room_within, room_of}
use Rattle.limits.specs.Levels.{slashes}
use Rattle.limits.proofs.Names.{level_up, level_low, in_keys}

module _ (s : State) (good : IsHierarchy s.now.file_systems) where
  -- what a file system is given at one level
  abbrev given : ℕ → List ℕ → FileSystem → Option (List ℕ) → ℕ
  given k name f p =
      within_quota f.limits.quota (used_of s.now name)
      (option_map_or (λ above. room_within s k above + unspent_of s.now name) p (pool_room s))

  -- below the lowest level nothing more is counted
  room_deep : (d e : ℕ) (name : List ℕ) → slashes name < d → slashes name < e → room_within s d name ≡ room_within s e name
  room_deep zero e name l k = absurd (omega (arith, l))
  room_deep (suc d) zero name l k = absurd (omega (arith, k))
  room_deep (suc d) (suc e) name l k =
      at (get s.now.file_systems name) (λ q f. let u = level_up name q f in room_deep d e q (omega (arith, u, l)) (omega (arith, u, k)))
    where
      by_parent : (f : FileSystem) → ((q : List ℕ) → parent_of name ≡ Some q → room_within s d q ≡ room_within s e q)
          → (p : Option (List ℕ)) → parent_of name ≡ p → given d name f p ≡ given e name f p
      by_parent f ih None is = refl
      by_parent f ih (Some q) is = ap (λ n. within_quota f.limits.quota (used_of s.now name) (n + unspent_of s.now name)) (ih q is)

      at : (x : Option FileSystem) → ((q : List ℕ) → parent_of name ≡ Some q → room_within s d q ≡ room_within s e q)
          → option_map_or (λ f. given d name f (parent_of name)) x 0 ≡ option_map_or (λ f. given e name f (parent_of name)) x 0
      at None ih = refl
      at (Some f) ih = by_parent f ih (parent_of name) refl

  module _ (name : List ℕ) (f : FileSystem) (at : get s.now.file_systems name ≡ Some f) where
    one_level : room_of s name ≡ given (finmap.len s.now.file_systems) name f (parent_of name)
    unfolding room_of
    one_level =
        let l = level_low s.now.file_systems good name (in_keys s.now.file_systems name (ap is_some at)) in
        room_deep (finmap.len s.now.file_systems) (suc (finmap.len s.now.file_systems)) name l (omega (arith, l))
        ∙ ap (λ x. option_map_or (λ f. given (finmap.len s.now.file_systems) name f (parent_of name)) x 0) at

    -- available, of a file system that has no parent
    pub room_root : parent_of name ≡ None → room_of s name ≡ within_quota f.limits.quota (used_of s.now name) (pool_room s)
    room_root e = one_level ∙ ap (given (finmap.len s.now.file_systems) name f) e

    -- available, from the parent's
    pub room_below : (parent : List ℕ) → parent_of name ≡ Some parent
        → room_of s name ≡ within_quota f.limits.quota (used_of s.now name) (room_of s parent + unspent_of s.now name)
    unfolding room_of
    room_below parent e = one_level ∙ ap (given (finmap.len s.now.file_systems) name f) e
