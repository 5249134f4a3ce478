-- Where no file system has a limit, each has the pool's room.
use Rattle.std.proofs.Common.{◌≡◌, ℕ, zero, suc, ◌+◌, ◌<◌, List, Option, Some, None, refl, ap, ◌∙◌, arith}
use Rattle.std.specs.Prelude.{IsSome, is_some}
use Rattle.std.specs.FinMap.{get}
use Rattle.base.specs.Names.{parent_of}
use Rattle.model.specs.World.{FileSystem, union_of}
use Rattle.model.specs.State.{State}
use Rattle.model.specs.Sums.{used_of, within_quota, unspent_of, pool_room, room_of, allocated_of, free_of, waiting_count, IsBalanced}
use Rattle.world.specs.Sets.{AreDisjoint}
use Rattle.world.specs.Worlds.{AreFileSystems}
use Rattle.world.proofs.lists.Maps.{some_of}
use Rattle.limits.specs.Levels.{slashes}
use Rattle.limits.specs.Limits.{IsUnlimited}
use Rattle.limits.proofs.Names.{level_up, in_keys, from_keys, parent_in}
use Rattle.limits.proofs.Root.{root_uses_union, nothing_reserved}
use Rattle.limits.proofs.Pool.{reached_is}
use Rattle.limits.proofs.Available.{room_root, room_below}

module _ (s : State) (good : AreFileSystems s.now.file_systems s.now.group) where
  module _ (unlimited : IsUnlimited s.now.file_systems) where
    -- of what is reserved nothing is left, since nothing is
    nothing_unspent : (name : List ℕ) → unspent_of s.now name ≡ 0
    nothing_unspent name = let r = nothing_reserved s.now unlimited name in omega (arith, r)

    -- available, to a file system so many levels down at most
    room_at : (k : ℕ) (name : List ℕ) → slashes name < k → IsSome (get s.now.file_systems name) → room_of s name ≡ pool_room s
    room_at zero name l there = absurd (omega (arith, l))
    room_at (suc k) name l there =
        let f = some_of (get s.now.file_systems name) there in
        at f.0 f.1 (ap (λ l. l.quota) (unlimited name f.0 f.1)) (λ parent e.
        let u = level_up name parent e in
        let p = from_keys s.now.file_systems parent (parent_in s.now.file_systems good.hierarchy name parent (in_keys s.now.file_systems name there) e) in
        room_at k parent (omega (arith, u, l)) (ap is_some p.1))
      where
        at : (f : FileSystem) → get s.now.file_systems name ≡ Some f → f.limits.quota ≡ None
            → ((parent : List ℕ) → parent_of name ≡ Some parent → room_of s parent ≡ pool_room s) → room_of s name ≡ pool_room s
        at f there free ih = by_parent (parent_of name) refl
          where
            by_parent : (p : Option (List ℕ)) → parent_of name ≡ p → room_of s name ≡ pool_room s
            by_parent None e = room_root s good.hierarchy name f there e ∙ ap (λ q. within_quota q (used_of s.now name) (pool_room s)) free
            by_parent (Some parent) e =
                let b = room_below s good.hierarchy name f there parent e
                ∙ ap (λ q. within_quota q (used_of s.now name) (room_of s parent + unspent_of s.now name)) free in
                let r = ih parent e in
                let z = nothing_unspent name in
                omega (arith, b, r, z)

    -- available: the pool's room
    pub room_unlimited : (name : List ℕ) → IsSome (get s.now.file_systems name) → room_of s name ≡ pool_room s
    room_unlimited name there = room_at (suc (slashes name)) name (omega arith) there

  module _ (apart : AreDisjoint (union_of s.now) s.now.freeing) (unlimited : IsUnlimited s.now.file_systems) (balanced : IsBalanced s) where
    -- which is as many blocks as are free
    pub pool_room_free : pool_room s ≡ free_of s
    unfolding pool_room allocated_of waiting_count
    pool_room_free =
        let used = root_uses_union s.now good unlimited in
        let reached = reached_is s.now apart in
        omega (arith, used, reached, balanced)

    pub room_free : (name : List ℕ) → IsSome (get s.now.file_systems name) → room_of s name ≡ free_of s
    room_free name there = room_unlimited unlimited name there ∙ pool_room_free
