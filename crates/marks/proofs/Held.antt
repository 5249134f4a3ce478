-- The hold of a snapshot: it has the tag behind its others.
use Rattle.std.proofs.Common.{◌≡◌, ℕ, List, [], ◌∷◌, ◌++◌, Option, Some, ap, ◌∙◌}
use Rattle.std.specs.Option.{option_map, option_map_or}
use Rattle.base.specs.declared.name.member.Member.{Member}
use Rattle.base.specs.declared.name.target.Target.{Target}
use Rattle.base.specs.declared.name.target.Target.TheVariants.{Snapshot as OfSnapshot}
use Rattle.model.specs.World.{FileSystem, Snap, id_of}
use Rattle.model.specs.Edits.{with_tags}
use Rattle.model.specs.requests.Rollback.{placed}
use Rattle.world.specs.Tables.{Datasets, world_of, tagged_snap}
use Rattle.marks.specs.Requests.{held_in}
use Rattle.marks.proofs.Released.{place}

-- the snapshot that the target names
module _ (t : Datasets) (target : Target) (m : Member) (is : target ≡ OfSnapshot m) (u : Snap) (told : option_map (λ p. p.1) (placed (world_of t) target) ≡ Some u) (tag : List ℕ) where
  pub held_is : held_in t tag target ≡ tagged_snap t (id_of u) (u.tags ++ tag ∷ [])
  held_is =
      ap (held_in t tag) is
      ∙ ap (λ (x : Option (FileSystem × Snap)). record t { file_systems = (option_map_or (λ (p : FileSystem × Snap). with_tags (world_of t) (id_of p.1) (p.1.tags ++ tag ∷ [])) x (world_of t)).file_systems })
      (place t target m is u told).found
