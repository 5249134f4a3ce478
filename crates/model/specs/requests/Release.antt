-- Release (zfs-release(8), without -r).
use Rattle.std.specs.Prelude.{ℕ, true, false, not, List, [], ◌∷◌, is_some}
use Rattle.std.specs.List.{filter}
use Rattle.std.specs.Option.{option_map_or}
use Rattle.base.specs.declared.refusal.Refusal.TheVariants.{NoDataset, NotSnapshot, NoTag}
use Rattle.base.specs.Names.{same_name}
use Rattle.base.specs.declared.name.target.Target.{Target}
use Rattle.model.specs.declared.reply.Reply.TheVariants.{Done}
use Rattle.model.specs.World.{World, id_of}
use Rattle.model.specs.Targets.{is_snapshot_name}
use Rattle.model.specs.Edits.{with_now, with_tags}
use Rattle.model.specs.Rule.{Row, Rule, any_choice}
use Rattle.model.specs.requests.Rollback.{placed}
use Rattle.model.specs.requests.Hold.{has_tag}

-- the other tags, in their order (zfs-release(8); the order is profile)
abbrev pub without_tag : List (List ℕ) → List ℕ → List (List ℕ)
without_tag tags tag = filter (λ other. not (same_name other tag)) tags

-- a snapshot must be there with the tag (zfs-release(8))
abbrev pub release_row : World → List ℕ → Target → Row
release_row w tag target =
    (not (is_snapshot_name target), NotSnapshot)
    ∷ (not (is_some (placed w target)), NoDataset)
    ∷ (option_map_or (λ p. not (has_tag p.1.tags tag)) (placed w target) false, NoTag)
    ∷ []

-- the snapshot without the tag (zfs-release(8))
abbrev pub released : World → List ℕ → Target → World
released w tag target = option_map_or (λ p. with_tags w (id_of p.1) (without_tag p.1.tags tag)) (placed w target) w

-- zfs-release(8); the sweep then takes the snapshot, where that was to go and nothing else needs it (zfs-destroy(8), -d)
abbrev pub release_rule : List ℕ → Target → Rule
release_rule tag target = record {
  row = λ s asked. release_row s.now tag target;
  after = λ s c. with_now s (released s.now tag target);
  reply = λ s. Done;
  may = any_choice;
  only_reads = false;
  takes_memory = true;
}
