-- Hold (zfs-hold(8), without -r).
use Rattle.std.specs.Prelude.{ℕ, ◌+◌, Bool, true, false, not, List, [], ◌∷◌, ◌++◌, is_some, length, nat_lt}
use Rattle.std.specs.List.{list_any}
use Rattle.std.specs.Option.{option_map_or}
use Rattle.base.specs.declared.refusal.Refusal.TheVariants.{NoDataset, NotSnapshot, Deferred, TagExists, TooMany}
use Rattle.base.specs.Names.{same_name}
use Rattle.base.specs.declared.name.target.Target.{Target}
use Rattle.model.specs.declared.reply.Reply.TheVariants.{Done}
use Rattle.model.specs.World.{World, id_of}
use Rattle.model.specs.Targets.{is_snapshot_name}
use Rattle.model.specs.Edits.{with_now, with_tags}
use Rattle.model.specs.Rule.{Row, Rule, any_choice}
use Rattle.model.specs.requests.Rollback.{placed}

-- the most tags of a snapshot (profile)
abbrev pub tag_limit : ℕ
tag_limit = 256

-- this is one of the tags (zfs-hold(8))
abbrev pub has_tag : List (List ℕ) → List ℕ → Bool
has_tag tags tag = list_any (same_name tag) tags

-- one more would be too many (profile)
abbrev pub is_full : List (List ℕ) → Bool
is_full tags = nat_lt tag_limit (length tags + 1)

-- a snapshot must be there and stay, without the tag, and not have too many (zfs-hold(8); the order and the limit are profile)
abbrev pub hold_row : World → List ℕ → Target → Row
hold_row w tag target =
    (not (is_snapshot_name target), NotSnapshot)
    ∷ (not (is_some (placed w target)), NoDataset)
    ∷ (option_map_or (λ p. p.1.deferred) (placed w target) false, Deferred)
    ∷ (option_map_or (λ p. has_tag p.1.tags tag) (placed w target) false, TagExists)
    ∷ (option_map_or (λ p. is_full p.1.tags) (placed w target) false, TooMany)
    ∷ []

-- the tag is behind the snapshot's others (zfs-hold(8); the order is profile)
abbrev pub held : World → List ℕ → Target → World
held w tag target = option_map_or (λ p. with_tags w (id_of p.1) (p.1.tags ++ tag ∷ [])) (placed w target) w

-- zfs-hold(8)
abbrev pub hold_rule : List ℕ → Target → Rule
hold_rule tag target = record {
  row = λ s asked. hold_row s.now tag target;
  after = λ s c. with_now s (held s.now tag target);
  reply = λ s. Done;
  may = any_choice;
  only_reads = false;
  takes_memory = true;
}
