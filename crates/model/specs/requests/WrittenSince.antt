-- WrittenSince (zfsprops(7): written@snapshot).
use Rattle.std.specs.Prelude.{Bool, not, false, ◌||◌, [], ◌∷◌}
use Rattle.std.specs.List.{list_any}
use Rattle.std.specs.Option.{option_map_or}
use Rattle.base.specs.declared.refusal.Refusal.TheVariants.{NoDataset, NotAncestor}
use Rattle.base.specs.declared.name.member.Member.{Member}
use Rattle.base.specs.declared.name.target.Target.{Target}
use Rattle.model.specs.declared.reply.Reply.{Reply}
use Rattle.model.specs.declared.reply.Reply.TheVariants.{Done, Value as ValueIs}
use Rattle.model.specs.World.{id_of, same_id, snap_named, older_of}
use Rattle.model.specs.State.{State}
use Rattle.model.specs.Sums.{written_since}
use Rattle.model.specs.Properties.{in_bytes}
use Rattle.model.specs.Targets.{has_dataset, has_snap, dataset_of}
use Rattle.model.specs.Rule.{Row, Rule, question}

-- the snapshot is an older member of the dataset's lineage (zfsprops(7): written@snapshot)
abbrev pub is_older : State → Target → Member → Bool
is_older s target since =
    option_map_or (λ d. option_map_or (λ t. list_any (same_id (id_of t)) (older_of s.now d)) (snap_named s.now since) false) (dataset_of s target) false

-- zfsprops(7): written@snapshot; the order is profile
abbrev pub written_since_row : State → Target → Member → Row
written_since_row s target since =
    (not (has_dataset s target) || not (has_snap s since), NoDataset) ∷ (not (is_older s target since), NotAncestor) ∷ []

-- how many bytes of blocks the dataset has that the snapshot hasn't (zfsprops(7): written@snapshot)
abbrev pub written_since_reply : State → Target → Member → Reply
written_since_reply s target since =
    option_map_or (λ d. option_map_or (λ t. ValueIs (in_bytes (written_since s.now d (id_of t)))) (snap_named s.now since) Done) (dataset_of s target) Done

-- zfsprops(7): written@snapshot
abbrev pub written_since_rule : Target → Member → Rule
written_since_rule target since = question (λ s. written_since_row s target since) (λ s. written_since_reply s target since) false
