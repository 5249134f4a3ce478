-- The release of a snapshot: it has its other tags, or goes.
use Rattle.std.proofs.Common.{◌≡◌, ◌⊎◌, ℕ, true, false, List, Option, Some, None, Result, Ok, Err, sym, ap, subst, ◌∙◌, true≢false, inr, ⊎_elim}
use Rattle.std.specs.Prelude.{◌↔◌, OnOk, IfErr, is_some}
use Rattle.std.specs.Option.{option_map, option_map_or}
use Rattle.base.specs.Map.{BlockSet}
use Rattle.base.specs.declared.refusal.Refusal.{Refusal}
use Rattle.base.specs.declared.refusal.Refusal.TheVariants.{NoDataset, NoMemory}
use Rattle.snapshots.specs.Tags.{without_tag}
use Rattle.base.specs.declared.name.member.Member.{Member}
use Rattle.base.specs.declared.name.target.Target.{Target}
use Rattle.base.specs.declared.name.target.Target.TheVariants.{Snapshot as OfSnapshot}
use Rattle.model.specs.World.{FileSystem, Snap, id_of, union_of}
use Rattle.model.specs.State.{Views}
use Rattle.model.specs.Edits.{with_tags}
use Rattle.model.specs.requests.Rollback.{placed}
use Rattle.datasets.specs.Holders.{snap_in_system}
use Rattle.world.specs.Sets.{AreDisjoint}
use Rattle.world.specs.Worlds.{AreFileSystems}
use Rattle.world.specs.Tables.{Datasets, world_of, tagged_snap, without_snap}
use Rattle.removals.specs.Edits.{HasLost}
use Rattle.removals.specs.Requests.{swept, IsSweptBy}
use Rattle.removals.proofs.Needed.{found_there}
use Rattle.marks.specs.Requests.{released_in, is_due_with}
use Rattle.marks.proofs.Placed.{IsPlaced, placed_at, snap_in}
use Rattle.marks.proofs.Tagged.{lost_tagged, tagged_stays, tagged_goes}

-- it is there, so nothing but memory is wanting
pub only_memory : {T : Type 0} (P : Refusal → Type 0) (r : Result T Refusal) (x : Option Snap) → is_some x ≡ true → (r ≡ Err NoDataset) ↔ (x ≡ None) → IfErr r (λ e. (e ≡ NoDataset) ⊎ (e ≡ NoMemory))
    → IfErr r (λ e. P e ⊎ (e ≡ NoMemory))
only_memory P (Ok a) x some none only = tt
only_memory P (Err e) x some none only = ⊎_elim (λ k. absurd (true≢false (sym some ∙ ap is_some (none.0 (ap Err k))))) (λ k. inr k) only

-- the snapshot that the target names
module _ (t : Datasets) (target : Target) (m : Member) (is : target ≡ OfSnapshot m) (u : Snap) (told : option_map (λ p. p.1) (placed (world_of t) target) ≡ Some u) where
  pub place : IsPlaced t m u
  place = placed_at t m u (subst (λ x. snap_in (placed (world_of t) x) ≡ Some u) is told)

  pub has_it : is_some (snap_in_system t m.file_system (id_of u)) ≡ true
  has_it = found_there t m.file_system place.system u place.at place.among

  -- the tag is taken away
  module _ (tag : List ℕ) (tags : List (List ℕ)) (are : tags ≡ without_tag u.tags tag) where
    abbrev new : Datasets
    new = tagged_snap t (id_of u) tags

    released_is : released_in t tag target ≡ new
    released_is =
        ap (released_in t tag) is
        ∙ ap (λ (x : Option (FileSystem × Snap)). record t { file_systems = (option_map_or (λ (p : FileSystem × Snap). with_tags (world_of t) (id_of p.1) (without_tag p.1.tags tag)) x (world_of t)).file_systems }) place.found
        ∙ ap (tagged_snap t (id_of u)) (sym are)

    -- it stays, and nothing is lost
    pub stays_lost : {T E : Type 0} (r : Result T E) (freeing : BlockSet) → AreDisjoint (union_of (world_of t)) freeing → (to : Datasets) → OnOk r (to ≡ new) → OnOk r (HasLost t freeing to freeing)
    stays_lost (Ok y) freeing apart to k = subst (λ x. HasLost t freeing x freeing) (sym k) (lost_tagged t (id_of u) tags freeing apart)
    stays_lost (Err e) freeing apart to k = tt

    module _ (good : AreFileSystems t.file_systems t.group) (views : Views) (clean : IsSweptBy t views) where
      -- it is what is left by the sweep
      swept_is : {T E : Type 0} (r : Result T E) (to v : Datasets) → swept new views ≡ v → OnOk r (to ≡ v) → OnOk r (to ≡ swept (released_in t tag target) views)
      swept_is (Ok x) to v left k = k ∙ sym (ap (λ x. swept x views) released_is ∙ left)
      swept_is (Err e) to v left k = tt

      pub stays : {T E : Type 0} (r : Result T E) → is_due_with t views u tags ≡ false → (to : Datasets) → OnOk r (to ≡ new) → OnOk r (to ≡ swept (released_in t tag target) views)
      stays r undue to h = swept_is r to new (tagged_stays t good views clean m.file_system place.system u place.at place.among tags undue) h

      -- it goes
      pub goes : {T E : Type 0} (r : Result T E) → is_due_with t views u tags ≡ true → (to : Datasets) → OnOk r (to ≡ without_snap t (id_of u)) → OnOk r (to ≡ swept (released_in t tag target) views)
      goes r due to h = swept_is r to (without_snap t (id_of u)) (tagged_goes t good views clean m.file_system place.system u place.at place.among tags due) h
