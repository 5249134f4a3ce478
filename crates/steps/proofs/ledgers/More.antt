-- A file system that is created or cloned has nothing of its own.
use Rattle.std.proofs.Common.{◌≡◌, ◌∷◌, false, not, List, [], Option, Some, None, is_some, refl, sym, ap, subst, ◌∙◌, inl, inr}
use Rattle.std.specs.Option.{option_map_or}
use Rattle.std.specs.FinMap.{get, contains_key}
use Rattle.base.specs.declared.refusal.Refusal.TheVariants.{NoDataset, Exists}
use Rattle.base.specs.declared.name.target.Target.{Target}
use Rattle.model.specs.World.{World, FileSystem, Snap, id_of, empty_file_system, map_of_snap}
use Rattle.model.specs.State.{State}
use Rattle.model.specs.requests.Clone.{clone_row}
use Rattle.model.specs.requests.Create.{create_refusal}
use Rattle.model.specs.requests.Rollback.{placed}
use Rattle.world.specs.Shapes.{Name}
use Rattle.world.specs.Tables.{Datasets, world_of, with_system}
use Rattle.world.specs.Worlds.{AreFileSystems}
use Rattle.world.proofs.lineage.Put.{put_other}
use Rattle.world.proofs.lists.Maps.{same_value}
use Rattle.world.proofs.views.ViewedRequests.{row_false}
use Rattle.limits.specs.Limits.{IsMade}
use Rattle.limits.proofs.Steps.{shrunk_made}
use Rattle.datasets.specs.Clones.{with_clone_of}
use Rattle.limits.specs.declared.line.Line.{Line}
use Rattle.limits.proofs.Recounted.{IsAlike, AreAlikeBut, alike_itself, kept_origins}
use Rattle.lookups.specs.Accounted.{IsAccounted}
use Rattle.snap.specs.Requests.{cloned, clone_refusal}
use Rattle.steps.specs.Limiting.{CanRecount}
use Rattle.steps.specs.Steady.{IsSteady}
use Rattle.steps.specs.Edits.{datasets_of}
use Rattle.steps.proofs.ledgers.Kept.{can_recount}
use Rattle.steps.proofs.requests.Cloning.{clone_can}
use Rattle.steps.proofs.requests.Creating.{can_add, create_can}
use Rattle.datasets.proofs.Rows.{none_from}

module _ (t : Datasets) (name : Name) (made : FileSystem) (gone : get t.file_systems name ≡ None) (is : IsMade (world_of t) made) where
  abbrev new : Datasets
  new = with_system t name made

  pub made_but : AreAlikeBut t (with_system t name made) (name ∷ [])
  made_but = record {
    there = λ q out. ap is_some (put_other t.file_systems name made q (λ e. out (inl e)));
    others = λ q f g out at at'. subst (λ (x : FileSystem). IsAlike f x) (sym (same q f g (λ e. out (inl e)) at at')) (alike_itself f);
    origins = kept_origins t new (name ∷ []) (shrunk_made (world_of t) name made gone is);
  }
    where
      same : (q : Name) (f g : FileSystem) → ¬ (q ≡ name) → get t.file_systems q ≡ Some f → get new.file_systems q ≡ Some g → g ≡ f
      same q f g ne at at' = same_value g f (sym at' ∙ put_other t.file_systems name made q ne ∙ at)

  pub made_more : AreFileSystems t.file_systems t.group → AreFileSystems (with_system t name made).file_systems t.group → (lines : Option (List Line)) → IsAccounted t lines
      → CanRecount t (with_system t name made) name lines
  made_more good good' = can_recount t new good good' name made_but

pub create_more : (s : State) → IsSteady s → (name : Name) → create_refusal s.now.file_systems name ≡ None → (lines : Option (List Line)) → IsAccounted (datasets_of s) lines
    → CanRecount (datasets_of s) (with_system (datasets_of s) name empty_file_system) name lines
create_more s steady name may = made_more (datasets_of s) name empty_file_system (can_add s.now.file_systems name may).absent (record { live = refl; snaps = refl; limits = refl })
    steady.good.now.systems (create_can s steady name may).steady.good.now.systems

module _ (s : State) (steady : IsSteady s) (target : Target) (name : Name) (none : clone_refusal (datasets_of s) target name ≡ None) where
  abbrev w : World
  w = world_of (datasets_of s)

  absent : get s.now.file_systems name ≡ None
  absent = none_from (get s.now.file_systems name) (row_false (clone_row w target name) none (contains_key s.now.file_systems name, Exists) (inr (inr (inr (inl refl)))))

  found : not (is_some (placed w target)) ≡ false
  found = row_false (clone_row w target name) none (not (is_some (placed w target)), NoDataset) (inr (inl refl))

  pub clone_more : (lines : Option (List Line)) → IsAccounted (datasets_of s) lines → CanRecount (datasets_of s) (cloned (datasets_of s) target name) name lines
  clone_more lines kept = by_place (placed w target) refl
    where
      by_place : (x : Option (FileSystem × Snap)) → placed w target ≡ x → CanRecount (datasets_of s) (cloned (datasets_of s) target name) name lines
      by_place None e = let k = sym found ∙ ap (λ (x : Option (FileSystem × Snap)). not (is_some x)) e in cc
      by_place (Some p) e =
          let made = record empty_file_system { live = map_of_snap w (Some (id_of p.1)); origin = Some (id_of p.1) } in
          let is = ap (λ (x : Option (FileSystem × Snap)). cloned_by x) e in
          subst (λ (d : Datasets). CanRecount (datasets_of s) d name lines) (sym is)
          (made_more (datasets_of s) name made absent (record { live = refl; snaps = refl; limits = refl }) steady.good.now.systems
          (subst (λ (d : Datasets). AreFileSystems d.file_systems d.group) is (clone_can s steady target name none).steady.good.now.systems) lines kept)
        where
          cloned_by : Option (FileSystem × Snap) → Datasets
          cloned_by x = option_map_or (λ (p : FileSystem × Snap). with_clone_of (datasets_of s) (id_of p.1) name) x (datasets_of s)
