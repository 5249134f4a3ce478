-- A bookmark of a snapshot: the datasets with it, why it is refused, and its steps.
use Rattle.std.proofs.Common.{◌≡◌, ◌⊎◌, ℕ, ◌<◌, Option, Some, None, refl, sym, ap, subst, ◌∙◌, inr, ⊎_elim}
use Rattle.std.specs.Option.{option_map_or}
use Rattle.std.specs.FinMap.{get, insert}
use Rattle.base.specs.declared.refusal.Refusal.{Refusal}
use Rattle.base.specs.declared.refusal.Refusal.TheVariants.{NoMemory}
use Rattle.base.specs.declared.name.member.Member.{Member}
use Rattle.base.specs.declared.name.target.Target.{Target}
use Rattle.model.specs.declared.request.Request.TheVariants.{Bookmark as ToBookmark}
use Rattle.model.specs.declared.reply.Reply.TheVariants.{Done, Refused}
use Rattle.model.specs.World.{FileSystem, Snap, Bookmark}
use Rattle.model.specs.State.{State}
use Rattle.model.specs.Edits.{with_now, with_file_system}
use Rattle.model.specs.Refusals.{refusal_of}
use Rattle.model.specs.Step.{Step}
use Rattle.model.specs.requests.Rollback.{placed}
use Rattle.model.specs.requests.Bookmark.{bookmark_of_snap, bookmarked, bookmark_rule}
use Rattle.world.specs.Shapes.{name_order}
use Rattle.world.specs.Tables.{world_of}
use Rattle.world.specs.Worlds.{IsTidy}
use Rattle.world.proofs.lists.Maps.{same_value, key_cases, get-insert_same, get-insert_other}
use Rattle.world.proofs.views.ViewedRequests.{from_placed}
use Rattle.steps.specs.Steady.{IsSteady}
use Rattle.steps.specs.Edits.{datasets_of, with_datasets, put, CanPut}
use Rattle.marks.specs.Requests.{bookmark_refusal, bookmarked_in}
use Rattle.steps.proofs.requests.Labelling.{IsLabelled, same_label, label, label_can}
use Rattle.steps.proofs.numbers.Putting.{put_none}
use Rattle.steps.proofs.numbers.Ruled.{no_choice, refused_by, no_memory_by, done_by}
use Rattle.steps.proofs.requests.Seeing.{closed}
use Rattle.steps.proofs.quotas.Unlimited.{AreKnown, same_known, put_known}

-- a file system with one more
abbrev noted : Member → Snap → FileSystem → FileSystem
noted mark t f = record f { bookmarks = insert f.bookmarks mark.component (bookmark_of_snap t) }

-- its group is its snapshot's, which is closed
noted_tidy : (g : ℕ) (mark : Member) (t : Snap) (f : FileSystem) → t.group < g → IsTidy g f → IsTidy g (noted mark t f)
noted_tidy g mark t f below tidy = record {
  names = tidy.names;
  bookmarks = λ at b e. ⊎_elim
      (λ (same : at ≡ mark.component).
      let one = same_value b (bookmark_of_snap t)
      (sym e ∙ ap (get (insert f.bookmarks mark.component (bookmark_of_snap t))) same ∙ get-insert_same name_order f.bookmarks mark.component (bookmark_of_snap t)) in
      subst (λ (x : Bookmark). x.group < g) (sym one) below)
      (λ (other : ¬ (at ≡ mark.component)). tidy.bookmarks at b (sym (get-insert_other name_order f.bookmarks mark.component (bookmark_of_snap t) at other) ∙ e))
      (key_cases name_order at mark.component);
}

module _ (s : State) (target : Target) (mark : Member) where
  -- the state after it is of the datasets after it
  bookmarked_state : with_now s (bookmarked s.now target mark) ≡ with_datasets s (bookmarked_in (datasets_of s) target mark)
  bookmarked_state = by_place (placed s.now target)
    where
      by_system : (t : Snap) (y : Option FileSystem)
          → with_now s (option_map_or (λ (f : FileSystem). record s.now { file_systems = insert s.now.file_systems mark.file_system (noted mark t f) }) y s.now)
          ≡ with_datasets s (record (datasets_of s) { file_systems = (option_map_or (λ (f : FileSystem). record (world_of (datasets_of s)) { file_systems = insert s.now.file_systems mark.file_system (noted mark t f) }) y (world_of (datasets_of s))).file_systems })
      by_system t None = refl
      by_system t (Some f) = refl

      by_place : (x : Option (FileSystem × Snap))
          → with_now s (option_map_or (λ (p : FileSystem × Snap). with_file_system s.now mark.file_system (noted mark p.1)) x s.now)
          ≡ with_datasets s (record (datasets_of s) { file_systems = (option_map_or (λ (p : FileSystem × Snap). with_file_system (world_of (datasets_of s)) mark.file_system (noted mark p.1)) x (world_of (datasets_of s))).file_systems })
      by_place None = refl
      by_place (Some p) = by_system p.1 (get s.now.file_systems mark.file_system)

  module _ (steady : IsSteady s) where
    -- no map or snapshot changes
    bookmarked_label : IsLabelled s (bookmarked_in (datasets_of s) target mark).file_systems × AreKnown s.now.file_systems (bookmarked_in (datasets_of s) target mark).file_systems
    bookmarked_label = by_place (placed s.now target) refl
      where
        by_system : (t : Snap) → t.group < s.now.group → (y : Option FileSystem) → get s.now.file_systems mark.file_system ≡ y
            → IsLabelled s (option_map_or (λ (f : FileSystem). record (world_of (datasets_of s)) { file_systems = insert s.now.file_systems mark.file_system (noted mark t f) }) y (world_of (datasets_of s))).file_systems
            × AreKnown s.now.file_systems (option_map_or (λ (f : FileSystem). record (world_of (datasets_of s)) { file_systems = insert s.now.file_systems mark.file_system (noted mark t f) }) y (world_of (datasets_of s))).file_systems
        by_system t below None e = (same_label s steady, same_known s.now.file_systems)
        by_system t below (Some f) e = (
          label s steady mark.file_system f (noted mark t f) e refl refl (noted_tidy s.now.group mark t f below (steady.good.now.systems.tidy mark.file_system f e)) refl,
          put_known s.now.file_systems s.now.file_systems (same_known s.now.file_systems) mark.file_system (noted mark t f) (λ u i. inr (mark.file_system, f, e, i)),
        )

        by_place : (x : Option (FileSystem × Snap)) → placed s.now target ≡ x
            → IsLabelled s (option_map_or (λ (p : FileSystem × Snap). with_file_system (world_of (datasets_of s)) mark.file_system (noted mark p.1)) x (world_of (datasets_of s))).file_systems
            × AreKnown s.now.file_systems (option_map_or (λ (p : FileSystem × Snap). with_file_system (world_of (datasets_of s)) mark.file_system (noted mark p.1)) x (world_of (datasets_of s))).file_systems
        by_place None e = (same_label s steady, same_known s.now.file_systems)
        by_place (Some p) e =
            let r = from_placed s.now target p e in
            by_system p.1 (closed s.size s.now steady.good.now r.0 p.1 (p.0, r.1, r.2)) (get s.now.file_systems mark.file_system) refl

    -- the datasets with the bookmark can be put in place
    pub bookmark_can : CanPut s (bookmarked_in (datasets_of s) target mark) 0
    bookmark_can = label_can s steady (bookmarked_in (datasets_of s) target mark).file_systems bookmarked_label.0 bookmarked_label.1

  row_is : refusal_of s (bookmark_rule target mark) ≡ bookmark_refusal (datasets_of s) target mark
  unfolding refusal_of
  row_is = refl

  -- a bookmark that is refused, or has no memory
  pub bookmark_refused : (why : Refusal) → (bookmark_refusal (datasets_of s) target mark ≡ Some why) ⊎ (why ≡ NoMemory) → Step s (ToBookmark target mark) (Refused why) s
  bookmark_refused why which = ⊎_elim
      (λ e. refused_by (ToBookmark target mark) (bookmark_rule target mark) (None, refl, refl) s why (row_is ∙ e))
      (λ e. subst (λ z. Step s (ToBookmark target mark) (Refused z) s) (sym e) (no_memory_by (ToBookmark target mark) (bookmark_rule target mark) (None, refl, refl) s refl))
      which

  -- and one that nothing refuses
  pub bookmark_done : IsSteady s → bookmark_refusal (datasets_of s) target mark ≡ None → Step s (ToBookmark target mark) Done (put s (bookmarked_in (datasets_of s) target mark) 0)
  bookmark_done steady none = done_by (ToBookmark target mark) (bookmark_rule target mark) (None, refl, refl) s no_choice (put s (bookmarked_in (datasets_of s) target mark) 0) Done
      refl refl (row_is ∙ none) refl (put_none s (bookmarked_in (datasets_of s) target mark) ∙ sym bookmarked_state) (bookmark_can steady).steady
