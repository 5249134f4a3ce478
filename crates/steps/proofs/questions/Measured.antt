-- Properties of what has a name, and questions on space: what is told of them is a step.
use Rattle.std.proofs.Common.{◌≡◌, ◌*◌, ℕ, Bool, true, false, not, ◌||◌, List, [], ◌∷◌, Option, Some, None, refl, sym, ap, subst, ◌∙◌}
use Rattle.std.specs.Prelude.{is_some, IsSome}
use Rattle.std.specs.List.{list_any}
use Rattle.std.specs.Option.{option_map, option_map_or, option_and_then}
use Rattle.std.specs.FinMap.{get}
use Rattle.base.specs.declared.refusal.Refusal.{Refusal}
use Rattle.base.specs.declared.refusal.Refusal.TheVariants.{NoDataset, NotAncestor, NoMemory}
use Rattle.base.specs.declared.name.member.Member.{Member}
use Rattle.base.specs.declared.name.target.Target.{Target}
use Rattle.base.specs.declared.name.target.Target.TheVariants.{FileSystem as OfFileSystem, Snapshot as OfSnapshot, Bookmark as OfBookmark}
use Rattle.model.specs.declared.request.Request.TheVariants.{Get, WrittenSince, WouldFree}
use Rattle.model.specs.declared.request.Property.{Property}
use Rattle.model.specs.declared.reply.Reply.TheVariants.{Done, Refused, Value as ValueIs}
use Rattle.model.specs.declared.reply.Value.{Value}
use Rattle.model.specs.declared.reply.Value.TheVariants.{Size}
use Rattle.model.specs.World.{FileSystem, Snap, SnapId, Dataset, Live, Snapped, id_of, same_id, snap_named, older_of}
use Rattle.model.specs.Sums.{written_since, would_free, room_of}
use Rattle.model.specs.State.{State}
use Rattle.model.specs.Targets.{has_dataset, dataset_of}
use Rattle.model.specs.Rule.{Row, first_of}
use Rattle.model.specs.Refusals.{refusal_of}
use Rattle.model.specs.Step.{Step}
use Rattle.model.specs.requests.Get.{needs_memory}
use Rattle.model.specs.requests.WrittenSince.{written_since_row, written_since_reply, written_since_rule}
use Rattle.model.specs.requests.WouldFree.{would_free_rule}
use Rattle.world.specs.Tables.{Datasets, world_of}
use Rattle.world.proofs.lists.Maps.{same_value, no_value}
use Rattle.lookups.specs.Ranges.{range_ids, range_refusal}
use Rattle.lookups.specs.Since.{dataset_named, since_refusal, written_named}
use Rattle.steps.specs.Edits.{datasets_of}
use Rattle.steps.specs.Steady.{IsSteady}
use Rattle.steps.proofs.quotas.Alike.{older_alike, written_since_alike, would_free_alike}
use Rattle.steps.proofs.questions.Questions as reads
use Rattle.steps.proofs.numbers.Ruled.{refused_by, answered_by}
use Rattle.steps.proofs.questions.Texts.{get_no_memory}
use Rattle.lookups.specs.Named.{value_named}
use Rattle.steps.proofs.questions.Values.{nothing_named, value_told}
use Rattle.model.specs.declared.request.Property.TheVariants.{Available}

-- ---- what was written since a snapshot, by the datasets

module _ (s : State) where
  -- the dataset of a name, where it is there
  named_is : (target : Target) (d : Dataset) → dataset_named (datasets_of s) target ≡ Some d → dataset_of s target ≡ Some d
  named_is (OfFileSystem name) d e = at (get s.now.file_systems name) e
    where
      at : (x : Option FileSystem) → option_map (λ _. Live name) x ≡ Some d → Some (Live name) ≡ Some d
      at None h = absurd (no_value d h)
      at (Some f) h = h
  named_is (OfSnapshot m) d e = e
  named_is (OfBookmark m) d e = absurd (no_value d e)

  module _ (target : Target) (since : Member) where
    row_by : Bool → Option Dataset → (Dataset → List SnapId) → Row
    row_by there d older =
        (not there || not (is_some (snap_named s.now since)), NoDataset)
        ∷ (not (option_map_or (λ d. option_map_or (λ u. list_any (same_id (id_of u)) (older d)) (snap_named s.now since) false) d false), NotAncestor)
        ∷ []

    named_row : (target : Target) (older : Dataset → List SnapId)
        → first_of (row_by (has_dataset s target) (dataset_of s target) older) ≡ first_of (row_by (is_some (dataset_named (datasets_of s) target)) (dataset_named (datasets_of s) target) older)
    unfolding row_by
    named_row (OfFileSystem name) older = at (get s.now.file_systems name)
      where
        at : (x : Option FileSystem) → first_of (row_by (is_some x) (Some (Live name)) older) ≡ first_of (row_by (is_some (option_map (λ _. Live name) x)) (option_map (λ _. Live name) x) older)
        at None = refl
        at (Some f) = refl
    named_row (OfSnapshot m) older = at (snap_named s.now m)
      where
        at : (x : Option Snap) → first_of (row_by (is_some x) (option_map (λ u. Snapped (id_of u)) x) older)
            ≡ first_of (row_by (is_some (option_map (λ u. Snapped (id_of u)) x)) (option_map (λ u. Snapped (id_of u)) x) older)
        at None = refl
        at (Some u) = refl
    named_row (OfBookmark m) older = refl

    refusal_is : first_of (written_since_row s target since) ≡ since_refusal (datasets_of s) target since
    unfolding row_by
    refusal_is =
        named_row target (older_of s.now)
        ∙ (λ i. first_of (row_by (is_some (dataset_named (datasets_of s) target)) (dataset_named (datasets_of s) target) (λ d. sym (older_alike s d) i)))

    reply_is : (n : ℕ) → written_named (datasets_of s) target since ≡ Some n → ValueIs (Size (512 * n)) ≡ written_since_reply s target since
    reply_is n e = at (dataset_named (datasets_of s) target) refl (snap_named s.now since) refl e
      where
        at : (d : Option Dataset) → dataset_named (datasets_of s) target ≡ d → (x : Option Snap) → snap_named s.now since ≡ x
            → option_and_then (λ d. option_map (λ u. written_since (world_of (datasets_of s)) d (id_of u)) x) d ≡ Some n → ValueIs (Size (512 * n)) ≡ written_since_reply s target since
        at None h x k is = absurd (no_value n is)
        at (Some d) h None k is = absurd (no_value n is)
        at (Some d) h (Some u) k is =
            ap (λ m. ValueIs (Size (512 * m))) (sym (same_value (written_since (world_of (datasets_of s)) d (id_of u)) n is) ∙ written_since_alike s d (id_of u))
            ∙ sym (λ i. option_map_or (λ (e : Dataset). option_map_or (λ (t : Snap). ValueIs (Size (512 * written_since s.now e (id_of t)))) (k i) Done) (named_is target d h i) Done)

-- ---- the steps, where these are the datasets

module _ (s : State) (steady : IsSteady s) (t : Datasets) (is : datasets_of s ≡ t) where
  here : (P : Datasets → Type 0) → P t → P (datasets_of s)
  here P h = subst P (sym is) h

  module _ (target : Target) (property : Property) where
    pub get_absent : (free : ℕ) → None ≡ value_named t free target property → Step s (Get target property) (Refused NoDataset) s
    get_absent free none = reads.get_no_dataset s steady target property (nothing_named (datasets_of s) free target property (here (λ d. None ≡ value_named d free target property) none))

    pub get_told : (room : ℕ) → ((name : List ℕ) → target ≡ OfFileSystem name → property ≡ Available → IsSome (get t.file_systems name) → room ≡ room_of s name)
        → (v : Value) → Some v ≡ value_named t room target property → Step s (Get target property) (ValueIs v) s
    get_told room told v found = value_told s steady room target property v
        (here (λ d. (name : List ℕ) → target ≡ OfFileSystem name → property ≡ Available → IsSome (get d.file_systems name) → room ≡ room_of s name) told)
        (here (λ d. Some v ≡ value_named d room target property) found)

    pub get_wanting : (why : Refusal) → (needs_memory target property ≡ true) × (why ≡ NoMemory) → Step s (Get target property) (Refused why) s
    get_wanting why wants = subst (λ r. Step s (Get target property) (Refused r) s) (sym wants.1) (get_no_memory s steady target property wants.0)

  module _ (target : Target) (since : Member) where
    pub since_refused : (why : Refusal) → since_refusal t target since ≡ Some why → Step s (WrittenSince target since) (Refused why) s
    unfolding refusal_of
    since_refused why e = refused_by (WrittenSince target since) (written_since_rule target since) (None, refl, refl) s why
        (refusal_is s target since ∙ here (λ d. since_refusal d target since ≡ Some why) e)

    pub since_told : since_refusal t target since ≡ None → (n : ℕ) → written_named t target since ≡ Some n
        → (v : Value) → v ≡ Size (512 * n) → Step s (WrittenSince target since) (ValueIs v) s
    unfolding refusal_of
    since_told none n counted v same =
        answered_by (WrittenSince target since) (written_since_rule target since) (None, refl, refl) s steady (ValueIs v) refl refl
        (refusal_is s target since ∙ here (λ d. since_refusal d target since ≡ None) none)
        (ap ValueIs same ∙ reply_is s target since n (here (λ d. written_named d target since ≡ Some n) counted))

  module _ (name first last : List ℕ) where
    pub free_refused : (why : Refusal) → range_refusal t name first last ≡ Some why → Step s (WouldFree name first last) (Refused why) s
    unfolding refusal_of
    free_refused why e = refused_by (WouldFree name first last) (would_free_rule name first last) (None, refl, refl) s why (here (λ d. range_refusal d name first last ≡ Some why) e)

    pub free_told : range_refusal t name first last ≡ None → (n : ℕ) → n ≡ would_free (world_of t) (range_ids t name first last)
        → (v : Value) → v ≡ Size (512 * n) → Step s (WouldFree name first last) (ValueIs v) s
    unfolding refusal_of
    free_told none n counted v same =
        answered_by (WouldFree name first last) (would_free_rule name first last) (None, refl, refl) s steady (ValueIs v) refl refl
        (here (λ d. range_refusal d name first last ≡ None) none)
        (ap ValueIs same
        ∙ ap (λ k. ValueIs (Size (512 * k))) (here (λ d. n ≡ would_free (world_of d) (range_ids d name first last)) counted ∙ would_free_alike s (range_ids (datasets_of s) name first last)))
