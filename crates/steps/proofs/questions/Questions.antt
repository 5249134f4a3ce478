-- The steps that only read.
use Rattle.std.proofs.Common.{◌≡◌, ℕ, ◌*◌, Bool, true, false, cond, not, List, Option, Some, None, refl, sym, ap, ◌∙◌, true≢false}
use Rattle.std.specs.Prelude.{is_some}
use Rattle.std.specs.Option.{option_map, option_map_or}
use Rattle.std.specs.FinMap.{get, len as map_len}
use Rattle.base.specs.declared.name.target.Target.{Target}
use Rattle.base.specs.declared.name.target.Target.TheVariants.{FileSystem as OfFileSystem, Snapshot as OfSnapshot, Bookmark as OfBookmark}
use Rattle.base.specs.declared.refusal.Refusal.{Refusal}
use Rattle.base.specs.declared.refusal.Refusal.TheVariants.{NoDataset, BadKey}
use Rattle.base.specs.Key.{leaf_index}
use Rattle.base.specs.Map.{Map, contents}
use Rattle.model.specs.declared.request.Request.TheVariants.{Read, Get}
use Rattle.model.specs.declared.request.Property.{Property}
use Rattle.model.specs.declared.request.Property.TheVariants.{Referenced}
use Rattle.model.specs.declared.reply.Reply.TheVariants.{Refused, Data, Value as ValueIs}
use Rattle.model.specs.declared.reply.Value.{Value}
use Rattle.model.specs.declared.reply.Value.TheVariants.{Size, NotApplicable}
use Rattle.model.specs.World.{FileSystem, Snap, Dataset, Live, Snapped, id_of, map_of, snap_named}
use Rattle.model.specs.Sums.{referenced_of}
use Rattle.model.specs.Properties.{property_value, file_system_value, snap_value}
use Rattle.model.specs.State.{State}
use Rattle.model.specs.Targets.{is_block, has_dataset, has_target, dataset_of}
use Rattle.model.specs.requests.Read.{read_rule}
use Rattle.model.specs.requests.Get.{get_rule}
use Rattle.model.specs.Refusals.{refusal_of}
use Rattle.model.specs.Step.{Step}
use Rattle.world.specs.Worlds.{InNow}
use Rattle.world.proofs.lists.Maps.{same_value, no_value}
use Rattle.steps.specs.Room.{AreKeysOne}
use Rattle.steps.specs.Steady.{IsSteady, IsAbsent, HasNoDataset, IsNamed}
use Rattle.steps.proofs.quotas.Unlimited.{no_dataset, no_target}
use Rattle.steps.proofs.numbers.Ruled.{refused_by, answered_by}
use Rattle.world.proofs.maps.BlockCounts.{len-blocks}

module _ (s : State) (good : IsSteady s) where
  -- each number of a dataset's map is one key's
  pub once : (d : Dataset) → AreKeysOne (map_of s.now d)
  once d j k a b e g n = (good.good.pair.cells (InNow d) (InNow d) j k a b e g n).0

  -- zfsprops(7), referenced: as many blocks as the dataset's tree has nodes
  pub referenced_is : (d : Dataset) → referenced_of s.now d ≡ map_len (map_of s.now d)
  unfolding referenced_of
  referenced_is d = len-blocks (map_of s.now d) (once d)

  -- ---- a read

  module _ (target : Target) (object block : ℕ) where
    read_row : (b : Bool) → has_dataset s target ≡ b
        → refusal_of s (read_rule target object block) ≡ cond b (cond (is_block object block) None (Some BadKey)) (Some NoDataset)
    unfolding refusal_of
    read_row b e = ap (λ d. cond (not d) (Some NoDataset) (cond (not (is_block object block)) (Some BadKey) None)) e ∙ at b (is_block object block)
      where
        at : (b i : Bool) → cond {A = Option Refusal} (not b) (Some NoDataset) (cond (not i) (Some BadKey) None) ≡ cond b (cond i None (Some BadKey)) (Some NoDataset)
        at true true = refl
        at true false = refl
        at false i = refl

    pub read_no_dataset : HasNoDataset s.now.file_systems target → Step s (Read target object block) (Refused NoDataset) s
    read_no_dataset absent = refused_by (Read target object block) (read_rule target object block) (None, refl, refl) s NoDataset (read_row false (no_dataset s target absent))

    module _ (m : Map) (named : IsNamed s target m) where
      read_row_there : (i : Bool) → is_block object block ≡ i → refusal_of s (read_rule target object block) ≡ cond i None (Some BadKey)
      read_row_there i e = read_row true named.there ∙ ap (λ x. cond x None (Some BadKey)) e

      pub read_bad_key : is_block object block ≡ false → Step s (Read target object block) (Refused BadKey) s
      read_bad_key e = refused_by (Read target object block) (read_rule target object block) (None, refl, refl) s BadKey (read_row_there false e)

      read_reply : (bytes : Option (List ℕ)) → bytes ≡ get (contents m) (leaf_index object block) → Data bytes ≡ (read_rule target object block).reply s
      read_reply bytes e =
          ap Data (e ∙ ap (λ x. get (contents x) (leaf_index object block)) (sym named.map_is))
          ∙ sym (ap (λ x. Data (option_map_or (λ d. get (contents (map_of s.now d)) (leaf_index object block)) x None)) named.is)

      pub read_done : is_block object block ≡ true → (bytes : Option (List ℕ)) → bytes ≡ get (contents m) (leaf_index object block)
          → Step s (Read target object block) (Data bytes) s
      read_done e bytes same = answered_by (Read target object block) (read_rule target object block) (None, refl, refl) s good (Data bytes) refl refl
          (read_row_there true e) (read_reply bytes same)

  -- ---- a property

  module _ (target : Target) where
    get_row : (property : Property) (b : Bool) → has_target s target ≡ b
        → refusal_of s (get_rule target property) ≡ cond b None (Some NoDataset)
    unfolding refusal_of
    get_row property b e = ap (λ d. cond (not d) (Some NoDataset) None) e ∙ at b
      where
        at : (b : Bool) → cond {A = Option Refusal} (not b) (Some NoDataset) None ≡ cond b None (Some NoDataset)
        at true = refl
        at false = refl

    pub get_no_dataset : (property : Property) → IsAbsent s.now.file_systems target → Step s (Get target property) (Refused NoDataset) s
    get_no_dataset property absent = refused_by (Get target property) (get_rule target property) (None, refl, refl) s NoDataset (get_row property false (no_target s target absent))

    -- the value of any property, where something has the name
    pub get_done : (property : Property) (v : Value) → has_target s target ≡ true → property_value s target property ≡ v
        → Step s (Get target property) (ValueIs v) s
    get_done property v there is = answered_by (Get target property) (get_rule target property) (None, refl, refl) s good (ValueIs v) refl refl
        (get_row property true there) (ap ValueIs (sym is))

  -- what has a dataset's name is there
  target_there : (target : Target) → has_dataset s target ≡ true → has_target s target ≡ true
  target_there (OfFileSystem name) e = e
  target_there (OfSnapshot m) e = e
  target_there (OfBookmark m) e = absurd (true≢false (sym e))

  -- the value of `referenced`, by the dataset that the name stands for
  referenced_value : (target : Target) (d : Dataset) → has_dataset s target ≡ true → dataset_of s target ≡ Some d
      → property_value s target Referenced ≡ Size (512 * referenced_of s.now d)
  unfolding property_value file_system_value snap_value
  referenced_value (OfFileSystem name) d there is =
      at (get s.now.file_systems name) there ∙ ap (λ x. Size (512 * referenced_of s.now x)) (same_value (Live name) d is)
    where
      at : (x : Option FileSystem) → is_some x ≡ true
          → option_map_or (λ f. file_system_value s name f Referenced) x NotApplicable ≡ Size (512 * referenced_of s.now (Live name))
      at None e = absurd (true≢false (sym e))
      at (Some f) e = refl
  referenced_value (OfSnapshot m) d there is = at (snap_named s.now m) is
    where
      at : (x : Option Snap) → option_map (λ t. Snapped (id_of t)) x ≡ Some d
          → option_map_or (λ t. snap_value s.now t Referenced) x NotApplicable ≡ Size (512 * referenced_of s.now d)
      at None e = absurd (no_value d e)
      at (Some t) e = ap (λ x. Size (512 * referenced_of s.now x)) (same_value (Snapped (id_of t)) d e)
  referenced_value (OfBookmark m) d there is = absurd (true≢false (sym there))

  -- zfsprops(7), referenced: 512 bytes a node of the dataset's tree
  pub get_referenced : (target : Target) (m : Map) → IsNamed s target m → (n : ℕ) → n ≡ map_len m → Step s (Get target Referenced) (ValueIs (Size (512 * n))) s
  get_referenced target m named n e = get_done target Referenced (Size (512 * n)) (target_there target named.there)
      (referenced_value target named.dataset named.there named.is
      ∙ ap (λ k. Size (512 * k)) (referenced_is named.dataset ∙ ap map_len named.map_is ∙ sym e))
