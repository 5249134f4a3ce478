-- A receive that isn't refused leaves the snapshots of open views.
use Rattle.std.proofs.Common.{◌≡◌, ℕ, Bool, true, false, true≢false, not, List, [], ◌∷◌, Option, Some, None, refl, sym, ap, subst, ◌∙◌, ◌⊎◌, inl, inr, ⊎_elim, map}
use Rattle.std.specs.Prelude.{◌==◌, IsSome, is_some, if◌then◌else◌}
use Rattle.std.specs.List.{filter, find, last_or}
use Rattle.std.specs.Option.{option_map, option_map_or, option_and_then}
use Rattle.std.specs.FinMap.{get, contains_key}
use Rattle.base.specs.declared.number.Key.{Key}
use Rattle.base.specs.declared.refusal.Refusal.TheVariants.{NoDataset, Exists, Busy, HasClones, BadStream}
use Rattle.base.specs.Rewrite.{rewrite}
use Rattle.base.specs.Names.{same_name}
use Rattle.base.specs.Surveys.{IsIn}
use Rattle.base.specs.declared.name.member.Member.{Member}
use Rattle.stream.specs.Records.{changes_of}
use Rattle.stream.specs.Spelling.{Sending}
use Rattle.model.specs.declared.receiving.Receiving.{Receiving}
use Rattle.model.specs.declared.receiving.Receiving.TheVariants.{Plain, Back, Past, Origin, Replace}
use Rattle.model.specs.World.{World, FileSystem, Snap, id_of, file_system_at, snap_named, empty_file_system, map_of_snap}
use Rattle.model.specs.State.{State, Views}
use Rattle.model.specs.Edits.{with_file_system, with_losses, after_change}
use Rattle.model.specs.Rule.{first_of}
use Rattle.model.specs.requests.Change.{limit_row}
use Rattle.model.specs.Refusals.{state_asked, refusal_of}
use Rattle.model.specs.requests.Clone.{with_clone}
use Rattle.model.specs.requests.Destroy.{snaps_within}
use Rattle.model.specs.requests.Rollback.{snaps_after, back_at, is_busy, has_clone_outside}
use Rattle.model.specs.requests.Receive.{newest_of, source_of, back_to_newest, forced_back, back_past, cloned_from, vacated, before_full, before_incremental, before_receive, received, snaps_past, new_row, replace_row, past_row, origin_row, full_row, incremental_row, stream_row, receive_rule}
use Rattle.world.specs.RunLaws.{HasSnap}
use Rattle.world.proofs.lists.Finding.{from_filter, from_find, in_flat}
use Rattle.world.proofs.lists.Listed.{map_in}
use Rattle.world.proofs.lists.Maps.{same_value, no_value}
use Rattle.world.proofs.views.Viewed.{AreOnce, AreClosed, IsSafe, safe_same, safe_then, safe_losses, one_changed}
use Rattle.world.proofs.views.ViewedTakes.{taken_safe}
use Rattle.world.proofs.views.ViewedRequests.{row_false, left_none, not_some, not_viewed, added_safe, back_safe}

-- ---- what the rows say

-- where a receive isn't refused, its stream isn't
pub stream_none : (s : State) (m : Member) (sent : Sending) (mode : Receiving) → refusal_of s (receive_rule m (Some sent) mode) ≡ None
    → first_of (stream_row s.now s.views m sent mode) ≡ None
unfolding refusal_of
stream_none s m sent mode none = left_none (stream_row s.now s.views m sent mode) (limit_row (state_asked s (receive_rule m (Some sent) mode))) none

-- no stream is one in full for a clone, and none from a source takes a file system's place
pub no_full : {A : Type 0} (w : World) (views : Views) (m : Member) (origin : Member) → first_of (full_row w views m (Origin origin)) ≡ None → A
no_full w views m origin e = absurd (no_value BadStream (sym e))

pub no_incremental : {A : Type 0} (w : World) (views : Views) (m : Member) (source : ℕ) → first_of (incremental_row w views m source Replace) ≡ None → A
no_incremental w views m source e = absurd (no_value BadStream (sym e))

-- a file system that is made isn't there
pub new_absent : (w : World) (name : List ℕ) → first_of (new_row w name) ≡ None → get w.file_systems name ≡ None
new_absent w name none = not_some (get w.file_systems name) (row_false (new_row w name) none (contains_key w.file_systems name, Exists) (inl refl))

pub origin_absent : (w : World) (name : List ℕ) (origin : Member) (source : ℕ) → first_of (origin_row w name origin source) ≡ None → get w.file_systems name ≡ None
origin_absent w name origin source none =
    not_some (get w.file_systems name) (row_false (origin_row w name origin source) none (contains_key w.file_systems name, Exists) (inr (inr (inr (inl refl)))))

-- and one that takes another's place is no clone
pub replaced_bare : (w : World) (views : Views) (name : List ℕ) → first_of (replace_row w views name) ≡ None → (f : FileSystem) → get w.file_systems name ≡ Some f → f.origin ≡ None
replaced_bare w views name none f at = not_some f.origin
    (ap (λ x. is_some (option_and_then (λ (f : FileSystem). f.origin) x)) (sym at)
    ∙ row_false (replace_row w views name) none (is_some (option_and_then (λ (f : FileSystem). f.origin) (file_system_at w name)), Exists) (inr (inl refl)))

-- and it is there
pub replaced_there : (w : World) (views : Views) (name : List ℕ) → first_of (replace_row w views name) ≡ None → IsSome (get w.file_systems name)
replaced_there w views name none = by_test (contains_key w.file_systems name) (row_false (replace_row w views name) none (not (contains_key w.file_systems name), NoDataset) (inl refl))
  where
    by_test : (b : Bool) → not b ≡ false → b ≡ true
    by_test true e = refl
    by_test false e = absurd (true≢false e)

-- no snapshot that goes has an open view
pub replaced_idle : (w : World) (views : Views) (name : List ℕ) → first_of (replace_row w views name) ≡ None → is_busy w views (snaps_within w (name ∷ [])) ≡ false
replaced_idle w views name none = row_false (replace_row w views name) none (is_busy w views (snaps_within w (name ∷ [])), Busy) (inr (inr (inl refl)))

pub past_idle : (w : World) (views : Views) (m : Member) (source : ℕ) → first_of (past_row w views m source) ≡ None → is_busy w views (snaps_past w m.file_system source) ≡ false
past_idle w views m source none = row_false (past_row w views m source) none (is_busy w views (snaps_past w m.file_system source), Busy) (inr (inr (inr (inl refl))))

-- nor a clone
pub replaced_alone : (w : World) (views : Views) (name : List ℕ) → first_of (replace_row w views name) ≡ None → has_clone_outside w [] (snaps_within w (name ∷ [])) ≡ false
replaced_alone w views name none = row_false (replace_row w views name) none (has_clone_outside w [] (snaps_within w (name ∷ [])), HasClones) (inr (inr (inr (inl refl))))

pub past_alone : (w : World) (views : Views) (m : Member) (source : ℕ) → first_of (past_row w views m source) ≡ None → has_clone_outside w [] (snaps_past w m.file_system source) ≡ false
past_alone w views m source none =
    row_false (past_row w views m source) none (has_clone_outside w [] (snaps_past w m.file_system source), HasClones) (inr (inr (inr (inr (inl refl)))))

-- a snapshot of a name is its file system's
pub from_named : (w : World) (m : Member) (t : Snap) → snap_named w m ≡ Some t → HasSnap w m.file_system t
from_named w m t e = by_system (get w.file_systems m.file_system) refl e
  where
    by_system : (x : Option FileSystem) → get w.file_systems m.file_system ≡ x → option_and_then (λ (f : FileSystem). find (λ (u : Snap). same_name u.name m.component) f.snaps) x ≡ Some t
        → HasSnap w m.file_system t
    by_system None i k = absurd (no_value t k)
    by_system (Some f) i k = (f, i, (from_find (λ (u : Snap). same_name u.name m.component) f.snaps t k).0)

-- and one by its guid
last_there : (xs : List Snap) (o : Option Snap) (t : Snap) → last_or o xs ≡ Some t → (o ≡ Some t) ⊎ IsIn xs t
last_there [] o t e = inl e
last_there (x ∷ xs) o t e = ⊎_elim (λ k. inr (inl (sym (same_value x t k)))) (λ i. inr (inr i)) (last_there xs (Some x) t e)

pub from_source : (w : World) (name : List ℕ) (guid : ℕ) (p : FileSystem × Snap) → source_of w name guid ≡ Some p → (get w.file_systems name ≡ Some p.0) × IsIn p.0.snaps p.1
from_source w name guid p e = by_system (get w.file_systems name) refl e
  where
    by_last : (f : FileSystem) (y : Option Snap) → last_or None (filter (λ (t : Snap). t.guid == guid) f.snaps) ≡ y → option_map (λ t. (f, t)) y ≡ Some p → (f ≡ p.0) × IsIn p.0.snaps p.1
    by_last f None i k = absurd (no_value p k)
    by_last f (Some t) i k =
        let one = same_value (f, t) p k in
        let here = ⊎_elim (λ n. absurd (no_value t n)) (λ h. (from_filter (λ (u : Snap). u.guid == guid) f.snaps t h).0) (last_there (filter (λ (u : Snap). u.guid == guid) f.snaps) None t i) in
        (ap (λ x. x.0) one, subst (λ (x : FileSystem × Snap). IsIn x.0.snaps x.1) one here)

    by_system : (x : Option FileSystem) → get w.file_systems name ≡ x
        → option_and_then (λ (f : FileSystem). option_map (λ t. (f, t)) (last_or None (filter (λ (t : Snap). t.guid == guid) f.snaps))) x ≡ Some p
        → (get w.file_systems name ≡ Some p.0) × IsIn p.0.snaps p.1
    by_system None i k = absurd (no_value p k)
    by_system (Some f) i k = let r = by_last f (last_or None (filter (λ (t : Snap). t.guid == guid) f.snaps)) refl k in (i ∙ ap Some r.0, r.1)

-- a snapshot of a file system is among those that go with it
pub snap_within : (w : World) (name : List ℕ) (f : FileSystem) → get w.file_systems name ≡ Some f → (u : Snap) → IsIn f.snaps u → IsIn (snaps_within w (name ∷ [])) (id_of u)
snap_within w name f at u i = in_flat (λ n. option_map_or (λ (f : FileSystem). map id_of f.snaps) (file_system_at w n) []) (name ∷ []) name (id_of u) (inl refl)
    (subst (λ x. IsIn (option_map_or (λ (f : FileSystem). map id_of f.snaps) x []) (id_of u)) (sym at) (map_in (λ (v : Snap). id_of v) f.snaps u i))

-- ---- what a receive begins with

module _ (views : Views) (w : World) (once : AreOnce w) (closed : AreClosed w) where
  forced_safe : (name : List ℕ) → IsSafe views w (forced_back w name)
  forced_safe name = by_newest (newest_of w name)
    where
      by_newest : (x : Option Snap) → IsSafe views w (option_map_or (λ t. with_losses w (with_file_system w name (back_to_newest t))) x w)
      by_newest None = safe_same views w once closed
      by_newest (Some t) = safe_losses views w (with_file_system w name (back_to_newest t))
          (one_changed views w name (back_to_newest t) once closed (λ f u e h. h) (λ f u e h seen. h))

  past_safe : (name : List ℕ) (guid : ℕ) → is_busy w views (snaps_past w name guid) ≡ false → IsSafe views w (back_past w name guid)
  past_safe name guid idle = by_source (source_of w name guid) refl idle
    where
      by_source : (x : Option (FileSystem × Snap)) → source_of w name guid ≡ x → is_busy w views (option_map_or (λ (p : FileSystem × Snap). map id_of (snaps_after p.0 p.1.group)) x []) ≡ false
          → IsSafe views w (option_map_or (λ (p : FileSystem × Snap). with_losses w (with_file_system w name (λ f. back_at f p.1))) x w)
      by_source None e free = safe_same views w once closed
      by_source (Some p) e free = safe_losses views w (with_file_system w name (λ f. back_at f p.1)) (back_safe views w name p once closed (from_source w name guid p e).0 free)

  cloned_safe : (name : List ℕ) (origin : Member) → get w.file_systems name ≡ None → IsSafe views w (cloned_from w name origin)
  cloned_safe name origin absent = by_snap (snap_named w origin)
    where
      by_snap : (x : Option Snap) → IsSafe views w (option_map_or (λ (t : Snap). with_clone w (id_of t) name) x w)
      by_snap None = safe_same views w once closed
      by_snap (Some t) = added_safe views w name (record empty_file_system { live = map_of_snap w (Some (id_of t)); origin = Some (id_of t) }) refl once closed absent

  pub vacated_safe : (name : List ℕ) → is_busy w views (snaps_within w (name ∷ [])) ≡ false → IsSafe views w (with_file_system w name vacated)
  vacated_safe name idle = one_changed views w name vacated once closed
      (λ f t at h. absurd h)
      (λ f t at h seen. absurd (not_viewed w views (snaps_within w (name ∷ [])) idle (id_of t) (snap_within w name f at t h) seen))

  full_safe : (m : Member) (mode : Receiving) → first_of (full_row w views m mode) ≡ None → IsSafe views w (before_full w m.file_system mode)
  full_safe m Plain e = added_safe views w m.file_system empty_file_system refl once closed (new_absent w m.file_system e)
  full_safe m Back e = added_safe views w m.file_system empty_file_system refl once closed (new_absent w m.file_system e)
  full_safe m Past e = added_safe views w m.file_system empty_file_system refl once closed (new_absent w m.file_system e)
  full_safe m (Origin origin) e = no_full w views m origin e
  full_safe m Replace e = safe_losses views w (with_file_system w m.file_system vacated) (vacated_safe m.file_system (replaced_idle w views m.file_system e))

  incremental_safe : (m : Member) (source : ℕ) (mode : Receiving) → first_of (incremental_row w views m source mode) ≡ None
      → IsSafe views w (before_incremental w m.file_system source mode)
  incremental_safe m source Plain e = safe_same views w once closed
  incremental_safe m source Back e = forced_safe m.file_system
  incremental_safe m source Past e = past_safe m.file_system source (past_idle w views m source e)
  incremental_safe m source (Origin origin) e = cloned_safe m.file_system origin (origin_absent w m.file_system origin source e)
  incremental_safe m source Replace e = no_incremental w views m source e

  pub before_safe : (m : Member) (sent : Sending) (mode : Receiving) → first_of (stream_row w views m sent mode) ≡ None → IsSafe views w (before_receive w m.file_system sent mode)
  before_safe m sent mode none = by_source (sent.source == 0) none
    where
      by_source : (b : Bool) → first_of (if b then full_row w views m mode else incremental_row w views m sent.source mode) ≡ None
          → IsSafe views w (if b then before_full w m.file_system mode else before_incremental w m.file_system sent.source mode)
      by_source true e = full_safe m mode e
      by_source false e = incremental_safe m sent.source mode e

  received_safe : (m : Member) (sent : Sending) (mode : Receiving) (number : Key → ℕ) → first_of (stream_row w views m sent mode) ≡ None
      → IsSafe views w (received w m sent mode number)
  unfolding received
  received_safe m sent mode number none =
      let v = before_receive w m.file_system sent mode in
      let u = after_change v m.file_system (changes_of sent.records) number in
      let a = before_safe m sent mode none in
      let b = one_changed views v m.file_system (λ f. record f { live = rewrite f.live (changes_of sent.records) v.group number }) a.once a.closed (λ f t e h. h) (λ f t e h seen. h) in
      safe_then views w v _ a (safe_then views v u _ b (taken_safe views u sent.target (m ∷ []) b.once b.closed))

pub receive_asked : (s : State) (m : Member) (sent : Sending) (mode : Receiving) (number : Key → ℕ) → AreOnce s.now → AreClosed s.now
    → refusal_of s (receive_rule m (Some sent) mode) ≡ None → IsSafe s.views s.now (received s.now m sent mode number)
receive_asked s m sent mode number once closed none = received_safe s.views s.now once closed m sent mode number (stream_none s m sent mode none)
