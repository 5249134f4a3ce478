-- A receive leaves the file system with one snapshot more, of the live map that it has then.
use Rattle.std.proofs.Common.{◌≡◌, ◌<◌, ℕ, Bool, true, false, Option, Some, None, refl, sym, ap, subst, ◌∙◌, ◌⊎◌, inl, inr, ⊎_elim, arith}
use Rattle.std.specs.Prelude.{◌==◌, if◌then◌else◌}
use Rattle.std.specs.List.{last_or}
use Rattle.std.specs.Option.{option_map_or, option_and_then}
use Rattle.std.specs.FinMap.{get}
use Rattle.base.specs.declared.number.Key.{Key}
use Rattle.base.specs.Map.{Cell}
use Rattle.base.specs.Rewrite.{Changes, rewrite, is_touched}
use Rattle.base.specs.Surveys.{IsIn}
use Rattle.base.specs.declared.name.member.Member.{Member}
use Rattle.stream.specs.Records.{changes_of}
use Rattle.stream.specs.Spelling.{Sending}
use Rattle.model.specs.declared.receiving.Receiving.{Receiving}
use Rattle.model.specs.declared.receiving.Receiving.TheVariants.{Plain, Back, Past, Origin, Replace}
use Rattle.model.specs.World.{World, FileSystem, Snap, SnapId, Snapped, id_of, snap_named, empty_file_system, map_of, map_of_snap}
use Rattle.model.specs.State.{State, Views}
use Rattle.model.specs.Edits.{with_file_system, with_losses, after_change}
use Rattle.model.specs.Refusals.{refusal_of}
use Rattle.model.specs.Rule.{first_of}
use Rattle.model.specs.requests.Clone.{with_clone}
use Rattle.model.specs.requests.Receive.{newest_of, source_of, back_to_newest, forced_back, back_past, cloned_from, vacated, emptied, before_full, before_incremental, before_receive, received, full_row, incremental_row, stream_row, state_received, receive_rule}
use Rattle.model.specs.requests.Rollback.{back_at}
use Rattle.world.specs.Numbering.{ChangesKeys}
use Rattle.world.specs.Shapes.{Name}
use Rattle.world.proofs.lists.Maps.{same_value, no_value}
use Rattle.world.proofs.maps.Rewrites.{rewrite_is_change}
use Rattle.world.proofs.views.Viewed.{AreClosed}
use Rattle.world.proofs.views.ViewedReceives.{stream_none, no_full, no_incremental, new_absent, origin_absent, replaced_bare, from_named, from_source, before_safe}
use Rattle.laws.proofs.Edits.{went_to_newest, went_back, went_emptied, same_later, with_later, one_later, added_later, empty_later, snapped_later, same_group}
use Rattle.laws.proofs.Keys.{IsSameBelow, itself_below}
use Rattle.laws.proofs.Rising.{last_in, last_highest}
use Rattle.laws.proofs.Walking.{IsNewest, WentOn, IsMade, IsLater}
use Rattle.laws.specs.Lineages.{origin_group, IsOrdered}

-- ---- a live map rewritten in a later world

module _ (g : ℕ) (ch : Changes) (number : Key → ℕ) (s : FileSystem) (closed : (u : Snap) → IsIn s.snaps u → u.group < g) where
  abbrev written : FileSystem
  written = record s { live = rewrite s.live ch g number }

  changes : ChangesKeys s.live (rewrite s.live ch g number) (is_touched s.live ch) g number
  changes = rewrite_is_change s.live ch g number

  -- what isn't touched is as it was, with all below
  below : (key : Key) → is_touched s.live ch key ≡ false → IsSameBelow key s.live (rewrite s.live ch g number)
  below key e q l = sym (changes.kept q (changes.below key q e l))

  went_then_written : (f : FileSystem) → WentOn g f s → WentOn g f (record s { live = rewrite s.live ch g number })
  went_then_written f went = record {
    origin = went.origin;
    snaps = λ u h. ⊎_elim inl (λ k. let a = closed u h in let b = k.0 in absurd (omega arith)) (went.snaps u h);
    live = λ key c h. by_touch key c h (is_touched s.live ch key) refl;
  }
    where
      by_touch : (key : Key) (c : Cell) → get (rewrite s.live ch g number) key ≡ Some c → (touched : Bool) → is_touched s.live ch key ≡ touched
          → IsSameBelow key f.live (rewrite s.live ch g number) ⊎ (c.birth ≡ g)
          ⊎ ((v : Snap) × IsIn f.snaps v × IsNewest g v (record s { live = rewrite s.live ch g number }) × IsSameBelow key v.map (rewrite s.live ch g number))
      by_touch key c h true e = inr (inl (changes.made key c e h).1)
      by_touch key c h false e =
          let kept = below key e in
          ⊎_elim
          (λ same. inl (λ q l. same q l ∙ kept q l))
          (λ k. inr (⊎_elim
          inl
          (λ (v, i, newest, same). inr (v, i, record { marks = newest.marks; snaps = newest.snaps }, λ q l. same q l ∙ kept q l))
          k))
          (went.live key c (kept key (itself_below key) ∙ h))

  made_then_written : (w : World) → w.group ≡ g → IsMade w s → IsMade w (record s { live = rewrite s.live ch g number })
  made_then_written w open_is made = record {
    snaps = λ u i. let a = closed u i in let b = (made.snaps u i).0 in absurd (omega arith);
    live = λ id e. let k = made.live id e in (k.0, λ key c h. by_origin id k.1 key c h (is_touched s.live ch key) refl);
    young = λ none key c h. by_none (made.young none) key c h (is_touched s.live ch key) refl;
  }
    where
      by_origin : (id : SnapId) → ((key : Key) (c : Cell) → get s.live key ≡ Some c → IsSameBelow key (map_of w (Snapped id)) s.live ⊎ (c.birth ≡ w.group))
          → (key : Key) (c : Cell) → get (rewrite s.live ch g number) key ≡ Some c → (touched : Bool) → is_touched s.live ch key ≡ touched
          → IsSameBelow key (map_of w (Snapped id)) (rewrite s.live ch g number) ⊎ (c.birth ≡ w.group)
      by_origin id was key c h true e = inr ((changes.made key c e h).1 ∙ sym open_is)
      by_origin id was key c h false e =
          let kept = below key e in
          ⊎_elim (λ same. inl (λ q l. same q l ∙ kept q l)) inr (was key c (kept key (itself_below key) ∙ h))

      by_none : ((key : Key) (c : Cell) → get s.live key ≡ Some c → c.birth ≡ w.group)
          → (key : Key) (c : Cell) → get (rewrite s.live ch g number) key ≡ Some c → (touched : Bool) → is_touched s.live ch key ≡ touched → c.birth ≡ w.group
      by_none was key c h true e = (changes.made key c e h).1 ∙ sym open_is
      by_none was key c h false e = was key c (below key e key (itself_below key) ∙ h)

-- the live map of any file system, where no snapshot is of the open group
then_written : (w v : World) → IsLater w v → AreClosed v → v.group ≡ w.group → (name : Name) (ch : Changes) (number : Key → ℕ) → IsLater w (after_change v name ch number)
then_written w v later closed open_is name ch number =
    with_later w v name (λ f. record f { live = rewrite f.live ch v.group number }) later (λ s at.
    let each = λ (u : Snap) (i : IsIn s.snaps u). closed name u (s, at, i) in
    ⊎_elim
    (λ (e, is, went). inl (
      e,
      is,
      subst (λ g. WentOn g e (record s { live = rewrite s.live ch v.group number })) open_is
          (went_then_written v.group ch number s each e (subst (λ g. WentOn g e s) (sym open_is) went)),
    ))
    (λ (none, made). inr (none, made_then_written v.group ch number s each w (sym open_is) made))
    (later name s at))

-- ---- what a receive begins with

module _ (w : World) (o : IsOrdered w) (name : Name) where
  forced_later : IsLater w (forced_back w name)
  forced_later = by_newest (newest_of w name) refl
    where
      by_newest : (x : Option Snap) → newest_of w name ≡ x → IsLater w (option_map_or (λ t. with_losses w (with_file_system w name (back_to_newest t))) x w)
      by_newest None e = same_later w
      by_newest (Some t) e = one_later w name (back_to_newest t) (λ f at.
          let last : last_or None f.snaps ≡ Some t = ap (λ x. option_and_then (λ (f : FileSystem). last_or None f.snaps) x) (sym at) ∙ e in
          went_to_newest w.group f t (⊎_elim (λ k. absurd (no_value t k)) (λ i. i) (last_in f.snaps None t last)) (last_highest (origin_group f.origin) f.snaps t (o.rising name f at) last))

  past_later : (guid : ℕ) → IsLater w (back_past w name guid)
  past_later guid = by_source (source_of w name guid) refl
    where
      by_source : (x : Option (FileSystem × Snap)) → source_of w name guid ≡ x
          → IsLater w (option_map_or (λ (p : FileSystem × Snap). with_losses w (with_file_system w name (λ f. back_at f p.1))) x w)
      by_source None e = same_later w
      by_source (Some p) e =
          let k = from_source w name guid p e in
          one_later w name (λ f. back_at f p.1) (λ f at. went_back w.group f p.1 (subst (λ (x : FileSystem). IsIn x.snaps p.1) (same_value p.0 f (sym k.0 ∙ at)) k.1))

  cloned_later : (origin : Member) → get w.file_systems name ≡ None → IsLater w (cloned_from w name origin)
  cloned_later origin absent = by_snap (snap_named w origin) refl
    where
      by_snap : (x : Option Snap) → snap_named w origin ≡ x → IsLater w (option_map_or (λ (t : Snap). with_clone w (id_of t) name) x w)
      by_snap None e = same_later w
      by_snap (Some t) e =
          let k = from_named w origin t e in
          added_later w name (record empty_file_system { live = map_of_snap w (Some (id_of t)); origin = Some (id_of t) }) refl
          (λ id i. let same = same_value (id_of t) id i in ((origin.file_system, k.0, t, k.1, k.2, same), ap (λ y. map_of w (Snapped y)) same))
          (λ e. absurd (no_value (id_of t) (sym e))) absent

  emptied_later : ((f : FileSystem) → get w.file_systems name ≡ Some f → f.origin ≡ None) → IsLater w (emptied w name)
  emptied_later bare = one_later w name vacated (λ f at. went_emptied w.group f (bare f at))

module _ (w : World) (o : IsOrdered w) (views : Views) (m : Member) where
  full_later : (mode : Receiving) → first_of (full_row w views m mode) ≡ None → IsLater w (before_full w m.file_system mode)
  full_later Plain e = empty_later w m.file_system (new_absent w m.file_system e)
  full_later Back e = empty_later w m.file_system (new_absent w m.file_system e)
  full_later Past e = empty_later w m.file_system (new_absent w m.file_system e)
  full_later (Origin origin) e = no_full w views m origin e
  full_later Replace e = emptied_later w o m.file_system (replaced_bare w views m.file_system e)

  incremental_later : (source : ℕ) (mode : Receiving) → first_of (incremental_row w views m source mode) ≡ None → IsLater w (before_incremental w m.file_system source mode)
  incremental_later source Plain e = same_later w
  incremental_later source Back e = forced_later w o m.file_system
  incremental_later source Past e = past_later w o m.file_system source
  incremental_later source (Origin origin) e = cloned_later w o m.file_system origin (origin_absent w m.file_system origin source e)
  incremental_later source Replace e = no_incremental w views m source e

  before_later : (sent : Sending) (mode : Receiving) → first_of (stream_row w views m sent mode) ≡ None → IsLater w (before_receive w m.file_system sent mode)
  before_later sent mode none = by_source (sent.source == 0) none
    where
      by_source : (b : Bool) → first_of (if b then full_row w views m mode else incremental_row w views m sent.source mode) ≡ None
          → IsLater w (if b then before_full w m.file_system mode else before_incremental w m.file_system sent.source mode)
      by_source true e = full_later mode e
      by_source false e = incremental_later sent.source mode e

-- ---- the open group

module _ (w : World) (name : Name) where
  full_group : (mode : Receiving) → (before_full w name mode).group ≡ w.group
  full_group Plain = refl
  full_group Back = refl
  full_group Past = refl
  full_group (Origin origin) = refl
  full_group Replace = same_group w name vacated

  incremental_group : (source : ℕ) (mode : Receiving) → (before_incremental w name source mode).group ≡ w.group
  incremental_group source Plain = refl
  incremental_group source Back = by_newest (newest_of w name)
    where
      by_newest : (x : Option Snap) → (option_map_or (λ t. with_losses w (with_file_system w name (back_to_newest t))) x w).group ≡ w.group
      by_newest None = refl
      by_newest (Some t) = same_group w name (back_to_newest t)
  incremental_group source Past = by_source (source_of w name source)
    where
      by_source : (x : Option (FileSystem × Snap)) → (option_map_or (λ (p : FileSystem × Snap). with_losses w (with_file_system w name (λ f. back_at f p.1))) x w).group ≡ w.group
      by_source None = refl
      by_source (Some p) = same_group w name (λ f. back_at f p.1)
  incremental_group source (Origin origin) = by_snap (snap_named w origin)
    where
      by_snap : (x : Option Snap) → (option_map_or (λ (t : Snap). with_clone w (id_of t) name) x w).group ≡ w.group
      by_snap None = refl
      by_snap (Some t) = refl
  incremental_group source Replace = refl

-- what a receive begins with leaves it
pub before_group : (w : World) (m : Member) (sent : Sending) (mode : Receiving) → (before_receive w m.file_system sent mode).group ≡ w.group
before_group w m sent mode = by_source (sent.source == 0)
  where
    by_source : (b : Bool) → (if b then before_full w m.file_system mode else before_incremental w m.file_system sent.source mode).group ≡ w.group
    by_source true = full_group w m.file_system mode
    by_source false = incremental_group w m.file_system sent.source mode

-- ---- the whole

received_later : (w : World) → IsOrdered w → (views : Views) (m : Member) (sent : Sending) (mode : Receiving) (number : Key → ℕ) → first_of (stream_row w views m sent mode) ≡ None
    → IsLater w (received w m sent mode number)
unfolding received
received_later w o views m sent mode number none =
    let before = before_receive w m.file_system sent mode in
    let ch = changes_of sent.records in
    let open_is = before_group w m sent mode in
    snapped_later w (after_change before m.file_system ch number) m sent.target
    (same_group before m.file_system (λ f. record f { live = rewrite f.live ch before.group number }) ∙ open_is)
    (then_written w before (before_later w o views m sent mode none) (before_safe views w o.once o.closed m sent mode none).closed open_is m.file_system ch number)

-- a receive that isn't refused
pub got : (s : State) → IsOrdered s.now → (m : Member) (reading : Option Sending) (mode : Receiving) (number : Key → ℕ) → refusal_of s (receive_rule m reading mode) ≡ None
    → IsLater s.now (state_received s m reading mode number).now
got s o m None mode number none = same_later s.now
got s o m (Some sent) mode number none = received_later s.now o s.views m sent mode number (stream_none s m sent mode none)
