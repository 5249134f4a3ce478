-- What a receive leaves to be written.
use Rattle.std.proofs.Common.{◌≡◌, ◌<◌, ◌+◌, ◌-◌, ◌*◌, ℕ, Bool, true, false, ◌⊎◌, cond, List, [], ◌∷◌, Option, Some, None, length, map, refl, sym, ap, subst, ◌∙◌, inl, inr, ⊎_elim, unwrap_or}
use Rattle.std.specs.Prelude.{◌==◌, IfSome, IsSome, is_some, nat_le, if◌then◌else◌}
use Rattle.std.specs.List.{All, last_or, range_with_len}
use Rattle.std.specs.Option.{option_map, option_map_or, option_and_then}
use Rattle.std.specs.FinMap.{get, insert}
use Rattle.std.specs.FinMap as finmap
use Rattle.std.specs.declared.alloc.Global.{Global}
use Rattle.std.specs.declared.vec.Vec.{Vec}
use Rattle.std.proofs.lemmas.Bool.{eqb-true}
use Rattle.std.proofs.lemmas.List.Elements.{All-nil, All-cons}
use Rattle.base.specs.declared.name.member.Member.{Member}
use Rattle.base.specs.declared.number.BlockNo.{BlockNo}
use Rattle.base.specs.declared.number.Key.{Key}
use Rattle.base.specs.Map.{Map, Cell, IsTree, HasBytes, block_of}
use Rattle.base.specs.Rewrite.{Changes}
use Rattle.base.specs.Surveys.{IsIn}
use Rattle.base.proofs.Presence.{same_presence}
use Rattle.batch.specs.declared.numbers.NewBlock.{NewBlock}
use Rattle.node.specs.Unique.{IsUnique}
use Rattle.stream.specs.Records.{changes_of}
use Rattle.stream.specs.Spelling.{Sending}
use Rattle.tree.specs.Change.{IsChange}
use Rattle.tree.specs.ChangeParts.{made_pair}
use Rattle.model.specs.declared.receiving.Receiving.{Receiving}
use Rattle.model.specs.declared.receiving.Receiving.TheVariants.{Plain, Back, Past, Origin, Replace}
use Rattle.model.specs.State.{State}
use Rattle.model.specs.World.{World, FileSystem, Snap, SnapId, Live, id_of, snap_at, snap_named, maps_of, map_of, map_of_snap, empty_file_system}
use Rattle.model.specs.Edits.{with_now, with_losses, with_file_system}
use Rattle.model.specs.requests.Create.{with_new_file_system}
use Rattle.model.specs.requests.Clone.{with_clone}
use Rattle.model.specs.requests.Receive.{newest_of, source_of, back_to_newest, vacated, before_full, before_incremental, before_receive}
use Rattle.model.specs.requests.Rollback.{back_at}
use Rattle.world.proofs.views.ViewedReceives.{from_source}
use Rattle.laws.proofs.Receiving.{before_group}
use Rattle.world.specs.Shapes.{Name}
use Rattle.world.specs.Tables.{Datasets}
use Rattle.world.specs.Worlds.{AreMapsFrom, IsPoolState, InNow, maps_of_both}
use Rattle.world.proofs.lineage.Bridge.{map_of_live, from_snap_at}
use Rattle.world.proofs.lineage.Put.{put_here, put_maps}
use Rattle.world.proofs.lists.Listed.{in_map, map_in}
use Rattle.world.proofs.lists.Maps.{some_of, same_value}
use Rattle.world.proofs.lists.Finding.{from_filter}
use Rattle.world.proofs.steps.Groups.{same_maps}
use Rattle.datasets.specs.Writes.{young_of}
use Rattle.datasets.specs.Rows.{live_of, with_snap}
use Rattle.receives.proofs.Newest.{newest_there}
use Rattle.image.specs.BlockWrites.{blocks_put, writes_of, written_pair}
use Rattle.image.specs.HasBlocks.{HasBlocks, AreBirthsRising}
use Rattle.image.specs.Image.{IsOpen}
use Rattle.image.specs.ImageBlocks.{bytes_of, pointers_bytes, pointers_of}
use Rattle.image.proofs.Pointers.{length-pointers_bytes}
use Rattle.image.specs.StepWrites.{AreMade}
use Rattle.image.specs.Stored.{AreStored, IsStored, AreMapsBeside}
use Rattle.image.proofs.Drawing.{stored_stay}
use Rattle.image.proofs.LiveChange.{put_beside, kept_beside, change_stored, number_open}
use Rattle.image.proofs.MadeBlocks.{all_made, all_within, each_young}
use Rattle.image.proofs.StepMade.{all_made as all_new}
use Rattle.image.proofs.Stays.{changed_from, of_snap}
use Rattle.image.proofs.Walking.{cell_reached}
use Rattle.image.proofs.Written.{unique_in, rewrite_rises}
use Rattle.steps.specs.Edits.{datasets_of}
use Rattle.steps.specs.Intakes.{IsMadeOf}
use Rattle.steps.specs.Received.{put_freeing}
use Rattle.removals.specs.declared.working_copy.WorkingCopy.{WorkingCopy}
use Rattle.batch.specs.declared.draft.Draft.{Draft}
use Rattle.tree.proofs.Told.{range_long}
use Rattle.tree.specs.Branch.{child_key}
use Rattle.pool.specs.Images.{LeadsTo}
use Rattle.image.specs.Writes.{MayWrite, ArePresent}
use Rattle.pool.specs.Numbers.{synced_numbers}
use Rattle.image.specs.declared.writes.Writes.TheVariants.{Each}
use Rattle.pool.proofs.Kept.{kept_long, kept_just}

-- ---- lists

all_in : {A : Type 0} (P : A → Type 0) (xs : List A) → ((x : A) → IsIn xs x → P x) → All P xs
all_in P [] h = All-nil P
all_in P (x ∷ xs) h = All-cons P x xs (h x (inl refl)) (all_in P xs (λ y i. h y (inr i)))

-- ---- what a receive begins with has maps of the present world

module _ (w : World) (name : Name) where
  new_from : AreMapsFrom w.file_systems (with_new_file_system w name).file_systems
  new_from = put_maps w.file_systems name empty_file_system (λ m h. ⊎_elim (λ (e : m ≡ finmap.empty). inl e) (λ none. absurd none) h)

  full_from : (mode : Receiving) → AreMapsFrom w.file_systems (before_full w name mode).file_systems
  full_from Plain = new_from
  full_from Back = new_from
  full_from Past = new_from
  full_from (Origin origin) = new_from
  full_from Replace = by_system (get w.file_systems name)
    where
      by_system : (x : Option FileSystem) → AreMapsFrom w.file_systems (option_map_or (λ (f : FileSystem). record w { file_systems = insert w.file_systems name (vacated f) }) x w).file_systems
      by_system None = same_maps w.file_systems
      by_system (Some f) = put_maps w.file_systems name (vacated f) (λ m h. ⊎_elim (λ (e : m ≡ finmap.empty). inl e) (λ none. absurd none) h)

  -- a clone has the map of a snapshot
  clone_from : (id : SnapId) → AreMapsFrom w.file_systems (with_clone w id name).file_systems
  unfolding map_of
  clone_from id = put_maps w.file_systems name (record empty_file_system { live = map_of_snap w (Some id); origin = Some id })
      (λ m h. ⊎_elim (λ (e : m ≡ map_of_snap w (Some id)). by_snap m (snap_at w id) refl e) (λ none. absurd none) h)
    where
      by_snap : (m : Map) (x : Option (Name × Snap)) → snap_at w id ≡ x → m ≡ option_map_or (λ (p : Name × Snap). p.1.map) (snap_at w id) finmap.empty
          → (m ≡ finmap.empty) ⊎ ((other : Name) × (t : FileSystem) × (get w.file_systems other ≡ Some t) × IsIn (maps_of t) m)
      by_snap m None e is = inl (is ∙ ap (λ x. option_map_or (λ (p : Name × Snap). p.1.map) x finmap.empty) e)
      by_snap m (Some p) e is =
          let k = from_snap_at w id p e in
          inr (p.0, k.0, k.1, of_snap k.0 p.1 m k.2 (is ∙ ap (λ x. option_map_or (λ (p : Name × Snap). p.1.map) x finmap.empty) e))

  incremental_from : (source : ℕ) (mode : Receiving) → AreMapsFrom w.file_systems (before_incremental w name source mode).file_systems
  incremental_from source Plain = same_maps w.file_systems
  incremental_from source Back = by_newest (newest_of w name) refl
    where
      by_newest : (x : Option Snap) → newest_of w name ≡ x → AreMapsFrom w.file_systems (option_map_or (λ (t : Snap). with_losses w (with_file_system w name (back_to_newest t))) x w).file_systems
      by_newest None e = same_maps w.file_systems
      by_newest (Some t) e = changed_from w name (back_to_newest t) (λ f m at h. ⊎_elim
          (λ (is : m ≡ t.map). of_snap f t m (newest_there f.snaps t (newest_at f at)) is)
          inr
          h)
        where
          newest_at : (f : FileSystem) → get w.file_systems name ≡ Some f → last_or None f.snaps ≡ Some t
          newest_at f at = ap (λ x. option_and_then (λ (f : FileSystem). last_or None f.snaps) x) (sym at) ∙ e
  incremental_from source Past = by_source (source_of w name source) refl
    where
      by_source : (x : Option (FileSystem × Snap)) → source_of w name source ≡ x
          → AreMapsFrom w.file_systems (option_map_or (λ (p : FileSystem × Snap). with_losses w (with_file_system w name (λ f. back_at f p.1))) x w).file_systems
      by_source None e = same_maps w.file_systems
      by_source (Some p) e =
          let k = from_source w name source p e in
          changed_from w name (λ f. back_at f p.1) (λ f m at h.
          let same = same_value p.0 f (sym k.0 ∙ at) in
          ⊎_elim
          (λ (is : m ≡ p.1.map). of_snap f p.1 m (subst (λ (x : FileSystem). IsIn x.snaps p.1) same k.1) is)
          (λ i. let u = in_map (λ (t : Snap). t.map) (back_at f p.1).snaps m i in of_snap f u.0 m (from_filter (λ (t : Snap). nat_le t.group p.1.group) f.snaps u.0 u.1).0 u.2)
          h)
  incremental_from source (Origin origin) = by_snap (snap_named w origin)
    where
      by_snap : (x : Option Snap) → AreMapsFrom w.file_systems (option_map_or (λ (t : Snap). with_clone w (id_of t) name) x w).file_systems
      by_snap None = same_maps w.file_systems
      by_snap (Some t) = clone_from (id_of t)
  incremental_from source Replace = same_maps w.file_systems

begun_from : (w : World) (name : Name) (sent : Sending) (mode : Receiving) → AreMapsFrom w.file_systems (before_receive w name sent mode).file_systems
begun_from w name sent mode = by_source (sent.source == 0)
  where
    by_source : (b : Bool) → AreMapsFrom w.file_systems (if b then before_full w name mode else before_incremental w name sent.source mode).file_systems
    by_source true = full_from w name mode
    by_source false = incremental_from w name sent.source mode

-- ---- bytes of blocks

long_bytes : (n : ℕ) (m : Map) → IsTree n m → (k : Key) (c : Cell) → get m k ≡ Some c → length (bytes_of m k c) ≡ 512
unfolding bytes_of pointers_of
long_bytes n m tree k c there = by_level (k.level == 0) refl
  where
    by_level : (b : Bool) → (k.level == 0) ≡ b → length (cond b c.bytes (pointers_bytes (k.level - 1) (map (λ i. option_map block_of (get m (child_key k i))) (range_with_len 0 16)))) ≡ 512
    by_level true e = ((subst (λ o. IfSome o (λ (c : Cell). (c.number < n) × HasBytes k c)) there (tree.cells k)).1.0 (eqb-true k.level 0 e)).0
    by_level false e = length-pointers_bytes (k.level - 1) (map (λ i. option_map block_of (get m (child_key k i))) (range_with_len 0 16)) ∙ ap (λ l. 32 * l) (range_long (λ i. option_map block_of (get m (child_key k i))) 16 0)

-- ---- the receive

module _ (s : State) (good : IsPoolState s) (m : Member) (mode : Receiving) (sent : Sending) (i : WorkingCopy) (done : Draft) (is : IsMadeOf s m mode sent i done) (after : IsPoolState (put_freeing s i.to i.freeing)) where
  abbrev w : World
  w = before_receive s.now m.file_system sent mode

  abbrev name : Name
  name = m.file_system

  -- the state that it begins with
  abbrev begun : State
  begun = with_now s (before_receive s.now m.file_system sent mode)

  abbrev now : World
  now = record s.now { file_systems = i.to.file_systems; group = i.to.group; freeing = i.freeing }

  abbrev f : FileSystem
  f = is.there.0.0

  abbrev there : get (before_receive s.now m.file_system sent mode).file_systems m.file_system ≡ Some is.there.0.0
  there = is.there.0.1

  abbrev new : Map
  new = is.change.change.new

  abbrev ch : Changes
  ch = changes_of sent.records

  change : IsChange is.there.0.0.live (changes_of sent.records) (before_receive s.now m.file_system sent mode).group (young_of (datasets_of begun) m.file_system s.last.group) is.states is.change.change
  change = subst (λ x. IsChange x ch w.group (young_of (datasets_of begun) name s.last.group) is.states is.change.change) (ap (λ x. option_map_or (λ (f : FileSystem). f.live) x finmap.empty) there) is.change.is

  written : is.written.file_systems ≡ insert (before_receive s.now m.file_system sent mode).file_systems m.file_system (record is.there.0.0 { live = is.change.change.new })
  written = ap (λ (t : Datasets). t.file_systems) is.change.to_is ∙ ap (λ x. option_map_or (λ (f : FileSystem). insert w.file_systems name (record f { live = new })) x w.file_systems) there

  written_at : get is.written.file_systems m.file_system ≡ Some (record is.there.0.0 { live = is.change.change.new })
  written_at = ap (λ ss. get ss name) written ∙ put_here w.file_systems name (record f { live = new })

  kept : i.to.file_systems ≡ insert is.written.file_systems m.file_system (with_snap (record is.there.0.0 { live = is.change.change.new }) m.component sent.target is.written.group)
  kept = ap (λ (t : Datasets). t.file_systems) is.kept
      ∙ ap (λ x. (option_map_or (λ (g : FileSystem). record is.written { group = is.written.group + 1; file_systems = insert is.written.file_systems name (with_snap g m.component sent.target is.written.group) }) x (record is.written { group = is.written.group + 1 })).file_systems) written_at

  kept_at : get i.to.file_systems m.file_system ≡ Some (with_snap (record is.there.0.0 { live = is.change.change.new }) m.component sent.target is.written.group)
  kept_at = ap (λ ss. get ss name) kept ∙ put_here is.written.file_systems name (with_snap (record f { live = new }) m.component sent.target is.written.group)

  here : map_of (record s.now { file_systems = i.to.file_systems; group = i.to.group; freeing = i.freeing }) (Live m.file_system) ≡ is.change.change.new
  here = map_of_live now name (with_snap (record f { live = new }) m.component sent.target is.written.group) kept_at

  live_now : live_of i.to.file_systems m.file_system ≡ is.change.change.new
  live_now = ap (λ x. option_map_or (λ (g : FileSystem). g.live) x finmap.empty) kept_at

  beside : AreMapsBeside is.change.change.new (before_receive s.now m.file_system sent mode).file_systems i.to.file_systems
  beside = subst (AreMapsBeside new w.file_systems) (sym kept)
      (kept_beside w.file_systems name (record f { live = new }) new _ refl is.written.file_systems (subst (AreMapsBeside new w.file_systems) (sym written) (put_beside w.file_systems name f there new)) written_at refl)

  tree : IsTree s.size is.change.change.new
  tree = subst (IsTree s.size) here (after.now.trees (Live name))

  unique : IsUnique is.change.change.new
  unique = unique_in (maps_of_both now s.last) (InNow (Live name)) new here after.pair.cells

  from_now : (image : ℕ → List ℕ) → IsStored s image → IsStored begun image
  from_now image stored = stored_stay s begun good image (record { now = inl (begun_from s.now name sent mode); last = inr (same_maps s.last.file_systems) }) stored

  old_map : map_of (before_receive s.now m.file_system sent mode) (Live m.file_system) ≡ is.there.0.0.live
  old_map = map_of_live w name f there

  rises : (image : ℕ → List ℕ) → IsStored begun image → AreBirthsRising is.change.change.new
  rises image stored = subst AreBirthsRising (sym change.new_is)
      (rewrite_rises f.live ch w.group change.number (subst AreBirthsRising old_map (stored.rising (InNow (Live name))))
      (λ k x at. is.begun.pair.reached.born (block_of x) (cell_reached s.size w is.begun.now (Live name) k x (ap (λ y. get y k) old_map ∙ at))))

  -- the tree has a block at each key that the change tells
  present_at : (b : NewBlock) → IsIn done.made.items b → IsSome (get is.change.change.new b.key)
  present_at b h =
      let j = subst (λ l. IsIn l (made_pair b)) is.change.made (map_in made_pair done.made.items b h) in
      let made = (change.made b.key b.block.0).0 j in
      ap is_some (ap (λ y. get y b.key) change.new_is) ∙ sym (same_presence f.live ch 0 w.group (λ _. 0) change.number b.key) ∙ made.0.1

  pub present : ArePresent (live_of i.to.file_systems m.file_system) done.made.items
  present = subst (λ y. ArePresent y done.made.items) (sym live_now) (all_in (λ (b : NewBlock). IsSome (get new b.key)) done.made.items present_at)

  module _ (blocks : Vec (BlockNo × List ℕ) Global)
      (told : map written_pair blocks.items ≡ writes_of (live_of i.to.file_systems m.file_system) (map made_pair done.made.items)) where
    are : map written_pair blocks.items ≡ writes_of is.change.change.new is.change.change.made
    are = told ∙ (λ z. writes_of (live_now z) (is.change.made z))

    in_writes : (b : BlockNo × List ℕ) → IsIn blocks.items b → IsIn (writes_of is.change.change.new is.change.change.made) (written_pair b)
    in_writes b h = subst (λ l. IsIn l (written_pair b)) are (map_in written_pair blocks.items b h)

    open_at : (b : BlockNo × List ℕ) → IsIn blocks.items b → IsOpen (synced_numbers s.size s.last) b.0.0
    open_at b h =
        let k = each_young f.live ch w.group (young_of (datasets_of begun) name s.last.group) is.states is.change.change change unique (written_pair b) (in_writes b h) in
        subst (λ n. IsOpen (synced_numbers s.size s.last) n) k.3
        (number_open begun now is.begun after name new here beside (synced_numbers s.size s.last) (kept_just s good) (kept_long s good) k.0 k.1 k.2 k.4)

    long_at : (b : BlockNo × List ℕ) → IsIn blocks.items b → length b.1 ≡ 512
    long_at b h =
        let e = in_map (λ (e : Key × ℕ). (e.1, unwrap_or (option_map (bytes_of new e.0) (get new e.0)) [])) is.change.change.made (written_pair b) (in_writes b h) in
        let made = (change.made e.0.0 e.0.1).0 e.1 in
        let x = some_of (get new e.0.0) (ap is_some (ap (λ y. get y e.0.0) change.new_is) ∙ sym (same_presence f.live ch 0 w.group (λ _. 0) change.number e.0.0) ∙ made.0.1) in
        ap length (ap (λ (p : ℕ × List ℕ). p.1) e.2 ∙ ap (λ o. unwrap_or (option_map (bytes_of new e.0.0) o) []) x.1) ∙ long_bytes s.size new tree e.0.0 x.0 x.1

    pub each_may : MayWrite (synced_numbers s.size s.last) (Each blocks)
    each_may = (all_in (λ (b : BlockNo × List ℕ). IsOpen (synced_numbers s.size s.last) b.0.0) blocks.items open_at, all_in (λ (b : BlockNo × List ℕ). length b.1 ≡ 512) blocks.items long_at)

    each_stored : (image : ℕ → List ℕ) → IsStored s image → AreStored (maps_of_both now s.last) (blocks_put image (map written_pair blocks.items))
    each_stored image stored =
        let own = from_now image stored in
        subst (λ ws. AreStored (maps_of_both now s.last) (blocks_put image ws)) (sym are)
        (change_stored begun now is.begun after name new here beside image (blocks_put image (writes_of new is.change.change.made))
        (all_made f.live ch w.group (young_of (datasets_of begun) name s.last.group) is.states is.change.change change unique image (subst (HasBlocks image) old_map (own.blocks (InNow (Live name)))))
        (all_within f.live ch w.group (young_of (datasets_of begun) name s.last.group) is.states is.change.change change unique image)
        (rises image own) own)

    each_new : AreMade s (put_freeing s i.to i.freeing) (map written_pair blocks.items)
    each_new = subst (AreMade s (put_freeing s i.to i.freeing)) (sym are)
        (all_new s (put_freeing s i.to i.freeing) name new live_now (writes_of new is.change.change.made) (λ v j.
        let k = each_young f.live ch w.group (young_of (datasets_of begun) name s.last.group) is.states is.change.change change unique v j in
        (k.0, k.1, k.2, k.3, k.4 ∙ before_group s.now m sent mode)))

    pub each_leads : LeadsTo s (put_freeing s i.to i.freeing) (Each blocks)
    each_leads = record { stored = each_stored; made = λ image. each_new }
