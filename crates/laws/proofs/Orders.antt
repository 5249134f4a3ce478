-- What each edit of a world leaves in order: snapshots, origins and bookmarks.
use Rattle.std.proofs.Common.{◌≡◌, ◌<◌, ℕ, ◌+◌, Bool, true, false, not, ◌||◌, List, [], ◌∷◌, ◌++◌, Option, Some, None, refl, sym, ap, subst, ◌∙◌, ◌⊎◌, inl, inr, ⊎_elim, true≢false, map, arith}
use Rattle.std.specs.Prelude.{if◌then◌else◌}
use Rattle.std.specs.List.{filter, list_any}
use Rattle.std.specs.Option.{option_map, option_map_or}
use Rattle.std.specs.FinMap.{get, insert}
use Rattle.std.specs.FinMap as finmap
use Rattle.base.specs.Surveys.{IsIn}
use Rattle.base.specs.Names.{same_name}
use Rattle.base.specs.declared.name.member.Member.{Member}
use Rattle.model.specs.World.{World, FileSystem, Snap, SnapId, Bookmark, Snapped, id_of, same_id}
use Rattle.model.specs.Edits.{with_file_system, with_file_systems, with_losses, with_tags, with_next_group, without_snaps}
use Rattle.model.specs.requests.Destroy.{with_deferred, without_file_systems}
use Rattle.model.specs.requests.Snapshot.{snap_of_live, with_snapshots, has_twice}
use Rattle.world.specs.Dead.{IsThere, HasNoCloneIn}
use Rattle.world.specs.RunLaws.{HasSnap}
use Rattle.world.specs.Shapes.{Name, name_order}
use Rattle.world.specs.Worlds.{AreRising}
use Rattle.world.proofs.removals.Families.{retained_there, from_retained}
use Rattle.world.proofs.lists.Finding.{any_none, or_none, in_filter, from_filter, in_left, name_itself}
use Rattle.world.proofs.lists.Listed.{map_in}
use Rattle.world.proofs.lists.Maps.{same_value, no_value, key_cases}
use Rattle.world.proofs.lineage.Put.{put_here, put_other, put_cases}
use Rattle.world.proofs.removals.Sweep.{get-with_file_systems}
use Rattle.world.proofs.views.Viewed.{AreOnce, AreClosed, IsSafe, some_deferred, one_tagged}
use Rattle.world.proofs.views.ViewedRequests.{added_safe}
use Rattle.world.proofs.views.ViewedTakes.{taken_safe}
use Rattle.laws.specs.Lineages.{origin_group, IsOrdered}
use Rattle.laws.proofs.Lineages.{there_closed}
use Rattle.laws.proofs.Rising.{rising_filter, rising_mapped, rising_added}
use Rattle.model.specs.requests.RenameSnapshot.{with_snaps_renamed}
use Rattle.world.proofs.changes.SnapNames.{renames, renames_kept, with_names}
use Rattle.world.proofs.views.ViewedSnapNames.{named_once, named_closed}

-- ---- file systems that go on

-- What a file system of a world leaves: its origin and the order of its snapshots; a snapshot that is gone had no clone
pub record IsFollowed (w : World) (f later : FileSystem) : Type 0 where
  pub origin : later.origin ≡ f.origin
  pub rising : AreRising (origin_group f.origin) f.snaps → AreRising (origin_group f.origin) later.snaps
  pub marks : (at : List ℕ) (b : Bookmark) → get later.bookmarks at ≡ Some b → b.group < w.group
  pub stays : (t : Snap) → IsIn f.snaps t → ((u : Snap) × IsIn later.snaps u × (id_of u ≡ id_of t)) ⊎ HasNoCloneIn w.file_systems (id_of t)

module _ (w : World) (o : IsOrdered w) where
  -- where its snapshots and bookmarks stay
  pub same_followed : (a : Name) (f later : FileSystem) → get w.file_systems a ≡ Some f → later.origin ≡ f.origin → later.snaps ≡ f.snaps
      → ((at : List ℕ) (b : Bookmark) → get later.bookmarks at ≡ Some b → b.group < w.group) → IsFollowed w f later
  same_followed a f later at origin snaps marks = record {
    origin = origin;
    rising = λ up. subst (AreRising (origin_group f.origin)) (sym snaps) up;
    marks = marks;
    stays = λ t h. inl (t, subst (λ l. IsIn l t) (sym snaps) h, refl);
  }

  pub itself_followed : (a : Name) (f : FileSystem) → get w.file_systems a ≡ Some f → IsFollowed w f f
  itself_followed a f at = same_followed a f f at refl refl (λ mark b h. o.marks a mark f b at h)

  -- each file system of a later world follows one, and each is followed, or is gone with its clones
  pub followed_ordered : (new : World) → new.group ≡ w.group → AreOnce new → AreClosed new
      → ((a : Name) (later : FileSystem) → get new.file_systems a ≡ Some later → (f : FileSystem) × (get w.file_systems a ≡ Some f) × IsFollowed w f later)
      → ((a : Name) (f : FileSystem) → get w.file_systems a ≡ Some f
      → ((later : FileSystem) × (get new.file_systems a ≡ Some later) × IsFollowed w f later) ⊎ ((t : Snap) → IsIn f.snaps t → HasNoCloneIn new.file_systems (id_of t)))
      → IsOrdered new
  followed_ordered new group once closed from to = record {
    once = once;
    closed = closed;
    marks = λ a mark later b at h. let k = (from a later at).2.marks mark b h in omega arith;
    rising = λ a later at.
        let k = from a later at in
        subst (λ x. AreRising (origin_group x) later.snaps) (sym k.2.origin) (k.2.rising (o.rising a k.0 k.1));
    origins = λ a later id at i.
        let k = from a later at in
        let e = sym k.2.origin ∙ i in
        still a later at id i k.0 k.1 e (o.origins a k.0 id k.1 e);
    begun = let b = o.begun in omega arith;
  }
    where
      still : (a : Name) (later : FileSystem) → get new.file_systems a ≡ Some later → (id : SnapId) → later.origin ≡ Some id
          → (f : FileSystem) → get w.file_systems a ≡ Some f → f.origin ≡ Some id → IsThere w (Snapped id) → IsThere new (Snapped id)
      still a later at id i f was e (q, x, t, there, h, ids) = ⊎_elim
          (λ (y, now, followed). ⊎_elim
          (λ (u, k, same). (q, y, u, now, k, same ∙ ids))
          (λ none. absurd (none a f was (e ∙ ap Some (sym ids))))
          (followed.stays t h))
          (λ none. absurd (none t h a later at (i ∙ ap Some (sym ids))))
          (to q x there)

  -- ---- edits

  -- one file system changed
  pub one_ordered : (name : Name) (change : FileSystem → FileSystem) → AreOnce (with_file_system w name change) → AreClosed (with_file_system w name change)
      → ((f : FileSystem) → get w.file_systems name ≡ Some f → IsFollowed w f (change f)) → IsOrdered (with_file_system w name change)
  one_ordered name change once closed each = by_system (get w.file_systems name) refl once closed
    where
      by_system : (x : Option FileSystem) → get w.file_systems name ≡ x
          → AreOnce (option_map_or (λ s. record w { file_systems = insert w.file_systems name (change s) }) x w)
          → AreClosed (option_map_or (λ s. record w { file_systems = insert w.file_systems name (change s) }) x w)
          → IsOrdered (option_map_or (λ s. record w { file_systems = insert w.file_systems name (change s) }) x w)
      by_system None e once closed = o
      by_system (Some s) e once closed = followed_ordered (record w { file_systems = insert w.file_systems name (change s) }) refl once closed
          (λ a later at. ⊎_elim
          (λ k. (s, ap (get w.file_systems) k.0 ∙ e, subst (IsFollowed w s) (sym k.1) (each s e)))
          (λ k. (later, k.1, itself_followed a later k.1))
          (put_cases w.file_systems name (change s) a later at))
          (λ a f at. inl (⊎_elim
          (λ (same : a ≡ name).
          let one = same_value s f (sym e ∙ ap (get w.file_systems) (sym same) ∙ at) in
          (change s, ap (get (insert w.file_systems name (change s))) same ∙ put_here w.file_systems name (change s), subst (λ x. IsFollowed w x (change s)) one (each s e)))
          (λ (ne : ¬ (a ≡ name)). (f, put_other w.file_systems name (change s) a ne ∙ at, itself_followed a f at))
          (key_cases name_order a name)))

  -- every file system changed
  pub all_ordered : (change : List ℕ → FileSystem → FileSystem) → AreOnce (with_file_systems w change) → AreClosed (with_file_systems w change)
      → ((a : Name) (f : FileSystem) → get w.file_systems a ≡ Some f → IsFollowed w f (change a f)) → IsOrdered (with_file_systems w change)
  all_ordered change once closed each = followed_ordered (with_file_systems w change) refl once closed
      (λ a later at. by_old a later (get w.file_systems a) refl (sym (get-with_file_systems w change a) ∙ at))
      (λ a f at. inl (change a f, get-with_file_systems w change a ∙ ap (option_map (change a)) at, each a f at))
    where
      by_old : (a : Name) (later : FileSystem) (x : Option FileSystem) → get w.file_systems a ≡ x → option_map (change a) x ≡ Some later
          → (f : FileSystem) × (get w.file_systems a ≡ Some f) × IsFollowed w f later
      by_old a later None e k = absurd (no_value later k)
      by_old a later (Some f) e k = (f, e, subst (IsFollowed w f) (same_value (change a f) later k) (each a f e))

  -- some of its snapshots gone, none of which has a clone
  pub without_ordered : (goes : Snap → Bool)
      → ((a : Name) (f : FileSystem) (t : Snap) → get w.file_systems a ≡ Some f → IsIn f.snaps t → goes t ≡ true → HasNoCloneIn w.file_systems (id_of t))
      → IsOrdered (without_snaps w goes)
  without_ordered goes none = all_ordered (λ _ s. record s { snaps = filter (λ t. not (goes t)) s.snaps })
      (λ a b t u h k ids. o.once a b t u (was a t h) (was b u k) ids)
      (λ a t h. o.closed a t (was a t h))
      (λ a f at. record {
        origin = refl;
        rising = rising_filter (λ t. not (goes t)) (origin_group f.origin) f.snaps;
        marks = λ mark b h. o.marks a mark f b at h;
        stays = λ t h. by_test a f t at h (goes t) refl;
      })
    where
      by_old : (a : Name) (t : Snap) (later : FileSystem) → IsIn later.snaps t → (x : Option FileSystem) → get w.file_systems a ≡ x
          → option_map (λ (s : FileSystem). record s { snaps = filter (λ t. not (goes t)) s.snaps }) x ≡ Some later → HasSnap w a t
      by_old a t later h None e k = absurd (no_value later k)
      by_old a t later h (Some f) e k =
          (f, e, (from_filter (λ (t : Snap). not (goes t)) f.snaps t (subst (λ (x : FileSystem). IsIn x.snaps t) (sym (same_value (record f { snaps = filter (λ t. not (goes t)) f.snaps }) later k)) h)).0)

      was : (a : Name) (t : Snap) → HasSnap (without_snaps w goes) a t → HasSnap w a t
      was a t (later, at, h) =
          by_old a t later h (get w.file_systems a) refl (sym (get-with_file_systems w (λ _ s. record s { snaps = filter (λ t. not (goes t)) s.snaps }) a) ∙ at)

      by_test : (a : Name) (f : FileSystem) (t : Snap) → get w.file_systems a ≡ Some f → IsIn f.snaps t → (b : Bool) → goes t ≡ b
          → ((u : Snap) × IsIn (filter (λ t. not (goes t)) f.snaps) u × (id_of u ≡ id_of t)) ⊎ HasNoCloneIn w.file_systems (id_of t)
      by_test a f t at h true e = inr (none a f t at h e)
      by_test a f t at h false e = inl (t, in_filter (λ (t : Snap). not (goes t)) f.snaps t h (ap not e), refl)

  -- each of its snapshots changed, but not in identity
  mapped_followed : (change : Snap → Snap) → ((t : Snap) → id_of (change t) ≡ id_of t) → (a : Name) (f : FileSystem) → get w.file_systems a ≡ Some f
      → IsFollowed w f (record f { snaps = map {A = Snap} change f.snaps })
  mapped_followed change same a f at = record {
    origin = refl;
    rising = rising_mapped change (λ t. ap (λ (x : SnapId). x.group) (same t)) (origin_group f.origin) f.snaps;
    marks = λ mark b h. o.marks a mark f b at h;
    stays = λ t h. inl (change t, map_in change f.snaps t h, same t);
  }

  pub deferred_ordered : (some : Snap → Bool) → IsOrdered (with_deferred w some)
  deferred_ordered some = all_ordered (λ _ f. record f { snaps = map {A = Snap} (λ t. record t { deferred = t.deferred || some t }) f.snaps }) safe.once safe.closed
      (mapped_followed (λ t. record t { deferred = t.deferred || some t }) (λ t. refl))
    where
      safe : IsSafe finmap.empty w (with_deferred w some)
      safe = some_deferred w some finmap.empty o.once o.closed

  pub tagged_ordered : (id : SnapId) (tags : List (List ℕ)) → IsOrdered (with_tags w id tags)
  tagged_ordered id tags = all_ordered (λ _ f. record f { snaps = map {A = Snap} (λ t. if same_id (id_of t) id then record t { tags = tags } else t) f.snaps }) safe.once safe.closed
      (mapped_followed (λ t. if same_id (id_of t) id then record t { tags = tags } else t) (λ t. by_test t (same_id (id_of t) id)))
    where
      safe : IsSafe finmap.empty w (with_tags w id tags)
      safe = one_tagged w id tags finmap.empty o.once o.closed

      by_test : (t : Snap) (b : Bool) → id_of (if b then record t { tags = tags } else t) ≡ id_of t
      by_test t true = refl
      by_test t false = refl

  pub named_ordered : (m : Member) (to : List ℕ) (recursive : Bool) → IsOrdered (with_snaps_renamed w m to recursive)
  named_ordered m to recursive = all_ordered (with_names m to recursive) (named_once w m to recursive o.once o.closed) (named_closed w m to recursive o.once o.closed)
      (λ a. mapped_followed (renames m to recursive a) (λ t. (renames_kept m to recursive a t).0) a)

  -- what is to be freed is no matter
  pub losses_ordered : (old : World) → IsOrdered (with_losses old w)
  losses_ordered old = record { once = o.once; closed = o.closed; marks = o.marks; rising = o.rising; origins = o.origins; begun = o.begun }

  -- one file system more, without snapshots and bookmarks
  pub added_ordered : (name : Name) (f : FileSystem) → f.snaps ≡ [] → ((at : List ℕ) (b : Bookmark) → get f.bookmarks at ≡ Some b → ⊥)
      → ((id : SnapId) → f.origin ≡ Some id → IsThere w (Snapped id)) → get w.file_systems name ≡ None
      → IsOrdered (record w { file_systems = insert w.file_systems name f })
  added_ordered name f bare unmarked origin absent = record {
    once = safe.once;
    closed = safe.closed;
    marks = λ a mark x b at h. ⊎_elim
        (λ k. absurd (unmarked mark b (ap (λ (y : FileSystem). get y.bookmarks mark) (sym k.1) ∙ h)))
        (λ k. o.marks a mark x b k.1 h)
        (put_cases w.file_systems name f a x at);
    rising = λ a x at. ⊎_elim
        (λ k. subst (λ (y : FileSystem). AreRising (origin_group y.origin) y.snaps) (sym k.1) (subst (AreRising (origin_group f.origin)) (sym bare) tt))
        (λ k. o.rising a x k.1)
        (put_cases w.file_systems name f a x at);
    origins = λ a x id at i. still id (⊎_elim
        (λ k. origin id (ap (λ (y : FileSystem). y.origin) (sym k.1) ∙ i))
        (λ k. o.origins a x id k.1 i)
        (put_cases w.file_systems name f a x at));
    begun = o.begun;
  }
    where
      safe : IsSafe finmap.empty w (record w { file_systems = insert w.file_systems name f })
      safe = added_safe finmap.empty w name f bare o.once o.closed absent

      still : (id : SnapId) → IsThere w (Snapped id) → IsThere (record w { file_systems = insert w.file_systems name f }) (Snapped id)
      still id (q, x, t, at, h, ids) =
          (q, x, t, put_other w.file_systems name f q (λ same. no_value x (sym absent ∙ ap (get w.file_systems) (sym same) ∙ at)) ∙ at, h, ids)

  -- some file systems gone, with all clones of their snapshots
  pub left_ordered : (names : List Name)
      → ((a : Name) (f : FileSystem) (t : Snap) (q : Name) (x : FileSystem) → get w.file_systems a ≡ Some f → IsIn f.snaps t → list_any (same_name a) names ≡ true
      → get w.file_systems q ≡ Some x → x.origin ≡ Some (id_of t) → list_any (same_name q) names ≡ true)
      → IsOrdered (without_file_systems w names)
  left_ordered names with_clones = followed_ordered (without_file_systems w names) refl
      (λ a b t u h k ids. o.once a b t u (was a t h) (was b u k) ids)
      (λ a t h. o.closed a t (was a t h))
      (λ a later at. let k = (from_retained w.file_systems (λ n. not (list_any (same_name n) names)) a later at).1 in (later, k, itself_followed a later k))
      (λ a f at. by_test a f at (list_any (same_name a) names) refl)
    where
      was : (a : Name) (t : Snap) → HasSnap (without_file_systems w names) a t → HasSnap w a t
      was a t (f, at, h) = (f, (from_retained w.file_systems (λ n. not (list_any (same_name n) names)) a f at).1, h)

      by_test : (a : Name) (f : FileSystem) → get w.file_systems a ≡ Some f → (b : Bool) → list_any (same_name a) names ≡ b
          → ((later : FileSystem) × (get (without_file_systems w names).file_systems a ≡ Some later) × IsFollowed w f later)
          ⊎ ((t : Snap) → IsIn f.snaps t → HasNoCloneIn (without_file_systems w names).file_systems (id_of t))
      by_test a f at false e = inl (f, retained_there w.file_systems (λ n. not (list_any (same_name n) names)) a (ap not e) ∙ at, itself_followed a f at)
      by_test a f at true e = inr (λ t h q x is i.
          let k = from_retained w.file_systems (λ n. not (list_any (same_name n) names)) q x is in
          true≢false (sym k.0 ∙ ap not (with_clones a f t q x at h e k.1 i)))

-- ---- snapshots taken

-- a world in which some of a list of snapshots are taken, and these aren't yet
record IsTaking (w v : World) (ms : List Member) : Type 0 where
  group : v.group ≡ w.group
  from : (a : Name) (later : FileSystem) → get v.file_systems a ≡ Some later
      → (f : FileSystem) × (get w.file_systems a ≡ Some f) × (later.origin ≡ f.origin) × (later.bookmarks ≡ f.bookmarks)
      × ((later.snaps ≡ f.snaps) ⊎ (((m : Member) → IsIn ms m → m.file_system ≡ a → ⊥) × ((t : Snap) × (later.snaps ≡ f.snaps ++ t ∷ []) × (t.group ≡ w.group))))
  stays : (a : Name) (t : Snap) → HasSnap w a t → HasSnap v a t

take_all : (ms : List Member) (w v : World) (guid : ℕ) → has_twice ms ≡ false → IsTaking w v ms → IsTaking w (with_snapshots v guid ms) []
take_all [] w v guid apart taking = taking
take_all (m ∷ ms) w v guid apart taking = by_system (get v.file_systems m.file_system) refl (λ x. take_all ms w x (guid + 1) split.1)
  where
    split : (list_any (λ n. same_name n.file_system m.file_system) ms ≡ false) × (has_twice ms ≡ false)
    split = or_none (list_any (λ (n : Member). same_name n.file_system m.file_system) ms) (has_twice ms) apart

    twice : (k : Member) → IsIn ms k → k.file_system ≡ m.file_system → ⊥
    twice k i e = true≢false (sym (ap (λ n. same_name n m.file_system) e ∙ name_itself m.file_system)
        ∙ any_none (λ (n : Member). same_name n.file_system m.file_system) ms split.0 k i)

    fewer : (a : Name) (later f : FileSystem)
        → (later.snaps ≡ f.snaps) ⊎ (((k : Member) → IsIn (m ∷ ms) k → k.file_system ≡ a → ⊥) × ((t : Snap) × (later.snaps ≡ f.snaps ++ t ∷ []) × (t.group ≡ w.group)))
        → (later.snaps ≡ f.snaps) ⊎ (((k : Member) → IsIn ms k → k.file_system ≡ a → ⊥) × ((t : Snap) × (later.snaps ≡ f.snaps ++ t ∷ []) × (t.group ≡ w.group)))
    fewer a later f (inl e) = inl e
    fewer a later f (inr k) = inr ((λ n i e. k.0 n (inr i) e), k.1)

    by_system : (x : Option FileSystem) → get v.file_systems m.file_system ≡ x → ((y : World) → IsTaking w y ms → IsTaking w (with_snapshots y (guid + 1) ms) [])
        → IsTaking w (with_snapshots (option_map_or (λ s. record v { file_systems = insert v.file_systems m.file_system (record s { snaps = s.snaps ++ snap_of_live v s m.component guid ∷ [] }) }) x v) (guid + 1) ms) []
    by_system None e rest = rest v (record {
      group = taking.group;
      from = λ a later at. let k = taking.from a later at in (k.0, k.1, k.2, k.3, fewer a later k.0 k.4);
      stays = taking.stays;
    })
    by_system (Some s) e rest = rest (record v { file_systems = insert v.file_systems m.file_system (longer s) }) (record {
      group = taking.group;
      from = λ a later at. ⊎_elim
          (λ (k : (a ≡ m.file_system) × (later ≡ longer s)). taken a later k.0 k.1)
          (λ (k : (¬ (a ≡ m.file_system)) × (get v.file_systems a ≡ Some later)).
          let r = taking.from a later k.1 in
          (r.0, r.1, r.2, r.3, fewer a later r.0 r.4))
          (put_cases v.file_systems m.file_system (longer s) a later at);
      stays = λ a t h. still a t (taking.stays a t h);
    })
      where
        longer : FileSystem → FileSystem
        longer x = record x { snaps = x.snaps ++ snap_of_live v x m.component guid ∷ [] }

        taken : (a : Name) (later : FileSystem) → a ≡ m.file_system → later ≡ longer s
            → (f : FileSystem) × (get w.file_systems a ≡ Some f) × (later.origin ≡ f.origin) × (later.bookmarks ≡ f.bookmarks)
            × ((later.snaps ≡ f.snaps) ⊎ (((k : Member) → IsIn ms k → k.file_system ≡ a → ⊥) × ((t : Snap) × (later.snaps ≡ f.snaps ++ t ∷ []) × (t.group ≡ w.group))))
        taken a later same is =
            let r = taking.from a s (ap (get v.file_systems) same ∙ e) in (
              r.0,
              r.1,
              ap (λ (x : FileSystem). x.origin) is ∙ r.2,
              ap (λ (x : FileSystem). x.bookmarks) is ∙ r.3,
              inr (
                (λ k i j. twice k i (j ∙ same)),
                (
                  snap_of_live v s m.component guid,
                  ap (λ (x : FileSystem). x.snaps) is ∙ ap (λ l. l ++ snap_of_live v s m.component guid ∷ [])
                      (⊎_elim (λ k. k) (λ k. absurd (k.0 m (inl refl) (sym same))) r.4),
                  taking.group,
                ),
              ),
            )

        still : (a : Name) (t : Snap) → HasSnap v a t → HasSnap (record v { file_systems = insert v.file_systems m.file_system (longer s) }) a t
        still a t (f, at, h) = ⊎_elim
            (λ (same : a ≡ m.file_system).
            let one = same_value f s (sym at ∙ ap (get v.file_systems) same ∙ e) in (
              longer s,
              ap (get (insert v.file_systems m.file_system (longer s))) same ∙ put_here v.file_systems m.file_system (longer s),
              in_left s.snaps (snap_of_live v s m.component guid ∷ []) t (subst (λ (x : FileSystem). IsIn x.snaps t) one h),
            ))
            (λ (ne : ¬ (a ≡ m.file_system)). (f, put_other v.file_systems m.file_system (longer s) a ne ∙ at, h))
            (key_cases name_order a m.file_system)

-- snapshots of file systems that stand once in a list, and the group closed
pub taken_ordered : (w : World) → IsOrdered w → (guid : ℕ) (ms : List Member) → has_twice ms ≡ false → IsOrdered (with_next_group (with_snapshots w guid ms))
taken_ordered w o guid ms apart = record {
  once = safe.once;
  closed = safe.closed;
  marks = λ a mark later b at h.
      let k = taking.from a later at in
      let l = o.marks a mark k.0 b k.1 (ap (λ m. get m mark) (sym k.3) ∙ h) in
      let g = taking.group in
      omega arith;
  rising = λ a later at.
      let k = taking.from a later at in
      subst (λ x. AreRising (origin_group x) later.snaps) (sym k.2) (rises a k.0 later k.1 k.4);
  origins = λ a later id at i.
      let k = taking.from a later at in
      still id (o.origins a k.0 id k.1 (sym k.2 ∙ i));
  begun = omega arith;
}
  where
    safe : IsSafe finmap.empty w (with_next_group (with_snapshots w guid ms))
    safe = taken_safe finmap.empty w guid ms o.once o.closed

    taking : IsTaking w (with_snapshots w guid ms) []
    taking = take_all ms w w guid apart (record { group = refl; from = λ a f at. (f, at, refl, refl, inl refl); stays = λ a t h. h })

    low : (a : Name) (f : FileSystem) → get w.file_systems a ≡ Some f → (x : Option SnapId) → f.origin ≡ x → origin_group x < w.group
    low a f at None e = o.begun
    low a f at (Some id) e = there_closed w o id (o.origins a f id at e)

    rises : (a : Name) (f later : FileSystem) → get w.file_systems a ≡ Some f
        → (later.snaps ≡ f.snaps) ⊎ (((m : Member) → IsIn [] m → m.file_system ≡ a → ⊥) × ((t : Snap) × (later.snaps ≡ f.snaps ++ t ∷ []) × (t.group ≡ w.group)))
        → AreRising (origin_group f.origin) later.snaps
    rises a f later at (inl e) = subst (AreRising (origin_group f.origin)) (sym e) (o.rising a f at)
    rises a f later at (inr (left, (t, e, g))) =
        let l = low a f at f.origin refl in
        subst (AreRising (origin_group f.origin)) (sym e) (rising_added (origin_group f.origin) f.snaps t (o.rising a f at) (omega arith)
        (λ u h. let c = o.closed a u (f, at, h) in omega arith))

    still : (id : SnapId) → IsThere w (Snapped id) → IsThere (with_next_group (with_snapshots w guid ms)) (Snapped id)
    still id (q, f, t, at, h, ids) = let k = taking.stays q t (f, at, h) in (q, k.0, t, k.1, k.2, ids)
