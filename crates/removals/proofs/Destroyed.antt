-- Snapshots that are destroyed: those that nothing needs go, and the others are deferred, one after another.
use Rattle.std.proofs.Common.{◌≡◌, Bool, true, false, ◌&&◌, ◌||◌, not, cond, List, [], ◌∷◌, ◌++◌, Option, Some, None, refl, sym, ap, subst, ◌∙◌, true≢false, inl, inr, ⊎_elim, map, length, take, get_or, ℕ, zero, suc, ◌+◌, ◌<◌, ◌≤◌, arith}
use Rattle.std.proofs.lemmas.List.{map-append, take_more}
use Rattle.std.specs.Prelude.{nat_lt, is_some}
use Rattle.std.specs.List.{filter, flat_map, list_any}
use Rattle.std.specs.Option.{option_map, option_map_or}
use Rattle.std.specs.FinMap.{get, same_map}
use Rattle.base.specs.declared.refusal.Refusal.TheVariants.{NoDataset, Busy, HasClones}
use Rattle.base.specs.declared.refusal.Refusal.{Refusal}
use Rattle.base.specs.Surveys.{IsIn}
use Rattle.base.specs.declared.name.member.Member.{Member}
use Rattle.model.specs.declared.destroy_target.DestroyTarget.TheVariants.{Snapshots as SnapshotsGo}
use Rattle.model.specs.World.{World, FileSystem, Snap, SnapId, id_of, same_id, snap_named}
use Rattle.model.specs.State.{Views}
use Rattle.model.specs.Outcome.{is_needed}
use Rattle.model.specs.Edits.{without_snaps}
use Rattle.model.specs.requests.Destroy.{is_one_of, snaps_named, with_deferred}
use Rattle.datasets.specs.Holders.{snap_in_system}
use Rattle.datasets.specs.Rows.{snaps_at}
use Rattle.world.specs.Shapes.{Name, name_order}
use Rattle.world.specs.Worlds.{AreFileSystems}
use Rattle.world.specs.Tables.{Datasets, world_of, without_snap, deferred_snap}
use Rattle.world.proofs.removals.Sweep.{get-with_file_systems}
use Rattle.world.proofs.lists.Finding.{any_none, or_none, from_flat, in_filter, same_id_is}
use Rattle.world.proofs.lists.Listed.{map_in, length-mapped}
use Rattle.world.proofs.lists.Maps.{no_value}
use Rattle.world.proofs.lineage.Bridge.{one_snap}
use Rattle.world.proofs.removals.WithoutSnaps.{get-without, without_twice, without_none}
use Rattle.removals.specs.Found.{found_in, AreThere, removed_or_deferred}
use Rattle.removals.specs.Needs.{has_clone, is_held}
use Rattle.removals.specs.Requests.{destroy_refusal}
use Rattle.removals.proofs.Clones.{outside_is}
use Rattle.removals.proofs.Deferring.{marked_by, by_one, deferred_none, deferred_twice, deferred_gone}
use Rattle.removals.proofs.Identified.{neither, one_of_more}
use Rattle.removals.proofs.Needed.{any_alike, is_held_at, held_at, named_there, found_there, system_at}
use Rattle.snap.proofs.Shared.{any_value}
use Rattle.removals.proofs.Swept.{same_clones}

-- ---- what is found

-- the identities
pub found_ids : (t : Datasets) (ms : List Member) → map (λ (p : Name × Snap). id_of p.1) (found_in t ms) ≡ flat_map (λ m. option_map_or (λ (s : Snap). id_of s ∷ []) (snap_named (world_of t) m) []) ms
found_ids t [] = refl
found_ids t (m ∷ ms) =
    map-append (λ (p : Name × Snap). id_of p.1) (option_map_or (λ (s : Snap). (m.file_system, s) ∷ []) (snap_named (world_of t) m) []) (found_in t ms)
    ∙ (λ i. by_snap (snap_named (world_of t) m) i ++ found_ids t ms i)
  where
    by_snap : (x : Option Snap) → map (λ (p : Name × Snap). id_of p.1) (option_map_or {U = List (Name × Snap)} (λ (s : Snap). (m.file_system, s) ∷ []) x []) ≡ option_map_or (λ (s : Snap). id_of s ∷ []) x []
    by_snap None = refl
    by_snap (Some s) = refl

-- each is where it was found
pub found_there_all : (t : Datasets) (ms : List Member) → AreThere t (found_in t ms)
found_there_all t ms p i =
    let k = from_flat (λ (m : Member). option_map_or (λ (s : Snap). (m.file_system, s) ∷ []) (snap_named (world_of t) m) []) ms p i in
    by_snap k.0 (snap_named (world_of t) k.0) refl k.2
  where
    by_snap : (m : Member) (x : Option Snap) → snap_named (world_of t) m ≡ x → IsIn (option_map_or {U = List (Name × Snap)} (λ (s : Snap). (m.file_system, s) ∷ []) x []) p → IsIn (snaps_at t.file_systems p.0) p.1
    by_snap m None e j = absurd j
    by_snap m (Some s) e j =
        let there = named_there t m s e in
        ⊎_elim
        (λ (same : p ≡ (m.file_system, s)). subst (λ (q : Name × Snap). IsIn (snaps_at t.file_systems q.0) q.1) (sym same)
        (subst (λ (y : Option FileSystem). IsIn (option_map_or (λ (f : FileSystem). f.snaps) y []) s) (sym there.1) there.2))
        (λ k. absurd k)
        j

-- one more of them
pub more_ids : (all : List (Name × Snap)) (i : ℕ) (p : Name × Snap) → i < length all → p ≡ get_or all i p
    → map (λ (q : Name × Snap). id_of q.1) (take (i + 1) all) ≡ map (λ (q : Name × Snap). id_of q.1) (take i all) ++ id_of p.1 ∷ []
more_ids all i p lt is =
    ap (map (λ (q : Name × Snap). id_of q.1)) (take_more all i p lt ∙ ap (λ q. take i all ++ q ∷ []) (sym is))
    ∙ map-append (λ (q : Name × Snap). id_of q.1) (take i all) (p ∷ [])

pub in_place : {A : Type 0} (xs : List A) (i : ℕ) (x : A) → i < length xs → x ≡ get_or xs i x → IsIn xs x
in_place [] i x lt is = absurd (omega arith)
in_place (y ∷ ys) zero x lt is = inl is
in_place (y ∷ ys) (suc i) x lt is = inr (in_place ys i x (omega arith) is)

-- all of them
pub whole_ids : (all : List (Name × Snap)) (i : ℕ) → length all ≤ i → take i all ≡ all
whole_ids [] zero le = refl
whole_ids [] (suc i) le = refl
whole_ids (x ∷ xs) zero le = absurd (omega arith)
whole_ids (x ∷ xs) (suc i) le = ap (λ l. x ∷ l) (whole_ids xs i (omega arith))

-- why they aren't destroyed, by what was found
abbrev pub refusal_found : Datasets → Views → Bool → List (Name × Snap) → Option Refusal
refusal_found t views defer all =
    cond (not (nat_lt 0 (length all))) (Some NoDataset)
    (cond (not defer && list_any (λ p. is_held views p.1) all) (Some Busy) (cond (not defer && list_any (λ p. has_clone t (id_of p.1)) all) (Some HasClones) None))

module _ (t : Datasets) (good : AreFileSystems t.file_systems t.group) (views : Views) (names : List Member) (recursive defer : Bool) (all : List (Name × Snap))
    (ids : map (λ (p : Name × Snap). id_of p.1) all ≡ snaps_named (world_of t) names recursive) (there : AreThere t all) where
  held : list_any (is_held_at t views) (snaps_named (world_of t) names recursive) ≡ list_any (λ (p : Name × Snap). is_held views p.1) all
  held =
      ap (list_any (is_held_at t views)) (sym ids) ∙ sym (any_value (λ (p : Name × Snap). id_of p.1) (is_held_at t views) all)
      ∙ any_alike (λ (p : Name × Snap). is_held_at t views (id_of p.1)) (λ p. is_held views p.1) all
      (λ p i. let k = system_at t p.0 p.1 (there p i) in held_at t good views p.0 k.0 p.1 k.1 k.2)

  cloned : list_any (has_clone t) (snaps_named (world_of t) names recursive) ≡ list_any (λ (p : Name × Snap). has_clone t (id_of p.1)) all
  cloned = ap (list_any (has_clone t)) (sym ids) ∙ sym (any_value (λ (p : Name × Snap). id_of p.1) (has_clone t) all)

  count : length (snaps_named (world_of t) names recursive) ≡ length all
  count = ap length (sym ids) ∙ length-mapped (λ (p : Name × Snap). id_of p.1) all

  pub refusal_is : destroy_refusal t views (SnapshotsGo names) recursive defer ≡ refusal_found t views defer all
  refusal_is = λ i. cond {A = Option Refusal} (not (nat_lt 0 (count i))) (Some NoDataset)
      (cond (not defer && held i) (Some Busy) (cond (not defer && (outside_is t (snaps_named (world_of t) names recursive) ∙ cloned) i) (Some HasClones) None))

  -- where nothing refuses it, none has a clone
  pub none_cloned : destroy_refusal t views (SnapshotsGo names) recursive defer ≡ None → (not defer && list_any (λ (p : Name × Snap). has_clone t (id_of p.1)) all) ≡ false
  none_cloned e =
      by_tests (nat_lt 0 (length all)) (not defer && list_any (λ (p : Name × Snap). is_held views p.1) all) (not defer && list_any (λ (p : Name × Snap). has_clone t (id_of p.1)) all)
      (sym refusal_is ∙ e)
    where
      by_tests : (some busy used : Bool) → cond {A = Option Refusal} (not some) (Some NoDataset) (cond busy (Some Busy) (cond used (Some HasClones) None)) ≡ None → used ≡ false
      by_tests false busy used e = absurd (no_value NoDataset (sym e))
      by_tests true true used e = absurd (no_value Busy (sym e))
      by_tests true false true e = absurd (no_value HasClones (sym e))
      by_tests true false false e = refl

-- and none that goes
pub goes_uncloned : (t : Datasets) (views : Views) (defer : Bool) (all : List (Name × Snap)) → (not defer && list_any (λ (p : Name × Snap). has_clone t (id_of p.1)) all) ≡ false
    → (p : Name × Snap) → IsIn all p → (defer && is_needed (world_of t) views p.1) ≡ false → has_clone t (id_of p.1) ≡ false
goes_uncloned t views true all none p i e = (or_none _ (has_clone t (id_of p.1)) (or_none (nat_lt 0 (length p.1.tags)) _ e).1).1
goes_uncloned t views false all none p i e = any_none (λ (q : Name × Snap). has_clone t (id_of q.1)) all none p i

-- ---- what is left

abbrev left_by : (Snap → Bool) → List Snap → List Snap
left_by r us = filter (λ u. not (r u)) us

get-parted : (w : World) (p q : Snap → Bool) (n : Name)
    → get (with_deferred (without_snaps w p) q).file_systems n ≡ option_map (λ (f : FileSystem). record f { snaps = map (marked_by q) (left_by p f.snaps) }) (get w.file_systems n)
get-parted w p q n =
    get-with_file_systems (without_snaps w p) (λ _ f. record f { snaps = map (marked_by q) f.snaps }) n
    ∙ ap (option_map (λ (f : FileSystem). record f { snaps = map (marked_by q) f.snaps })) (get-without w p n)
    ∙ twice (get w.file_systems n)
  where
    twice : (x : Option FileSystem)
        → option_map (λ (f : FileSystem). record f { snaps = map (marked_by q) f.snaps }) (option_map (λ (f : FileSystem). record f { snaps = left_by p f.snaps }) x)
        ≡ option_map (λ (f : FileSystem). record f { snaps = map (marked_by q) (left_by p f.snaps) }) x
    twice None = refl
    twice (Some f) = refl

-- snapshots gone and others marked, by tests that agree
module _ (w : World) (p q : Snap → Bool) (p' q' : Snap → Bool)
    (goes : (n : Name) (f : FileSystem) (u : Snap) → get w.file_systems n ≡ Some f → IsIn f.snaps u → p u ≡ p' u)
    (marks : (n : Name) (f : FileSystem) (u : Snap) → get w.file_systems n ≡ Some f → IsIn f.snaps u → p u ≡ false → q u ≡ q' u) where
  same_left : (us : List Snap) → ((u : Snap) → IsIn us u → p u ≡ p' u) → ((u : Snap) → IsIn us u → p u ≡ false → q u ≡ q' u) → map (marked_by q) (left_by p us) ≡ map (marked_by q') (left_by p' us)
  same_left [] a b = refl
  same_left (u ∷ us) a b =
      by_test (p u) refl (same_left us (λ v i. a v (inr i)) (λ v i. b v (inr i)))
      ∙ ap (λ x. map (marked_by q') (cond (not x) (u ∷ left_by p' us) (left_by p' us))) (a u (inl refl))
    where
      by_test : (x : Bool) → p u ≡ x → map (marked_by q) (left_by p us) ≡ map (marked_by q') (left_by p' us)
          → map (marked_by q) (left_by p (u ∷ us)) ≡ map (marked_by q') (cond (not (p u)) (u ∷ left_by p' us) (left_by p' us))
      by_test true e ih =
          ap (λ x. map (marked_by q) (cond (not x) (u ∷ left_by p us) (left_by p us))) e ∙ ih
          ∙ sym (ap (λ x. map (marked_by q') (cond (not x) (u ∷ left_by p' us) (left_by p' us))) e)
      by_test false e ih =
          ap (λ x. map (marked_by q) (cond (not x) (u ∷ left_by p us) (left_by p us))) e
          ∙ (λ i. record u { deferred = u.deferred || b u (inl refl) e i } ∷ ih i)
          ∙ sym (ap (λ x. map (marked_by q') (cond (not x) (u ∷ left_by p' us) (left_by p' us))) e)

  pub alike_after : (with_deferred (without_snaps w p) q).file_systems ≡ (with_deferred (without_snaps w p') q').file_systems
  alike_after = same_map name_order.total name_order.exact _ _ (λ n. get-parted w p q n ∙ by_system n (get w.file_systems n) refl ∙ sym (get-parted w p' q' n))
    where
      by_system : (n : Name) (x : Option FileSystem) → get w.file_systems n ≡ x
          → option_map (λ (f : FileSystem). record f { snaps = map (marked_by q) (left_by p f.snaps) }) x ≡ option_map (λ (f : FileSystem). record f { snaps = map (marked_by q') (left_by p' f.snaps) }) x
      by_system n None e = refl
      by_system n (Some f) e = ap (λ l. Some (record f { snaps = l })) (same_left f.snaps (λ u i. goes n f u e i) (λ u i. marks n f u e i))

-- some of them are gone or deferred
module _ (t : Datasets) (good : AreFileSystems t.file_systems t.group) (needed : Snap → Bool) where
  pub parted_none : removed_or_deferred t needed [] ≡ t
  parted_none = ap (λ ss. record t { file_systems = ss })
      (deferred_none (without_snaps (world_of t) (λ u. false)) (λ u. false) (λ n f u at i. refl) ∙ without_none (world_of t) (λ u. false) (λ n f u at i. refl))

  module _ (ids : List SnapId) where
    abbrev goes_of : Snap → Bool
    goes_of u = is_one_of ids u && not (needed u)

    abbrev marks_of : Snap → Bool
    marks_of u = is_one_of ids u && needed u

    abbrev after_of : FileSystem → FileSystem
    after_of f = record f { snaps = map (marked_by marks_of) (left_by goes_of f.snaps) }

    -- a snapshot that isn't one of them is still there
    pub parted_there : (name : Name) (f : FileSystem) (s : Snap) → get t.file_systems name ≡ Some f → IsIn f.snaps s → is_one_of ids s ≡ false
        → is_some (snap_in_system (removed_or_deferred t needed ids) name (id_of s)) ≡ true
    parted_there name f s at i out =
        found_there (removed_or_deferred t needed ids) name (after_of f) (marked_by marks_of s) (get-parted (world_of t) goes_of marks_of name ∙ ap (option_map after_of) at)
        (map_in (marked_by marks_of) (left_by goes_of f.snaps) s (in_filter (λ u. not (goes_of u)) f.snaps s i (ap (λ b. not (b && not (needed s))) out)))

    pub parted_clones : (id : SnapId) → has_clone (removed_or_deferred t needed ids) id ≡ has_clone t id
    parted_clones id = same_clones t (removed_or_deferred t needed ids) (λ n. ap (option_map (λ (f : FileSystem). f.origin)) (get-parted (world_of t) goes_of marks_of n) ∙ by_system (get t.file_systems n)) id
      where
        by_system : (x : Option FileSystem) → option_map (λ (f : FileSystem). f.origin) (option_map after_of x) ≡ option_map (λ (f : FileSystem). f.origin) x
        by_system None = refl
        by_system (Some f) = refl

    -- and one more
    module _ (name : Name) (f : FileSystem) (s : Snap) (at : get t.file_systems name ≡ Some f) (i : IsIn f.snaps s) where
      abbrev more : List SnapId
      more = ids ++ id_of s ∷ []

      abbrev is_it : Snap → Bool
      is_it u = same_id (id_of u) (id_of s)

      one_more : (u : Snap) → is_one_of more u ≡ (is_one_of ids u || is_it u)
      one_more u = one_of_more ids (id_of s) u

      -- it alone has the identity
      same_need : (n : Name) (g : FileSystem) (u : Snap) → get t.file_systems n ≡ Some g → IsIn g.snaps u → is_it u ≡ true → needed u ≡ needed s
      same_need n g u there j e = ap needed (one_snap t.file_systems t.group good.lines n name g f u s there at j i (same_id_is (id_of u) (id_of s) e)).1

      pub deferred_more : needed s ≡ true → deferred_snap (removed_or_deferred t needed ids) (id_of s) ≡ removed_or_deferred t needed more
      deferred_more need = ap (λ ss. record t { file_systems = ss })
          (deferred_twice (without_snaps (world_of t) goes_of) marks_of is_it (λ u. marks_of u || is_it u) (by_one (id_of s)) (λ u. refl)
          ∙ alike_after (world_of t) goes_of (λ u. marks_of u || is_it u) (λ u. is_one_of more u && not (needed u)) (λ u. is_one_of more u && needed u)
          (λ n g u there j. goes_alike (is_one_of ids u) (is_it u) (needed u) (λ e. same_need n g u there j e ∙ need) ∙ ap (λ b. b && not (needed u)) (sym (one_more u)))
          (λ n g u there j e. marks_alike (is_one_of ids u) (is_it u) (needed u) (λ e. same_need n g u there j e ∙ need) ∙ ap (λ b. b && needed u) (sym (one_more u))))
        where
          goes_alike : (a b k : Bool) → (b ≡ true → k ≡ true) → (a && not k) ≡ ((a || b) && not k)
          goes_alike true b k h = refl
          goes_alike false false k h = refl
          goes_alike false true k h = sym (ap not (h refl))

          marks_alike : (a b k : Bool) → (b ≡ true → k ≡ true) → ((a && k) || b) ≡ ((a || b) && k)
          marks_alike true true k h = ap (λ c. c || true) (h refl) ∙ sym (h refl)
          marks_alike true false true h = refl
          marks_alike true false false h = refl
          marks_alike false true k h = sym (h refl)
          marks_alike false false k h = refl

      pub removed_more : needed s ≡ false → without_snap (removed_or_deferred t needed ids) (id_of s) ≡ removed_or_deferred t needed more
      removed_more free = ap (λ ss. record t { file_systems = ss })
          (deferred_gone (without_snaps (world_of t) goes_of) marks_of is_it (by_one (id_of s))
          ∙ ap (λ ss. (with_deferred (record (world_of t) { file_systems = ss }) marks_of).file_systems)
          (without_twice (world_of t) goes_of is_it (λ u. goes_of u || is_it u) (λ u. neither (goes_of u) (is_it u)))
          ∙ alike_after (world_of t) (λ u. goes_of u || is_it u) marks_of (λ u. is_one_of more u && not (needed u)) (λ u. is_one_of more u && needed u)
          (λ n g u there j. goes_alike (is_one_of ids u) (is_it u) (needed u) (λ e. same_need n g u there j e ∙ free) ∙ ap (λ b. b && not (needed u)) (sym (one_more u)))
          (λ n g u there j e. marks_alike (is_one_of ids u) (is_it u) (needed u) e ∙ ap (λ b. b && needed u) (sym (one_more u))))
        where
          goes_alike : (a b k : Bool) → (b ≡ true → k ≡ false) → ((a && not k) || b) ≡ ((a || b) && not k)
          goes_alike true true k h = ap (λ c. not c || true) (h refl) ∙ sym (ap not (h refl))
          goes_alike true false true h = refl
          goes_alike true false false h = refl
          goes_alike false true k h = sym (ap not (h refl))
          goes_alike false false k h = refl

          marks_alike : (a b k : Bool) → ((a && not k) || b) ≡ false → (a && k) ≡ ((a || b) && k)
          marks_alike true b k h = refl
          marks_alike false true k h = absurd (true≢false h)
          marks_alike false false k h = refl

      -- that goes twice changes nothing: where it isn't there any more, it was one of them
      pub gone_already : is_some (snap_in_system (removed_or_deferred t needed ids) name (id_of s)) ≡ false → removed_or_deferred t needed ids ≡ removed_or_deferred t needed more
      gone_already out = ap (λ ss. record t { file_systems = ss })
          (alike_after (world_of t) goes_of marks_of (λ u. is_one_of more u && not (needed u)) (λ u. is_one_of more u && needed u)
          (λ n g u there j. ap (λ b. b && not (needed u)) (same u)) (λ n g u there j e. ap (λ b. b && needed u) (same u)))
        where
          or_false : (a : Bool) → (a || false) ≡ a
          or_false true = refl
          or_false false = refl

          or_true : (a : Bool) → (a || true) ≡ true
          or_true true = refl
          or_true false = refl

          one : (b : Bool) → is_one_of ids s ≡ b → is_one_of ids s ≡ true
          one true e = e
          one false e = absurd (true≢false (sym (parted_there name f s at i e) ∙ out))

          by_test : (u : Snap) (b : Bool) → is_it u ≡ b → is_one_of ids u ≡ (is_one_of ids u || b)
          by_test u false e = sym (or_false (is_one_of ids u))
          by_test u true e = ap (λ k. list_any (same_id k) ids) (same_id_is (id_of u) (id_of s) e) ∙ one (is_one_of ids s) refl
              ∙ sym (or_true (is_one_of ids u))

          same : (u : Snap) → is_one_of ids u ≡ is_one_of more u
          same u = by_test u (is_it u) refl ∙ sym (one_more u)
