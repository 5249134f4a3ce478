-- The newer ones of the snapshots that an iterator has yielded.
use Rattle.std.proofs.Common.{◌≡◌, ℕ, ◌<◌, Bool, true, false, cond, List, [], ◌∷◌, ◌++◌, Some, Bor, map, refl, sym, ap, subst, ◌∙◌, inl, inr, ⊎_elim, arith}
use Rattle.std.specs.Prelude.{nat_lt, is_some}
use Rattle.std.specs.List.{filter}
use Rattle.std.specs.FinMap.{get}
use Rattle.model.specs.World.{Snap, SnapId, id_of}
use Rattle.model.specs.requests.Destroy.{is_one_of}
use Rattle.datasets.specs.Holders.{snap_in_system}
use Rattle.datasets.specs.Rows.{Entry}
use Rattle.snapshots.specs.declared.kept.Kept.{Kept}
use Rattle.datasets.specs.Dead.{snaps_in}
use Rattle.world.specs.Tables.{Datasets, without_snap}
use Rattle.world.specs.Worlds.{AreFileSystems, AreRising}
use Rattle.base.specs.Surveys.{IsIn}
use Rattle.world.proofs.lineage.Bridge.{start, rising, rising_above}
use Rattle.world.proofs.lists.Finding.{append_none, from_filter}
use Rattle.world.proofs.lists.Listed.{in_map}
use Rattle.world.proofs.removals.WithoutSnaps.{any_from}
use Rattle.snap.proofs.Yielded.{snaps_yielded}
use Rattle.removals.proofs.Identified.{without_ids, ids_then, ids_there}

-- the identities of those of these snapshots that are of a later group than this one
abbrev pub later_ids : ℕ → List Snap → List SnapId
later_ids group us = map {A = Snap} id_of (filter (λ u. nat_lt group u.group) us)

abbrev pub newer_yielded : ℕ → List (Bor Kept) → List SnapId
newer_yielded group xs = later_ids group (map (λ x. x.now.snapshot) xs)

newer_join : (group : ℕ) (xs : List (Bor Kept)) (x : Bor Kept) → newer_yielded group (xs ++ x ∷ []) ≡ newer_yielded group xs ++ later_ids group (x.now.snapshot ∷ [])
newer_join group [] x = refl
newer_join group (y ∷ ys) x = by_test (nat_lt group y.now.snapshot.group) (newer_join group ys x)
  where
    by_test : (b : Bool) → newer_yielded group (ys ++ x ∷ []) ≡ newer_yielded group ys ++ later_ids group (x.now.snapshot ∷ [])
        → map {A = Snap} id_of (cond b (y.now.snapshot ∷ filter (λ u. nat_lt group u.group) (map (λ z. z.now.snapshot) (ys ++ x ∷ []))) (filter (λ u. nat_lt group u.group) (map (λ z. z.now.snapshot) (ys ++ x ∷ []))))
        ≡ map {A = Snap} id_of (cond b (y.now.snapshot ∷ filter (λ u. nat_lt group u.group) (map (λ z. z.now.snapshot) ys)) (filter (λ u. nat_lt group u.group) (map (λ z. z.now.snapshot) ys))) ++ later_ids group (x.now.snapshot ∷ [])
    by_test true ih = ap (λ l. id_of y.now.snapshot ∷ l) ih
    by_test false ih = ih

module _ (t u : Datasets) (group : ℕ) (xs : List (Bor Kept)) (x : Bor Kept) (so_far : u ≡ without_ids t (newer_yielded group xs)) where
  -- a newer one goes
  pub newer_goes : nat_lt group x.now.snapshot.group ≡ true → (v : Datasets) → v ≡ without_snap u (id_of x.now.snapshot) → v ≡ without_ids t (newer_yielded group (xs ++ x ∷ []))
  newer_goes newer v is =
      is ∙ ap (λ w. without_snap w (id_of x.now.snapshot)) so_far
      ∙ ids_then t (newer_yielded group xs) (id_of x.now.snapshot)
      ∙ ap (λ b. without_ids t (newer_yielded group xs ++ map {A = Snap} id_of (cond b (x.now.snapshot ∷ []) []))) (sym newer)
      ∙ ap (without_ids t) (sym (newer_join group xs x))

  -- another one stays
  pub older_stays : nat_lt group x.now.snapshot.group ≡ false → u ≡ without_ids t (newer_yielded group (xs ++ x ∷ []))
  older_stays older =
      so_far ∙ ap (without_ids t) (sym (append_none (newer_yielded group xs)))
      ∙ ap (λ b. without_ids t (newer_yielded group xs ++ map {A = Snap} id_of (cond b (x.now.snapshot ∷ []) []))) (sym older)
      ∙ ap (without_ids t) (sym (newer_join group xs x))

-- all that a file system has
pub all_yielded : (group : ℕ) (us : List Snap) (xs : List (Bor Kept)) → us ≡ snaps_in (map (λ x. x.now) xs) → newer_yielded group xs ≡ later_ids group us
all_yielded group us xs is = ap (later_ids group) (snaps_yielded xs ∙ sym is)

-- one that is yielded is there
pub kept_here : (us : List Snap) (xs : List Kept) (x : Kept) (ys : List Kept) → us ≡ snaps_in (xs ++ x ∷ ys) → IsIn us x.snapshot
kept_here us xs x ys is = subst (λ l. IsIn l x.snapshot) (sym is) (among xs)
  where
    among : (zs : List Kept) → IsIn (snaps_in (zs ++ x ∷ ys)) x.snapshot
    among [] = inl refl
    among (z ∷ zs) = inr (among zs)

-- those before it are older
before_it : (base : ℕ) (xs : List Kept) (x : Kept) (ys : List Kept) → AreRising base (snaps_in (xs ++ x ∷ ys)) → (u : Snap) → IsIn (snaps_in xs) u → u.group < x.snapshot.group
before_it base [] x ys rises u i = absurd i
before_it base (z ∷ zs) x ys rises u i = ⊎_elim
    (λ (e : u ≡ z.snapshot).
    let l = rising_above z.snapshot.group (snaps_in (zs ++ x ∷ ys)) x.snapshot rises.1 (kept_here (snaps_in (zs ++ x ∷ ys)) zs x ys refl) in
    let m = ap (λ (y : Snap). y.group) e in
    omega (arith, l, m))
    (λ k. before_it z.snapshot.group zs x ys rises.1 u k)
    i

-- one that is yielded hasn't gone with those before it
module _ (t : Datasets) (good : AreFileSystems t.file_systems t.group) (r : Entry) (at : get t.file_systems r.0 ≡ Some r.1) (group : ℕ) (xs : List (Bor Kept)) (x : Kept) (ys : List Kept)
    (is : r.1.snaps ≡ snaps_in (map (λ y. y.now) xs ++ x ∷ ys)) where
  out : is_one_of (newer_yielded group xs) x.snapshot ≡ false
  out = by_test (is_one_of (newer_yielded group xs) x.snapshot) refl
    where
      by_test : (b : Bool) → is_one_of (newer_yielded group xs) x.snapshot ≡ b → is_one_of (newer_yielded group xs) x.snapshot ≡ false
      by_test false e = e
      by_test true e =
          let front : List Snap = map (λ (y : Bor Kept). y.now.snapshot) xs in
          let v = in_map (λ (u : Snap). id_of u) (filter (λ (u : Snap). nat_lt group u.group) front) (id_of x.snapshot) (any_from (newer_yielded group xs) (id_of x.snapshot) e) in
          let among = subst (λ l. IsIn l v.0) (snaps_yielded xs) (from_filter (λ (u : Snap). nat_lt group u.group) front v.0 v.1).0 in
          let low = (start t.file_systems t.group good.lines r.0 r.1 at).base in
          let rises = subst (AreRising low) is (rising t.file_systems t.group good.lines r.0 r.1 at) in
          let l = before_it low (map (λ (y : Bor Kept). y.now) xs) x ys rises v.0 among in
          let m = ap (λ (i : SnapId). i.group) v.2 in
          absurd (omega (arith, l, m))

  pub newer_there : (u : Datasets) → u ≡ without_ids t (newer_yielded group xs) → is_some (snap_in_system u r.0 (id_of x.snapshot)) ≡ true
  newer_there u so_far =
      ap (λ (w : Datasets). is_some (snap_in_system w r.0 (id_of x.snapshot))) so_far
      ∙ ids_there t (newer_yielded group xs) r.0 r.1 x.snapshot at (kept_here r.1.snaps (map (λ (y : Bor Kept). y.now) xs) x ys is) out
