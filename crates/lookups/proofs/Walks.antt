-- Walks over the snapshots of a file system.
use Rattle.std.proofs.Common.{◌≡◌, ℕ, ◌<◌, ◌≤◌, Bool, true, false, cond, List, [], ◌∷◌, ◌++◌, Bor, map, Some, None, refl, sym, ap, ◌∙◌, inl, inr, ⊎_elim, arith, ◌||◌, ◌&&◌}
use Rattle.std.specs.Prelude.{nat_lt, nat_le}
use Rattle.std.specs.Option.{option_map, option_or}
use Rattle.std.specs.List.{filter, find, list_any}
use Rattle.std.specs.Iterator.{Yields, YieldsFirstRef}
use Rattle.std.proofs.Math.Bool.{and-false, or-false}
use Rattle.std.proofs.lemmas.Bool.{lt-ltb, le-ltb, lt-leb}
use Rattle.std.proofs.lemmas.List.Folds.{find-append, list_any-append}
use Rattle.std.proofs.lemmas.List.{map-append}
use Rattle.base.specs.Surveys.{IsIn}
use Rattle.model.specs.World.{Snap}
use Rattle.snapshots.specs.declared.kept.Kept.{Kept}
use Rattle.datasets.specs.Dead.{snaps_in}
use Rattle.world.specs.Tables.{Datasets}
use Rattle.world.specs.Worlds.{AreRising}
use Rattle.world.proofs.lineage.Bridge.{rising_above, rising_after}
use Rattle.world.proofs.lists.Finding.{append_none, filter_join}
use Rattle.limits.specs.Space.{newest_group}
use Rattle.snap.proofs.Yielded.{yielded_front, yielded_all, snaps_yielded}
use Rattle.lookups.specs.Ranges.{is_cloned, has_clone_between, group_after, older_than}

-- the snapshots of those that were yielded
abbrev pub passed : List (Bor Kept) → List Snap
passed = map (λ x. x.now.snapshot)

pub passed_more : (xs : List (Bor Kept)) (x : Bor Kept) → passed (xs ++ x ∷ []) ≡ passed xs ++ x.now.snapshot ∷ []
passed_more xs x = map-append {B = Snap} (λ (x : Bor Kept). x.now.snapshot) xs (x ∷ [])

-- at the end of a walk
module _ {S : Type 0} (rest : S → List Kept) (s : S) (xs : List (Bor Kept)) (t : S) (us : List Snap) (y : Yields (YieldsFirstRef rest) s xs t) (all : us ≡ snaps_in (rest s)) where
  pub walked_all : rest t ≡ [] → us ≡ passed xs
  walked_all e = all ∙ ap snaps_in (yielded_all rest s xs t y e) ∙ sym (snaps_yielded xs)

-- and where one more is left
pub walked_to : {S : Type 0} (rest : S → List Kept) (s : S) (xs : List (Bor Kept)) (t : S) (us : List Snap) → Yields (YieldsFirstRef rest) s xs t → us ≡ snaps_in (rest s) → (x : Bor Kept) (ks : List Kept) → rest t ≡ x.now ∷ ks
    → us ≡ passed xs ++ x.now.snapshot ∷ snaps_in ks
walked_to rest s xs t us y all x ks e =
    all ∙ ap snaps_in (yielded_front rest s xs t y ∙ ap (λ l. map (λ x. x.now) xs ++ l) e) ∙ map-append {B = Snap} (λ (k : Kept). k.snapshot) (map (λ x. x.now) xs) (x.now ∷ ks)
    ∙ ap (λ l. l ++ x.now.snapshot ∷ snaps_in ks) (sym (snaps_yielded xs))

-- ---- the newest that passes it

newest_last : (g : ℕ) (us : List Snap) (u : Snap) → newest_group g (us ++ u ∷ []) ≡ u.group
newest_last g [] u = refl
newest_last g (v ∷ vs) u = newest_last v.group vs u

module _ (p : Snap → Bool) (g : ℕ) (us : List Snap) (u : Snap) where
  newest_passes : p u ≡ true → newest_group g (filter p (us ++ u ∷ [])) ≡ u.group
  newest_passes e = ap (newest_group g) (filter_join p us (u ∷ []) ∙ ap (λ b. filter p us ++ cond b (u ∷ []) []) e) ∙ newest_last g (filter p us) u

  newest_stays : p u ≡ false → newest_group g (filter p (us ++ u ∷ [])) ≡ newest_group g (filter p us)
  newest_stays e = ap (newest_group g) (filter_join p us (u ∷ []) ∙ ap (λ b. filter p us ++ cond b (u ∷ []) []) e ∙ append_none (filter p us))

  pub newest_joined : newest_group g (filter p (us ++ u ∷ [])) ≡ cond (p u) u.group (newest_group g (filter p us))
  newest_joined = by_test (p u) refl
    where
      by_test : (b : Bool) → p u ≡ b → newest_group g (filter p (us ++ u ∷ [])) ≡ cond b u.group (newest_group g (filter p us))
      by_test true e = newest_passes e
      by_test false e = newest_stays e

-- ---- none of them passes

pub any_none : (p : Snap → Bool) (us : List Snap) → ((x : Snap) → IsIn us x → p x ≡ false) → list_any p us ≡ false
any_none p [] none = refl
any_none p (u ∷ us) none = λ i. none u (inl refl) i || any_none p us (λ x k. none x (inr k)) i

filter_none : (p : Snap → Bool) (us : List Snap) → ((x : Snap) → IsIn us x → p x ≡ false) → filter p us ≡ []
filter_none p [] none = refl
filter_none p (u ∷ us) none = ap (λ b. cond b (u ∷ filter p us) (filter p us)) (none u (inl refl)) ∙ filter_none p us (λ x k. none x (inr k))

-- ---- at the first that is newer than the last

pub record IsEnd (first last base : ℕ) (us vs : List Snap) (u : Snap) : Type 0 where
  pub before : newest_group base (older_than first us) ≡ newest_group base (older_than first vs)
  pub next : group_after last us ≡ Some u.group
  pub cloned : (t : Datasets) → list_any (has_clone_between t first last) us ≡ list_any (has_clone_between t first last) vs

pub end_is : (first last base g : ℕ) (vs : List Snap) (u : Snap) (ws : List Snap) → first ≤ last → last < u.group → AreRising g (vs ++ u ∷ ws) → find (λ (x : Snap). nat_lt last x.group) vs ≡ None
    → IsEnd first last base (vs ++ u ∷ ws) vs u
end_is first last base g vs u ws order late up none =
    let p = λ (x : Snap). nat_lt x.group first in
    let q = λ (x : Snap). nat_lt last x.group in
    let high : (x : Snap) → IsIn (u ∷ ws) x → last < x.group = λ x i. ⊎_elim (λ (is : x ≡ u). let e = ap (λ (y : Snap). y.group) is in omega (arith, late, e)) (λ k. let l = rising_above u.group ws x (rising_after g vs u ws up) k in omega (arith, l, late)) i in
    record {
      before = ap (newest_group base) (filter_join p vs (u ∷ ws) ∙ ap (λ l. filter p vs ++ l) (filter_none p (u ∷ ws) (λ x i. let l = high x i in le-ltb x.group first (omega (arith, l, order)))) ∙ append_none (filter p vs));
      next = ap (option_map (λ (x : Snap). x.group)) (find-append q vs (u ∷ ws) ∙ ap (λ o. option_or o (find q (u ∷ ws))) none ∙ ap (λ b. cond b (Some u) (find q ws)) (lt-ltb last u.group late));
      cloned = λ t. list_any-append (has_clone_between t first last) vs (u ∷ ws)
          ∙ ap (λ b. list_any (has_clone_between t first last) vs || b) (any_none (has_clone_between t first last) (u ∷ ws) (λ x i. let l = high x i in ap (λ b. b && is_cloned t x) (ap (λ b. nat_le first x.group && b) (lt-leb x.group last l) ∙ and-false (nat_le first x.group))))
          ∙ or-false (list_any (has_clone_between t first last) vs);
    }
