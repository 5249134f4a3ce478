-- A view that is closed: the one snapshot that goes with it is all that nothing needs any more.
use Rattle.std.proofs.Common.{◌≡◌, ℕ, Bool, true, false, cond, not, ◌&&◌, ◌||◌, List, [], ◌∷◌, length, Option, Some, None, refl, sym, ap, ◌∙◌, true≢false, inl, inr, ⊎_elim}
use Rattle.std.specs.Prelude.{is_some, nat_lt}
use Rattle.std.specs.List.{filter}
use Rattle.std.specs.Option.{option_map, option_and_then}
use Rattle.std.specs.FinMap.{get, remove, same_map}
use Rattle.std.proofs.lemmas.Bool.{and_parts}
use Rattle.base.specs.Surveys.{IsIn}
use Rattle.model.specs.World.{FileSystem, Snap, SnapId, id_of, same_id, snap_at}
use Rattle.model.specs.State.{Views, is_viewed}
use Rattle.model.specs.Outcome.{is_needed}
use Rattle.world.specs.Shapes.{Name, name_order}
use Rattle.world.specs.Worlds.{AreFileSystems}
use Rattle.world.specs.Tables.{Datasets, world_of, without_snap}
use Rattle.world.proofs.lists.Maps.{no_value, same_value}
use Rattle.world.proofs.lists.Finding.{same_id_is, is_same_id}
use Rattle.world.proofs.lineage.Bridge.{from_snap_at, snap_is_at, one_snap}
use Rattle.world.proofs.removals.WithoutSnaps.{get-without, without_none}
use Rattle.removals.specs.Needs.{has_clone, is_kept}
use Rattle.removals.specs.Families.{unneeded}
use Rattle.removals.specs.Requests.{swept, gone_with, IsSweptBy}
use Rattle.datasets.specs.Holders.{snap_in_system}
use Rattle.removals.proofs.Needed.{found_there, not_true, needed_is, kept_parts, if_due, unneeded_parts}
use Rattle.removals.proofs.Seen.{viewed_beside}

pub filter_alike : (p q : Snap → Bool) (us : List Snap) → ((u : Snap) → IsIn us u → p u ≡ q u) → filter (λ u. not (p u)) us ≡ filter (λ u. not (q u)) us
filter_alike p q [] each = refl
filter_alike p q (u ∷ us) each = (λ i. cond (not (each u (inl refl) i)) (u ∷ filter (λ u. not (p u)) us) (filter (λ u. not (p u)) us)) ∙ ap (λ l. cond (not (q u)) (u ∷ l) l) (filter_alike p q us (λ v i. each v (inr i)))

module _ (t : Datasets) (good : AreFileSystems t.file_systems t.group) (views : Views) (clean : IsSweptBy t views) (number : ℕ) where
  abbrev left : Views
  left = remove views number

  abbrev goes : Snap → Bool
  goes u = u.deferred && not (is_needed (world_of t) left u)

  -- who goes is shown by this view alone, and nothing else needs it
  from_goes : (n : Name) (f : FileSystem) (u : Snap) → get t.file_systems n ≡ Some f → IsIn f.snaps u → goes u ≡ true
      → (u.deferred ≡ true) × (get views number ≡ Some (id_of u)) × (is_kept t left u ≡ false)
  from_goes n f u at i e =
      let parts = and_parts u.deferred (not (is_needed (world_of t) left u)) e in
      let free = sym (needed_is t left u) ∙ not_true (is_needed (world_of t) left u) parts.1 in
      (parts.0, shown free (sym (needed_is t views u) ∙ clean n f u at i parts.0), free)
    where
      shown : is_kept t left u ≡ false → is_kept t views u ≡ true → get views number ≡ Some (id_of u)
      shown free kept = by_view (is_viewed views (id_of u)) refl
        where
          none : (nat_lt 0 (length u.tags) ≡ false) × (is_viewed left (id_of u) ≡ false) × (has_clone t (id_of u) ≡ false)
          none = kept_parts t left u free

          by_view : (b : Bool) → is_viewed views (id_of u) ≡ b → get views number ≡ Some (id_of u)
          by_view true v = ⊎_elim (λ s. absurd (true≢false (sym s ∙ none.1))) (λ s. s) (viewed_beside views number (id_of u) v)
          by_view false v = absurd (true≢false (sym kept ∙ (λ j. (none.0 j || v j) || none.2 j)))

  -- nothing goes
  pub none_goes : gone_with t views number ≡ None → swept t left ≡ t
  none_goes none = ap (λ ss. record t { file_systems = ss }) (without_none (world_of t) goes (λ n f u at i. by_test n f u at i (goes u) refl))
    where
      by_test : (n : Name) (f : FileSystem) (u : Snap) → get t.file_systems n ≡ Some f → IsIn f.snaps u → (b : Bool) → goes u ≡ b → goes u ≡ false
      by_test n f u at i false e = e
      by_test n f u at i true e =
          let k = from_goes n f u at i e in
          absurd (no_value (n, u) (sym none
          ∙ ap (option_and_then (unneeded t left)) k.1
          ∙ ap (option_and_then (if_due t left (id_of u))) (snap_is_at (world_of t) t.group good.lines n f u (id_of u) at i refl)
          ∙ (λ j. cond {A = Option (Name × Snap)} (k.0 j && not (k.2 j)) (Some (n, u)) None)))

  -- one goes
  module _ (p : Name × Snap) (is : gone_with t views number ≡ Some p) where
    -- the view that showed it
    shown : (id : SnapId) × (get views number ≡ Some id) × (snap_at (world_of t) id ≡ Some p) × (p.1.deferred ≡ true) × (is_kept t left p.1 ≡ false)
    shown = by_view (get views number) refl is
      where
        by_view : (x : Option SnapId) → get views number ≡ x → option_and_then (unneeded t left) x ≡ Some p
            → (id : SnapId) × (get views number ≡ Some id) × (snap_at (world_of t) id ≡ Some p) × (p.1.deferred ≡ true) × (is_kept t left p.1 ≡ false)
        by_view None a e = absurd (no_value p e)
        by_view (Some id) a e = let k = unneeded_parts t left id p e in (id, a, k.0, k.1, k.2)

    -- it is there, and has no clone
    pub goes_there : is_some (snap_in_system t p.0 (id_of p.1)) ≡ true
    goes_there = let k = from_snap_at (world_of t) shown.0 p shown.2 in found_there t p.0 k.0 p.1 k.1 k.2

    pub goes_uncloned : has_clone t (id_of p.1) ≡ false
    goes_uncloned = (kept_parts t left p.1 shown.4).2

    pub one_goes : without_snap t (id_of p.1) ≡ swept t left
    one_goes = ap (λ ss. record t { file_systems = ss })
        (same_map name_order.total name_order.exact _ _ (λ n. get-without (world_of t) (λ u. same_id (id_of u) (id_of p.1)) n ∙ by_system n (get t.file_systems n) refl ∙ sym (get-without (world_of t) goes n)))
      where
        alike : (n : Name) (f : FileSystem) (u : Snap) → get t.file_systems n ≡ Some f → IsIn f.snaps u → same_id (id_of u) (id_of p.1) ≡ goes u
        alike n f u at i = by_same (same_id (id_of u) (id_of p.1)) refl
          where
            there : (g : FileSystem) × (get t.file_systems p.0 ≡ Some g) × IsIn g.snaps p.1 × (id_of p.1 ≡ shown.0)
            there = from_snap_at (world_of t) shown.0 p shown.2

            others : (b : Bool) → goes u ≡ b → same_id (id_of u) (id_of p.1) ≡ false → false ≡ goes u
            others false e other = sym e
            others true e other =
                let k = from_goes n f u at i e in
                let ids : id_of u ≡ id_of p.1 = same_value (id_of u) shown.0 (sym k.1 ∙ shown.1) ∙ sym there.3 in
                absurd (true≢false (sym (is_same_id (id_of u) (id_of p.1) ids) ∙ other))

            by_same : (b : Bool) → same_id (id_of u) (id_of p.1) ≡ b → same_id (id_of u) (id_of p.1) ≡ goes u
            by_same true e =
                let one : u ≡ p.1 = (one_snap t.file_systems t.group good.lines n p.0 f there.0 u p.1 at there.1 i there.2 (same_id_is (id_of u) (id_of p.1) e)).1 in
                e ∙ sym (ap goes one ∙ (λ j. shown.3 j && not ((needed_is t left p.1 ∙ shown.4) j)))
            by_same false e = e ∙ others (goes u) refl e

        by_system : (n : Name) (x : Option FileSystem) → get t.file_systems n ≡ x
            → option_map (λ (f : FileSystem). record f { snaps = filter (λ u. not (same_id (id_of u) (id_of p.1))) f.snaps }) x ≡ option_map (λ (f : FileSystem). record f { snaps = filter (λ u. not (goes u)) f.snaps }) x
        by_system n None at = refl
        by_system n (Some f) at = ap (λ l. Some (record f { snaps = l })) (filter_alike (λ u. same_id (id_of u) (id_of p.1)) goes f.snaps (λ u i. alike n f u at i))
