-- The pool's state: the numbers of its blocks, and the sweep after a step.
use Rattle.std.proofs.Common.{◌≡◌, ℕ, Bool, true, false, not, ◌&&◌, List, [], ◌∷◌, length, Option, Some, None, refl, sym, ap, subst, ◌∙◌, true≢false, ◌⊎◌, inl, inr, ⊎_elim, arith}
use Rattle.std.specs.Prelude.{IsSome, is_some, nat_lt}
use Rattle.std.specs.List.{filter, list_any}
use Rattle.std.specs.Option.{option_map_or}
use Rattle.std.specs.FinMap.{get, entries, values}
use Rattle.std.specs.FinSet.{difference}
use Rattle.std.proofs.lemmas.Bool.{false_from_ne_true, or_left, or_right, lt-ltb, ltb-true, and_parts}
use Rattle.base.specs.Map.{Block}
use Rattle.base.specs.Surveys.{IsIn}
use Rattle.model.specs.World.{World, FileSystem, Snap, SnapId, id_of, same_id, snap_at, map_of, clones_of, union_of, reach_of}
use Rattle.model.specs.State.{State, waiting_of, is_viewed}
use Rattle.model.specs.Numbers.{IsWorldNumbered, IsNumbered}
use Rattle.model.specs.Outcome.{is_needed, state_after_sweep}
use Rattle.model.specs.Edits.{without_snaps, with_losses}
use Rattle.world.specs.Sets.{Has}
use Rattle.world.specs.Blocks.{block_order as o}
use Rattle.world.specs.Shapes.{Name, name_order, view_order}
use Rattle.world.specs.Usage.{IsEntry}
use Rattle.world.specs.Worlds.{IsWorld, AreCellsOne, ArePaired, IsPoolState, InNow, InLast}
use Rattle.world.specs.Reach.{AreNumbersUnique}
use Rattle.world.specs.Dead.{HasNoCloneIn}
use Rattle.world.proofs.lists.SetCounts.{in_union_left, in_union_right, from_difference}
use Rattle.world.proofs.lists.Maps.{entry_of, at_entry}
use Rattle.world.proofs.maps.Cells.{from_number}
use Rattle.world.proofs.lineage.Bridge.{from_snap_at, snap_is_at, from_entries}
use Rattle.world.proofs.lists.Finding.{in_filter, from_filter, is_same_id, same_id_is}
use Rattle.world.proofs.lists.Listed.{in_map, map_in}
use Rattle.world.proofs.changes.Kept.{reach_is}
use Rattle.world.proofs.removals.WithoutSnaps.{without_at, without_good, without_world, without_pairs}

-- ---- numbers

-- in a world over whose maps, and over what it reaches, a number names one block
module _ (size : ℕ) (w : World) (good : IsWorld size w) (cells : AreCellsOne (map_of w)) (unique : AreNumbersUnique (reach_of w)) where
  in_reach : (b : Block) → Has (union_of w) b ⊎ Has w.freeing b → Has (reach_of w) b
  in_reach b h = subst (λ s. Has s b) (sym (reach_is w)) (⊎_elim (λ k. in_union_left o (union_of w) w.freeing b k) (λ k. in_union_right o (union_of w) w.freeing b k) h)

  one_numbered : IsWorldNumbered size w
  one_numbered = record {
    trees = good.trees;
    one_block = cells;
    freeing_apart = λ n h. false_from_ne_true _ (λ k.
        let a = from_number w.freeing n h in
        let b = from_number (union_of w) n k in
        let same = unique b.0 a.0 (in_reach b.0 (inl b.1)) (in_reach a.0 (inr a.1)) (b.2 ∙ sym a.2) in
        good.freeing_apart b.0 b.1 (subst (λ x. Has w.freeing x) (sym same) a.1));
  }

-- so in the present world, and in the last synced one
module _ (size : ℕ) (now last : World) (pair : ArePaired size now last) where
  pub now_numbered : IsWorld size now → IsWorldNumbered size now
  now_numbered good = one_numbered size now good (λ d e. pair.cells (InNow d) (InNow e))
      (λ a b h k. pair.reached.unique a b (in_union_left o (reach_of now) (reach_of last) a h) (in_union_left o (reach_of now) (reach_of last) b k))

  pub last_numbered : IsWorld size last → IsWorldNumbered size last
  last_numbered good = one_numbered size last good (λ d e. pair.cells (InLast d) (InLast e))
      (λ a b h k. pair.reached.unique a b (in_union_right o (reach_of now) (reach_of last) a h) (in_union_right o (reach_of now) (reach_of last) b k))

pub state_numbered : (s : State) → IsPoolState s → IsNumbered s
unfolding waiting_of
state_numbered s good = record {
  world = now_numbered s.size s.now s.last good.pair good.now;
  waiting_apart = λ n h. false_from_ne_true _ (λ k.
      let a = from_number (difference (reach_of s.last) (reach_of s.now)) n h in
      let b = from_number (reach_of s.now) n k in
      let w = from_difference o (reach_of s.last) (reach_of s.now) a.0 a.1 in
      let same = good.pair.reached.unique b.0 a.0 (in_union_left o (reach_of s.now) (reach_of s.last) b.0 b.1) (in_union_right o (reach_of s.now) (reach_of s.last) a.0 w.0) (b.2 ∙ sym a.2) in
      w.1 (subst (λ x. Has (reach_of s.now) x) same b.1));
}

-- ---- the sweep

pub positive : {A : Type 0} (xs : List A) (x : A) → IsIn xs x → nat_lt 0 (length xs) ≡ true
positive [] x h = absurd h
positive (y ∷ ys) x h = lt-ltb 0 (length (y ∷ ys)) (omega arith)

in_entries : (es : List (Name × FileSystem)) (name : Name) (s : FileSystem) → IsEntry es name s → IsIn es (name, s)
in_entries [] name s h = absurd h
in_entries (e ∷ es) name s h = ⊎_elim (λ k. inl (λ i. (k.0 i, k.1 i))) (λ k. inr (in_entries es name s k)) h

-- a file system whose origin it is is one of the clones
pub in_clones : (w : World) (id : SnapId) (q : Name) (x : FileSystem) → get w.file_systems q ≡ Some x → x.origin ≡ Some id → IsIn (clones_of w id) q
in_clones w id q x at e =
    map_in (λ (e : Name × FileSystem). e.0) (filter (λ (e : Name × FileSystem). option_map_or (same_id id) e.1.origin false) (entries w.file_systems)) (q, x)
    (in_filter (λ (e : Name × FileSystem). option_map_or (same_id id) e.1.origin false) (entries w.file_systems) (q, x)
    (in_entries (entries w.file_systems) q x (entry_of name_order w.file_systems q x at))
    (ap (λ y. option_map_or (same_id id) y false) e ∙ is_same_id id id refl))

-- and a clone is a file system whose origin it is
pub from_clones : (w : World) (id : SnapId) (q : Name) → IsIn (clones_of w id) q → (x : FileSystem) × (get w.file_systems q ≡ Some x) × (x.origin ≡ Some id)
from_clones w id q h =
    let e = in_map (λ (e : Name × FileSystem). e.0) (filter (λ (e : Name × FileSystem). option_map_or (same_id id) e.1.origin false) (entries w.file_systems)) q h in
    let k = from_filter (λ (e : Name × FileSystem). option_map_or (same_id id) e.1.origin false) (entries w.file_systems) e.0 e.1 in
    (e.0.1, ap (get w.file_systems) e.2 ∙ at_entry name_order w.file_systems e.0.0 e.0.1 (from_entries (entries w.file_systems) e.0 k.0), by_origin e.0.1.origin k.1)
  where
    by_origin : (o : Option SnapId) → option_map_or (same_id id) o false ≡ true → o ≡ Some id
    by_origin None h = absurd (true≢false (sym h))
    by_origin (Some i) h = ap Some (sym (same_id_is id i h))

-- a list that isn't empty has an element
pub some_in : {A : Type 0} (xs : List A) → nat_lt 0 (length xs) ≡ true → (x : A) × IsIn xs x
some_in [] h = let l = ltb-true 0 0 h in absurd (omega arith)
some_in (x ∷ xs) h = (x, inl refl)

module _ (s : State) where
  abbrev goes : Snap → Bool
  goes t = t.deferred && not (is_needed s.now s.views t)

  needed_stays : (t : Snap) → is_needed s.now s.views t ≡ true → goes t ≡ true → ⊥
  needed_stays t n g = let p = and_parts t.deferred (not (is_needed s.now s.views t)) g in true≢false (sym p.1 ∙ ap not n)

  -- what goes has no clone
  pub swept_bare : (n : Name) (x : FileSystem) (t : Snap) → get s.now.file_systems n ≡ Some x → IsIn x.snaps t → goes t ≡ true → HasNoCloneIn s.now.file_systems (id_of t)
  swept_bare n x t at h g q y e i = needed_stays t
      (or_right (nat_lt 0 (length t.tags)) _ (or_right (is_viewed s.views (id_of t)) _ (positive (clones_of s.now (id_of t)) q (in_clones s.now (id_of t) q y e i)))) g

  view_needed : (v : ℕ) (id : SnapId) (t : Snap) → get s.views v ≡ Some id → id_of t ≡ id → is_needed s.now s.views t ≡ true
  view_needed v id t e i = or_right (nat_lt 0 (length t.tags)) _ (or_left (is_viewed s.views (id_of t)) _ (any_view (values s.views) (in_values v id e)))
    where
      any_view : (ids : List SnapId) → IsIn ids id → list_any (same_id (id_of t)) ids ≡ true
      any_view [] h = absurd h
      any_view (x ∷ xs) h = ⊎_elim
          (λ (k : id ≡ x). or_left (same_id (id_of t) x) _ (is_same_id (id_of t) x (i ∙ k)))
          (λ k. or_right (same_id (id_of t) x) _ (any_view xs k))
          h

      entry_in : (es : List (ℕ × SnapId)) → IsEntry es v id → IsIn es (v, id)
      entry_in [] h = absurd h
      entry_in (e ∷ es) h = ⊎_elim (λ k. inl (λ j. (k.0 j, k.1 j))) (λ k. inr (entry_in es k)) h

      in_values : (v' : ℕ) (id' : SnapId) → get s.views v ≡ Some id → IsIn (values s.views) id
      in_values v' id' e = map_in (λ (e : ℕ × SnapId). e.1) (entries s.views) (v, id) (entry_in (entries s.views) (entry_of view_order s.views v id e))

  module _ (good : IsPoolState s) where
    -- what holds between two steps holds after the sweep
    pub sweep_keeps : IsPoolState (state_after_sweep s)
    unfolding state_after_sweep
    sweep_keeps = record {
      now = without_world s.size s.now good.now goes swept_bare;
      last = good.last;
      pair = without_pairs s.size s.now good.now goes swept_bare s.last good.pair;
      views = λ v id e. still v id e (snap_at s.now id) refl (good.views v id e);
    }
      where
        still : (v : ℕ) (id : SnapId) → get s.views v ≡ Some id → (x : Option (Name × Snap)) → snap_at s.now id ≡ x → IsSome (snap_at s.now id)
            → IsSome (snap_at (with_losses s.now (without_snaps s.now goes)) id)
        still v id e None i h = absurd (true≢false (sym h ∙ ap is_some i))
        still v id e (Some p) i h =
            let k = from_snap_at s.now id p i in
            ap is_some (snap_is_at (with_losses s.now (without_snaps s.now goes)) s.now.group (without_good s.size s.now good.now goes swept_bare).lines
            p.0 (record k.0 { snaps = filter (λ t. not (goes t)) k.0.snaps }) p.1 id (without_at s.now goes p.0 k.0 k.1)
            (in_filter (λ t. not (goes t)) k.0.snaps p.1 k.2 (ap not (false_from_ne_true _ (λ g. needed_stays p.1 (view_needed v id p.1 e k.3) g)))) k.3)

-- ---- block states
