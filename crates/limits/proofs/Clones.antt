-- The datasets that come next after a snapshot, in its file system and in its clones, and its space by their deadlists.
use Rattle.std.proofs.Common.{◌≡◌, ℕ, List, [], ◌∷◌, ◌++◌, Some, map, refl, sym, ap, subst, ◌∙◌, inl, inr, ⊎_elim}
use Rattle.std.specs.Prelude.{nat_lt}
use Rattle.std.specs.List.{filter}
use Rattle.std.specs.Option.{option_map_or}
use Rattle.std.specs.FinMap.{get}
use Rattle.std.specs.FinSet.{len, difference}
use Rattle.base.specs.Map.{Block, BlockSet, blocks}
use Rattle.base.specs.Surveys.{IsIn}
use Rattle.model.specs.World.{World, FileSystem, Snap, Dataset, Live, Snapped, id_of, map_of, map_of_snap, previous_of, clones_of}
use Rattle.model.specs.Sums.{used_by_snap}
use Rattle.world.specs.Sets.{Has}
use Rattle.world.specs.Blocks.{block_order as o, after}
use Rattle.world.specs.Shapes.{Name}
use Rattle.world.specs.Worlds.{AreFileSystems, AreRising}
use Rattle.world.specs.Dead.{IsThere, base_of, below_of, dead_of, next_in}
use Rattle.world.proofs.lists.SetCounts.{same_members, in_difference, from_difference, in_intersection, from_intersection}
use Rattle.world.proofs.lineage.Lineage.{in_after, from_after}
use Rattle.world.proofs.lists.Maps.{same_value}
use Rattle.world.proofs.lists.Listed.{in_map, map_in}
use Rattle.world.proofs.steps.States.{in_clones, from_clones}
use Rattle.world.proofs.changes.Promotions.{append_assoc, after_is}
use Rattle.world.proofs.lineage.Bridge.{start, rising, in_middle, one_snap}
use Rattle.limits.specs.Space.{AreNext, dead_in_each, oldest_in, without_each}
use Rattle.limits.proofs.Next.{newest_last, from_newest, next_there, next_previous, comes_next}
use Rattle.limits.proofs.Snapshots.{used_by_snap_is, in_each, from_each}

-- ---- what none of these datasets has

in_without_each : (w : World) (s : BlockSet) (ds : List Dataset) (b : Block) → Has s b → ((d : Dataset) → IsIn ds d → ¬ (Has (blocks (map_of w d)) b))
    → Has (without_each w s ds) b
in_without_each w s [] b h out = h
in_without_each w s (d ∷ ds) b h out =
    in_without_each w (difference s (blocks (map_of w d))) ds b (in_difference o s (blocks (map_of w d)) b h (out d (inl refl))) (λ e i. out e (inr i))

from_without_each : (w : World) (s : BlockSet) (ds : List Dataset) (b : Block) → Has (without_each w s ds) b
    → Has s b × ((d : Dataset) → IsIn ds d → ¬ (Has (blocks (map_of w d)) b))
from_without_each w s [] b h = (h, λ d i. absurd i)
from_without_each w s (d ∷ ds) b h =
    let r = from_without_each w (difference s (blocks (map_of w d))) ds b h in
    let k = from_difference o s (blocks (map_of w d)) b r.0 in
    (k.0, λ e i. ⊎_elim (λ is. subst (λ x. ¬ (Has (blocks (map_of w x)) b)) (sym is) k.1) (λ j. r.1 e j) i)

-- ---- clones

-- the oldest dataset of a file system that is there
oldest_is : (w : World) (name : Name) (s : FileSystem) → get w.file_systems name ≡ Some s → oldest_in w name ≡ next_in name s.snaps
oldest_is w name s at = ap (λ x. option_map_or (λ (y : FileSystem). next_in name y.snaps) x (Live name)) at

module _ (w : World) (good : AreFileSystems w.file_systems w.group) where
  module _ (name : List ℕ) (s : FileSystem) (at : get w.file_systems name ≡ Some s) (older : List Snap) (t : Snap) (newer : List Snap) (is : s.snaps ≡ older ++ t ∷ newer) where
    parted : s.snaps ≡ (older ++ t ∷ []) ++ newer
    parted = is ∙ sym (append_assoc older (t ∷ []) newer)

    there : IsIn s.snaps t
    there = subst (λ l. IsIn l t) (sym is) (in_middle older t newer)

    -- what is newer than the snapshot, however the list is parted
    same_newer : (xs ys : List Snap) → s.snaps ≡ (xs ++ t ∷ []) ++ ys → ys ≡ newer
    same_newer xs ys e =
        let up = rising w.file_systems w.group good.lines name s at in
        let low = (start w.file_systems w.group good.lines name s at).base in
        let f : s.snaps ≡ xs ++ t ∷ ys = e ∙ append_assoc xs (t ∷ []) ys in
        sym (after_is low xs t ys (subst (AreRising low) f up))
        ∙ ap (filter (λ (u : Snap). nat_lt t.group u.group)) (sym f ∙ is)
        ∙ after_is low older t newer (subst (AreRising low) is up)

    -- next after a snapshot: what comes next in its file system, and the oldest dataset of each clone
    pub next_of_snap : AreNext w (id_of t) (next_in name newer ∷ map (oldest_in w) (clones_of w (id_of t)))
    next_of_snap = record {
      right = λ d i. ⊎_elim
          (λ e. subst (λ x. IsThere w x × (previous_of w x ≡ Some (id_of t))) (sym e)
          (next_there w good name s (older ++ t ∷ []) newer at parted, next_previous w good name s (older ++ t ∷ []) newer at parted ∙ newest_last s older t))
          (λ k.
          let c = in_map (oldest_in w) (clones_of w (id_of t)) d k in
          let x = from_clones w (id_of t) c.0 c.1 in
          subst (λ y. IsThere w y × (previous_of w y ≡ Some (id_of t))) (sym (c.2 ∙ oldest_is w c.0 x.0 x.1))
          (next_there w good c.0 x.0 [] x.0.snaps x.1 refl, next_previous w good c.0 x.0 [] x.0.snaps x.1 refl ∙ x.2))
          i;
      complete = λ d here e.
          let r = comes_next w good d here in
          ⊎_elim
          (λ (none, origin). inr (subst (IsIn (map (oldest_in w) (clones_of w (id_of t))))
          (oldest_is w r.0 r.1 r.4 ∙ ap (next_in r.0) (r.5 ∙ ap (λ l. l ++ r.3) none) ∙ sym r.6)
          (map_in (oldest_in w) (clones_of w (id_of t)) r.0 (in_clones w (id_of t) r.0 r.1 r.4 origin))))
          (λ (xs, u, us, same).
          let here_u : IsIn r.1.snaps u = subst (λ l. IsIn l u) (sym (r.5 ∙ ap (λ l. l ++ r.3) us ∙ append_assoc xs (u ∷ []) r.3)) (in_middle xs u r.3) in
          let one = one_snap w.file_systems w.group good.lines r.0 name r.1 s u t r.4 at here_u there same in
          let systems : r.1 ≡ s = same_value r.1 s (sym r.4 ∙ ap (get w.file_systems) one.0 ∙ at) in
          let snaps : s.snaps ≡ (xs ++ t ∷ []) ++ r.3 = ap (λ (y : FileSystem). y.snaps) (sym systems) ∙ r.5 ∙ ap (λ l. l ++ r.3) (us ∙ ap (λ v. xs ++ v ∷ []) one.1) in
          inl (r.6 ∙ (λ i. next_in (one.0 i) (same_newer xs r.3 snaps i))))
          (from_newest r.1 r.2 (id_of t) (sym (next_previous w good r.0 r.1 r.2 r.3 r.4 r.5) ∙ ap (previous_of w) (sym r.6) ∙ e));
    }

    -- what the deadlist of the next one has, the snapshot has
    dead_below : (b : Block) → Has (dead_of w (next_in name newer)) b → Has (blocks (map_of w (Snapped (id_of t)))) b
    unfolding dead_of below_of
    dead_below b h =
        let e = next_previous w good name s (older ++ t ∷ []) newer at parted ∙ newest_last s older t in
        subst (λ x. Has (blocks (map_of_snap w x)) b) e (from_difference o (below_of w (next_in name newer)) (blocks (map_of w (next_in name newer))) b h).0

    -- a deadlist's block is not the dataset's
    gone : (d : Dataset) (b : Block) → Has (dead_of w d) b → ¬ (Has (blocks (map_of w d)) b)
    unfolding dead_of
    gone d b h = (from_difference o (below_of w d) (blocks (map_of w d)) b h).1

    -- a block of the snapshot that a dataset next after it hasn't is in that one's deadlist
    goes : (d : Dataset) (b : Block) → previous_of w d ≡ Some (id_of t) → Has (blocks (map_of w (Snapped (id_of t)))) b → ¬ (Has (blocks (map_of w d)) b) → Has (dead_of w d) b
    unfolding dead_of below_of
    goes d b e h out = in_difference o (below_of w d) (blocks (map_of w d)) b (subst (λ x. Has (blocks (map_of_snap w x)) b) (sym e) h) out

    dead_first : (ds : List Dataset) → dead_in_each w (blocks (map_of w (Snapped (id_of t)))) (next_in name newer ∷ ds) ≡ dead_in_each w (dead_of w (next_in name newer)) ds
    dead_first ds = same_members o _ _
        (λ b h.
        let k = from_intersection o (dead_of w (next_in name newer)) (dead_in_each w (blocks (map_of w (Snapped (id_of t)))) ds) b h in
        let r = from_each w (blocks (map_of w (Snapped (id_of t)))) ds b k.1 in
        in_each w (dead_of w (next_in name newer)) ds b k.0 r.1)
        (λ b h.
        let r = from_each w (dead_of w (next_in name newer)) ds b h in
        in_intersection o (dead_of w (next_in name newer)) (dead_in_each w (blocks (map_of w (Snapped (id_of t)))) ds) b r.0
        (in_each w (blocks (map_of w (Snapped (id_of t)))) ds b (dead_below b r.0) r.1))

    -- used of the snapshot: of the next deadlist in its file system, what the deadlist of each clone's oldest dataset has too, and what
    -- was born after the group before the snapshot
    pub used_by_snap_at : used_by_snap w (id_of t)
        ≡ len (after (base_of w (Snapped (id_of t))) (dead_in_each w (dead_of w (next_in name newer)) (map (oldest_in w) (clones_of w (id_of t)))))
    used_by_snap_at =
        used_by_snap_is w good (id_of t) (name, s, t, at, there, refl) (next_in name newer ∷ map (oldest_in w) (clones_of w (id_of t))) next_of_snap
        ∙ ap (λ x. len (after (base_of w (Snapped (id_of t))) x)) (dead_first (map (oldest_in w) (clones_of w (id_of t))))

    abbrev clones : List Dataset
    clones = map (oldest_in w) (clones_of w (id_of t))

    -- one clone after the other: of the next deadlist in its file system, what was born after the group before the snapshot, and what the
    -- oldest dataset of no clone has
    pub used_by_snap_struck : used_by_snap w (id_of t)
        ≡ len (without_each w (after (base_of w (Snapped (id_of t))) (dead_of w (next_in name newer))) (map (oldest_in w) (clones_of w (id_of t))))
    used_by_snap_struck = used_by_snap_at ∙ ap len (same_members o _ _
        (λ b h.
        let k = from_after (base_of w (Snapped (id_of t))) (dead_in_each w (dead_of w (next_in name newer)) clones) b h in
        let r = from_each w (dead_of w (next_in name newer)) clones b k.0 in
        in_without_each w (after (base_of w (Snapped (id_of t))) (dead_of w (next_in name newer))) clones b
        (in_after (base_of w (Snapped (id_of t))) (dead_of w (next_in name newer)) b r.0 k.1)
        (λ d i. gone d b (r.1 d i)))
        (λ b h.
        let k = from_without_each w (after (base_of w (Snapped (id_of t))) (dead_of w (next_in name newer))) clones b h in
        let r = from_after (base_of w (Snapped (id_of t))) (dead_of w (next_in name newer)) b k.0 in
        in_after (base_of w (Snapped (id_of t))) (dead_in_each w (dead_of w (next_in name newer)) clones) b
        (in_each w (dead_of w (next_in name newer)) clones b r.0 (λ d i. goes d b (next_of_snap.right d (inr i)).1 (dead_below b r.0) (k.1 d i)))
        r.1))
