-- What all file systems have of their own is what datasets have.
use Rattle.std.proofs.Common.{◌≡◌, ℕ, List, [], ◌∷◌, Some, map, refl, sym, ap, subst, ◌∙◌, inl, inr, ⊎_elim, arith}
use Rattle.std.specs.FinMap.{get, entries}
use Rattle.std.specs.FinSet.{len, difference, union}
use Rattle.std.specs.FinSet as set
use Rattle.base.specs.Map.{BlockSet, blocks}
use Rattle.model.specs.World.{World, FileSystem, Snap, Dataset, map_of_snap, blocks_of_all, union_of}
use Rattle.world.specs.Blocks.{block_order as o}
use Rattle.world.specs.Space.{Stretch, used_by_all}
use Rattle.world.specs.Shapes.{Name, name_order, Shape, IsGood}
use Rattle.world.specs.Usage.{IsEntry, AreApart, AreOf, stretch_of, snapshot_blocks}
use Rattle.world.specs.Worlds.{FileSystems, snap_shape, shape_of, shapes}
use Rattle.world.specs.Trees.{total}
use Rattle.world.proofs.lists.SetCounts.{same_members, no-empty, in_union_left, in_union_right, from_union, in_difference, from_difference}
use Rattle.world.proofs.lists.Maps.{entry_of, at_entry, entries_apart}
use Rattle.world.proofs.space.Usage.{used_by, total_used_of_world}
use Rattle.world.proofs.lineage.Bridge.{shape_at, from_shape, start, starts, start_is, union_is}
use Rattle.limits.specs.Space.{own_of}

mapped_in : (es : List (Name × FileSystem)) (name : Name) (s : FileSystem) → IsEntry es name s → IsEntry (map (λ e. (e.0, shape_of e.1)) es) name (shape_of s)
mapped_in [] name s i = absurd i
mapped_in (e ∷ es) name s i = ⊎_elim (λ k. inl (k.0, ap shape_of k.1)) (λ r. inr (mapped_in es name s r)) i

mapped_from : (es : List (Name × FileSystem)) (name : Name) (f : Shape) → IsEntry (map (λ e. (e.0, shape_of e.1)) es) name f → (s : FileSystem) × IsEntry es name s × (f ≡ shape_of s)
mapped_from [] name f i = absurd i
mapped_from (e ∷ es) name f i = ⊎_elim (λ k. (e.1, inl (k.0, refl), k.1)) (λ r. let k = mapped_from es name f r in (k.0, inr k.1, k.2)) i

mapped_apart : (es : List (Name × FileSystem)) → AreApart es → AreApart (map {B = Name × Shape} (λ e. (e.0, shape_of e.1)) es)
mapped_apart [] a = tt
mapped_apart (e ∷ es) a = ((λ k f i. let r = mapped_from es k f i in a.0 k r.0 r.1), mapped_apart es a.1)

snaps_blocks : (ts : List Snap) → snapshot_blocks (map snap_shape ts) ≡ blocks_of_all (map (λ (t : Snap). t.map) ts)
snaps_blocks [] = refl
snaps_blocks (t ∷ ts) = ap (union (blocks t.map)) (snaps_blocks ts)

without_both : (a b c : BlockSet) → difference (difference a b) c ≡ difference a (union b (union c set.empty))
without_both a b c = same_members o _ _
    (λ k h.
    let x = from_difference o (difference a b) c k h in
    let y = from_difference o a b k x.0 in
    in_difference o a (union b (union c set.empty)) k y.0 (λ i. ⊎_elim y.1 (λ j. ⊎_elim x.1 (λ l. no-empty o k l) (from_union o c set.empty k j)) (from_union o b (union c set.empty) k i)))
    (λ k h.
    let x = from_difference o a (union b (union c set.empty)) k h in
    in_difference o (difference a b) c k (in_difference o a b k x.0 (λ i. x.1 (in_union_left o b (union c set.empty) k i)))
    (λ i. x.1 (in_union_right o b (union c set.empty) k (in_union_left o c set.empty k i))))

module _ (w : World) (g : ℕ) (good : IsGood (shapes w.file_systems) g) where
  abbrev ss : FileSystems
  ss = w.file_systems

  own_is : (name : Name) (s : FileSystem) (at : get ss name ≡ Some s)
      → used_by_all (stretch_of g name (shape_of s) (start ss g good name s at) ∷ []) ≡ own_of w s
  own_is name s at =
      let q = start ss g good name s at in
      let u = used_by (shapes ss) g name (shape_of s) q good (shape_at ss name s at) (starts ss g good name s at) in
      let below = (start_is w g good s.origin q (starts ss g good name s at)).2 in
      let a = u.0 ∙ ap (λ x. len (difference (blocks s.live) x)) below in
      let b = u.1 ∙ (λ i. len (difference (difference (snaps_blocks s.snaps i) (blocks s.live)) (below i)))
      ∙ ap len (without_both (blocks_of_all (map (λ (t : Snap). t.map) s.snaps)) (blocks s.live) (blocks (map_of_snap w s.origin))) in
      omega (arith, a, b)

  stretches : (es : List (Name × FileSystem)) → ((n : Name) (s : FileSystem) → IsEntry es n s → get ss n ≡ Some s)
      → (xs : List (Stretch Dataset)) × AreOf (shapes ss) g (map (λ e. (e.0, shape_of e.1)) es) xs × (used_by_all xs ≡ total (λ e. own_of w e.1) es)
  stretches [] h = ([], tt, refl)
  stretches (e ∷ es) h =
      let at = h e.0 e.1 (inl (refl, refl)) in
      let r = stretches es (λ n s i. h n s (inr i)) in
      let x = own_is e.0 e.1 at in
      let y = r.2 in (
        stretch_of g e.0 (shape_of e.1) (start ss g good e.0 e.1 at) ∷ r.0,
        ((start ss g good e.0 e.1 at, starts ss g good e.0 e.1 at, refl), r.1),
        omega (arith, x, y),
      )

  -- what the file systems have of their own is all that datasets have
  pub own_total : total (λ e. own_of w e.1) (entries ss) ≡ len (union_of w)
  own_total =
      let r = stretches (entries ss) (λ n s i. at_entry name_order ss n s i) in
      sym r.2 ∙ total_used_of_world (shapes ss) g (map (λ e. (e.0, shape_of e.1)) (entries ss)) r.0 (union_of w) good
      (record {
        complete = λ name f h. let x = from_shape ss name f h in
            subst (IsEntry (map (λ e. (e.0, shape_of e.1)) (entries ss)) name) (sym x.2) (mapped_in (entries ss) name x.0 (entry_of name_order ss name x.0 x.1));
        right = λ name f i. let k = mapped_from (entries ss) name f i in shape_at ss name k.0 (at_entry name_order ss name k.0 k.1) ∙ ap Some (sym k.2);
        apart = mapped_apart (entries ss) (entries_apart name_order ss);
      })
      r.1 (union_is w g good)
