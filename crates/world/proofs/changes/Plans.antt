-- A change that a tree has prepared, as a change of one live map of a world.
use Rattle.std.proofs.Common.{◌≡◌, ℕ, ◌<◌, ◌≤◌, Bool, true, false, cond, List, [], ◌∷◌, Some, refl, sym, ap, subst, ◌∙◌, true≢false, ◌⊎◌, inl, inr, ⊎_elim, arith}
use Rattle.std.specs.Prelude.{is_some, nat_lt}
use Rattle.std.specs.List.{filter}
use Rattle.std.specs.FinMap.{get, insert}
use Rattle.std.specs.FinSet.{union}
use Rattle.std.proofs.lemmas.Bool.{ltb-true, lt-ltb}
use Rattle.base.specs.declared.number.Key.{Key}
use Rattle.base.specs.Map.{Map, Cell, Block, BlockSet, block_of, blocks, IsTree}
use Rattle.base.specs.Rewrite.{Changes, rewrite, is_touched}
use Rattle.base.specs.Surveys.{IsIn, AreDifferent, IsMadeKey}
use Rattle.model.specs.World.{World, FileSystem, Dataset, Live, map_of, union_of, reach_of}
use Rattle.world.specs.Sets.{Has}
use Rattle.world.specs.Blocks.{block_order as o, after}
use Rattle.world.specs.Shapes.{Name}
use Rattle.world.specs.Worlds.{AreFileSystems, IsWorld, ArePaired, Place, InNow, InLast, maps_of_both}
use Rattle.world.specs.Numbering.{ChangesKeys}
use Rattle.world.specs.Writes.{IsReusable, IsChosen}
use Rattle.world.specs.Plans.{AreTakable, IsSettling}
use Rattle.zalloc.specs.declared.BlockState.{BlockState}
use Rattle.tree.specs.Change.{Shown, IsChange, IsKept, IsReleased}
use Rattle.world.specs.Dead.{base_of}
use Rattle.world.proofs.lists.SetCounts.{in_union_left, in_union_right, from_union, in_difference, from_difference, Has-cases}
use Rattle.world.proofs.lists.Maps.{same_value, some_of}
use Rattle.world.proofs.lineage.Lineage.{in_after, from_after}
use Rattle.world.proofs.maps.Cells.{in_blocks, from_blocks, from_new_blocks}
use Rattle.world.proofs.maps.Rewrites.{rewrite_is_change}
use Rattle.base.proofs.Presence.{same_presence}
use Rattle.world.proofs.lineage.Bridge.{map_of_live, in_world}
use Rattle.world.proofs.lists.Finding.{in_filter, from_filter}
use Rattle.world.proofs.changes.Kept.{reach_is}
use Rattle.world.proofs.lineage.Put.{put_here}
use Rattle.world.proofs.changes.FreshNumbers.{made_key, kept_or_fresh, fresh_once, cells_after}
use Rattle.world.proofs.changes.LiveMaps.{live_alone, live_new, live_rest}
use Rattle.world.proofs.changes.Writes.{write_world, write_pairs, write_loses, union_after}

filter_different : {A : Type 0} (p : A → Bool) (xs : List A) → AreDifferent xs → AreDifferent (filter p xs)
filter_different p [] d = tt
filter_different p (y ∷ ys) d = by_test (p y) (filter_different p ys d.1)
  where
    by_test : (b : Bool) → AreDifferent (filter p ys) → AreDifferent (cond b (y ∷ filter p ys) (filter p ys))
    by_test true ih = ((λ h. d.0 (from_filter p ys y h).0), ih)
    by_test false ih = ih

reached : (w : World) (good : AreFileSystems w.file_systems w.group) (d : Dataset) (b : Block) → Has (blocks (map_of w d)) b → Has (reach_of w) b
reached w good d b h = subst (λ x. Has x b) (sym (reach_is w)) (in_union_left o (union_of w) w.freeing b (in_world w w.group good.lines d b h))

module _ (size : ℕ) (w last : World) (good : IsWorld size w) (synced : IsWorld size last) (pair : ArePaired size w last) (name : Name) (s : FileSystem)
    (at : get w.file_systems name ≡ Some s) (ch : Changes) (young : ℕ) (late : last.group ≤ young) (own_late : base_of w (Live name) < young)
    (states : List BlockState) (v : Shown) (is : IsChange s.live ch w.group young states v)
    (takable : AreTakable (union (reach_of w) (reach_of last)) size young v.released v.taken) where
  abbrev new : Map
  new = rewrite s.live ch w.group is.number

  abbrev own : BlockSet
  own = after (base_of w (Live name)) (blocks s.live)

  change : ChangesKeys s.live (rewrite s.live ch w.group is.number) (is_touched s.live ch) w.group is.number
  change = rewrite_is_change s.live ch w.group is.number

  in_now : (k : Key) (x : Cell) → get s.live k ≡ Some x → Has (reach_of w) (block_of x)
  in_now k x h = subst (λ y. Has y (block_of x)) (sym (reach_is w)) (in_union_left o (union_of w) w.freeing (block_of x)
      (in_world w w.group good.systems.lines (Live name) (block_of x) (subst (λ y. Has (blocks y) (block_of x)) (sym (map_of_live w name s at)) (in_blocks s.live k x h))))

  in_both : (k : Key) (x : Cell) → get s.live k ≡ Some x → Has (union (reach_of w) (reach_of last)) (block_of x)
  in_both k x h = in_union_left o (reach_of w) (reach_of last) (block_of x) (in_now k x h)

  one : (j k : Key) (a b : Cell) → get s.live j ≡ Some a → get s.live k ≡ Some b → a.number ≡ b.number → j ≡ k
  one j k a b h i n =
      let e = map_of_live w name s at in
      (pair.cells (InNow (Live name)) (InNow (Live name)) j k a b (ap (λ x. get x j) e ∙ h) (ap (λ x. get x k) e ∙ i) n).0

  made : (k : Key) (x : Cell) → is_touched s.live ch k ≡ true → get (rewrite s.live ch w.group is.number) k ≡ Some x → IsMadeKey s.live ch k
  made = made_key s.live ch w.group young is.number

  keeps_or_takes : (k : Key) → ((x : Cell) × (get s.live k ≡ Some x) × (young ≤ x.birth)) ⊎ (IsKept s.live ch young k → ⊥)
  keeps_or_takes = kept_or_fresh s.live ch w.group young is.number

  cell_made : (k : Key) → IsMadeKey s.live ch k → (x : Cell) × (get (rewrite s.live ch w.group is.number) k ≡ Some x) × (x.number ≡ is.number k) × (x.birth ≡ w.group)
  cell_made k u =
      let t = some_of (get new k) (same_presence s.live ch w.group 0 is.number (λ _. 0) k ∙ u.1) in
      let c = change.made k t.0 u.0 t.1 in
      (t.0, t.1, c.0, c.1)

  -- a young block isn't the last synced world's
  not_last : (b : Block) → young ≤ b.birth → Has (reach_of last) b → ⊥
  not_last b l h = let k = pair.reached.since.older b h in let i = late in absurd (omega arith)

  -- ---- numbers

  map_is : map_of w (Live name) ≡ s.live
  map_is = map_of_live w name s at

  in_place : (e : Place) (j : Key) (x : Cell) → get (maps_of_both w last e) j ≡ Some x → Has (union (reach_of w) (reach_of last)) (block_of x)
  in_place (InNow d) j x h = in_union_left o (reach_of w) (reach_of last) (block_of x) (reached w good.systems d (block_of x) (in_blocks (map_of w d) j x h))
  in_place (InLast d) j x h = in_union_right o (reach_of w) (reach_of last) (block_of x) (reached last synced.systems d (block_of x) (in_blocks (map_of last d) j x h))

  held : (n : ℕ) (e : Place) (j : Key) (x : Cell) → IsIn v.taken n → get (maps_of_both w last e) j ≡ Some x → x.number ≡ n → (b : Block) × IsIn v.released b × (young ≤ b.birth) × (b.number ≡ n)
  held n e j x i h is_n = ⊎_elim (λ f. absurd (f.1 (block_of x) (in_place e j x h) is_n)) (λ z. z) (takable n i)

  alone : (e : Place) (j : Key) (x : Cell) → get (maps_of_both w last e) j ≡ Some x → get s.live j ≡ Some x → young ≤ x.birth → e ≡ InNow (Live name)
  alone (InNow d) j x h l born = ap InNow (live_alone w good.systems name s at d (block_of x) (in_blocks (map_of w d) j x h) (in_blocks s.live j x l) (let i = own_late in omega arith))
  alone (InLast d) j x h l born = absurd (not_last (block_of x) born (reached last synced.systems d (block_of x) (in_blocks (map_of last d) j x h)))

  taken_from : (n : ℕ) (b : Block) → IsIn v.taken n → Has (union (reach_of w) (reach_of last)) b → b.number ≡ n → IsReleased s.live ch young b × (young ≤ b.birth)
  taken_from n b i u e = ⊎_elim
      (λ f. absurd (f.1 b u e))
      (λ z. let r = (is.released z.0).0 z.1 in
      let same : z.0 ≡ b = pair.reached.unique z.0 b (subst (λ y. Has (union (reach_of w) (reach_of last)) y) r.is (in_both r.key r.cell r.there)) u (z.3 ∙ sym e) in
      (subst (λ y. IsReleased s.live ch young y) same r, subst (λ (y : Block). young ≤ y.birth) same z.2))
      (takable n i)

  taken_small : (n : ℕ) → IsIn v.taken n → n < size
  taken_small n i = ⊎_elim
      (λ f. f.0)
      (λ z. let r = (is.released z.0).0 z.1 in
      subst (λ k. k < size) z.3 (pair.reached.small z.0 (subst (λ y. Has (union (reach_of w) (reach_of last)) y) r.is (in_both r.key r.cell r.there))))
      (takable n i)

  young_own : (k : Key) (x : Cell) → get s.live k ≡ Some x → young ≤ x.birth → Has own (block_of x)
  young_own k x h l = in_after (base_of w (Live name)) (blocks s.live) (block_of x) (in_blocks s.live k x h) (let i = own_late in omega arith)

  chosen : IsChosen s.live (rewrite s.live ch w.group is.number) (after (base_of w (Live name)) (blocks s.live)) (reach_of w) (reach_of last) size (is_touched s.live ch) is.number
  chosen = record { small = small; allowed = allowed; once = once }
    where
      small : (q : Key) (x : Cell) → is_touched s.live ch q ≡ true → get new q ≡ Some x → is.number q < size
      small q x t h =
          let u = made q x t h in
          ⊎_elim
          (λ y. let e = is.kept q y.0 u y.1 y.2 in let l = pair.reached.small (block_of y.0) (in_both q y.0 y.1) in omega arith)
          (λ n. taken_small (is.number q) (is.fresh q u n))
          (keeps_or_takes q)

      allowed : (q : Key) (x : Cell) (b : Block) → is_touched s.live ch q ≡ true → get new q ≡ Some x → Has (union (reach_of w) (reach_of last)) b → b.number ≡ is.number q
          → IsReusable s.live own (reach_of last) (is_touched s.live ch) b
      allowed q x b t h u e =
          let z = made q x t h in
          ⊎_elim
          (λ y. let same : block_of y.0 ≡ b = pair.reached.unique (block_of y.0) b (in_both q y.0 y.1) u (sym (e ∙ is.kept q y.0 z y.1 y.2)) in
          record { alone = subst (λ i. Has own i) same (young_own q y.0 y.1 y.2); new = subst (λ i. Has (reach_of last) i → ⊥) same (not_last (block_of y.0) y.2); key = q; cell = y.0; there = y.1; is = same; leaves = t })
          (λ n. let r = taken_from (is.number q) b (is.fresh q z n) u e in
          record {
            alone = subst (λ i. Has own i) r.0.is (young_own r.0.key r.0.cell r.0.there (let l = r.1 in let i = ap (λ (y : Block). y.birth) r.0.is in omega arith));
            new = not_last b r.1;
            key = r.0.key;
            cell = r.0.cell;
            there = r.0.there;
            is = r.0.is;
            leaves = r.0.touched;
          })
          (keeps_or_takes q)

      once : (j k : Key) (a b : Cell) → is_touched s.live ch j ≡ true → is_touched s.live ch k ≡ true → get new j ≡ Some a → get new k ≡ Some b
          → is.number j ≡ is.number k → j ≡ k
      once = fresh_once (maps_of_both w last) (InNow (Live name)) pair.cells s.live map_is ch w.group young states v is held alone

  tree' : IsTree size (rewrite s.live ch w.group is.number)
  tree' = subst (IsTree size) is.new_is (is.tree size (subst (IsTree size) (map_of_live w name s at) (good.trees (Live name))) taken_small)

  abbrev pub planned : World
  planned = record w { file_systems = insert w.file_systems name (record s { live = rewrite s.live ch w.group is.number }) }

  -- what holds between two steps holds again
  pub plan_world : IsWorld size planned
  plan_world = write_world size w last good synced pair name s at new (is_touched s.live ch) is.number change tree' chosen

  pub plan_pairs : ArePaired size planned last
  plan_pairs = write_pairs size w last good synced pair name s at new (is_touched s.live ch) is.number change tree' chosen
      (cells_after (maps_of_both w last) (InNow (Live name)) pair.cells s.live map_is ch w.group young states v is held alone (maps_of_both planned last)
      (live_new w good.systems name s at new plan_world.systems.lines) rest)
    where
      rest : (e : Place) → ((¬ (e ≡ InNow (Live name))) × (maps_of_both planned last e ≡ maps_of_both w last e)) ⊎ (e ≡ InNow (Live name))
      rest (InNow d) = ⊎_elim
          (λ x. inl ((λ e. x.0 (same_now d (Live name) e)), x.1))
          (λ x. inr (ap InNow x))
          (live_rest w good.systems name s at new plan_world.systems.lines d)
        where
          same_now : (d e : Dataset) → InNow d ≡ InNow e → d ≡ e
          same_now d e is = cc
      rest (InLast d) = inl (apart d, refl)
        where
          apart : (d : Dataset) → InLast d ≡ InNow (Live name) → ⊥
          apart d e = cc

  -- ---- what it releases

  -- a v.released block's key is touched, and doesn't keep its number
  goes_at : (k : Key) (x : Cell) → get s.live k ≡ Some x → IsIn v.released (block_of x) → (is_touched s.live ch k ≡ true) × (IsKept s.live ch young k → ⊥)
  goes_at k x h i =
      let r = (is.released (block_of x)).0 i in
      let same : r.key ≡ k = one r.key k r.cell x r.there h (ap (λ (y : Block). y.number) r.is) in
      (subst (λ q. is_touched s.live ch q ≡ true) same r.touched, subst (λ q. IsKept s.live ch young q → ⊥) same r.goes)

  released_in : (b : Block) → IsIn v.released b → Has (blocks s.live) b
  released_in b i = let r = (is.released b).0 i in subst (λ y. Has (blocks s.live) y) r.is (in_blocks s.live r.key r.cell r.there)

  kept_cases : (k : Key) (x : Cell) → get s.live k ≡ Some x → is_touched s.live ch k ≡ true → (IsMadeKey s.live ch k × (young ≤ x.birth)) ⊎ (IsKept s.live ch young k → ⊥)
  kept_cases k x h t = by_made (is_some (get (rewrite s.live ch 0 (λ _. 0)) k)) refl
    where
      by_made : (b : Bool) → is_some (get (rewrite s.live ch 0 (λ _. 0)) k) ≡ b → (IsMadeKey s.live ch k × (young ≤ x.birth)) ⊎ (IsKept s.live ch young k → ⊥)
      by_made true e = ⊎_elim
          (λ z. inl ((t, e), subst (λ (y : Cell). young ≤ y.birth) (same_value z.0 x (sym z.1 ∙ h)) z.2))
          (λ n. inr n)
          (keeps_or_takes k)
      by_made false e = inr (λ z. true≢false (sym z.made.1 ∙ e))

  -- the v.released blocks that the map alone had: they leave what is reached. The others go onto the deadlist
  abbrev pub leaves : Block → Bool
  leaves b = nat_lt (base_of w (Live name)) b.birth

  leaves_own : (b : Block) → IsIn (filter leaves v.released) b → IsIn v.released b × Has own b
  leaves_own b i =
      let p = from_filter leaves v.released b i in
      (p.0, in_after (base_of w (Live name)) (blocks s.live) b (released_in b p.0) (ltb-true (base_of w (Live name)) b.birth p.1))

  own_leaves : (b : Block) → IsIn v.released b → Has own b → IsIn (filter leaves v.released) b
  own_leaves b i h = in_filter leaves v.released b i (lt-ltb (base_of w (Live name)) b.birth (from_after (base_of w (Live name)) (blocks s.live) b h).1)

  new_there : (b : Block) → Has (blocks (rewrite s.live ch w.group is.number)) b → Has (reach_of planned) b
  new_there b h = subst (λ y. Has y b) (sym (reach_is planned)) (in_union_left o (union_of planned) w.freeing b
      (in_world planned w.group plan_world.systems.lines (Live name) b (subst (λ y. Has (blocks y) b) (sym (map_of_live planned name (record s { live = new }) (put_here w.file_systems name (record s { live = new })))) h)))

  -- what isn't the map's own stays
  others_stay : (b : Block) → Has (reach_of w) b → ¬ (Has own b) → Has (reach_of planned) b
  others_stay b h out = subst (λ y. Has y b) (sym (reach_is planned)) (⊎_elim
      (λ k. in_union_left o (union_of planned) w.freeing b (⊎_elim (λ i. i) (λ n. absurd (out (lost b k n))) (Has-cases o (union_of planned) b)))
      (λ k. in_union_right o (union_of planned) w.freeing b k)
      (from_union o (union_of w) w.freeing b (subst (λ y. Has y b) (reach_is w) h)))
    where
      lost : (b : Block) → Has (union_of w) b → ¬ (Has (union_of planned) b) → Has own b
      lost b k n = (from_difference o own (blocks new) b (subst (λ y. Has y b)
          (write_loses size w last good synced pair name s at new (is_touched s.live ch) is.number change tree' chosen)
          (in_difference o (union_of w) (union_of planned) b k n))).0

  came : (b : Block) → Has (reach_of planned) b → ((a : Block) × Has (reach_of w) a × (a.number ≡ b.number) × (IsIn (filter leaves v.released) a → ⊥)) ⊎ IsIn v.taken b.number
  came b h = ⊎_elim
      (λ k. ⊎_elim by_new (λ i. inl (b, subst (λ y. Has y b) (sym (reach_is w)) (in_union_left o (union_of w) w.freeing b i.0), refl, λ j. i.1 (leaves_own b j).1))
      (union_after size w last good synced pair name s at new (is_touched s.live ch) is.number change tree' chosen b k))
      (λ k. inl (
        b,
        subst (λ y. Has y b) (sym (reach_is w)) (in_union_right o (union_of w) w.freeing b k),
        refl,
        λ j. good.freeing_apart b
            (in_world w w.group good.systems.lines (Live name) b (subst (λ y. Has (blocks y) b) (sym (map_of_live w name s at)) (released_in b (leaves_own b j).0))) k,
      ))
      (from_union o (union_of planned) w.freeing b (subst (λ y. Has y b) (reach_is planned) h))
    where
      by_new : Has (blocks (rewrite s.live ch w.group is.number)) b → ((a : Block) × Has (reach_of w) a × (a.number ≡ b.number) × (IsIn (filter leaves v.released) a → ⊥)) ⊎ IsIn v.taken b.number
      by_new k = ⊎_elim
          (λ z. inl (block_of z.1, in_now z.0 z.1 z.2, ap (λ (y : Block). y.number) z.3, λ i. true≢false (sym (goes_at z.0 z.1 z.2 (leaves_own (block_of z.1) i).0).0 ∙ z.4)))
          (λ z.
          let q = made z.0 z.1 z.3 z.2 in
          ⊎_elim
          (λ y. inl (
            block_of y.0,
            in_now z.0 y.0 y.1,
            sym (z.5 ∙ is.kept z.0 y.0 q y.1 y.2),
            λ i. (goes_at z.0 y.0 y.1 (leaves_own (block_of y.0) i).0).1 (record { made = q; cell = y.0; there = y.1; born = y.2 }),
          ))
          (λ n. inr (subst (λ x. IsIn v.taken x) (sym z.5) (is.fresh z.0 q n)))
          (keeps_or_takes z.0))
          (from_new_blocks s.live new (is_touched s.live ch) w.group is.number change b k)

  stays : (b : Block) → Has (reach_of w) b → (IsIn (filter leaves v.released) b → ⊥) → ((a : Block) × Has (reach_of planned) a × (a.number ≡ b.number)) × (Has (reach_of last) b → Has (reach_of planned) b)
  stays b h out = ⊎_elim
      (λ k. let f = from_blocks s.live b (from_after (base_of w (Live name)) (blocks s.live) b k).0 in by_touch k f.0 f.1 f.2 f.3 (is_touched s.live ch f.0) refl)
      (λ n. let here = others_stay b h n in ((b, here, refl), λ l. here))
      (Has-cases o own b)
    where
      by_touch : Has own b → (k : Key) (x : Cell) → get s.live k ≡ Some x → block_of x ≡ b → (t : Bool) → is_touched s.live ch k ≡ t
          → ((a : Block) × Has (reach_of planned) a × (a.number ≡ b.number)) × (Has (reach_of last) b → Has (reach_of planned) b)
      by_touch i k x g same false t =
          let here = subst (λ y. Has (reach_of planned) y) same (new_there (block_of x) (in_blocks new k x (change.kept k t ∙ g))) in
          ((b, here, refl), λ l. here)
      by_touch i k x g same true t = ⊎_elim
          (λ z. let y = cell_made k z.0 in (
            (block_of y.0, new_there (block_of y.0) (in_blocks new k y.0 y.1), y.2 ∙ is.kept k x z.0 g z.1 ∙ ap (λ (z : Block). z.number) same),
            λ l. absurd (not_last (block_of x) z.1 (subst (λ z. Has (reach_of last) z) (sym same) l)),
          ))
          (λ n. absurd (out (own_leaves b ((is.released b).1 (record { key = k; cell = x; there = g; is = same; touched = t; goes = n })) i)))
          (kept_cases k x g t)

  -- the numbers that the change releases and takes settle the block states
  pub plan_settles : IsSettling (reach_of w) (reach_of planned) (reach_of last) last.group (filter leaves v.released) v.taken
  plan_settles = record {
    unique = pair.reached.unique;
    there = λ b i. subst (λ y. Has y b) (sym (reach_is w)) (in_union_left o (union_of w) w.freeing b
        (in_world w w.group good.systems.lines (Live name) b (subst (λ y. Has (blocks y) b) (sym (map_of_live w name s at)) (released_in b (leaves_own b i).0))));
    came = came;
    stays = stays;
    made = λ n i.
        let u = is.used n i in
        let x = cell_made u.0 u.1 in
        (block_of x.0, new_there (block_of x.0) (in_blocks new u.0 x.0 x.1), x.2 ∙ u.3);
    waits = λ b h. (λ l. lt-ltb b.birth last.group (pair.reached.since.older b l), λ t. pair.reached.since.stays b h (ltb-true b.birth last.group t));
    once = filter_different leaves v.released is.released_once;
    taken_once = is.taken_once;
  }
