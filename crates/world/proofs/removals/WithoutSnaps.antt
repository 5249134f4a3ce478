-- A set of snapshots goes at once, none of which has a clone: as if they went one by one.
use Rattle.std.proofs.Common.{◌≡◌, ℕ, Bool, true, false, cond, not, ◌&&◌, ◌||◌, List, [], ◌∷◌, ◌++◌, Option, Some, None, refl, sym, ap, subst, ◌∙◌, true≢false, inl, inr, ⊎_elim, map, arith}
use Rattle.std.specs.List.{filter, list_any}
use Rattle.std.specs.Option.{option_map}
use Rattle.std.specs.FinMap.{get, insert, same_map}
use Rattle.std.specs.FinSet.{union, difference}
use Rattle.base.specs.Map.{Map, BlockSet}
use Rattle.base.specs.Surveys.{IsIn}
use Rattle.model.specs.World.{World, FileSystem, Snap, SnapId, id_of, same_id, snap_at, snaps_of, maps_of, union_of}
use Rattle.model.specs.Edits.{without_snaps, with_losses}
use Rattle.world.specs.Sets.{IsSubset}
use Rattle.world.specs.Blocks.{block_order as o}
use Rattle.world.specs.Shapes.{Name, name_order, IsGood}
use Rattle.world.specs.Worlds.{shapes, AreRising, AreFileSystems, IsWorld, ArePaired, AreMapsFrom}
use Rattle.world.specs.Dead.{HasNoCloneIn}
use Rattle.world.proofs.lists.Maps.{same_value, no_value, key_cases}
use Rattle.world.proofs.removals.Sweep.{get-with_file_systems}
use Rattle.world.proofs.lineage.Bridge.{one_snap, from_snap_at, snap_is_at, rising, rising_below, rising_above, rising_after, in_middle, in_snaps, from_snaps, start}
use Rattle.world.proofs.lists.Finding.{filter_all, filter_join, in_filter, from_filter, same_id_is, is_same_id}
use Rattle.world.proofs.lists.Listed.{in_map, map_in}
use Rattle.world.proofs.changes.Promotions.{split_at}
use Rattle.world.proofs.lineage.Put.{put_here, put_other}
use Rattle.world.proofs.removals.Removals.{drop_systems}
use Rattle.world.proofs.lists.SetCounts.{same_members, in_union_left, in_union_right, from_union}
use Rattle.world.proofs.lists.Lists.{losses_add}
use Rattle.world.proofs.changes.Kept.{world_losses, pair_losses, union-fields}
use Rattle.world.specs.Outcomes.{is_one_of}
use Rattle.std.proofs.lemmas.Bool.{or_cases, or_left, or_right}

-- ---- filters, one after the other

filter_twice : {A : Type 0} (p q : A → Bool) (xs : List A) → filter p (filter q xs) ≡ filter (λ x. q x && p x) xs
filter_twice p q [] = refl
filter_twice p q (x ∷ xs) = by_both (q x) (filter_twice p q xs)
  where
    by_p : (b : Bool) → filter p (filter q xs) ≡ filter (λ x. q x && p x) xs → cond b (x ∷ filter p (filter q xs)) (filter p (filter q xs)) ≡ cond b (x ∷ filter (λ x. q x && p x) xs) (filter (λ x. q x && p x) xs)
    by_p true ih = ap (λ l. x ∷ l) ih
    by_p false ih = ih

    by_both : (b : Bool) → filter p (filter q xs) ≡ filter (λ x. q x && p x) xs
        → filter p (cond b (x ∷ filter q xs) (filter q xs)) ≡ cond (b && p x) (x ∷ filter (λ x. q x && p x) xs) (filter (λ x. q x && p x) xs)
    by_both true ih = by_p (p x) ih
    by_both false ih = ih

filter_same : {A : Type 0} (p q : A → Bool) (xs : List A) → ((x : A) → IsIn xs x → p x ≡ q x) → filter p xs ≡ filter q xs
filter_same p q [] each = refl
filter_same p q (x ∷ xs) each = ap (λ b. cond b (x ∷ filter p xs) (filter p xs)) (each x (inl refl)) ∙ ap (λ l. cond (q x) (x ∷ l) l) (filter_same p q xs (λ y i. each y (inr i)))

-- ---- worlds without some snapshots

pub get-without : (w : World) (goes : Snap → Bool) (q : Name) → get (without_snaps w goes).file_systems q ≡ option_map (λ (s : FileSystem). record s { snaps = filter (λ t. not (goes t)) s.snaps }) (get w.file_systems q)
get-without w goes q = get-with_file_systems w (λ _ s. record s { snaps = filter (λ t. not (goes t)) s.snaps }) q

pub without_at : (w : World) (goes : Snap → Bool) (q : Name) (s : FileSystem) → get w.file_systems q ≡ Some s → get (without_snaps w goes).file_systems q ≡ Some (record s { snaps = filter (λ t. not (goes t)) s.snaps })
without_at w goes q s e = get-without w goes q ∙ ap (option_map (λ (s : FileSystem). record s { snaps = filter (λ t. not (goes t)) s.snaps })) e

pub from_without : (w : World) (goes : Snap → Bool) (q : Name) (x : FileSystem) → get (without_snaps w goes).file_systems q ≡ Some x
    → (s : FileSystem) × (get w.file_systems q ≡ Some s) × (x ≡ record s { snaps = filter (λ t. not (goes t)) s.snaps })
from_without w goes q x h = by_old (get w.file_systems q) refl (sym (get-without w goes q) ∙ h)
  where
    by_old : (y : Option FileSystem) → get w.file_systems q ≡ y → option_map (λ (s : FileSystem). record s { snaps = filter (λ t. not (goes t)) s.snaps }) y ≡ Some x
        → (s : FileSystem) × (get w.file_systems q ≡ Some s) × (x ≡ record s { snaps = filter (λ t. not (goes t)) s.snaps })
    by_old None e k = absurd (no_value x k)
    by_old (Some s) e k = (s, e, sym (same_value _ x k))

pub without_from : (w : World) (goes : Snap → Bool) → AreMapsFrom w.file_systems (without_snaps w goes).file_systems
without_from w goes q x m at h =
    let k = from_without w goes q x at in
    inr (q, k.0, k.1, ⊎_elim inl (λ i. inr (of_snaps k.0 m i)) (subst (λ (y : FileSystem). IsIn (maps_of y) m) k.2 h))
  where
    of_snaps : (s : FileSystem) (m : Map) → IsIn (map (λ (t : Snap). t.map) (filter (λ t. not (goes t)) s.snaps)) m → IsIn (map (λ (t : Snap). t.map) s.snaps) m
    of_snaps s m i =
        let u = in_map (λ (t : Snap). t.map) (filter (λ t. not (goes t)) s.snaps) m i in
        subst (λ y. IsIn (map (λ (t : Snap). t.map) s.snaps) y) (sym u.2) (map_in (λ (t : Snap). t.map) s.snaps u.0 (from_filter (λ t. not (goes t)) s.snaps u.0 u.1).0)

-- what goes at once, and what goes in two parts
pub without_twice : (w : World) (p q r : Snap → Bool) → ((t : Snap) → (not (p t) && not (q t)) ≡ not (r t)) → (without_snaps (without_snaps w p) q).file_systems ≡ (without_snaps w r).file_systems
without_twice w p q r each = same_map name_order.total name_order.exact _ _ (λ n.
    get-without (without_snaps w p) q n ∙ ap (option_map (λ (s : FileSystem). record s { snaps = filter (λ t. not (q t)) s.snaps })) (get-without w p n)
    ∙ by_old (get w.file_systems n) ∙ sym (get-without w r n))
  where
    by_old : (y : Option FileSystem)
        → option_map (λ (s : FileSystem). record s { snaps = filter (λ t. not (q t)) s.snaps }) (option_map (λ (s : FileSystem). record s { snaps = filter (λ t. not (p t)) s.snaps }) y)
        ≡ option_map (λ (s : FileSystem). record s { snaps = filter (λ t. not (r t)) s.snaps }) y
    by_old None = refl
    by_old (Some s) = ap (λ l. Some (record s { snaps = l }))
        (filter_twice (λ t. not (q t)) (λ t. not (p t)) s.snaps ∙ filter_same (λ t. not (p t) && not (q t)) (λ t. not (r t)) s.snaps (λ t i. each t))

without_same : (w : World) (p q : Snap → Bool) → ((n : Name) (s : FileSystem) (t : Snap) → get w.file_systems n ≡ Some s → IsIn s.snaps t → p t ≡ q t) → (without_snaps w p).file_systems ≡ (without_snaps w q).file_systems
without_same w p q each = same_map name_order.total name_order.exact _ _ (λ n. get-without w p n ∙ by_old n (get w.file_systems n) refl ∙ sym (get-without w q n))
  where
    by_old : (n : Name) (y : Option FileSystem) → get w.file_systems n ≡ y
        → option_map (λ (s : FileSystem). record s { snaps = filter (λ t. not (p t)) s.snaps }) y ≡ option_map (λ (s : FileSystem). record s { snaps = filter (λ t. not (q t)) s.snaps }) y
    by_old n None e = refl
    by_old n (Some s) e = ap (λ l. Some (record s { snaps = l })) (filter_same (λ t. not (p t)) (λ t. not (q t)) s.snaps (λ t i. ap not (each n s t e i)))

pub without_none : (w : World) (p : Snap → Bool) → ((n : Name) (s : FileSystem) (t : Snap) → get w.file_systems n ≡ Some s → IsIn s.snaps t → p t ≡ false) → (without_snaps w p).file_systems ≡ w.file_systems
without_none w p each = same_map name_order.total name_order.exact _ _ (λ n. get-without w p n ∙ by_old n (get w.file_systems n) refl)
  where
    by_old : (n : Name) (y : Option FileSystem) → get w.file_systems n ≡ y → option_map (λ (s : FileSystem). record s { snaps = filter (λ t. not (p t)) s.snaps }) y ≡ y
    by_old n None e = refl
    by_old n (Some s) e = ap (λ l. Some (record s { snaps = l })) (filter_all (λ t. not (p t)) s.snaps (λ t i. ap not (each n s t e i)))

-- ---- one of them

abbrev is_named : SnapId → Snap → Bool
is_named id t = same_id (id_of t) id

not_named : (id : SnapId) (t : Snap) → ¬ (id_of t ≡ id) → same_id (id_of t) id ≡ false
not_named id t ne = by_test (same_id (id_of t) id) refl
  where
    by_test : (b : Bool) → same_id (id_of t) id ≡ b → same_id (id_of t) id ≡ false
    by_test true e = absurd (ne (same_id_is (id_of t) id e))
    by_test false e = e

module _ (w : World) (g : ℕ) (good : AreFileSystems w.file_systems g) (id : SnapId) (none : HasNoCloneIn w.file_systems id) where
  abbrev lines : IsGood (shapes w.file_systems) g
  lines = good.lines

  -- with the snapshot in the middle of a file system's list
  module _ (name : Name) (s : FileSystem) (at : get w.file_systems name ≡ Some s) (older : List Snap) (t : Snap) (newer : List Snap) (is : s.snaps ≡ older ++ t ∷ newer) (is_id : id_of t ≡ id) where
    filtered : filter (λ (u : Snap). not (same_id (id_of u) id)) s.snaps ≡ older ++ newer
    filtered =
        ap (filter (λ (u : Snap). not (same_id (id_of u) id))) is
        ∙ filter_join (λ (u : Snap). not (same_id (id_of u) id)) older (t ∷ newer)
        ∙ (λ i. filter_all (λ (u : Snap). not (same_id (id_of u) id)) older older_stay i ++ tail_is i)
      where
        r : AreRising (start w.file_systems g lines name s at).base (older ++ t ∷ newer)
        r = subst (AreRising (start w.file_systems g lines name s at).base) is (rising w.file_systems g lines name s at)

        older_stay : (u : Snap) → IsIn older u → not (same_id (id_of u) id) ≡ true
        older_stay u h = ap not (not_named id u (λ e. let l = rising_below _ older t newer r u h in let k = ap (λ (x : SnapId). x.group) (e ∙ sym is_id) in absurd (omega arith)))

        newer_stay : (u : Snap) → IsIn newer u → not (same_id (id_of u) id) ≡ true
        newer_stay u h = ap not (not_named id u (λ e. let l = rising_above t.group newer u (rising_after _ older t newer r) h in let k = ap (λ (x : SnapId). x.group) (e ∙ sym is_id) in absurd (omega arith)))

        tail_is : filter (λ (u : Snap). not (same_id (id_of u) id)) (t ∷ newer) ≡ newer
        tail_is = ap (λ b. cond (not b) (t ∷ filter (λ (u : Snap). not (same_id (id_of u) id)) newer) (filter (λ (u : Snap). not (same_id (id_of u) id)) newer)) (is_same_id (id_of t) id is_id)
            ∙ filter_all (λ (u : Snap). not (same_id (id_of u) id)) newer newer_stay

    -- the others have no such snapshot
    others : (q : Name) (x : FileSystem) → ¬ (q ≡ name) → get w.file_systems q ≡ Some x → filter (λ (u : Snap). not (same_id (id_of u) id)) x.snaps ≡ x.snaps
    others q x ne e = filter_all (λ (u : Snap). not (same_id (id_of u) id)) x.snaps (λ u h. ap not (not_named id u (λ i.
        ne (one_snap w.file_systems g lines q name x s u t e at h (subst (λ l. IsIn l t) (sym is) (in_middle older t newer)) (i ∙ sym is_id)).0)))

    pub dropped : (without_snaps w (is_named id)).file_systems ≡ insert w.file_systems name (record s { snaps = older ++ newer })
    dropped = same_map name_order.total name_order.exact _ _ (λ n. get-without w (is_named id) n ∙ ⊎_elim
        (λ (same : n ≡ name).
        ap (option_map (λ (s : FileSystem). record s { snaps = filter (λ t. not (same_id (id_of t) id)) s.snaps })) (ap (get w.file_systems) same ∙ at)
        ∙ ap (λ l. Some (record s { snaps = l })) filtered
        ∙ sym (put_here w.file_systems name (record s { snaps = older ++ newer })) ∙ ap (get (insert w.file_systems name (record s { snaps = older ++ newer }))) (sym same))
        (λ (ne : ¬ (n ≡ name)). by_old n ne (get w.file_systems n) refl ∙ sym (put_other w.file_systems name (record s { snaps = older ++ newer }) n ne))
        (key_cases name_order n name))
      where
        by_old : (n : Name) → ¬ (n ≡ name) → (y : Option FileSystem) → get w.file_systems n ≡ y
            → option_map (λ (s : FileSystem). record s { snaps = filter (λ t. not (same_id (id_of t) id)) s.snaps }) (get w.file_systems n) ≡ get w.file_systems n
        by_old n ne None e = ap (option_map (λ (s : FileSystem). record s { snaps = filter (λ t. not (same_id (id_of t) id)) s.snaps })) e ∙ sym e
        by_old n ne (Some x) e = ap (option_map (λ (s : FileSystem). record s { snaps = filter (λ t. not (same_id (id_of t) id)) s.snaps })) e ∙ ap (λ l. Some (record x { snaps = l })) (others n x ne e) ∙ sym e

    systems_there : AreFileSystems (without_snaps w (is_named id)).file_systems g
    systems_there = subst (λ f. AreFileSystems f g) (sym dropped)
        (drop_systems w.file_systems g good name s at older t newer is (λ q x e i. none q x e (i ∙ ap Some is_id)))

  one_goes : AreFileSystems (without_snaps w (is_named id)).file_systems g
  one_goes = by_snap (snap_at w id) refl
    where
      by_snap : (x : Option (Name × Snap)) → snap_at w id ≡ x → AreFileSystems (without_snaps w (is_named id)).file_systems g
      by_snap None e = subst (λ f. AreFileSystems f g) (sym (without_none w (is_named id) (λ n s t at h. not_named id t (λ i. no_value _ (sym e ∙ snap_is_at w g lines n s t id at h i))))) good
      by_snap (Some p) e =
          let k = from_snap_at w id p e in
          let l = split_at k.0.snaps p.1 k.2 in
          systems_there p.0 k.0 k.1 l.0 p.1 l.1 l.2 k.3

-- ---- all of them

pub any_in : (ids : List SnapId) (i j : SnapId) → IsIn ids i → j ≡ i → list_any (same_id j) ids ≡ true
any_in [] i j h e = absurd h
any_in (x ∷ xs) i j h e = ⊎_elim
    (λ (k : i ≡ x). or_left (same_id j x) (list_any (same_id j) xs) (is_same_id j x (e ∙ k)))
    (λ k. or_right (same_id j x) (list_any (same_id j) xs) (any_in xs i j k e))
    h

pub any_from : (ids : List SnapId) (j : SnapId) → list_any (same_id j) ids ≡ true → IsIn ids j
any_from [] j h = absurd (true≢false (sym h))
any_from (x ∷ xs) j h = ⊎_elim (λ k. inl (same_id_is j x k)) (λ k. inr (any_from xs j k)) (or_cases _ _ h)

pub not_or : (a b : Bool) → (not a && not b) ≡ not (a || b)
not_or true b = refl
not_or false b = refl

pub many_go : (g : ℕ) (ids : List SnapId) (w : World) → AreFileSystems w.file_systems g → ((id : SnapId) → IsIn ids id → HasNoCloneIn w.file_systems id)
    → AreFileSystems (without_snaps w (is_one_of ids)).file_systems g
many_go g [] w good none = subst (λ f. AreFileSystems f g) (sym (without_none w (is_one_of []) (λ n s t at h. refl))) good
many_go g (id ∷ ids) w good none =
    let w1 = without_snaps w (is_named id) in
    subst (λ f. AreFileSystems f g) (without_twice w (is_named id) (is_one_of ids) (is_one_of (id ∷ ids)) (λ t. not_or (same_id (id_of t) id) (is_one_of ids t)))
    (many_go g ids w1 (one_goes w g good id (none id (inl refl)))
    (λ i h q x e k. let r = from_without w (is_named id) q x e in none i (inr h) q r.0 r.1 (ap (λ y. y.origin) (sym r.2) ∙ k)))

module _ (w : World) (g : ℕ) (good : AreFileSystems w.file_systems g) (goes : Snap → Bool)
    (none : (n : Name) (s : FileSystem) (t : Snap) → get w.file_systems n ≡ Some s → IsIn s.snaps t → goes t ≡ true → HasNoCloneIn w.file_systems (id_of t)) where
  -- the identities of those that go
  pub gone_ids : List SnapId
  gone_ids = map (λ p. id_of p.1) (filter (λ p. goes p.1) (snaps_of w))

  from_gone : (i : SnapId) → IsIn gone_ids i → (n : Name) × (s : FileSystem) × (t : Snap) × (get w.file_systems n ≡ Some s) × IsIn s.snaps t × (goes t ≡ true) × (i ≡ id_of t)
  unfolding gone_ids
  from_gone i h =
      let p = in_map (λ (p : Name × Snap). id_of p.1) (filter (λ (p : Name × Snap). goes p.1) (snaps_of w)) i h in
      let k = from_filter (λ (p : Name × Snap). goes p.1) (snaps_of w) p.0 p.1 in
      let s = from_snaps w p.0 k.0 in
      (p.0.0, s.0, p.0.1, s.1, s.2, k.1, p.2)

  in_gone : (n : Name) (s : FileSystem) (t : Snap) → get w.file_systems n ≡ Some s → IsIn s.snaps t → goes t ≡ true → IsIn gone_ids (id_of t)
  unfolding gone_ids
  in_gone n s t at h e = map_in (λ (p : Name × Snap). id_of p.1) (filter (λ (p : Name × Snap). goes p.1) (snaps_of w)) (n, t) (in_filter (λ (p : Name × Snap). goes p.1) (snaps_of w) (n, t) (in_snaps w n s t at h) e)

  -- a test of snapshots is a test of identities
  gone_same : (n : Name) (s : FileSystem) (t : Snap) → get w.file_systems n ≡ Some s → IsIn s.snaps t → is_one_of gone_ids t ≡ goes t
  gone_same n s t at h = by_test (goes t) refl
    where
      no : goes t ≡ false → is_one_of gone_ids t ≡ true → ⊥
      no e k =
          let r = from_gone (id_of t) (any_from gone_ids (id_of t) k) in
          let same = one_snap w.file_systems g good.lines n r.0 s r.1 t r.2 at r.3 h r.4 r.6 in
          true≢false (sym r.5 ∙ ap goes (sym same.1) ∙ e)

      by_false : (b : Bool) → is_one_of gone_ids t ≡ b → goes t ≡ false → is_one_of gone_ids t ≡ false
      by_false true k e = absurd (no e k)
      by_false false k e = k

      by_test : (b : Bool) → goes t ≡ b → is_one_of gone_ids t ≡ goes t
      by_test true e = any_in gone_ids (id_of t) (id_of t) (in_gone n s t at h e) refl ∙ sym e
      by_test false e = by_false (is_one_of gone_ids t) refl e ∙ sym e

  -- what goes at once is what goes by its identities
  pub without_ids : (without_snaps w (is_one_of gone_ids)).file_systems ≡ (without_snaps w goes).file_systems
  without_ids = without_same w (is_one_of gone_ids) goes gone_same

  pub set_goes : AreFileSystems (without_snaps w goes).file_systems g
  set_goes = subst (λ f. AreFileSystems f g) without_ids
      (many_go g gone_ids w good (λ i h. let r = from_gone i h in λ q x e k. none r.0 r.1 r.2 r.3 r.4 r.5 q x e (k ∙ ap Some r.6)))

module _ (size : ℕ) (w : World) (good : IsWorld size w) (goes : Snap → Bool)
    (none : (n : Name) (s : FileSystem) (t : Snap) → get w.file_systems n ≡ Some s → IsIn s.snaps t → goes t ≡ true → HasNoCloneIn w.file_systems (id_of t)) where
  pub without_good : AreFileSystems (without_snaps w goes).file_systems w.group
  without_good = set_goes w w.group good.systems goes none

  pub without_world : IsWorld size (with_losses w (without_snaps w goes))
  without_world = world_losses size w (without_snaps w goes) good (without_from w goes) without_good refl

  pub without_pairs : (last : World) → ArePaired size w last → ArePaired size (with_losses w (without_snaps w goes)) last
  without_pairs last = pair_losses size w (without_snaps w goes) good (without_from w goes) without_good refl last (omega arith)

-- ---- what is lost at once is what is lost in two parts

pub losses_twice : (w a b : World) → a.freeing ≡ w.freeing → b.freeing ≡ w.freeing → IsSubset (union_of a) (union_of w) → IsSubset (union_of b) (union_of a)
    → with_losses (with_losses w a) (record b { freeing = (with_losses w a).freeing }) ≡ with_losses w b
losses_twice w a b fa fb sa sb = λ i. record b { freeing = freeing i }
  where
    same : union_of (with_losses w a) ≡ union_of a
    same = union-fields (with_losses w a) a refl

    union_same : union_of (record b { freeing = (with_losses w a).freeing }) ≡ union_of b
    union_same = union-fields (record b { freeing = (with_losses w a).freeing }) b refl

    -- the difference is the two differences together
    parts : difference (union_of w) (union_of b) ≡ union (difference (union_of w) (union_of a)) (difference (union_of a) (union_of b))
    parts = losses_add (union_of w) (union_of a) (union_of b) sa sb

    regroup : (x y z : BlockSet) → union (union x y) z ≡ union x (union y z)
    regroup x y z = same_members o _ _
        (λ q h. ⊎_elim
        (λ k. ⊎_elim (λ l. in_union_left o x (union y z) q l) (λ l. in_union_right o x (union y z) q (in_union_left o y z q l)) (from_union o x y q k))
        (λ k. in_union_right o x (union y z) q (in_union_right o y z q k))
        (from_union o (union x y) z q h))
        (λ q h. ⊎_elim
        (λ k. in_union_left o (union x y) z q (in_union_left o x y q k))
        (λ k. ⊎_elim (λ l. in_union_left o (union x y) z q (in_union_right o x y q l)) (λ l. in_union_right o (union x y) z q l) (from_union o y z q k))
        (from_union o x (union y z) q h))

    freeing : (with_losses (with_losses w a) (record b { freeing = (with_losses w a).freeing })).freeing ≡ (with_losses w b).freeing
    freeing =
        (λ i. union (union a.freeing (difference (union_of w) (union_of a))) (difference (same i) (union_same i)))
        ∙ regroup a.freeing (difference (union_of w) (union_of a)) (difference (union_of a) (union_of b))
        ∙ ap (union a.freeing) (sym parts)
        ∙ ap (λ x. union x (difference (union_of w) (union_of b))) (fa ∙ sym fb)
