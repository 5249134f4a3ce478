-- The snapshots before a dataset in its lineage, which no bound cuts.
use Rattle.std.proofs.Common.{◌≡◌, ℕ, zero, suc, ◌<◌, ◌≤◌, ◌⊎◌, true, false, ◌||◌, List, [], ◌∷◌, Option, Some, None, refl, sym, ap, subst, ◌∙◌, inl, inr, ⊎_elim, arith}
use Rattle.std.specs.List.{list_any}
use Rattle.std.specs.Option.{option_map_or}
use Rattle.std.proofs.lemmas.Bool.{false_from_ne_true}
use Rattle.std.specs.FinMap.{get}
use Rattle.base.specs.Surveys.{IsIn}
use Rattle.model.specs.World.{World, FileSystem, SnapId, Dataset, Live, Snapped, same_id, previous_of, chain, older_of}
use Rattle.world.specs.Shapes.{Shape, SnapShape, Before, Starts, IsAmong}
use Rattle.world.specs.Worlds.{snap_shape, shapes, shape_of, AreFileSystems}
use Rattle.world.specs.Dead.{IsThere, base_of, group_of}
use Rattle.world.proofs.lineage.Requests.{lineage_facts}
use Rattle.world.proofs.removals.WithoutSnaps.{any_in, any_from}
use Rattle.world.proofs.lineage.Bridge.{shape_at, from_shape, from_among, among, prev_starts, start, starts}
use Rattle.world.proofs.lineage.Dead.{there_row, in_line}
use Rattle.limits.specs.Space.{IsPath}

module _ (w : World) where
  ended : (n : ℕ) → chain w n None ≡ []
  ended zero = refl
  ended (suc n) = refl

  -- nothing stands before a dataset that has no previous snapshot
  pub older_none : (d : Dataset) → previous_of w d ≡ None → older_of w d ≡ []
  unfolding older_of
  older_none d e = ap (chain w w.group) e ∙ ended w.group

  -- the dataset at the end of a path is there
  pub path_there : (id : SnapId) (ids : List SnapId) (d : Dataset) → IsPath w id ids d → IsThere w d
  path_there id [] d p = p.0
  path_there id (j ∷ js) d p = path_there j js d p.2

  -- the last step of a path
  path_end : (id : SnapId) (ids : List SnapId) (d : Dataset) → IsPath w id ids d
      → (j : SnapId) × (previous_of w d ≡ Some j) × ((id ≡ j) ⊎ ((js : List SnapId) × IsPath w id js (Snapped j)))
  path_end id [] d p = (id, p.1, inl refl)
  path_end id (i ∷ is) d p =
      let r = path_end i is d p.2 in (
        r.0,
        r.1,
        inr (⊎_elim
            (λ same. ([], subst (λ x. IsPath w id [] (Snapped x)) same (p.0, p.1)))
            (λ (js, q). (i ∷ js, (p.0, p.1, q)))
            r.2),
      )

module _ (w : World) (good : AreFileSystems w.file_systems w.group) where
  -- the snapshot that something starts from is there
  start_there : (id : SnapId) (q : Before) → Starts (shapes w.file_systems) (Some id) q → IsThere w (Snapped id)
  start_there id q (y, (name, f, at, i, is), e) =
      let x = from_shape w.file_systems name f at in
      let t = from_among x.0.snaps y (subst (λ (z : Shape). IsAmong z.snapshots y) x.2 i) in
      (name, x.0, t.0, x.1, t.1, sym (ap (λ (z : SnapShape). z.id) t.2) ∙ is)

  -- the origin of a file system is there
  pub origin_there : (name : List ℕ) (s : FileSystem) → get w.file_systems name ≡ Some s → (id : SnapId) → s.origin ≡ Some id → IsThere w (Snapped id)
  origin_there name s at id e =
      let q = start w.file_systems w.group good.lines name s at in
      start_there id q (subst (λ x. Starts (shapes w.file_systems) x q) e (starts w.file_systems w.group good.lines name s at))

  -- the snapshot before a dataset that is there is there
  pub previous_there : (d : Dataset) (id : SnapId) → IsThere w d → previous_of w d ≡ Some id → IsThere w (Snapped id)
  previous_there d id there e =
      let r = there_row w w.group good.lines d there in
      let q : Before = record { prev = r.0.prev; base = r.0.base; below = r.0.below } in
      start_there id q (subst (λ x. Starts (shapes w.file_systems) x q) e (prev_starts w w.group good.lines d r.0 r.1))

  -- groups fall along a lineage
  pub previous_below : (d : Dataset) (id : SnapId) → IsThere w d → previous_of w d ≡ Some id → id.group < group_of w d
  unfolding base_of
  previous_below d id there e = subst (λ x. option_map_or (λ (i : SnapId). i.group) x 0 < group_of w d) e (in_line w w.group good.lines refl d there).falls

  -- from the open group at most
  group_high : (d : Dataset) → IsThere w d → group_of w d ≤ w.group
  group_high (Live name) there = omega arith
  group_high (Snapped id) (name, s, t, at, i, is) =
      let l = (lineage_facts (shapes w.file_systems) w.group good.lines).1 id (snap_shape t) (name, shape_of s, shape_at w.file_systems name s at, among s.snaps t i, is) in
      omega (arith, l)

  positive : (id : SnapId) → IsThere w (Snapped id) → 0 < id.group
  positive id there = let l = (in_line w w.group good.lines refl (Snapped id) there).falls in omega (arith, l)

  -- a bound from the group on doesn't cut
  chain_same : (n m : ℕ) (id : SnapId) → IsThere w (Snapped id) → id.group ≤ n → id.group ≤ m → chain w n (Some id) ≡ chain w m (Some id)
  chain_same zero m id there l k = let p = positive id there in absurd (omega (arith, p, l))
  chain_same (suc n) zero id there l k = let p = positive id there in absurd (omega (arith, p, k))
  chain_same (suc n) (suc m) id there l k =
      ap (λ xs. id ∷ xs) (at (previous_of w (Snapped id)) refl (λ j is e.
      let b = previous_below (Snapped id) j there e in
      chain_same n m j is (omega (arith, b, l)) (omega (arith, b, k))))
    where
      at : (x : Option SnapId) → previous_of w (Snapped id) ≡ x
          → ((j : SnapId) → IsThere w (Snapped j) → previous_of w (Snapped id) ≡ Some j → chain w n (Some j) ≡ chain w m (Some j))
          → chain w n x ≡ chain w m x
      at None e ih = ended w n ∙ sym (ended w m)
      at (Some j) e ih = ih j (previous_there (Snapped id) j there e) e

  chain_next : (n m : ℕ) (id : SnapId) → IsThere w (Snapped id) → id.group ≤ suc n → id.group ≤ m
      → chain w n (previous_of w (Snapped id)) ≡ chain w m (previous_of w (Snapped id))
  chain_next n m id there l k = at (previous_of w (Snapped id)) refl
    where
      at : (x : Option SnapId) → previous_of w (Snapped id) ≡ x → chain w n x ≡ chain w m x
      at None e = ended w n ∙ sym (ended w m)
      at (Some j) e =
          let b = previous_below (Snapped id) j there e in
          chain_same n m j (previous_there (Snapped id) j there e) (omega (arith, b, l)) (omega (arith, b, k))

  -- the one before, and those before that one
  pub older_first : (d : Dataset) (id : SnapId) → IsThere w d → previous_of w d ≡ Some id → older_of w d ≡ id ∷ older_of w (Snapped id)
  unfolding older_of
  older_first d id there e = ap (chain w w.group) e ∙ at w.group refl
    where
      at : (g : ℕ) → w.group ≡ g → chain w g (Some id) ≡ id ∷ chain w w.group (previous_of w (Snapped id))
      at zero z =
          let h = group_high d there in
          let b = previous_below d id there e in
          absurd (omega (arith, h, b, z))
      at (suc n) z =
          let h = group_high d there in
          let b = previous_below d id there e in
          ap (λ xs. id ∷ xs) (chain_next n w.group id (previous_there d id there e) (omega (arith, h, b, z)) (omega (arith, h, b)))

  -- one step of a walk: the snapshot is the one before, or one of those before that
  pub older_step : (id j : SnapId) (d : Dataset) → IsThere w d → previous_of w d ≡ Some j
      → list_any (same_id id) (older_of w d) ≡ (same_id id j || list_any (same_id id) (older_of w (Snapped j)))
  older_step id j d there e = ap (list_any (same_id id)) (older_first d j there e)

  -- their groups are below the dataset's
  below_by : (k : ℕ) (d : Dataset) (id : SnapId) → group_of w d ≤ k → IsThere w d → IsIn (older_of w d) id → id.group < group_of w d
  below_by zero d id l there i = at (previous_of w d) refl
    where
      at : (x : Option SnapId) → previous_of w d ≡ x → id.group < group_of w d
      at None e = absurd (subst (λ xs. IsIn xs id) (older_none w d e) i)
      at (Some j) e = let b = previous_below d j there e in absurd (omega (arith, b, l))
  below_by (suc k) d id l there i = at (λ j lower is h. below_by k (Snapped j) id lower is h) (previous_of w d) refl
    where
      at : ((j : SnapId) → j.group ≤ k → IsThere w (Snapped j) → IsIn (older_of w (Snapped j)) id → id.group < j.group)
          → (x : Option SnapId) → previous_of w d ≡ x → id.group < group_of w d
      at ih None e = absurd (subst (λ xs. IsIn xs id) (older_none w d e) i)
      at ih (Some j) e =
          let b = previous_below d j there e in
          ⊎_elim
          (λ is. let g : id.group ≡ j.group = ap (λ (x : SnapId). x.group) is in omega (arith, b, g))
          (λ h. let r = ih j (omega (arith, b, l)) (previous_there d j there e) h in omega (arith, b, r))
          (subst (λ xs. IsIn xs id) (older_first d j there e) i)

  pub older_below : (d : Dataset) (id : SnapId) → IsThere w d → IsIn (older_of w d) id → id.group < group_of w d
  older_below d id there i = below_by (group_of w d) d id (omega arith) there i

  -- so a walk may stop at a dataset whose group isn't above the snapshot's
  pub not_older_low : (id : SnapId) (d : Dataset) → IsThere w d → group_of w d ≤ id.group → list_any (same_id id) (older_of w d) ≡ false
  not_older_low id d there l = false_from_ne_true (list_any (same_id id) (older_of w d)) (λ t.
      let b = older_below d id there (any_from (older_of w d) id t) in
      absurd (omega (arith, b, l)))

  -- ---- the lineage by its paths

  has_by : (k : ℕ) (id : SnapId) (ids : List SnapId) (d : Dataset) → group_of w d ≤ k → IsPath w id ids d → IsIn (older_of w d) id
  has_by zero id ids d l p =
      let there = path_there w id ids d p in
      let r = path_end w id ids d p in
      let b = previous_below d r.0 there r.1 in
      absurd (omega (arith, b, l))
  has_by (suc k) id ids d l p =
      let there = path_there w id ids d p in
      let r = path_end w id ids d p in
      let b = previous_below d r.0 there r.1 in
      subst (λ xs. IsIn xs id) (sym (older_first d r.0 there r.1))
      (⊎_elim inl (λ (js, q). inr (has_by k id js (Snapped r.0) (omega (arith, b, l)) q)) r.2)

  -- a snapshot from which a path leads to the dataset is in its lineage
  pub older_has : (id : SnapId) (ids : List SnapId) (d : Dataset) → IsPath w id ids d → list_any (same_id id) (older_of w d) ≡ true
  older_has id ids d p = any_in (older_of w d) id id (has_by (group_of w d) id ids d (omega arith) p) refl
