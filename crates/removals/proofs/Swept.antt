-- Snapshots that go with their last clones: all that nothing needs any more.
use Rattle.std.proofs.Common.{◌≡◌, Bool, true, false, cond, not, ◌&&◌, ◌||◌, List, [], ◌∷◌, map, Option, Some, None, refl, sym, ap, subst, ◌∙◌, true≢false, inl, ⊎_elim}
use Rattle.std.specs.Prelude.{nat_lt, length, is_some}
use Rattle.std.specs.List.{filter, list_any}
use Rattle.std.specs.Option.{option_map, option_map_or, option_and_then}
use Rattle.std.specs.FinMap.{get, entries, same_map}
use Rattle.std.proofs.lemmas.Bool.{and_parts}
use Rattle.base.specs.Surveys.{IsIn}
use Rattle.base.specs.declared.name.member.Member.{Member}
use Rattle.model.specs.declared.destroy_target.DestroyTarget.TheVariants.{Snapshots as SnapshotsGo}
use Rattle.model.specs.World.{World, FileSystem, Snap, SnapId, id_of, same_id, snap_at, snaps_of}
use Rattle.model.specs.State.{Views, is_viewed}
use Rattle.model.specs.Outcome.{is_needed}
use Rattle.model.specs.Edits.{without_snaps}
use Rattle.model.specs.requests.Destroy.{is_one_of, snaps_named}
use Rattle.datasets.specs.Holders.{snap_in_system}
use Rattle.datasets.specs.Rows.{Entry}
use Rattle.world.specs.Shapes.{Name, name_order}
use Rattle.world.specs.Worlds.{AreFileSystems}
use Rattle.world.specs.Tables.{Datasets, world_of, without_snap}
use Rattle.world.proofs.lists.Maps.{no_value, same_value, at_entry}
use Rattle.world.proofs.lists.Finding.{or_none, found_none, from_filter, same_id_is, is_same_id}
use Rattle.world.proofs.lineage.Bridge.{from_entries, from_snap_at, in_snaps, one_snap}
use Rattle.world.proofs.lists.Listed.{in_map}
use Rattle.world.proofs.removals.Sweep.{get-with_file_systems}
use Rattle.world.proofs.removals.WithoutSnaps.{get-without, from_without, without_twice, without_none}
use Rattle.removals.specs.Needs.{has_clone, is_held, is_kept}
use Rattle.removals.specs.Families.{ArePartOf, unneeded, without_unneeded, removed_origin, without_origin}
use Rattle.removals.specs.Requests.{swept, destroyed, IsSweptBut, IsSweptBy}
use Rattle.removals.proofs.Clones.{uncloned_is, is_uncloned}
use Rattle.removals.proofs.Closed.{filter_alike}
use Rattle.removals.proofs.Needed.{found_there, not_true, needed_is, kept_parts, if_due, unneeded_parts}

and_false : (b : Bool) → (b && false) ≡ false
and_false true = refl
and_false false = refl

pub alike : (a b : Bool) → (a ≡ false → b ≡ false) → (b ≡ false → a ≡ false) → a ≡ b
alike true true f g = refl
alike true false f g = g refl
alike false true f g = sym (f refl)
alike false false f g = refl

-- ---- what a test leaves

-- the datasets without the snapshots of a test
abbrev pub without : Datasets → (Snap → Bool) → Datasets
without t p = record t { file_systems = (without_snaps (world_of t) p).file_systems }

-- tests that agree on what is there leave the same
pub same_gone : (w : World) (p q : Snap → Bool) → ((n : Name) (f : FileSystem) (u : Snap) → get w.file_systems n ≡ Some f → IsIn f.snaps u → p u ≡ q u)
    → (without_snaps w p).file_systems ≡ (without_snaps w q).file_systems
same_gone w p q each = same_map name_order.total name_order.exact _ _ (λ n. get-without w p n ∙ by_system n (get w.file_systems n) refl ∙ sym (get-without w q n))
  where
    by_system : (n : Name) (x : Option FileSystem) → get w.file_systems n ≡ x
        → option_map (λ (f : FileSystem). record f { snaps = filter (λ u. not (p u)) f.snaps }) x ≡ option_map (λ (f : FileSystem). record f { snaps = filter (λ u. not (q u)) f.snaps }) x
    by_system n None at = refl
    by_system n (Some f) at = ap (λ l. Some (record f { snaps = l })) (filter_alike p q f.snaps (λ u i. each n f u at i))

pub none_without : (t : Datasets) (p : Snap → Bool) → ((n : Name) (f : FileSystem) (u : Snap) → get t.file_systems n ≡ Some f → IsIn f.snaps u → p u ≡ false) → without t p ≡ t
none_without t p each = ap (λ ss. record t { file_systems = ss }) (without_none (world_of t) p each)

-- an identity is one snapshot's
abbrev pub IsOneToAnId : Datasets → Type 0
IsOneToAnId t = (n m : Name) (f g : FileSystem) (a b : Snap) → get t.file_systems n ≡ Some f → get t.file_systems m ≡ Some g → IsIn f.snaps a → IsIn g.snaps b → id_of a ≡ id_of b → a ≡ b

pub once_here : (t : Datasets) → AreFileSystems t.file_systems t.group → IsOneToAnId t
once_here t good n m f g a b at at' i j e = (one_snap t.file_systems t.group good.lines n m f g a b at at' i j e).1

once_left : (t : Datasets) → IsOneToAnId t → (p : Snap → Bool) → IsOneToAnId (without t p)
once_left t once p n m f g a b at at' i j e =
    let k = from_without (world_of t) p n f at in
    let l = from_without (world_of t) p m g at' in
    once n m k.0 l.0 a b k.1 l.1
    (from_filter (λ u. not (p u)) k.0.snaps a (subst (λ (y : FileSystem). IsIn y.snaps a) k.2 i)).0
    (from_filter (λ u. not (p u)) l.0.snaps b (subst (λ (y : FileSystem). IsIn y.snaps b) l.2 j)).0
    e

-- ---- clones depend on origins alone

abbrev origin_at : Datasets → Name → Option (Option SnapId)
origin_at t n = option_map (λ (f : FileSystem). f.origin) (get t.file_systems n)

fewer_clones : (t u : Datasets) → ((n : Name) → origin_at u n ≡ origin_at t n) → (id : SnapId) → has_clone t id ≡ false → has_clone u id ≡ false
fewer_clones t u same id e = is_uncloned u id (λ n f at o. by_system n f o (get t.file_systems n) refl (sym (same n) ∙ ap (option_map (λ (g : FileSystem). g.origin)) at))
  where
    by_system : (n : Name) (f : FileSystem) → f.origin ≡ Some id → (x : Option FileSystem) → get t.file_systems n ≡ x → option_map (λ (g : FileSystem). g.origin) x ≡ Some f.origin → ⊥
    by_system n f o None at k = no_value f.origin k
    by_system n f o (Some g) at k = uncloned_is t id e n g at (same_value g.origin f.origin k ∙ o)

pub same_clones : (t u : Datasets) → ((n : Name) → origin_at u n ≡ origin_at t n) → (id : SnapId) → has_clone u id ≡ has_clone t id
same_clones t u same id = alike (has_clone u id) (has_clone t id) (fewer_clones u t (λ n. sym (same n)) id) (fewer_clones t u same id)

-- ---- one by one

-- its destroy is deferred and nothing needs it
abbrev pub is_due : Datasets → Views → Snap → Bool
is_due t views u = u.deferred && not (is_kept t views u)

module _ (t : Datasets) (p : Snap → Bool) where
  pub origins_stay : (n : Name) → origin_at (without t p) n ≡ origin_at t n
  origins_stay n = ap (option_map (λ (f : FileSystem). f.origin)) (get-without (world_of t) p n) ∙ by_system (get t.file_systems n)
    where
      by_system : (x : Option FileSystem) → option_map (λ (f : FileSystem). f.origin) (option_map (λ (f : FileSystem). record f { snaps = filter (λ u. not (p u)) f.snaps }) x) ≡ option_map (λ (f : FileSystem). f.origin) x
      by_system None = refl
      by_system (Some f) = refl

  due_stays : (views : Views) (u : Snap) → is_due (without t p) views u ≡ is_due t views u
  due_stays views u = ap (λ b. u.deferred && not (is_held views u || b)) (same_clones t (without t p) origins_stay (id_of u))

  there_stays : (n : Name) → is_some (get (without t p).file_systems n) ≡ is_some (get t.file_systems n)
  there_stays n = ap is_some (get-without (world_of t) p n) ∙ by_system (get t.file_systems n)
    where
      by_system : (x : Option FileSystem) → is_some (option_map (λ (f : FileSystem). record f { snaps = filter (λ u. not (p u)) f.snaps }) x) ≡ is_some x
      by_system None = refl
      by_system (Some f) = refl

module _ (t : Datasets) (once : IsOneToAnId t) (views : Views) (id : SnapId) where
  abbrev one : Snap → Bool
  one u = same_id (id_of u) id && is_due t views u

  none_goes : ((n : Name) (f : FileSystem) (u : Snap) → get t.file_systems n ≡ Some f → IsIn f.snaps u → id_of u ≡ id → is_due t views u ≡ false) → t ≡ without t one
  none_goes each = sym (none_without t one (λ n f u at i. by_same u (same_id (id_of u) id) refl (each n f u at i)))
    where
      by_same : (u : Snap) (b : Bool) → same_id (id_of u) id ≡ b → (id_of u ≡ id → is_due t views u ≡ false) → one u ≡ false
      by_same u true e k = ap (λ b. same_id (id_of u) id && b) (k (same_id_is (id_of u) id e)) ∙ and_false (same_id (id_of u) id)
      by_same u false e k = ap (λ b. b && is_due t views u) e

  abbrev left_by : Option (Name × Snap) → Datasets
  left_by x = option_map_or (λ p. without_snap t (id_of p.1)) x t

  -- the one that may go
  module _ (p : Name × Snap) (found : snap_at (world_of t) id ≡ Some p) where
    there : (f : FileSystem) × (get t.file_systems p.0 ≡ Some f) × IsIn f.snaps p.1 × (id_of p.1 ≡ id)
    there = from_snap_at (world_of t) id p found

    goes_alike : is_due t views p.1 ≡ true → (n : Name) (f : FileSystem) (u : Snap) → get t.file_systems n ≡ Some f → IsIn f.snaps u → (b : Bool) → same_id (id_of u) (id_of p.1) ≡ b → same_id (id_of u) (id_of p.1) ≡ one u
    goes_alike d n f u at i true s =
        let ids = same_id_is (id_of u) (id_of p.1) s in
        let same : u ≡ p.1 = once n p.0 f there.0 u p.1 at there.1 i there.2 ids in
        s ∙ sym (λ j. is_same_id (id_of u) id (ids ∙ there.3) j && (ap (is_due t views) same ∙ d) j)
    goes_alike d n f u at i false s = s ∙ sym (ap (λ b. b && is_due t views u) (ap (same_id (id_of u)) (sym there.3) ∙ s))

    by_due : (d : Bool) → is_due t views p.1 ≡ d → left_by (cond d (Some p) None) ≡ without t one
    by_due true d = ap (λ ss. record t { file_systems = ss })
        (same_gone (world_of t) (λ u. same_id (id_of u) (id_of p.1)) one (λ n f u at i. goes_alike d n f u at i (same_id (id_of u) (id_of p.1)) refl))
    by_due false d = none_goes (λ n f u at i s. ap (is_due t views) (once n p.0 f there.0 u p.1 at there.1 i there.2 (s ∙ sym there.3)) ∙ d)

  by_found : (x : Option (Name × Snap)) → snap_at (world_of t) id ≡ x → left_by (option_and_then (if_due t views id) x) ≡ without t one
  by_found None e = none_goes (λ n f u at i s.
      absurd (found_none (λ (p : Name × Snap). same_id (id_of p.1) id) (snaps_of (world_of t)) e (n, u) (in_snaps (world_of t) n f u at i) (is_same_id (id_of u) id s)))
  by_found (Some p) e = by_due p e (is_due t views p.1) refl

  one_swept : without_unneeded t views id ≡ without t one
  one_swept = by_found (snap_at (world_of t) id) refl

-- it is the origin of a file system that is gone
abbrev pub is_gone_origin : Datasets → Snap → Entry → Bool
is_gone_origin t u r = option_map_or (λ id. same_id (id_of u) id) (removed_origin t r) false

origin_swept : (t : Datasets) → IsOneToAnId t → (views : Views) (r : Entry) → without_origin t views r ≡ without t (λ u. is_gone_origin t u r && is_due t views u)
origin_swept t once views r = by_origin (removed_origin t r)
  where
    by_origin : (x : Option SnapId) → option_map_or (without_unneeded t views) x t ≡ without t (λ u. option_map_or (λ id. same_id (id_of u) id) x false && is_due t views u)
    by_origin None = sym (none_without t (λ u. false) (λ n f u at i. refl))
    by_origin (Some id) = one_swept t once views id

-- without those of one file system after another
abbrev pub without_origins : Datasets → Views → List Entry → Datasets
without_origins t views [] = t
without_origins t views (r ∷ rows) = without_origins (without_origin t views r) views rows

rows_swept : (rows : List Entry) (t : Datasets) → IsOneToAnId t → (views : Views) → without_origins t views rows ≡ without t (λ u. list_any (is_gone_origin t u) rows && is_due t views u)
rows_swept [] t once views = sym (none_without t (λ u. false) (λ n f u at i. refl))
rows_swept (r ∷ rows) t once views =
    ap (λ v. without_origins v views rows) (origin_swept t once views r)
    ∙ rows_swept rows (without t first) (once_left t once first) views
    ∙ (λ i. without (without t first) (λ u. any_stays u rows i && due_stays t first views u i))
    ∙ ap (λ ss. record t { file_systems = ss })
    (without_twice (world_of t) first (λ u. list_any (is_gone_origin t u) rows && is_due t views u) (λ u. list_any (is_gone_origin t u) (r ∷ rows) && is_due t views u)
    (λ u. either (is_gone_origin t u r) (list_any (is_gone_origin t u) rows) (is_due t views u)))
  where
    first : Snap → Bool
    first u = is_gone_origin t u r && is_due t views u

    any_stays : (u : Snap) (rs : List Entry) → list_any (is_gone_origin (without t first) u) rs ≡ list_any (is_gone_origin t u) rs
    any_stays u [] = refl
    any_stays u (q ∷ qs) = λ i. option_map_or (λ id. same_id (id_of u) id) (cond (there_stays t first q.0 i) None q.1.origin) false || any_stays u qs i

    either : (a b d : Bool) → (not (a && d) && not (b && d)) ≡ not ((a || b) && d)
    either true b true = refl
    either true true false = refl
    either true false false = refl
    either false b d = refl

-- ---- all of them

pub some_clone : (t : Datasets) (id : SnapId) → has_clone t id ≡ true → (r : Entry) × IsIn (entries t.file_systems) r × (r.1.origin ≡ Some id)
some_clone t id e = among (filter is_clone (entries t.file_systems)) refl e
  where
    is_clone : Entry → Bool
    is_clone r = option_map_or (same_id id) r.1.origin false

    by_origin : (o : Option SnapId) → option_map_or (same_id id) o false ≡ true → o ≡ Some id
    by_origin None h = absurd (true≢false (sym h))
    by_origin (Some j) h = ap Some (sym (same_id_is id j h))

    among : (l : List Entry) → filter is_clone (entries t.file_systems) ≡ l → nat_lt 0 (length (map (λ (r : Entry). r.0) l)) ≡ true → (r : Entry) × IsIn (entries t.file_systems) r × (r.1.origin ≡ Some id)
    among [] k h = absurd (true≢false (sym h))
    among (r ∷ rs) k h = let i = from_filter is_clone (entries t.file_systems) r (subst (λ l. IsIn l r) (sym k) (inl refl)) in (r, i.0, by_origin r.1.origin i.1)

pub any_in : {A : Type 0} (p : A → Bool) (xs : List A) (x : A) → IsIn xs x → p x ≡ true → list_any p xs ≡ true
any_in p [] x i e = absurd i
any_in p (y ∷ ys) x i e = ⊎_elim
    (λ (k : x ≡ y). ap (λ b. b || list_any p ys) (ap p (sym k) ∙ e))
    (λ k. ap (λ b. p y || b) (any_in p ys x k e) ∙ or_true (p y))
    i
  where
    or_true : (b : Bool) → (b || true) ≡ true
    or_true true = refl
    or_true false = refl

module _ (t u : Datasets) (part : ArePartOf u t) (views : Views) (clean : IsSweptBy t views) where
  -- one that is due has lost a clone
  its_clone : (n : Name) (f : FileSystem) (s : Snap) → get u.file_systems n ≡ Some f → IsIn f.snaps s → is_due u views s ≡ true → list_any (is_gone_origin u s) (entries t.file_systems) ≡ true
  its_clone n f s at i e =
      let parts = and_parts s.deferred (not (is_kept u views s)) e in
      let free = or_none (is_held views s) (has_clone u (id_of s)) (not_true (is_kept u views s) parts.1) in
      let kept : is_kept t views s ≡ true = sym (needed_is t views s) ∙ clean n f s (part n f at) i parts.0 in
      let clone = some_clone t (id_of s) (sym (ap (λ b. b || has_clone t (id_of s)) free.0) ∙ kept) in
      any_in (is_gone_origin u s) (entries t.file_systems) clone.0 clone.1 (by_system free.1 clone.0 clone.1 clone.2 (get u.file_systems clone.0.0) refl)
    where
      by_system : has_clone u (id_of s) ≡ false → (r : Entry) → IsIn (entries t.file_systems) r → r.1.origin ≡ Some (id_of s) → (x : Option FileSystem) → get u.file_systems r.0 ≡ x → is_gone_origin u s r ≡ true
      by_system none r k o None h =
          ap (λ (x : Option FileSystem). option_map_or (λ id. same_id (id_of s) id) (cond (is_some x) None r.1.origin) false) h
          ∙ ap (λ x. option_map_or (λ id. same_id (id_of s) id) x false) o ∙ is_same_id (id_of s) (id_of s) refl
      by_system none r k o (Some g) h =
          let same : g ≡ r.1 = same_value g r.1 (sym (part r.0 g h) ∙ at_entry name_order t.file_systems r.0 r.1 (from_entries (entries t.file_systems) r k)) in
          absurd (uncloned_is u (id_of s) none r.0 g h (ap (λ (y : FileSystem). y.origin) same ∙ o))

  each : (n : Name) (f : FileSystem) (s : Snap) → get u.file_systems n ≡ Some f → IsIn f.snaps s
      → (list_any (is_gone_origin u s) (entries t.file_systems) && is_due u views s) ≡ (s.deferred && not (is_needed (world_of u) views s))
  each n f s at i = by_due (is_due u views s) refl ∙ sym (ap (λ b. s.deferred && not b) (needed_is u views s))
    where
      by_due : (b : Bool) → is_due u views s ≡ b → (list_any (is_gone_origin u s) (entries t.file_systems) && is_due u views s) ≡ is_due u views s
      by_due true e = ap (λ b. b && is_due u views s) (its_clone n f s at i e)
      by_due false e = ap (λ b. list_any (is_gone_origin u s) (entries t.file_systems) && b) e ∙ and_false (list_any (is_gone_origin u s) (entries t.file_systems)) ∙ sym e

  pub all_swept : IsOneToAnId u → without_origins u views (entries t.file_systems) ≡ swept u views
  all_swept once = rows_swept (entries t.file_systems) u once views
      ∙ ap (λ ss. record u { file_systems = ss }) (same_gone (world_of u) (λ s. list_any (is_gone_origin u s) (entries t.file_systems) && is_due u views s) (λ s. s.deferred && not (is_needed (world_of u) views s)) each)

-- ---- those of a list

-- the datasets without those of these identities that nothing needs, one after another
abbrev pub without_each : Datasets → Views → List SnapId → Datasets
without_each t views [] = t
without_each t views (id ∷ ids) = without_each (without_unneeded t views id) views ids

each_out : (ids : List SnapId) (t : Datasets) → IsOneToAnId t → (views : Views) → without_each t views ids ≡ without t (λ u. list_any (same_id (id_of u)) ids && is_due t views u)
each_out [] t once views = sym (none_without t (λ u. false) (λ n f u at i. refl))
each_out (id ∷ ids) t once views =
    ap (λ v. without_each v views ids) (one_swept t once views id)
    ∙ each_out ids (without t first) (once_left t once first) views
    ∙ (λ i. without (without t first) (λ u. list_any (same_id (id_of u)) ids && due_stays t first views u i))
    ∙ ap (λ ss. record t { file_systems = ss })
    (without_twice (world_of t) first (λ u. list_any (same_id (id_of u)) ids && is_due t views u) (λ u. list_any (same_id (id_of u)) (id ∷ ids) && is_due t views u)
    (λ u. either (same_id (id_of u) id) (list_any (same_id (id_of u)) ids) (is_due t views u)))
  where
    first : Snap → Bool
    first u = same_id (id_of u) id && is_due t views u

    either : (a b d : Bool) → (not (a && d) && not (b && d)) ≡ not ((a || b) && d)
    either true b true = refl
    either true true false = refl
    either true false false = refl
    either false b d = refl

module _ (t : Datasets) (once : IsOneToAnId t) (views : Views) (ids : List SnapId) (clean : IsSweptBut t ids) where
  -- those that are due are of the list
  all_due : (n : Name) (f : FileSystem) (u : Snap) → get t.file_systems n ≡ Some f → IsIn f.snaps u
      → (list_any (same_id (id_of u)) ids && is_due t views u) ≡ (u.deferred && not (is_needed (world_of t) views u))
  all_due n f u at i = by_parts u.deferred (is_kept t views u) (list_any (same_id (id_of u)) ids)
      (λ d. widen (nat_lt 0 (length u.tags)) (is_viewed views (id_of u)) (has_clone t (id_of u)) (list_any (same_id (id_of u)) ids) (clean n f u at i d))
      ∙ sym (ap (λ b. u.deferred && not b) (needed_is t views u))
    where
      widen : (a v c l : Bool) → (a || (c || l)) ≡ true → (((a || v) || c) || l) ≡ true
      widen true v c l h = refl
      widen false true c l h = refl
      widen false false c l h = h

      by_parts : (d k l : Bool) → (d ≡ true → (k || l) ≡ true) → (l && (d && not k)) ≡ (d && not k)
      by_parts false k l h = and_false l
      by_parts true true l h = and_false l
      by_parts true false true h = refl
      by_parts true false false h = absurd (true≢false (sym (h refl)))

  pub each_swept : without_each t views ids ≡ swept t views
  each_swept = each_out ids t once views
      ∙ ap (λ ss. record t { file_systems = ss }) (same_gone (world_of t) (λ u. list_any (same_id (id_of u)) ids && is_due t views u) (λ u. u.deferred && not (is_needed (world_of t) views u)) all_due)

-- ---- a destroy of snapshots leaves nothing to sweep

module _ (t : Datasets) (views : Views) (clean : IsSweptBy t views) (names : List Member) (recursive defer : Bool) where
  abbrev one_of : Snap → Bool
  one_of u = is_one_of (snaps_named (world_of t) names recursive) u

  abbrev waits : Snap → Bool
  waits u = defer && is_needed (world_of t) views u

  abbrev goes : Snap → Bool
  goes u = one_of u && not (waits u)

  abbrev marks : Snap → Bool
  marks u = one_of u && waits u

  abbrev marked : Snap → Snap
  marked u = record u { deferred = u.deferred || marks u }

  abbrev after : Datasets
  after = destroyed t views (SnapshotsGo names) recursive defer

  abbrev marked_in : FileSystem → FileSystem
  marked_in f = record f { snaps = map marked f.snaps }

  after_at : (n : Name) → get after.file_systems n ≡ option_map (λ (f : FileSystem). record f { snaps = map marked f.snaps }) (get (without t goes).file_systems n)
  after_at n = get-with_file_systems (without_snaps (world_of t) goes) (λ _ f. record f { snaps = map marked f.snaps }) n

  origins_same : (n : Name) → origin_at after n ≡ origin_at t n
  origins_same n = ap (option_map (λ (f : FileSystem). f.origin)) (after_at n) ∙ by_system (get (without t goes).file_systems n) ∙ origins_stay t goes n
    where
      by_system : (x : Option FileSystem) → option_map (λ (f : FileSystem). f.origin) (option_map (λ (f : FileSystem). record f { snaps = map marked f.snaps }) x) ≡ option_map (λ (f : FileSystem). f.origin) x
      by_system None = refl
      by_system (Some f) = refl

  -- each that is deferred was needed and is
  still_needed : (n : Name) (f : FileSystem) (u : Snap) → get t.file_systems n ≡ Some f → IsIn f.snaps u → ((marked u).deferred && not (is_needed (world_of after) views (marked u))) ≡ false
  still_needed n f u at i =
      ap (λ b. (u.deferred || marks u) && not (nat_lt 0 (length u.tags) || (is_viewed views (id_of u) || b))) (same_clones t after origins_same (id_of u))
      ∙ by_marks u.deferred (one_of u) defer (is_needed (world_of t) views u) (λ d. clean n f u at i d)
    where
      by_marks : (d o e k : Bool) → (d ≡ true → k ≡ true) → ((d || (o && (e && k))) && not k) ≡ false
      by_marks d o e true h = and_false (d || (o && (e && true)))
      by_marks true o e false h = absurd (true≢false (sym (h refl)))
      by_marks false true true false h = refl
      by_marks false true false false h = refl
      by_marks false false e false h = refl

  pub none_swept : swept (destroyed t views (SnapshotsGo names) recursive defer) views ≡ destroyed t views (SnapshotsGo names) recursive defer
  none_swept = none_without after (λ u. u.deferred && not (is_needed (world_of after) views u)) (λ n f u at i. by_system n f u i (get (without t goes).file_systems n) refl (sym (after_at n) ∙ at))
    where
      by_system : (n : Name) (f : FileSystem) (u : Snap) → IsIn f.snaps u → (x : Option FileSystem) → get (without t goes).file_systems n ≡ x
          → option_map (λ (f : FileSystem). record f { snaps = map marked f.snaps }) x ≡ Some f → (u.deferred && not (is_needed (world_of after) views u)) ≡ false
      by_system n f u i None at e = absurd (no_value f e)
      by_system n f u i (Some g) at e =
          let k = from_without (world_of t) goes n g at in
          let v = in_map marked g.snaps u (subst (λ (y : FileSystem). IsIn y.snaps u) (sym (same_value (marked_in g) f e)) i) in
          let there = from_filter (λ u. not (goes u)) k.0.snaps v.0 (subst (λ (y : FileSystem). IsIn y.snaps v.0) k.2 v.1) in
          subst (λ (y : Snap). (y.deferred && not (is_needed (world_of after) views y)) ≡ false) (sym v.2) (still_needed n k.0 v.0 k.1 there.0)

-- ---- the one that goes

module _ (t : Datasets) (views : Views) (id : SnapId) (p : Name × Snap) (is : unneeded t views id ≡ Some p) where
  there_with : (f : FileSystem) × (get t.file_systems p.0 ≡ Some f) × IsIn f.snaps p.1 × (id_of p.1 ≡ id)
  there_with = from_snap_at (world_of t) id p (unneeded_parts t views id p is).0

  pub unneeded_uncloned : has_clone t id ≡ false
  unneeded_uncloned = ap (has_clone t) (sym there_with.3) ∙ (kept_parts t views p.1 (unneeded_parts t views id p is).2).2

  pub unneeded_there : is_some (snap_in_system t p.0 id) ≡ true
  unneeded_there = ap (λ i. is_some (snap_in_system t p.0 i)) (sym there_with.3) ∙ found_there t p.0 there_with.0 p.1 there_with.1 there_with.2

  pub unneeded_goes : without_snap t id ≡ without_unneeded t views id
  unneeded_goes =
      ap (without_snap t) (sym there_with.3)
      ∙ sym (ap (λ (x : Option (Name × Snap)). option_map_or (λ q. without_snap t (id_of q.1)) x t) is)
