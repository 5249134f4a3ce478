-- Snapshots whose destroy is deferred.
use Rattle.std.proofs.Common.{◌≡◌, Bool, true, false, cond, not, ◌||◌, List, [], ◌∷◌, map, Option, Some, None, refl, sym, ap, subst, ◌∙◌, inl, inr}
use Rattle.std.specs.List.{filter}
use Rattle.std.specs.Option.{option_map}
use Rattle.std.specs.FinMap.{get, same_map}
use Rattle.base.specs.Map.{BlockSet}
use Rattle.base.specs.Surveys.{IsIn}
use Rattle.model.specs.World.{World, FileSystem, Snap, SnapId, id_of, same_id, maps_of, union_of}
use Rattle.model.specs.Edits.{without_snaps}
use Rattle.model.specs.requests.Destroy.{with_deferred}
use Rattle.world.specs.Blocks.{block_order as o}
use Rattle.world.specs.Shapes.{Name, name_order}
use Rattle.world.specs.Tables.{Datasets, world_of, deferred_snap}
use Rattle.world.proofs.lists.Maps.{same_value, no_value}
use Rattle.world.proofs.lists.SetCounts.{same_members}
use Rattle.world.proofs.changes.Views.{same_maps_mapped}
use Rattle.world.proofs.lineage.Bridge.{in_union_of, from_union_of}
use Rattle.world.proofs.removals.Sweep.{get-with_file_systems}
use Rattle.world.proofs.removals.WithoutSnaps.{get-without}
use Rattle.removals.specs.Edits.{HasLost}
use Rattle.removals.proofs.Losses.{lost_alike}

-- a snapshot, where it is one of some
abbrev pub marked_by : (Snap → Bool) → Snap → Snap
marked_by p t = record t { deferred = t.deferred || p t }

-- a test of identities alone
pub record IsById (p : Snap → Bool) : Type 0 where
  pub alike : (t : Snap) (d : Bool) → p (record t { deferred = d }) ≡ p t

or_assoc : (a b c : Bool) → ((a || b) || c) ≡ (a || (b || c))
or_assoc true b c = refl
or_assoc false b c = refl

map_map : (f g h : Snap → Snap) → ((t : Snap) → g (f t) ≡ h t) → (ts : List Snap) → map g (map f ts) ≡ map h ts
map_map f g h each [] = refl
map_map f g h each (t ∷ ts) = λ i. each t i ∷ map_map f g h each ts i

map_idle : (f : Snap → Snap) (ts : List Snap) → ((t : Snap) → IsIn ts t → f t ≡ t) → map f ts ≡ ts
map_idle f [] each = refl
map_idle f (t ∷ ts) each = λ i. each t (inl refl) i ∷ map_idle f ts (λ u k. each u (inr k)) i

-- of some and then of others
pub deferred_twice : (w : World) (p q r : Snap → Bool) → IsById q → ((t : Snap) → (p t || q t) ≡ r t) → (with_deferred (with_deferred w p) q).file_systems ≡ (with_deferred w r).file_systems
deferred_twice w p q r by_id both = same_map name_order.total name_order.exact _ _ (λ n.
    get-with_file_systems (with_deferred w p) (λ _ f. record f { snaps = map (marked_by q) f.snaps }) n
    ∙ ap (option_map (λ (f : FileSystem). record f { snaps = map (marked_by q) f.snaps })) (get-with_file_systems w (λ _ f. record f { snaps = map (marked_by p) f.snaps }) n)
    ∙ by_system (get w.file_systems n)
    ∙ sym (get-with_file_systems w (λ _ f. record f { snaps = map (marked_by r) f.snaps }) n))
  where
    each : (t : Snap) → marked_by q (marked_by p t) ≡ marked_by r t
    each t = λ i. record t { deferred = (ap (λ b. (t.deferred || p t) || b) (by_id.alike t (t.deferred || p t)) ∙ or_assoc t.deferred (p t) (q t) ∙ ap (λ b. t.deferred || b) (both t)) i }

    by_system : (x : Option FileSystem)
        → option_map (λ (f : FileSystem). record f { snaps = map (marked_by q) f.snaps }) (option_map (λ (f : FileSystem). record f { snaps = map (marked_by p) f.snaps }) x)
        ≡ option_map (λ (f : FileSystem). record f { snaps = map (marked_by r) f.snaps }) x
    by_system None = refl
    by_system (Some f) = ap (λ l. Some (record f { snaps = l })) (map_map (marked_by p) (marked_by q) (marked_by r) each f.snaps)

-- of none that is there
pub deferred_none : (w : World) (p : Snap → Bool) → ((n : Name) (f : FileSystem) (u : Snap) → get w.file_systems n ≡ Some f → IsIn f.snaps u → p u ≡ false) → (with_deferred w p).file_systems ≡ w.file_systems
deferred_none w p each = same_map name_order.total name_order.exact _ _ (λ n. get-with_file_systems w (λ _ f. record f { snaps = map (marked_by p) f.snaps }) n ∙ by_system n (get w.file_systems n) refl)
  where
    or_false : (b : Bool) → (b || false) ≡ b
    or_false true = refl
    or_false false = refl

    by_system : (n : Name) (x : Option FileSystem) → get w.file_systems n ≡ x → option_map (λ (f : FileSystem). record f { snaps = map (marked_by p) f.snaps }) x ≡ x
    by_system n None at = refl
    by_system n (Some f) at =
        ap (λ l. Some (record f { snaps = l })) (map_idle (marked_by p) f.snaps (λ t i j. record t { deferred = (ap (λ b. t.deferred || b) (each n f t at i) ∙ or_false t.deferred) j }))

-- some go, and others are deferred, one way or the other round
pub deferred_gone : (w : World) (q r : Snap → Bool) → IsById r → (without_snaps (with_deferred w q) r).file_systems ≡ (with_deferred (without_snaps w r) q).file_systems
deferred_gone w q r by_id = same_map name_order.total name_order.exact _ _ (λ n.
    get-without (with_deferred w q) r n
    ∙ ap (option_map (λ (f : FileSystem). record f { snaps = filter (λ u. not (r u)) f.snaps })) (get-with_file_systems w (λ _ f. record f { snaps = map (marked_by q) f.snaps }) n)
    ∙ by_system (get w.file_systems n)
    ∙ sym (get-with_file_systems (without_snaps w r) (λ _ f. record f { snaps = map (marked_by q) f.snaps }) n
    ∙ ap (option_map (λ (f : FileSystem). record f { snaps = map (marked_by q) f.snaps })) (get-without w r n)))
  where
    by_snaps : (us : List Snap) → filter (λ u. not (r u)) (map (marked_by q) us) ≡ map (marked_by q) (filter (λ u. not (r u)) us)
    by_snaps [] = refl
    by_snaps (u ∷ us) =
        (λ i. cond (not (by_id.alike u (u.deferred || q u) i)) (marked_by q u ∷ by_snaps us i) (by_snaps us i)) ∙ by_test (r u)
      where
        by_test : (b : Bool) → cond (not b) (marked_by q u ∷ map (marked_by q) (filter (λ u. not (r u)) us)) (map (marked_by q) (filter (λ u. not (r u)) us))
            ≡ map (marked_by q) (cond (not b) (u ∷ filter (λ u. not (r u)) us) (filter (λ u. not (r u)) us))
        by_test true = refl
        by_test false = refl

    by_system : (x : Option FileSystem)
        → option_map (λ (f : FileSystem). record f { snaps = filter (λ u. not (r u)) f.snaps }) (option_map (λ (f : FileSystem). record f { snaps = map (marked_by q) f.snaps }) x)
        ≡ option_map (λ (f : FileSystem). record f { snaps = map (marked_by q) f.snaps }) (option_map (λ (f : FileSystem). record f { snaps = filter (λ u. not (r u)) f.snaps }) x)
    by_system None = refl
    by_system (Some f) = ap (λ l. Some (record f { snaps = l })) (by_snaps f.snaps)

pub by_one : (id : SnapId) → IsById (λ u. same_id (id_of u) id)
by_one id = record { alike = λ t d. refl }

-- ---- the blocks stay

module _ (w : World) (p : Snap → Bool) where
  abbrev deferred : World
  deferred = with_deferred w p

  pub maps_stay : (f : FileSystem) → maps_of (record f { snaps = map (marked_by p) f.snaps }) ≡ maps_of f
  maps_stay f = ap (λ l. f.live ∷ l) (same_maps_mapped (marked_by p) (λ u. refl) f.snaps)

  pub in_before : (name : Name) (f : FileSystem) → get deferred.file_systems name ≡ Some f → (g : FileSystem) × (get w.file_systems name ≡ Some g) × (f ≡ record g { snaps = map (marked_by p) g.snaps })
  in_before name f at = by_system (get w.file_systems name) refl
    where
      by_system : (x : Option FileSystem) → get w.file_systems name ≡ x → (g : FileSystem) × (get w.file_systems name ≡ Some g) × (f ≡ record g { snaps = map (marked_by p) g.snaps })
      by_system None e = absurd (no_value _ (sym (get-with_file_systems w (λ _ f. record f { snaps = map (marked_by p) f.snaps }) name ∙ ap (option_map (λ (f : FileSystem). record f { snaps = map (marked_by p) f.snaps })) e) ∙ at))
      by_system (Some g) e = (g, e, same_value _ _ (sym at ∙ get-with_file_systems w (λ _ f. record f { snaps = map (marked_by p) f.snaps }) name ∙ ap (option_map (λ (f : FileSystem). record f { snaps = map (marked_by p) f.snaps })) e))

  pub union_stays : union_of deferred ≡ union_of w
  union_stays = same_members o _ _
      (λ b h. let r = from_union_of deferred b h in let g = in_before r.0 r.1 r.3 in in_union_of w r.0 g.0 r.2 b g.1 (subst (λ l. IsIn l r.2) (ap maps_of g.2 ∙ maps_stay g.0) r.4) r.5)
      (λ b h. let r = from_union_of w b h in
      in_union_of deferred r.0 (record r.1 { snaps = map (marked_by p) r.1.snaps }) r.2 b
      (get-with_file_systems w (λ _ f. record f { snaps = map (marked_by p) f.snaps }) r.0 ∙ ap (option_map (λ (f : FileSystem). record f { snaps = map (marked_by p) f.snaps })) r.3)
      (subst (λ l. IsIn l r.2) (sym (maps_stay r.1)) r.4) r.5)

-- what has been lost stays so
pub lost_deferred : (t u v : Datasets) (freeing after : BlockSet) (id : SnapId) → v ≡ deferred_snap u id → HasLost t freeing u after → HasLost t freeing v after
lost_deferred t u v freeing after id to lost =
    subst (λ x. HasLost t freeing x after) (sym to) (lost_alike t u (deferred_snap u id) freeing after (union_stays (world_of u) (λ w. same_id (id_of w) id)) lost)
