-- What a removal loses joins what is to be freed, and stays apart from the datasets.
use Rattle.std.proofs.Common.{◌≡◌, ◌⊎◌, ℕ, List, [], ◌∷◌, Option, Some, None, Result, Ok, Err, refl, sym, ap, subst, ◌∙◌, inl, inr, ⊎_elim, map}
use Rattle.std.specs.Prelude.{OnOk}
use Rattle.std.specs.Option.{option_map_or}
use Rattle.std.specs.FinMap as finmap
use Rattle.std.specs.FinMap.{get, insert}
use Rattle.std.specs.FinSet.{union, difference}
use Rattle.base.specs.Map.{Map, BlockSet}
use Rattle.base.specs.Surveys.{IsIn}
use Rattle.model.specs.World.{FileSystem, Snap, SnapId, same_id, id_of, union_of}
use Rattle.datasets.specs.Losses.{newest_map}
use Rattle.datasets.specs.Rows.{live_of, snaps_at, with_live}
use Rattle.world.specs.Sets.{Has, IsSubset, AreDisjoint}
use Rattle.world.specs.Blocks.{block_order as o}
use Rattle.world.specs.Worlds.{AreFileSystems}
use Rattle.world.specs.Tables.{Datasets, world_of, without_snap, lost_between}
use Rattle.world.proofs.lists.SetCounts.{same_members, in_union_left, in_union_right, from_union, from_difference}
use Rattle.world.proofs.lists.Lists.{losses_add}
use Rattle.world.proofs.changes.Drawn.{union_from}
use Rattle.world.proofs.lineage.Put.{put_maps}
use Rattle.world.proofs.removals.WithoutSnaps.{without_from}
use Rattle.removals.specs.Edits.{HasLost}

-- what is lost isn't to be freed yet
pub lost_apart : (t u : Datasets) (freeing : BlockSet) → AreDisjoint (union_of (world_of t)) freeing → AreDisjoint freeing (lost_between t u)
lost_apart t u freeing apart b f l = apart b (from_difference o (union_of (world_of t)) (union_of (world_of u)) b l).0 f

-- once it has joined
pub has_lost : (t u : Datasets) (freeing after : BlockSet) → IsSubset (union_of (world_of u)) (union_of (world_of t)) → AreDisjoint (union_of (world_of t)) freeing
    → after ≡ union freeing (lost_between t u) → HasLost t freeing u after
has_lost t u freeing after fewer apart is = record {
  fewer = fewer;
  joined = is;
  apart = λ b h k. ⊎_elim
      (λ f. apart b (fewer b h) f)
      (λ l. (from_difference o (union_of (world_of t)) (union_of (world_of u)) b l).1 h)
      (from_union o freeing (lost_between t u) b (subst (λ s. Has s b) is k));
}

-- without a snapshot the datasets have no other blocks
pub fewer_without : (t : Datasets) → AreFileSystems t.file_systems t.group → (id : SnapId) → IsSubset (union_of (world_of (without_snap t id))) (union_of (world_of t))
fewer_without t good id = union_from (world_of t) (world_of (without_snap t id)) t.group good.lines (without_from (world_of t) (λ u. same_id (id_of u) id))

-- a snapshot that goes, whose lost blocks these are
pub lost_without : {T E : Type 0} (r : Result T E) (t u : Datasets) (freeing after : BlockSet) (lost : BlockSet) → AreFileSystems t.file_systems t.group → AreDisjoint (union_of (world_of t)) freeing
    → (id : SnapId) → u ≡ without_snap t id → lost ≡ lost_between t u → OnOk r (after ≡ union freeing lost) → OnOk r (HasLost t freeing u after)
lost_without (Ok x) t u freeing after lost good apart id to is joined =
    has_lost t u freeing after (subst (λ v. IsSubset (union_of (world_of v)) (union_of (world_of t))) (sym to) (fewer_without t good id)) apart (joined ∙ ap (union freeing) is)
lost_without (Err e) t u freeing after lost good apart id to is joined = tt

-- the newest of these maps is one of them, or the first
newest_in : (m : Map) (ts : List Snap) → (newest_map m ts ≡ m) ⊎ IsIn (map (λ (u : Snap). u.map) ts) (newest_map m ts)
newest_in m [] = inl refl
newest_in m (t ∷ ts) = inr (⊎_elim (λ e. inl e) (λ k. inr k) (newest_in t.map ts))

-- nor where the newest snapshot's map is live again
pub fewer_back : (t : Datasets) → AreFileSystems t.file_systems t.group → (name : List ℕ)
    → IsSubset (union_of (world_of (record t { file_systems = with_live t.file_systems name (newest_map (live_of t.file_systems name) (snaps_at t.file_systems name)) }))) (union_of (world_of t))
fewer_back t good name = by_system (get t.file_systems name) refl
  where
    by_system : (x : Option FileSystem) → get t.file_systems name ≡ x
        → IsSubset (union_of (world_of (record t { file_systems = with_live t.file_systems name (newest_map (live_of t.file_systems name) (snaps_at t.file_systems name)) }))) (union_of (world_of t))
    by_system None e = subst (λ ss. IsSubset (union_of (world_of (record t { file_systems = ss }))) (union_of (world_of t)))
        (sym (ap (λ (x : Option FileSystem). option_map_or (λ (f : FileSystem). insert t.file_systems name (record f { live = newest_map (live_of t.file_systems name) (snaps_at t.file_systems name) })) x t.file_systems) e))
        (λ b h. h)
    by_system (Some f) e =
        let to : with_live t.file_systems name (newest_map (live_of t.file_systems name) (snaps_at t.file_systems name)) ≡ insert t.file_systems name (record f { live = newest_map f.live f.snaps }) =
        ap (λ (x : Option FileSystem). option_map_or (λ (g : FileSystem). insert t.file_systems name (record g { live = newest_map (option_map_or (λ (h : FileSystem). h.live) x finmap.empty) (option_map_or (λ (h : FileSystem). h.snaps) x []) })) x t.file_systems) e in
        subst (λ ss. IsSubset (union_of (world_of (record t { file_systems = ss }))) (union_of (world_of t))) (sym to)
        (union_from (world_of t) (world_of (record t { file_systems = insert t.file_systems name (record f { live = newest_map f.live f.snaps }) })) t.group good.lines
        (put_maps t.file_systems name (record f { live = newest_map f.live f.snaps }) (λ m h. inr (
          name,
          f,
          e,
          ⊎_elim
              (λ (k : m ≡ newest_map f.live f.snaps). ⊎_elim (λ i. inl (k ∙ i)) (λ i. inr (subst (λ x. IsIn (map (λ (u : Snap). u.map) f.snaps) x) (sym k) i)) (newest_in f.live f.snaps))
              (λ k. inr k)
              h,
        ))))

-- a live map that goes, whose lost blocks these are
pub lost_back : {T E : Type 0} (r : Result T E) (t u : Datasets) (freeing after : BlockSet) (lost : BlockSet) → AreFileSystems t.file_systems t.group → AreDisjoint (union_of (world_of t)) freeing → (name : List ℕ)
    → u ≡ record t { file_systems = with_live t.file_systems name (newest_map (live_of t.file_systems name) (snaps_at t.file_systems name)) } → lost ≡ lost_between t u
    → OnOk r (after ≡ union freeing lost) → OnOk r (HasLost t freeing u after)
lost_back (Ok x) t u freeing after lost good apart name to is joined =
    has_lost t u freeing after (subst (λ v. IsSubset (union_of (world_of v)) (union_of (world_of t))) (sym to) (fewer_back t good name)) apart (joined ∙ ap (union freeing) is)
lost_back (Err e) t u freeing after lost good apart name to is joined = tt

-- nothing is lost yet
pub lost_none : (t : Datasets) (freeing : BlockSet) → AreDisjoint (union_of (world_of t)) freeing → HasLost t freeing t freeing
lost_none t freeing apart = record {
  fewer = λ b h. h;
  joined = same_members o freeing (union freeing (lost_between t t))
      (λ b h. in_union_left o freeing (lost_between t t) b h)
      (λ b h. ⊎_elim (λ f. f) (λ l. let x = from_difference o (union_of (world_of t)) (union_of (world_of t)) b l in absurd (x.1 x.0)) (from_union o freeing (lost_between t t) b h));
  apart = apart;
}

union_thrice : (x y z : BlockSet) → union (union x y) z ≡ union x (union y z)
union_thrice x y z = same_members o _ _
    (λ q h. ⊎_elim
    (λ k. ⊎_elim (λ l. in_union_left o x (union y z) q l) (λ l. in_union_right o x (union y z) q (in_union_left o y z q l)) (from_union o x y q k))
    (λ k. in_union_right o x (union y z) q (in_union_right o y z q k))
    (from_union o (union x y) z q h))
    (λ q h. ⊎_elim
    (λ k. in_union_left o (union x y) z q (in_union_left o x y q k))
    (λ k. ⊎_elim (λ l. in_union_left o (union x y) z q (in_union_right o x y q l)) (λ l. in_union_right o (union x y) z q l) (from_union o y z q k))
    (from_union o x (union y z) q h))

-- what is lost in two steps
pub lost_then : (t u v : Datasets) (freeing between after : BlockSet) → HasLost t freeing u between → HasLost u between v after → HasLost t freeing v after
lost_then t u v freeing between after first next = record {
  fewer = λ b h. first.fewer b (next.fewer b h);
  joined = next.joined ∙ ap (λ s. union s (lost_between u v)) first.joined ∙ union_thrice freeing (lost_between t u) (lost_between u v)
      ∙ ap (union freeing) (sym (losses_add (union_of (world_of t)) (union_of (world_of u)) (union_of (world_of v)) first.fewer next.fewer));
  apart = next.apart;
}

-- the same where other datasets have these blocks
pub lost_alike : (t u v : Datasets) (freeing after : BlockSet) → union_of (world_of v) ≡ union_of (world_of u) → HasLost t freeing u after → HasLost t freeing v after
lost_alike t u v freeing after same lost = record {
  fewer = subst (λ s. IsSubset s (union_of (world_of t))) (sym same) lost.fewer;
  joined = lost.joined ∙ ap (λ s. union freeing (difference (union_of (world_of t)) s)) (sym same);
  apart = subst (λ s. AreDisjoint s after) (sym same) lost.apart;
}

-- ---- what an edit of them loses

-- a copy is apart as they are
pub apart_copied : (t u : Datasets) (freeing copied : BlockSet) → (u ≡ t) × (copied ≡ freeing) → AreDisjoint (union_of (world_of t)) freeing → AreDisjoint (union_of (world_of u)) copied
apart_copied t u freeing copied same apart = subst (λ (p : Datasets × BlockSet). AreDisjoint (union_of (world_of p.0)) p.1) (λ i. (sym same.0 i, sym same.1 i)) apart

-- what it has lost is lost once it is put in their place
pub lost_put : (t u v to : Datasets) (freeing copied between after : BlockSet) → (u ≡ t) × (copied ≡ freeing) → HasLost u copied v between → to ≡ v → after ≡ between → HasLost t freeing to after
lost_put t u v to freeing copied between after same lost put left =
    subst (λ (p : (Datasets × BlockSet) × (Datasets × BlockSet)). HasLost p.0.0 p.0.1 p.1.0 p.1.1) (λ i. ((same.0 i, same.1 i), (sym put i, sym left i))) lost
