-- The bookmarks of one file system change: no snapshot and no block goes with them.
use Rattle.std.proofs.Common.{◌≡◌, ℕ, ◌<◌, Bool, true, false, cond, not, ◌&&◌, ◌||◌, List, [], ◌∷◌, length, Option, Some, None, Result, Ok, Err, refl, sym, ap, subst, ◌∙◌, inl, inr, ⊎_elim, arith}
use Rattle.std.specs.Prelude.{OnOk, nat_lt, nat_le}
use Rattle.std.specs.List.{filter}
use Rattle.std.specs.Option.{option_map, option_map_or}
use Rattle.std.specs.FinMap.{get, insert, remove, entries, values, from_entries, same_map, get-entries, get-from_entries}
use Rattle.base.specs.Map.{BlockSet}
use Rattle.base.specs.Surveys.{IsIn}
use Rattle.snapshots.specs.Marks.{Marks, has_newer, without_newer}
use Rattle.base.specs.Names.{name_cmp}
use Rattle.model.specs.World.{FileSystem, Snap, Bookmark, id_of, maps_of, union_of}
use Rattle.model.specs.State.{Views, is_viewed}
use Rattle.model.specs.Outcome.{is_needed}
use Rattle.world.specs.Blocks.{block_order as o}
use Rattle.world.specs.Sets.{AreDisjoint}
use Rattle.world.specs.Shapes.{Name, name_order}
use Rattle.world.specs.Usage.{IsEntry}
use Rattle.world.specs.Worlds.{AreFileSystems}
use Rattle.world.specs.Tables.{Datasets, world_of}
use Rattle.world.proofs.lineage.Bridge.{in_union_of, from_union_of}
use Rattle.world.proofs.lists.Finding.{any_none, filter_all}
use Rattle.world.proofs.lists.Listed.{map_in}
use Rattle.world.proofs.lists.Maps.{key_cases, no_value, same_value, at_entry, entry_from_find, get-remove_same, get-remove_other}
use Rattle.world.proofs.lineage.Put.{put_here, put_other}
use Rattle.world.proofs.lists.SetCounts.{same_members}
use Rattle.removals.specs.Edits.{HasLost}
use Rattle.removals.specs.Requests.{swept, with_marks, IsSweptBy}
use Rattle.removals.proofs.Losses.{lost_none, lost_alike}
use Rattle.removals.proofs.Swept.{same_clones, none_without}

module _ (t : Datasets) (name : Name) (change : Marks → Marks) where
  abbrev after : Datasets
  after = with_marks t name change

  abbrev systems : Option FileSystem → Datasets
  systems x = record t { file_systems = (option_map_or (λ (f : FileSystem). record (world_of t) { file_systems = insert t.file_systems name (record f { bookmarks = change f.bookmarks }) }) x (world_of t)).file_systems }

  -- where it is there, and where it isn't
  pub marks_put : (f : FileSystem) → get t.file_systems name ≡ Some f → with_marks t name change ≡ record t { file_systems = insert t.file_systems name (record f { bookmarks = change f.bookmarks }) }
  marks_put f at = ap systems at

  pub marks_none : get t.file_systems name ≡ None → with_marks t name change ≡ t
  marks_none at = ap systems at

  -- where they stay
  pub marks_idle : (f : FileSystem) → get t.file_systems name ≡ Some f → change f.bookmarks ≡ f.bookmarks → with_marks t name change ≡ t
  marks_idle f at same =
      marks_put f at ∙ ap (λ b. record t { file_systems = insert t.file_systems name (record f { bookmarks = b }) }) same
      ∙ ap (λ ss. record t { file_systems = ss }) (same_map name_order.total name_order.exact _ _ (λ q. ⊎_elim
      (λ (e : q ≡ name). ap (get (insert t.file_systems name f)) e ∙ put_here t.file_systems name f ∙ sym at ∙ ap (get t.file_systems) (sym e))
      (λ (ne : ¬ (q ≡ name)). put_other t.file_systems name f q ne)
      (key_cases name_order q name)))

  -- ---- what is at a name

  pub in_marks : (q : Name) (f : FileSystem) → get t.file_systems q ≡ Some f → (b : Marks) × (get (with_marks t name change).file_systems q ≡ Some (record f { bookmarks = b }))
  in_marks q f at = ⊎_elim
      (λ (e : q ≡ name).
      let here : get t.file_systems name ≡ Some f = ap (get t.file_systems) (sym e) ∙ at in
      (change f.bookmarks, (λ i. get (marks_put f here i).file_systems (e i)) ∙ put_here t.file_systems name (record f { bookmarks = change f.bookmarks })))
      (λ (ne : ¬ (q ≡ name)). (f.bookmarks, by_system ne (get t.file_systems name) refl ∙ at))
      (key_cases name_order q name)
    where
      by_system : ¬ (q ≡ name) → (x : Option FileSystem) → get t.file_systems name ≡ x → get (with_marks t name change).file_systems q ≡ get t.file_systems q
      by_system ne None e = ap (λ (u : Datasets). get u.file_systems q) (marks_none e)
      by_system ne (Some s) e = ap (λ (u : Datasets). get u.file_systems q) (marks_put s e) ∙ put_other t.file_systems name (record s { bookmarks = change s.bookmarks }) q ne

  pub from_marks : (q : Name) (f : FileSystem) → get (with_marks t name change).file_systems q ≡ Some f → (g : FileSystem) × (get t.file_systems q ≡ Some g) × (f ≡ record g { bookmarks = f.bookmarks })
  from_marks q f at = by_here (get t.file_systems name) refl
    where
      given : (s : FileSystem) → record s { bookmarks = change s.bookmarks } ≡ f → f ≡ record s { bookmarks = f.bookmarks }
      given s is = sym is ∙ ap (λ b. record s { bookmarks = b }) (ap (λ (y : FileSystem). y.bookmarks) is)

      by_here : (x : Option FileSystem) → get t.file_systems name ≡ x → (g : FileSystem) × (get t.file_systems q ≡ Some g) × (f ≡ record g { bookmarks = f.bookmarks })
      by_here None e = (f, ap (λ (u : Datasets). get u.file_systems q) (sym (marks_none e)) ∙ at, refl)
      by_here (Some s) e = ⊎_elim
          (λ (same : q ≡ name). (
            s,
            ap (get t.file_systems) same ∙ e,
            given s (same_value (record s { bookmarks = change s.bookmarks }) f
                (sym ((λ i. get (marks_put s e i).file_systems (same i)) ∙ put_here t.file_systems name (record s { bookmarks = change s.bookmarks })) ∙ at)),
          ))
          (λ (ne : ¬ (q ≡ name)). (
            f,
            sym (ap (λ (u : Datasets). get u.file_systems q) (marks_put s e) ∙ put_other t.file_systems name (record s { bookmarks = change s.bookmarks }) q ne) ∙ at,
            refl,
          ))
          (key_cases name_order q name)

  marks_origins : (q : Name) → option_map (λ (f : FileSystem). f.origin) (get (with_marks t name change).file_systems q) ≡ option_map (λ (f : FileSystem). f.origin) (get t.file_systems q)
  marks_origins q = by_system (get t.file_systems name) refl
    where
      by_system : (x : Option FileSystem) → get t.file_systems name ≡ x
          → option_map (λ (f : FileSystem). f.origin) (get (with_marks t name change).file_systems q) ≡ option_map (λ (f : FileSystem). f.origin) (get t.file_systems q)
      by_system None e = ap (λ (u : Datasets). option_map (λ (f : FileSystem). f.origin) (get u.file_systems q)) (marks_none e)
      by_system (Some s) e = ap (λ (u : Datasets). option_map (λ (f : FileSystem). f.origin) (get u.file_systems q)) (marks_put s e) ∙ ⊎_elim
          (λ (same : q ≡ name).
          ap (λ n. option_map (λ (f : FileSystem). f.origin) (get (insert t.file_systems name (record s { bookmarks = change s.bookmarks })) n)) same
          ∙ ap (option_map (λ (f : FileSystem). f.origin)) (put_here t.file_systems name (record s { bookmarks = change s.bookmarks }) ∙ sym (ap (option_map (λ (f : FileSystem). record f { bookmarks = change s.bookmarks })) e))
          ∙ stays (get t.file_systems name)
          ∙ ap (λ n. option_map (λ (f : FileSystem). f.origin) (get t.file_systems n)) (sym same))
          (λ (ne : ¬ (q ≡ name)). ap (option_map (λ (f : FileSystem). f.origin)) (put_other t.file_systems name (record s { bookmarks = change s.bookmarks }) q ne))
          (key_cases name_order q name)
        where
          stays : (y : Option FileSystem) → option_map (λ (f : FileSystem). f.origin) (option_map (λ (f : FileSystem). record f { bookmarks = change s.bookmarks }) y) ≡ option_map (λ (f : FileSystem). f.origin) y
          stays None = refl
          stays (Some f) = refl

  -- ---- the blocks and the snapshots stay

  pub marks_union : union_of (world_of (with_marks t name change)) ≡ union_of (world_of t)
  marks_union = same_members o _ _
      (λ b h. let r = from_union_of (world_of after) b h in let g = from_marks r.0 r.1 r.3 in in_union_of (world_of t) r.0 g.0 r.2 b g.1 (subst (λ (y : FileSystem). IsIn (maps_of y) r.2) g.2 r.4) r.5)
      (λ b h. let r = from_union_of (world_of t) b h in let k = in_marks r.0 r.1 r.3 in in_union_of (world_of after) r.0 (record r.1 { bookmarks = k.0 }) r.2 b k.1 r.4 r.5)

  pub marks_lost : (freeing : BlockSet) → AreDisjoint (union_of (world_of t)) freeing → HasLost t freeing (with_marks t name change) freeing
  marks_lost freeing apart = lost_alike t t after freeing freeing marks_union (lost_none t freeing apart)

  pub lost_marks : {T E : Type 0} (r : Result T E) (u : Datasets) (freeing : BlockSet) → AreDisjoint (union_of (world_of t)) freeing → OnOk r (u ≡ with_marks t name change) → OnOk r (HasLost t freeing u freeing)
  lost_marks (Ok x) u freeing apart is = subst (λ (v : Datasets). HasLost t freeing v freeing) (sym is) (marks_lost freeing apart)
  lost_marks (Err e) u freeing apart is = tt

  -- there is nothing more to sweep
  pub marks_swept : (views : Views) → IsSweptBy t views → swept (with_marks t name change) views ≡ with_marks t name change
  marks_swept views clean = none_without after (λ u. u.deferred && not (is_needed (world_of after) views u)) (λ n f u at i.
      let k = from_marks n f at in
      by_mark n k.0 u k.1 (subst (λ (y : FileSystem). IsIn y.snaps u) k.2 i) u.deferred refl)
    where
      by_mark : (n : Name) (f : FileSystem) (u : Snap) → get t.file_systems n ≡ Some f → IsIn f.snaps u → (d : Bool) → u.deferred ≡ d → (d && not (is_needed (world_of after) views u)) ≡ false
      by_mark n f u at i true d =
          ap not (ap (λ b. nat_lt 0 (length u.tags) || (is_viewed views (id_of u) || b)) (same_clones t after marks_origins (id_of u)) ∙ clean n f u at i d)
      by_mark n f u at i false d = refl

-- ---- which of them stay

-- those of later groups, where there are none
pub none_newer : (marks : Marks) (group : ℕ) → has_newer marks group ≡ false → without_newer marks group ≡ marks
none_newer marks group none =
    ap (λ (l : List (List ℕ × Bookmark)). from_entries {R = name_cmp} l) (filter_all (λ (e : List ℕ × Bookmark). nat_le e.1.group group) (entries marks) (λ e i.
    not_later e.1.group (any_none (λ (b : Bookmark). nat_lt group b.group) (values marks) none e.1 (map_in (λ (x : List ℕ × Bookmark). x.1) (entries marks) e i))))
    ∙ same_map name_order.total name_order.exact _ _ (λ q. get-from_entries name_order.total (entries marks) q ∙ sym (get-entries marks q))
  where
    not_later : (g : ℕ) → nat_lt group g ≡ false → nat_le g group ≡ true
    not_later g e = grind arith

kept_entries : (p : List ℕ × Bookmark → Bool) (es : List (List ℕ × Bookmark)) (k : List ℕ) (b : Bookmark) → IsEntry (filter p es) k b → IsEntry es k b
kept_entries p [] k b h = absurd h
kept_entries p (e ∷ es) k b h = by_test (p e) (kept_entries p es k b) h
  where
    by_test : (c : Bool) → (IsEntry (filter p es) k b → IsEntry es k b) → IsEntry (cond c (e ∷ filter p es) (filter p es)) k b → IsEntry (e ∷ es) k b
    by_test true ih h = ⊎_elim inl (λ i. inr (ih i)) h
    by_test false ih h = inr (ih h)

-- each was there
pub from_newer : (marks : Marks) (group : ℕ) (at : List ℕ) (b : Bookmark) → get (without_newer marks group) at ≡ Some b → get marks at ≡ Some b
from_newer marks group at b h =
    let p : List ℕ × Bookmark → Bool = λ e. nat_le e.1.group group in
    at_entry name_order marks at b (kept_entries p (entries marks) at b (entry_from_find name_order (filter p (entries marks)) at b (sym (get-from_entries name_order.total (filter p (entries marks)) at) ∙ h)))

pub from_removed : (marks : Marks) (gone at : List ℕ) (b : Bookmark) → get (remove marks gone) at ≡ Some b → get marks at ≡ Some b
from_removed marks gone at b h = ⊎_elim
    (λ (e : at ≡ gone). absurd (no_value b (sym (ap (get (remove marks gone)) e ∙ get-remove_same name_order marks gone) ∙ h)))
    (λ (ne : ¬ (at ≡ gone)). sym (get-remove_other name_order marks gone at ne) ∙ h)
    (key_cases name_order at gone)

-- so all are of closed groups
pub closed_left : (t : Datasets) → AreFileSystems t.file_systems t.group → (name : Name) (change : Marks → Marks) → ((marks : Marks) (at : List ℕ) (b : Bookmark) → get (change marks) at ≡ Some b → get marks at ≡ Some b)
    → (left : Marks) → option_map (λ (f : FileSystem). change f.bookmarks) (get t.file_systems name) ≡ Some left → (at : List ℕ) (b : Bookmark) → get left at ≡ Some b → b.group < t.group
closed_left t good name change fewer left is at b h = by_system (get t.file_systems name) refl is
  where
    by_system : (x : Option FileSystem) → get t.file_systems name ≡ x → option_map (λ (f : FileSystem). change f.bookmarks) x ≡ Some left → b.group < t.group
    by_system None k e = absurd (no_value left e)
    by_system (Some f) k e = (good.tidy name f k).bookmarks at b (fewer f.bookmarks at b (ap (λ m. get m at) (same_value (change f.bookmarks) left e) ∙ h))
