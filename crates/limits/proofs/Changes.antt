-- Where one file system's account changes, its line and those above it change, up to the first level that is charged the same.
use Rattle.std.proofs.Common.{◌≡◌, ℕ, zero, suc, ◌+◌, ◌-◌, ◌≤◌, ◌<◌, List, [], ◌∷◌, length, get_or, Option, Some, None, is_some, refl, sym, ap, subst, ◌∙◌, inl, inr, ◌⊎◌, ⊎_elim, arith}
use Rattle.std.specs.Prelude.{IsSome, max}
use Rattle.std.specs.Option.{option_and_then}
use Rattle.std.specs.FinMap.{get, entries, keys}
use Rattle.std.proofs.lemmas.List.{get_or-map}
use Rattle.base.specs.Names.{root_name, parent_of}
use Rattle.model.specs.World.{World, FileSystem, Live}
use Rattle.model.specs.Hierarchy.{IsHierarchy}
use Rattle.model.specs.Sums.{used_of, used_here, used_by_children, referenced_of}
use Rattle.world.proofs.lists.Maps.{no_value, same_value}
use Rattle.world.proofs.lineage.Put.{parent_there}
use Rattle.limits.specs.Levels.{slashes, above, IsUnder, charge_of}
use Rattle.limits.proofs.Names.{level_up, above_is, under_child}
use Rattle.limits.proofs.Levels.{reserved_is, used-split}
use Rattle.limits.proofs.Depth.{used_away, own_children, children_walk, change_stops}
use Rattle.limits.specs.declared.line.Line.{Line}
use Rattle.limits.specs.Lines.{used_in, charge_in}
use Rattle.limits.specs.Ledgers.{line_in, ledger_of}
use Rattle.limits.specs.Changes.{IsChanged, amended, recharged}
use Rattle.limits.proofs.Bounds.{charge_low}
use Rattle.limits.proofs.Order.{no_entry, keys_long, key_is, entry_at}

-- ---- names above names

-- one level above a parent
pub above_parent : (k : ℕ) (c parent : List ℕ) → parent_of c ≡ Some parent → above (suc k) c ≡ above k parent
above_parent zero c parent e = e
above_parent (suc k) c parent e = ap (option_and_then parent_of) (above_parent k c parent e)

pub above_none : (k : ℕ) (c : List ℕ) → parent_of c ≡ None → above (suc k) c ≡ None
above_none zero c e = e
above_none (suc k) c e = ap (option_and_then parent_of) (above_none k c e)

-- a name that another is under: it, or one that its parent is under
pub under_parent : (name c parent : List ℕ) → parent_of c ≡ Some parent → IsUnder name c → (name ≡ c) ⊎ IsUnder name parent
under_parent name c parent e (zero, h) = inl (sym (same_value c name h))
under_parent name c parent e (suc k, h) = inr (k, sym (above_parent k c parent e) ∙ h)

pub under_above : (name c parent : List ℕ) → parent_of c ≡ Some parent → IsUnder name parent → IsUnder name c
under_above name c parent e u = (suc u.0, above_parent u.0 c parent e ∙ u.1)

pub under_alone : (name c : List ℕ) → parent_of c ≡ None → IsUnder name c → name ≡ c
under_alone name c e (zero, h) = sym (same_value c name h)
under_alone name c e (suc k, h) = absurd (no_value name (sym (above_none k c e) ∙ h))

-- what is above something above a name is above that name
pub under_trans : (k : ℕ) (x c name : List ℕ) → above k c ≡ Some x → IsUnder c name → IsUnder x name
under_trans zero x c name e u = subst (λ n. IsUnder n name) (same_value c x e) u
under_trans (suc k) x c name e u = at (λ q h. under_trans k q c name h u) (above k c) refl e
  where
    at : ((q : List ℕ) → above k c ≡ Some q → IsUnder q name) → (o : Option (List ℕ)) → above k c ≡ o → option_and_then parent_of o ≡ Some x → IsUnder x name
    at ih None h f = absurd (no_value x f)
    at ih (Some q) h f = under_child x q name f (ih q h)

-- all are under the root
module _ (w : World) (good : IsHierarchy w.file_systems) where
  pub root_above : (n : ℕ) (name : List ℕ) → slashes name ≤ n → IsSome (get w.file_systems name) → IsUnder root_name name
  root_above zero name low there = ⊎_elim
      (λ is. (zero, ap Some is))
      (λ h. let p = parent_there w.file_systems name h in let u = level_up name p.parent p.named in absurd (omega (arith, u, low)))
      (good.parents name there)
  root_above (suc n) name low there = ⊎_elim
      (λ is. (zero, ap Some is))
      (λ h.
      let p = parent_there w.file_systems name h in
      let u = level_up name p.parent p.named in
      let r = root_above n p.parent (omega (arith, u, low)) p.there in
      (suc r.0, above_parent r.0 name p.parent p.named ∙ r.1))
      (good.parents name there)

-- ---- the lines of a world

module _ (w : World) (i : ℕ) (lt : i < length (keys w.file_systems)) where
  abbrev key_of : List ℕ
  key_of = get_or (keys w.file_systems) i []

  abbrev system_of : FileSystem
  system_of = (get_or (entries w.file_systems) i no_entry).1

  -- the line at a place
  pub line_at : (d : Line) → get_or (ledger_of w) i d ≡ line_in w (key_of, system_of)
  unfolding ledger_of
  line_at d =
      let l = keys_long w.file_systems in
      get_or-map (line_in w) (entries w.file_systems) i no_entry d (omega (arith, l, lt))
      ∙ (λ j. line_in w (sym (key_is w.file_systems i lt) j, system_of))

  pub used_at : (d : Line) → used_in (get_or (ledger_of w) i d) ≡ used_of w key_of
  unfolding used_of
  used_at d = ap used_in (line_at d)

  pub charge_at : (d : Line) → charge_in (get_or (ledger_of w) i d) ≡ charge_of w key_of
  unfolding used_of
  charge_at d = ap charge_in (line_at d) ∙ ap (max (used_of w key_of)) (sym (reserved_is w key_of system_of (entry_at w.file_systems i lt)))

-- ---- one account changes

module _ (old new : World) (good : IsHierarchy old.file_systems) (name : List ℕ) (here referenced : ℕ) (ch : IsChanged old new name here referenced) where
  abbrev key : ℕ → List ℕ
  key i = get_or (keys old.file_systems) i []

  low : (x c : List ℕ) → parent_of c ≡ Some x → IsUnder c name → ¬ (x ≡ name)
  low x c e u is =
      let l = level_up c x e in
      let a = above_is u.0 name c u.1 in
      let s = ap slashes is in
      absurd (omega (arith, l, a, s))

  -- ---- by names

  module _ (x : List ℕ) (f g : FileSystem) (at : get old.file_systems x ≡ Some f) (at' : get new.file_systems x ≡ Some g) where
    same_limits : g.limits ≡ f.limits
    same_limits = ch.limits x f g at at'

    -- the line of another, with what its children use
    other_line : ¬ (x ≡ name) → (n : ℕ) → used_by_children new x ≡ n → line_in new (x, g) ≡ record (line_in old (x, f)) { children = n }
    other_line ne n e =
        let h = ch.others x (λ i. ⊎_elim ne (λ k. k) i) in
        λ i. record { account = record { here = h.here i; referenced = ch.others_referenced x ne i; limits = same_limits i }; children = e i }

    -- its own line
    own_line : x ≡ name → line_in new (x, g) ≡ amended (line_in old (x, f)) here referenced
    own_line is =
        λ i. record {
          account = record { here = (ap (used_here new) is ∙ ch.is_here) i; referenced = (ap (λ n. referenced_of new (Live n)) is ∙ ch.is_referenced) i; limits = same_limits i };
          children = (ap (used_by_children new) is ∙ own_children old new good ch.hierarchy name ch.others ∙ ap (used_by_children old) (sym is)) i;
        }

  -- the children of a file system that isn't above it use the same
  away_children : (x : List ℕ) → ¬ (IsUnder x name) → used_by_children new x ≡ used_by_children old x
  away_children x out =
      let u = used_away old new good ch.hierarchy (name ∷ []) ch.others x (λ m i v. out (subst (IsUnder x) (⊎_elim (λ is. is) (λ k. absurd k) i) v)) in
      let h = (ch.others x (λ i. out (zero, ap Some (sym (⊎_elim (λ is. is) (λ k. absurd k) i))))).here in
      let a = used-split old good x in
      let b = used-split new ch.hierarchy x in
      omega (arith, u, h, a, b)

  -- and so do those of the ones above a level that is charged the same
  stopped_children : (c : List ℕ) → IsUnder c name → charge_of new c ≡ charge_of old c → (k : ℕ) (x : List ℕ) → above (suc k) c ≡ Some x
      → (used_by_children new x ≡ used_by_children old x) × (used_of new x ≡ used_of old x) × ¬ (x ≡ name)
  stopped_children c u e k x h =
      let s = change_stops old new good ch.hierarchy name ch.others c u e k x h in
      let ne : ¬ (x ≡ name) = λ is. let l = above_is (suc k) c x h in let a = above_is u.0 name c u.1 in let z = ap slashes is in absurd (omega (arith, l, a, z)) in
      let o = (ch.others x (λ i. ⊎_elim ne (λ k. k) i)).here in
      let a = used-split old good x in
      let b = used-split new ch.hierarchy x in
      let v = s.0 in
      (omega (arith, v, o, a, b), v, ne)

  -- ---- by places

  module _ (i : ℕ) (lt : i < length (keys old.file_systems)) where
    lt_new : i < length (keys new.file_systems)
    lt_new = let e = ap length ch.names in omega (arith, e, lt)

    named : get_or (keys new.file_systems) i [] ≡ key i
    named = ap (λ l. get_or l i []) ch.names

    abbrev before : FileSystem
    before = (get_or (entries old.file_systems) i no_entry).1

    abbrev after : FileSystem
    after = (get_or (entries new.file_systems) i no_entry).1

    there_old : get old.file_systems (key i) ≡ Some before
    there_old = entry_at old.file_systems i lt

    there_new : get new.file_systems (key i) ≡ Some after
    there_new = ap (get new.file_systems) (sym named) ∙ entry_at new.file_systems i lt_new

    new_line : (d : Line) → get_or (ledger_of new) i d ≡ line_in new (key i, after)
    new_line d = line_at new i lt_new d ∙ (λ j. line_in new (named j, after))

    pub new_charge : (d : Line) → charge_in (get_or (ledger_of new) i d) ≡ charge_of new (key i)
    new_charge d = charge_at new i lt_new d ∙ ap (charge_of new) named

    -- the line of another whose children use the same
    same_at : (d : Line) → ¬ (key i ≡ name) → used_by_children new (key i) ≡ used_by_children old (key i) → get_or (ledger_of new) i d ≡ get_or (ledger_of old) i d
    same_at d ne e = new_line d ∙ other_line (key i) before after there_old there_new ne (used_by_children old (key i)) e ∙ sym (line_at old i lt d)

    -- the account of another
    pub same_account : (d : Line) → ¬ (key i ≡ name) → (get_or (ledger_of new) i d).account ≡ (get_or (ledger_of old) i d).account
    same_account d ne =
        ap (λ (l : Line). l.account)
        (new_line d ∙ other_line (key i) before after there_old there_new ne (used_by_children new (key i)) refl
        ∙ ap (λ (l : Line). record l { children = used_by_children new (key i) }) (sym (line_at old i lt d)))

    -- where it isn't above the one that changes
    pub away_at : (d : Line) → ¬ (IsUnder (key i) name) → get_or (ledger_of new) i d ≡ get_or (ledger_of old) i d
    away_at d out = same_at d (λ is. out (zero, ap Some (sym is))) (away_children (key i) out)

    -- its own line
    pub start_at : (d : Line) → key i ≡ name → get_or (ledger_of new) i d ≡ amended (get_or (ledger_of old) i d) here referenced
    start_at d is = new_line d ∙ own_line (key i) before after there_old there_new is ∙ ap (λ l. amended l here referenced) (sym (line_at old i lt d))

    -- where it stands above a place that is charged the same
    pub stopped_at : (d : Line) (c : List ℕ) → IsUnder c name → charge_of new c ≡ charge_of old c → (k : ℕ) → above (suc k) c ≡ Some (key i)
        → get_or (ledger_of new) i d ≡ get_or (ledger_of old) i d
    stopped_at d c u e k h = let s = stopped_children c u e k (key i) h in same_at d s.2 s.0

  -- the parent's line
  pub next_at : (i p : ℕ) → i < length (keys old.file_systems) → p < length (keys old.file_systems) → parent_of (key i) ≡ Some (key p) → IsUnder (key i) name → (d e : Line)
      → get_or (ledger_of new) p d ≡ recharged (get_or (ledger_of old) p d) (charge_in (get_or (ledger_of old) i e)) (charge_in (get_or (ledger_of new) i e))
  next_at i p li lp parent u d e =
      new_line p lp d
      ∙ other_line (key p) (before p lp) (after p lp) (there_old p lp) (there_new p lp) (low (key p) (key i) parent u)
      (used_by_children old (key p) - charge_of old (key i) + charge_of new (key i)) children
      ∙ (λ j. recharged (sym (line_at old p lp d) j) (sym (charge_at old i li e) j) (sym (new_charge i li e) j))
    where
      children : used_by_children new (key p) ≡ used_by_children old (key p) - charge_of old (key i) + charge_of new (key i)
      children =
          let a = children_walk old new good ch.hierarchy name ch.others (key p) (key i) parent u in
          let b = charge_low old good (key i) (key p) (ap is_some (there_old i li)) parent in
          omega (arith, a, b)
