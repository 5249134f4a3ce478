-- The way up from the line of the file system whose account changes.
use Rattle.std.proofs.Common.{◌≡◌, ℕ, zero, suc, ◌+◌, ◌-◌, ◌≤◌, ◌<◌, ◌^◌, List, [], ◌∷◌, length, get_or, Some, is_some, refl, sym, ap, subst, ◌∙◌, inl, inr, ◌⊎◌, ⊎_elim, arith}
use Rattle.std.specs.Prelude.{unwrap_or}
use Rattle.std.specs.List.{All}
use Rattle.std.specs.FinMap.{entries, keys, len-entries}
use Rattle.std.proofs.lemmas.List.{length-map, get_or_default}
use Rattle.base.specs.Surveys.{IsIn}
use Rattle.model.specs.World.{World, Limits}
use Rattle.model.specs.Hierarchy.{IsHierarchy}
use Rattle.model.specs.Sums.{used_here, reservation_of}
use Rattle.limits.specs.Levels.{above, IsUnder, charge_of}
use Rattle.limits.proofs.Names.{under_itself, under_child}
use Rattle.limits.proofs.Levels.{reserved_is}
use Rattle.limits.specs.declared.line.Line.{Line}
use Rattle.limits.specs.Lines.{used_in, charge_in}
use Rattle.limits.specs.Ledgers.{line_in, ledger_of}
use Rattle.limits.specs.Places.{IsParentAt}
use Rattle.limits.specs.Changes.{IsChanged, IsModest, IsNear, IsNext, IsTop, IsOnWay, amended, bare_line, line_with, recharged}
use Rattle.world.proofs.lists.Maps.{same_value}
use Rattle.limits.proofs.Order.{no_entry, keys_long, entry_at, one_place, child_later}
use Rattle.limits.proofs.Bounds.{charge_low, little_used}
use Rattle.limits.proofs.Changes.{under_parent, under_alone, line_at, used_at, charge_at, start_at, stopped_at, next_at, new_charge}

-- ---- how much lines use

-- what is charged isn't much more
near_charge : (l line : Line) → IsNear l line → charge_in line ≤ charge_in l + 2 ^ 42
near_charge l line n = let r = ap (λ (x : Limits). unwrap_or x.reservation 0) n.limits in let u = n.used in omega (arith, r, u)

near_amended : (l : Line) (here referenced : ℕ) → here < 2 ^ 42 → IsNear l (amended l here referenced)
near_amended l here referenced small = record { limits = refl; used = omega (arith, small) }

near_recharged : (l line above : Line) → IsNear l line → charge_in l ≤ above.children → IsNear above (recharged above (charge_in l) (charge_in line))
near_recharged l line above n counted = let c = near_charge l line n in record { limits = refl; used = omega (arith, c, counted) }

pub modest_amended : (l : Line) (here referenced : ℕ) → here < 2 ^ 42 → IsModest l → IsModest (amended l here referenced)
modest_amended l here referenced small m = record { here = small; reserved = m.reserved }

pub modest_recharged : (l : Line) (before after : ℕ) → IsModest l → IsModest (recharged l before after)
modest_recharged l before after m = record { here = m.here; reserved = m.reserved }

module _ (w : World) (good : IsHierarchy w.file_systems) where
  pub ledger_long : length (ledger_of w) ≡ length (keys w.file_systems)
  unfolding ledger_of
  ledger_long = length-map (entries w.file_systems) (line_in w) ∙ sym (keys_long w.file_systems)

  pub few_names : length (keys w.file_systems) ≤ 1024
  few_names = let l = keys_long w.file_systems in let e = len-entries w.file_systems in let f = good.few in omega (arith, l, e, f)

  place_in : (xs : List (List ℕ)) (x : List ℕ) → IsIn xs x → (i : ℕ) × (i < length xs) × (get_or xs i [] ≡ x)
  place_in [] x h = absurd h
  place_in (y ∷ ys) x h = ⊎_elim (λ is. (zero, omega arith, sym is)) (λ k. let r = place_in ys x k in (suc r.0, (let l = r.1 in omega (arith, l)), r.2)) h

  module _ (modest : All IsModest (ledger_of w)) where
    own_small : (name : List ℕ) → IsIn (keys w.file_systems) name → used_here w name + reservation_of w name ≤ 2 ^ 43
    own_small name i =
        let p = place_in (keys w.file_systems) name i in
        let m = subst IsModest (line_at w p.0 p.1 (line_in w (no_entry))) (modest p.0 (line_in w no_entry) (let l = ledger_long in let lt = p.1 in omega (arith, l, lt))) in
        let h = m.here in
        let r = m.reserved in
        let at = reserved_is w (get_or (keys w.file_systems) p.0 []) (get_or (entries w.file_systems) p.0 no_entry).1 (entry_at w.file_systems p.0 p.1) in
        let a = ap (used_here w) p.2 in
        let b = ap (reservation_of w) p.2 in
        omega (arith, h, r, at, a, b)

    pub little : (i : ℕ) (d : Line) → i < length (keys w.file_systems) → used_in (get_or (ledger_of w) i d) ≤ 2 ^ 53
    little i d lt =
        let u = used_at w i lt d in
        let l = little_used w good few_names own_small (get_or (keys w.file_systems) i []) (ap is_some (entry_at w.file_systems i lt)) in
        omega (arith, u, l)

  -- a child's charge is among what its parent's children use
  pub counted_at : (i p : ℕ) (d e : Line) → i < length (keys w.file_systems) → IsParentAt (keys w.file_systems) i p → charge_in (get_or (ledger_of w) i d) ≤ (get_or (ledger_of w) p e).children
  counted_at i p d e lt parent =
      let c = charge_at w i lt d in
      let l = charge_low w good (get_or (keys w.file_systems) i []) (get_or (keys w.file_systems) p []) (ap is_some (entry_at w.file_systems i lt)) parent.named in
      let a = ap (λ (x : Line). x.children) (line_at w p parent.within e) in
      omega (arith, c, l, a)

-- ---- the way

module _ (old : World) (good : IsHierarchy old.file_systems) (modest : All IsModest (ledger_of old)) (name : List ℕ) (here referenced : ℕ) where
  abbrev key : ℕ → List ℕ
  key i = get_or (keys old.file_systems) i []

  -- it begins at its own line
  pub way_starts : here < 2 ^ 42 → (i : ℕ) (l line : Line) → i < length (keys old.file_systems) → key i ≡ name → l ≡ get_or (ledger_of old) i l
      → line ≡ amended l here referenced → IsOnWay old name here referenced i line
  way_starts small i l line lt is at own = record {
    within = lt;
    under = (zero, ap Some (sym is));
    near = subst (λ x. IsNear x line) (at ∙ same_default l line) (subst (IsNear l) (sym own) (near_amended l here referenced small));
    is = λ new ch. own ∙ ap (λ x. amended x here referenced) (at ∙ same_default l line) ∙ sym (start_at old new good name here referenced ch i lt line is);
  }
    where
      same_default : (d e : Line) → get_or (ledger_of old) i d ≡ get_or (ledger_of old) i e
      same_default d e = get_or_default (ledger_of old) i d e (let l = ledger_long old good in omega (arith, l, lt))

  -- the lines on the way that are still to be changed are those of the old ledger
  abbrev AreKept : List Line → ℕ → Type 0
  AreKept lines place = (j : ℕ) (d : Line) → j < length (keys old.file_systems) → IsUnder (key j) (key place) → get_or lines j d ≡ get_or (ledger_of old) j d

  module _ (lines : List Line) (place : ℕ) (line : Line) (way : IsOnWay old name here referenced place line) (kept : AreKept lines place) where
    here_kept : (d : Line) → get_or lines place d ≡ get_or (ledger_of old) place d
    here_kept d = kept place d way.within (under_itself (key place))

    parent_kept : (p : ℕ) → IsParentAt (keys old.file_systems) place p → (d : Line) → get_or lines p d ≡ get_or (ledger_of old) p d
    parent_kept p parent d = kept p d parent.within (under_child (key p) (key place) (key place) parent.named (under_itself (key place)))

    -- what is asked of a step
    pub way_counted : (p : ℕ) (d : Line) → IsParentAt (keys old.file_systems) place p → charge_in (get_or lines place d) ≤ (get_or lines p d).children
    way_counted p d parent =
        let c = counted_at old good place p d d way.within parent in
        let a = ap charge_in (here_kept d) in
        let b = ap (λ (x : Line). x.children) (parent_kept p parent d) in
        omega (arith, c, a, b)

    -- a step leads on
    module _ (p : ℕ) (above : Line) (next : IsNext (keys old.file_systems) lines place line (p, above)) where
      is_above : above ≡ recharged (get_or (ledger_of old) p above) (charge_in (get_or (ledger_of old) place line)) (charge_in line)
      is_above = next.is ∙ (λ i. recharged (parent_kept p next.parent above i) (charge_in (here_kept line i)) (charge_in line))

      pub way_on : IsOnWay old name here referenced p above
      way_on = record {
        within = next.parent.within;
        under = under_child (key p) (key place) name next.parent.named way.under;
        near = subst (IsNear (get_or (ledger_of old) p above)) (sym is_above)
            (near_recharged (get_or (ledger_of old) place line) line (get_or (ledger_of old) p above) way.near (counted_at old good place p line above way.within next.parent));
        is = λ new ch.
            is_above
            ∙ ap (λ l. recharged (get_or (ledger_of old) p above) (charge_in (get_or (ledger_of old) place line)) (charge_in l)) (way.is new ch)
            ∙ sym (next_at old new good name here referenced ch place p way.within next.parent.within next.parent.named way.under above line);
      }

      pub step_down : p < place
      step_down = child_later old.file_systems place p way.within next.parent.within next.parent.named

      -- of what held off the way or is on it
      pub way_rest : (S T : Type 0) (j : ℕ) → IsUnder (key j) (key place) ⊎ S → (key j ≡ key place → T) → (S → T) → IsUnder (key j) (key p) ⊎ T
      way_rest S T j h f g = ⊎_elim (λ u. ⊎_elim (λ is. inr (f is)) inl (under_parent (key j) (key place) (key p) next.parent.named u)) (λ s. inr (g s)) h

    -- or the way ends, and nothing above changes
    pub way_ends : IsTop (keys old.file_systems) lines place line → (new : World) → IsChanged old new name here referenced → (j : ℕ) (d : Line) → j < length (keys old.file_systems)
        → IsUnder (key j) (key place) → (j ≡ place) ⊎ (get_or (ledger_of new) j d ≡ get_or (ledger_of old) j d)
    way_ends top new ch j d lt u = ⊎_elim
        (λ e. by_levels (same_charge e) u)
        (λ none. inl (one_place old.file_systems j place lt way.within (under_alone (key j) (key place) none u)))
        top
      where
        same_charge : charge_in line ≡ charge_in (get_or lines place line) → charge_of new (key place) ≡ charge_of old (key place)
        same_charge e =
            sym (ap charge_in (way.is new ch) ∙ new_charge old new good name here referenced ch place way.within line)
            ∙ e ∙ ap charge_in (here_kept line) ∙ charge_at old place way.within line

        by_levels : charge_of new (key place) ≡ charge_of old (key place) → IsUnder (key j) (key place) → (j ≡ place) ⊎ (get_or (ledger_of new) j d ≡ get_or (ledger_of old) j d)
        by_levels e (zero, h) = inl (one_place old.file_systems j place lt way.within (sym (same_value (key place) (key j) h)))
        by_levels e (suc k, h) = inr (stopped_at old new good name here referenced ch j lt d (key place) way.under e k h)

-- ---- one step

module _ (names : List (List ℕ)) (lines : List Line) (long : length lines ≡ length names) (place p : ℕ) (at d : Line) (within : place < length lines)
    (is_at : at ≡ get_or lines place at) (parent : IsParentAt names place p)
    (counted : (q : ℕ) (d : Line) → IsParentAt names place q → charge_in (get_or lines place d) ≤ (get_or lines q d).children) (before : ℕ) (was : before ≡ charge_in at) where
  parent_in : p < length lines
  parent_in = let w = parent.within in omega (arith, long, w)

  at_is : (e : Line) → get_or lines place e ≡ at
  at_is e = get_or_default lines place e at within ∙ sym is_at

  above_is : (e : Line) → get_or lines p e ≡ get_or lines p d
  above_is e = get_or_default lines p e d parent_in

  -- what was charged is among what the parent's children use
  pub step_low : before ≤ (get_or lines p d).children
  step_low =
      let c = counted p d parent in
      let a = ap charge_in (at_is d) in
      omega (arith, c, a, was)

  -- so the sum can be told
  pub step_fits : All (λ l. used_in l ≤ 2 ^ 54) lines → (after : ℕ) → after ≤ 2 ^ 55 → (get_or lines p d).children - before + after < 2 ^ 60
  step_fits little after small = let b = little p d parent_in in omega (arith, b, small)

  -- and the parent's line is the next
  pub step_next : (after : ℕ) (line : Line) → charge_in line ≡ after → IsNext names lines place line (p, line_with lines p ((get_or lines p d).children - before + after))
  step_next after line now = record { parent = parent; is = λ i. recharged_with (same i) (same_children i) ((was ∙ ap charge_in (sym (at_is line))) i) (sym now i) }
    where
      recharged_with : Line → ℕ → ℕ → ℕ → Line
      recharged_with l children b a = record { account = l.account; children = children - b + a }

      up : Line
      up = line_with lines p ((get_or lines p d).children - before + after)

      same : get_or lines p bare_line ≡ get_or lines p up
      same = above_is bare_line ∙ sym (above_is up)

      same_children : (get_or lines p d).children ≡ (get_or lines p up).children
      same_children = ap (λ (l : Line). l.children) (sym (above_is up))
