-- Each line on the way up is written, and then the lines are those of each world that they were behind.
use Rattle.std.proofs.Common.{◌≡◌, ℕ, zero, suc, ◌+◌, ◌-◌, ◌≤◌, ◌<◌, ◌^◌, ◌≢◌, List, [], length, get_or, set, Option, Some, None, is_some, refl, sym, ap, subst, ◌∙◌, inl, inr, ⊎_elim, arith}
use Rattle.std.specs.List.{All}
use Rattle.std.specs.FinMap.{keys}
use Rattle.std.proofs.lemmas.Bool.{cases_eq}
use Rattle.std.proofs.lemmas.List.{length-set, get_or-set_same, get_or-set_other, get_or_default, same_lists}
use Rattle.std.proofs.lemmas.List.Elements.{All-set}
use Rattle.base.specs.Names.{parent_of}
use Rattle.base.specs.Surveys.{IsIn}
use Rattle.model.specs.World.{World}
use Rattle.model.specs.Hierarchy.{FileSystems}
use Rattle.limits.specs.Levels.{slashes, above, IsUnder}
use Rattle.limits.proofs.Names.{level_up, above_is, under_itself, under_child, in_keys, parent_in}
use Rattle.world.proofs.lists.Maps.{no_value, same_value}
use Rattle.limits.specs.declared.line.Line.{Line}
use Rattle.limits.specs.Lines.{used_in, charge_in}
use Rattle.limits.specs.Ledgers.{ledger_of}
use Rattle.limits.specs.Places.{IsParentAt}
use Rattle.limits.specs.Changes.{IsModest, IsNext, IsTop, CanWalkUp, IsBehind, bare_line, line_with, recharged}
use Rattle.limits.proofs.Order.{one_place, child_later, entry_at, place_in}
use Rattle.limits.proofs.Changes.{above_parent, above_none, under_parent, under_above, under_alone}
use Rattle.limits.proofs.Ways.{ledger_long, counted_at, modest_recharged}

-- a line with other children, as it is written
pub line_kept : (lines : List Line) (place children : ℕ) (d : Line) → place < length lines → line_with lines place children ≡ record { account = (get_or lines place d).account; children = children }
line_kept lines place children d within = ap (λ (l : Line). record l { children = children }) (get_or_default lines place bare_line d within)

module _ (m : FileSystems) (lines : List Line) (place : ℕ) (line : Line) where
  abbrev key : ℕ → List ℕ
  key i = get_or (keys m) i []

  -- ---- what is asked of a step

  module _ (can : CanWalkUp (keys m) lines place line) where
    here : place < length (keys m)
    here = let w = can.within in let l = can.long in omega (arith, w, l)

    pub walk_used : used_in line ≤ 2 ^ 54
    walk_used = let u = can.used in let l = can.low place line can.within (under_itself (key place)) in omega (arith, u, l)

    pub walk_counted : (p : ℕ) (d : Line) → IsParentAt (keys m) place p → charge_in (get_or lines place d) ≤ (get_or lines p d).children
    walk_counted p d parent = can.counted place p d can.within (under_itself (key place)) parent

    pub walk_little : All (λ l. used_in l ≤ 2 ^ 54) lines → All (λ l. used_in l ≤ 2 ^ 54) (set lines place line)
    walk_little h = All-set (λ l. used_in l ≤ 2 ^ 54) lines place line walk_used h

    module _ (p : ℕ) (up : Line) (on : IsNext (keys m) lines place line (p, up)) where
      p_within : p < length lines
      p_within = let w = on.parent.within in let l = can.long in omega (arith, w, l)

      pub walk_down : p < place
      walk_down = child_later m place p here on.parent.within on.parent.named

      -- those above the parent aren't written
      apart : (j : ℕ) → IsUnder (key j) (key p) → j ≢ place
      apart j u e =
          let a = above_is u.0 (key p) (key j) u.1 in
          let b = level_up (key place) (key p) on.parent.named in
          let l = ap (λ i. slashes (key i)) e in
          absurd (omega (arith, a, b, l))

      above_place : (j : ℕ) → IsUnder (key j) (key p) → IsUnder (key j) (key place)
      above_place j u = under_above (key j) (key place) (key p) on.parent.named u

      stays : (j : ℕ) (d : Line) → IsUnder (key j) (key p) → get_or (set lines place line) j d ≡ get_or lines j d
      stays j d u = get_or-set_other lines place j line d (apart j u)

      parent_under : (j q : ℕ) → IsUnder (key j) (key p) → IsParentAt (keys m) j q → IsUnder (key q) (key p)
      parent_under j q u parent = under_child (key q) (key j) (key p) parent.named u

      -- the parent's line is what it was, with other children
      pub parent_stays : (children : ℕ) → line_with (set lines place line) p children ≡ line_with lines p children
      parent_stays children = ap (λ (l : Line). record l { children = children }) (stays p bare_line (under_itself (key p)))

      -- and can go on at the parent
      pub can_go_on : All IsModest lines → CanWalkUp (keys m) (set lines place line) p up
      can_go_on modest = record {
        long = length-set lines place line ∙ can.long;
        within = let w = p_within in let l = length-set lines place line in omega (arith, w, l);
        modest = subst IsModest (sym on.is) (modest_recharged (get_or lines p up) (charge_in (get_or lines place line)) (charge_in line) (modest p up p_within));
        used =
            let e = ap used_in on.is in
            let s = ap used_in (stays p up (under_itself (key p))) in
            let c = counted in
            let h = can.charged in
            omega (arith, e, s, c, h);
        charged =
            let e = ap charge_in on.is in
            let s = ap charge_in (stays p up (under_itself (key p))) in
            let c = counted in
            let h = can.charged in
            omega (arith, e, s, c, h);
        low = λ j d lt u. let e = ap used_in (stays j d u) in let l = can.low j d (fewer j lt) (above_place j u) in omega (arith, e, l);
        counted = λ j q d lt u parent.
            let e = ap charge_in (stays j d u) in
            let f = ap (λ (l : Line). l.children) (stays q d (parent_under j q u parent)) in
            let c = can.counted j q d (fewer j lt) (above_place j u) parent in
            omega (arith, e, f, c);
      }
        where
          fewer : (j : ℕ) → j < length (set lines place line) → j < length lines
          fewer j lt = let l = length-set lines place line in omega (arith, l, lt)

          counted : charge_in (get_or lines place line) ≤ (get_or lines p up).children
          counted =
              let c = walk_counted p line on.parent in
              let e = ap (λ (l : Line). l.children) (get_or_default lines p line up p_within) in
              omega (arith, c, e)

  -- ---- the worlds that the lines are behind

  module _ (can : CanWalkUp (keys m) lines place line) (w : World) (s : IsBehind w (keys m) lines place line) where
    world_long : length (ledger_of w) ≡ length (keys m)
    world_long = ledger_long w s.hierarchy ∙ ap length s.named

    inside : (j : ℕ) → j < length (keys m) → j < length (ledger_of w)
    inside j lt = let l = world_long in omega (arith, l, lt)

    -- the line that is written is the world's
    written : (j : ℕ) (d : Line) → j ≡ place → get_or (set lines place line) j d ≡ get_or (ledger_of w) j d
    written j d e =
        ap (λ i. get_or (set lines place line) i d) e
        ∙ get_or-set_same lines place line d can.within
        ∙ s.is
        ∙ get_or_default (ledger_of w) place line d (inside place (here can))
        ∙ ap (λ i. get_or (ledger_of w) i d) (sym e)

    kept : (j : ℕ) (d : Line) → get_or lines j d ≡ get_or (ledger_of w) j d → get_or (set lines place line) j d ≡ get_or (ledger_of w) j d
    kept j d h = ⊎_elim (written j d) (λ ne. get_or-set_other lines place j line d ne ∙ h) (cases_eq j place)

    -- what a child is charged in the world is among what its parent's children use there
    counted_in : (j p : ℕ) (d : Line) → j < length (keys m) → IsParentAt (keys m) j p → charge_in (get_or (ledger_of w) j d) ≤ (get_or (ledger_of w) p d).children
    counted_in j p d lt parent = counted_at w s.hierarchy j p d d (let e = ap length s.named in omega (arith, e, lt)) (subst (λ ns. IsParentAt ns j p) (sym s.named) parent)

    -- where a line is charged as in the world, the one above is the world's
    caught_up : (j p : ℕ) (d : Line) → j < length (keys m) → IsUnder (key j) (key place) → IsParentAt (keys m) j p
        → charge_in (get_or lines j d) ≡ charge_in (get_or (ledger_of w) j d) → get_or lines p d ≡ get_or (ledger_of w) p d
    caught_up j p d lt u parent same =
        s.above j p d lt u parent
        ∙ (λ i. record {
          account = (get_or (ledger_of w) p d).account;
          children = (let c = counted_in j p d lt parent in
              let e : (get_or (ledger_of w) p d).children - charge_in (get_or (ledger_of w) j d) + charge_in (get_or lines j d) ≡ (get_or (ledger_of w) p d).children = omega (arith, c, same) in e) i;
        })

    module _ (p : ℕ) (up : Line) (on : IsNext (keys m) lines place line (p, up)) where
      -- the walk goes on at the parent
      pub walk_on : IsBehind w (keys m) (set lines place line) p up
      walk_on = record {
        hierarchy = s.hierarchy;
        named = s.named;
        is =
            on.is ∙ (λ i. recharged (s.above place p up (here can) (under_itself (key place)) on.parent i) (charge_in (get_or_default lines place line up can.within i)) (charge_in line))
            ∙ (λ i. record { account = (get_or (ledger_of w) p up).account; children = back i });
        settled = λ j d lt. ⊎_elim
            (λ u. ⊎_elim (λ e. inr (written j d (one_place m j place lt (here can) e))) inl (under_parent (key j) (key place) (key p) on.parent.named u))
            (λ e. inr (kept j d e))
            (s.settled j d lt);
        above = λ j q d lt u parent.
            stays can p up on q d (parent_under can p up on j q u parent)
            ∙ s.above j q d lt (above_place can p up on j u) parent
            ∙ ap (λ l. recharged (get_or (ledger_of w) q d) (charge_in (get_or (ledger_of w) j d)) (charge_in l)) (sym (stays can p up on j d u));
      }
        where
          back : (get_or (ledger_of w) p up).children - charge_in (get_or (ledger_of w) place up) + charge_in (get_or lines place up) - charge_in (get_or lines place up) + charge_in line
              ≡ (get_or (ledger_of w) p up).children
          back =
              let c = counted_in place p up (here can) on.parent in
              let e = ap charge_in (s.is ∙ get_or_default (ledger_of w) place line up (inside place (here can))) in
              omega (arith, c, e)

    -- where it ends, all lines are the world's
    pub walk_ends : IsTop (keys m) lines place line → set lines place line ≡ ledger_of w
    walk_ends top = same_lists (set lines place line) (ledger_of w)
        (length-set lines place line ∙ can.long ∙ sym world_long)
        (λ j d lt. let l = length-set lines place line in let k = can.long in each j d (omega (arith, l, lt, k)))
      where
        -- from a line that is charged as in the world up
        go : (k c j : ℕ) (d : Line) → c < length (keys m) → j < length (keys m) → IsUnder (key c) (key place) → get_or (set lines place line) c d ≡ get_or (ledger_of w) c d
            → charge_in (get_or lines c d) ≡ charge_in (get_or (ledger_of w) c d) → above k (key c) ≡ Some (key j) → get_or (set lines place line) j d ≡ get_or (ledger_of w) j d
        go zero c j d lc lj u h same e = subst (λ i. get_or (set lines place line) i d ≡ get_or (ledger_of w) i d) (one_place m c j lc lj (same_value (key c) (key j) e)) h
        go (suc k) c j d lc lj u h same e = by_parent (λ p lp up hp sp ep. go k p j d lp lj up hp sp ep) (parent_of (key c)) refl
          where
            by_parent : ((p : ℕ) → p < length (keys m) → IsUnder (key p) (key place) → get_or (set lines place line) p d ≡ get_or (ledger_of w) p d
                → charge_in (get_or lines p d) ≡ charge_in (get_or (ledger_of w) p d) → above k (key p) ≡ Some (key j) → get_or (set lines place line) j d ≡ get_or (ledger_of w) j d)
                → (x : Option (List ℕ)) → parent_of (key c) ≡ x → get_or (set lines place line) j d ≡ get_or (ledger_of w) j d
            by_parent rest None none = absurd (no_value (key j) (sym (above_none k (key c) none) ∙ e))
            by_parent rest (Some q) is =
                let i = parent_in w.file_systems s.hierarchy (key c) q (subst (λ ns. IsIn ns (key c)) (sym s.named) (in_keys m (key c) (ap is_some (entry_at m c lc)))) is in
                let at = place_in (keys m) q (subst (λ ns. IsIn ns q) s.named i) in
                let parent : IsParentAt (keys m) c at.0 = record { within = at.1; named = is ∙ ap Some (sym at.2) } in
                let caught = caught_up c at.0 d lc u parent same in
                rest at.0 at.1 (under_child (key at.0) (key c) (key place) parent.named u) (kept at.0 d caught) (ap charge_in caught)
                (sym (above_parent k (key c) (key at.0) parent.named) ∙ e)

        by_top : (j : ℕ) (d : Line) → j < length (keys m) → IsUnder (key j) (key place) → IsTop (keys m) lines place line → get_or (set lines place line) j d ≡ get_or (ledger_of w) j d
        by_top j d lt u (inl e) = go u.0 place j d (here can) lt (under_itself (key place)) (written place d refl)
            (ap charge_in (get_or_default lines place d line can.within) ∙ sym e ∙ ap charge_in (s.is ∙ get_or_default (ledger_of w) place line d (inside place (here can)))) u.1
        by_top j d lt u (inr none) = written j d (one_place m j place lt (here can) (under_alone (key j) (key place) none u))

        each : (j : ℕ) (d : Line) → j < length (keys m) → get_or (set lines place line) j d ≡ get_or (ledger_of w) j d
        each j d lt = ⊎_elim (λ u. by_top j d lt u top) (kept j d) (s.settled j d lt)
