-- What the limits say of a world with a changed account, by the lines on the way up.
use Rattle.std.proofs.Common.{◌≡◌, ℕ, zero, suc, ◌+◌, ◌≤◌, ◌<◌, ◌^◌, ◌≢◌, Bool, true, false, true≢false, List, [], ◌∷◌, length, get_or, is_some, refl, sym, ap, subst, ◌∙◌, inl, inr, ◌⊎◌, ⊎_elim, arith}
use Rattle.std.specs.Prelude.{nat_le, not}
use Rattle.std.specs.Option.{option_map_or}
use Rattle.std.specs.List.{All, list_all}
use Rattle.std.specs.FinMap.{keys}
use Rattle.std.proofs.lemmas.Bool.{cases_eq, and_from}
use Rattle.std.proofs.lemmas.List.{get_or_default}
use Rattle.std.proofs.lemmas.List.Folds.{list_all_at}
use Rattle.base.specs.declared.refusal.Refusal.TheVariants.{Quota, RefQuota, NoSpace}
use Rattle.base.specs.Names.{root_name}
use Rattle.model.specs.World.{World}
use Rattle.model.specs.Hierarchy.{IsHierarchy}
use Rattle.model.specs.Fits.{quotas_hold, refquotas_hold, pool_holds}
use Rattle.model.specs.Rule.{first_of}
use Rattle.model.specs.State.{State}
use Rattle.model.specs.requests.Change.{limit_row}
use Rattle.limits.specs.Levels.{slashes, IsUnder, charge_of}
use Rattle.limits.specs.Limits.{AreQuotasMet}
use Rattle.limits.proofs.Names.{under_or_not}
use Rattle.limits.proofs.Limits.{met_quotas, met_refquotas}
use Rattle.limits.specs.declared.account.Account.{Account}
use Rattle.limits.specs.declared.line.Line.{Line}
use Rattle.limits.specs.Lines.{used_in, charge_in, is_in_quota, is_in_refquota}
use Rattle.limits.specs.declared.pool_space.Space.{Space}
use Rattle.limits.specs.Ledgers.{ledger_of, IsSpaceOf}
use Rattle.limits.specs.Places.{IsParentAt}
use Rattle.limits.specs.Changes.{IsChanged, IsModest, IsNext, IsTop, IsOnWay, IsWithinQuotas, IsOverQuota, amended}
use Rattle.limits.proofs.Order.{entry_at, one_place, root_first, not_empty}
use Rattle.limits.proofs.LimitRow.{quotas_are, refquotas_are}
use Rattle.limits.proofs.Changes.{root_above, away_at, same_account, new_charge}
use Rattle.limits.proofs.Ways.{ledger_long, little, way_starts, way_counted, way_on, way_rest, way_ends, step_down}

-- ---- tests of all lines

all_at : (p : Line → Bool) (xs : List Line) → list_all p xs ≡ true → (i : ℕ) (d : Line) → i < length xs → p (get_or xs i d) ≡ true
all_at p xs h i d lt = at (p (get_or xs i d)) refl
  where
    at : (b : Bool) → p (get_or xs i d) ≡ b → p (get_or xs i d) ≡ true
    at true e = e
    at false e = absurd (true≢false (sym h ∙ list_all_at p xs i d lt e))

from_all : (p : Line → Bool) (xs : List Line) (d : Line) → ((i : ℕ) → i < length xs → p (get_or xs i d) ≡ true) → list_all p xs ≡ true
from_all p [] d h = refl
from_all p (x ∷ xs) d h = and_from (p x) (list_all p xs) (h zero (omega arith)) (from_all p xs d (λ i lt. h (suc i) (omega (arith, lt))))

module _ (old : World) (good : IsHierarchy old.file_systems) (lines : List Line) (own : lines ≡ ledger_of old) (all_modest : All IsModest lines)
    (name : List ℕ) (here referenced : ℕ) where
  abbrev key : ℕ → List ℕ
  key i = get_or (keys old.file_systems) i []

  modest : All IsModest (ledger_of old)
  modest = subst (All IsModest) own all_modest

  kept : (place j : ℕ) (d : Line) → j < length (keys old.file_systems) → IsUnder (key j) (key place) → get_or lines j d ≡ get_or (ledger_of old) j d
  kept place j d lt u = ap (λ ls. get_or ls j d) own

  pub as_long : length lines ≡ length (keys old.file_systems)
  as_long = ap length own ∙ ledger_long old good

  -- the lines use little, and so does one on the way
  pub all_little : All (λ l. used_in l ≤ 2 ^ 54) lines
  all_little j d lt =
      let l = little old good modest j d (let l = as_long in omega (arith, l, lt)) in
      let e = ap (λ ls. used_in (get_or ls j d)) own in
      omega (arith, l, e)

  module _ (place : ℕ) (line : Line) (way : IsOnWay old name here referenced place line) where
    pub line_little : used_in line ≤ 2 ^ 54
    line_little = let l = little old good modest place line way.within in let n = way.near.used in omega (arith, l, n)

    pub are_counted : (p : ℕ) (d : Line) → IsParentAt (keys old.file_systems) place p → charge_in (get_or lines place d) ≤ (get_or lines p d).children
    are_counted = way_counted old good modest name here referenced lines place line way (kept place)

    pub leads_on : (p : ℕ) (above : Line) → IsNext (keys old.file_systems) lines place line (p, above) → IsOnWay old name here referenced p above
    leads_on = way_on old good modest name here referenced lines place line way (kept place)

    pub leads_down : (p : ℕ) (above : Line) → IsNext (keys old.file_systems) lines place line (p, above) → p < place
    leads_down = step_down old good modest name here referenced lines place line way (kept place)

  -- it begins at its own line
  pub begins : here < 2 ^ 42 → (i : ℕ) (l line : Line) → i < length (keys old.file_systems) → key i ≡ name → l ≡ get_or lines i l → line ≡ amended l here referenced
      → IsOnWay old name here referenced i line
  begins small i l line lt is at e = way_starts old good modest name here referenced small i l line lt is (at ∙ ap (λ ls. get_or ls i l) own) e

  module _ (new : World) (ch : IsChanged old new name here referenced) where
    long_new : length (ledger_of new) ≡ length (keys old.file_systems)
    long_new = ledger_long new ch.hierarchy ∙ ap length ch.names

    new_default : (j : ℕ) (d e : Line) → j < length (keys old.file_systems) → get_or (ledger_of new) j d ≡ get_or (ledger_of new) j e
    new_default j d e lt = get_or_default (ledger_of new) j d e (let l = long_new in omega (arith, l, lt))

    old_within : (j : ℕ) → j < length (keys old.file_systems) → j < length (ledger_of old)
    old_within j lt = let l = ledger_long old good in omega (arith, l, lt)

    -- the line at a place on the way
    on_way : (place : ℕ) (line : Line) → IsOnWay old name here referenced place line → (j : ℕ) (d : Line) → j ≡ place → get_or (ledger_of new) j d ≡ line
    on_way place line way j d e = ap (λ i. get_or (ledger_of new) i d) e ∙ new_default place d line way.within ∙ sym (way.is new ch)

    module _ (met : AreQuotasMet old) where
      old_quota : (j : ℕ) (d : Line) → j < length (keys old.file_systems) → is_in_quota (get_or (ledger_of old) j d) ≡ true
      old_quota j d lt = all_at is_in_quota (ledger_of old) (sym (quotas_are old) ∙ met_quotas old met.quotas) j d (old_within j lt)

      old_refquota : (j : ℕ) (d : Line) → j < length (keys old.file_systems) → is_in_refquota (get_or (ledger_of old) j d) ≡ true
      old_refquota j d lt = all_at is_in_refquota (ledger_of old) (sym (refquotas_are old) ∙ met_refquotas old met.refquotas) j d (old_within j lt)

      -- off the way each quota holds
      pub asked_starts : (i : ℕ) → key i ≡ name → (j : ℕ) (d : Line) → j < length (keys old.file_systems) → IsUnder (key j) (key i) ⊎ (is_in_quota (get_or (ledger_of new) j d) ≡ true)
      asked_starts i is j d lt = ⊎_elim inl
          (λ out. inr (ap is_in_quota (away_at old new good name here referenced ch j lt d (λ u. out (subst (IsUnder (key j)) (sym is) u))) ∙ old_quota j d lt))
          (under_or_not (key j) (key i))

      module _ (place : ℕ) (line : Line) (way : IsOnWay old name here referenced place line) (fits : is_in_quota line ≡ true) where
        line_fits : (j : ℕ) (d : Line) → j ≡ place → is_in_quota (get_or (ledger_of new) j d) ≡ true
        line_fits j d e = ap is_in_quota (on_way place line way j d e) ∙ fits

        pub asked_on : (p : ℕ) (above : Line) → IsNext (keys old.file_systems) lines place line (p, above) → (j : ℕ) (d : Line) → j < length (keys old.file_systems)
            → IsUnder (key j) (key place) ⊎ (is_in_quota (get_or (ledger_of new) j d) ≡ true) → IsUnder (key j) (key p) ⊎ (is_in_quota (get_or (ledger_of new) j d) ≡ true)
        asked_on p above next j d lt h =
            way_rest old good modest name here referenced lines place line way (kept place) p above next _ _ j h
            (λ e. line_fits j d (one_place old.file_systems j place lt way.within e)) (λ q. q)

        module _ (top : IsTop (keys old.file_systems) lines place line) where
          -- where the way ends, each quota has been asked
          pub asked_all : ((j : ℕ) (d : Line) → j < length (keys old.file_systems) → IsUnder (key j) (key place) ⊎ (is_in_quota (get_or (ledger_of new) j d) ≡ true)) → quotas_hold new ≡ true
          asked_all h = quotas_are new ∙ from_all is_in_quota (ledger_of new) line (λ j lt. let l = long_new in each j (omega (arith, l, lt)))
            where
              each : (j : ℕ) → j < length (keys old.file_systems) → is_in_quota (get_or (ledger_of new) j line) ≡ true
              each j lt = ⊎_elim
                  (λ u. ⊎_elim (line_fits j line) (λ e. ap is_in_quota e ∙ old_quota j line lt) (way_ends old good modest name here referenced lines place line way (kept place) top new ch j line lt u))
                  (λ q. q)
                  (h j line lt)

          -- and what the root is charged is known
          pub asked_root : (charge : ℕ) → (place ≡ 0 → charge ≡ charge_in line) → (¬ (place ≡ 0) → charge ≡ charge_in (get_or lines 0 line)) → charge ≡ charge_of new root_name
          asked_root charge own_charge other_charge = ⊎_elim
              (λ e. own_charge (sym e) ∙ ap charge_in (sym (on_way place line way 0 line e)) ∙ root_charged)
              (λ e. by_place e (cases_eq place 0))
              (way_ends old good modest name here referenced lines place line way (kept place) top new ch 0 line some_there root_on)
            where
              some_there : 0 < length (keys old.file_systems)
              some_there = not_empty old.file_systems good

              root_on : IsUnder (key 0) (key place)
              root_on = subst (λ n. IsUnder n (key place)) (sym (root_first old.file_systems good))
                  (root_above old good (slashes (key place)) (key place) (omega arith) (ap is_some (entry_at old.file_systems place way.within)))

              root_charged : charge_in (get_or (ledger_of new) 0 line) ≡ charge_of new root_name
              root_charged = new_charge old new good name here referenced ch 0 some_there line ∙ ap (charge_of new) (root_first old.file_systems good)

              by_place : get_or (ledger_of new) 0 line ≡ get_or (ledger_of old) 0 line → (place ≡ 0) ⊎ (place ≢ 0) → charge ≡ charge_of new root_name
              by_place e (inl is) = own_charge is ∙ ap charge_in (sym (on_way place line way 0 line (sym is))) ∙ root_charged
              by_place e (inr ne) = other_charge ne ∙ ap (λ ls. charge_in (get_or ls 0 line)) own ∙ ap charge_in (sym e) ∙ root_charged

      -- of the refquotas its own alone is another
      module _ (i : ℕ) (lt : i < length (keys old.file_systems)) (is : key i ≡ name) (first : Line) (way : IsOnWay old name here referenced i first) where
        pub refquota_asked : is_in_refquota first ≡ true → refquotas_hold new ≡ true
        refquota_asked fits = refquotas_are new ∙ from_all is_in_refquota (ledger_of new) first (λ j at. let l = long_new in each j (omega (arith, l, at)))
          where
            each : (j : ℕ) → j < length (keys old.file_systems) → is_in_refquota (get_or (ledger_of new) j first) ≡ true
            each j at = ⊎_elim
                (λ e. ap is_in_refquota (on_way i first way j first e) ∙ fits)
                (λ ne.
                ap (λ (a : Account). option_map_or (nat_le a.referenced) a.limits.refquota true)
                (same_account old new good name here referenced ch j at first (λ e. ne (one_place old.file_systems j i at lt (e ∙ sym is))))
                ∙ old_refquota j first at)
                (cases_eq j i)

    -- a broken one is that of the world
    pub quota_broken : (place : ℕ) (line : Line) → IsOnWay old name here referenced place line → is_in_quota line ≡ false → quotas_hold new ≡ false
    quota_broken place line way e =
        quotas_are new
        ∙ list_all_at is_in_quota (ledger_of new) place line (let l = long_new in let lt = way.within in omega (arith, l, lt)) (ap is_in_quota (on_way place line way place line refl) ∙ e)

    pub refquota_broken : (place : ℕ) (line : Line) → IsOnWay old name here referenced place line → is_in_refquota line ≡ false → refquotas_hold new ≡ false
    refquota_broken place line way e =
        refquotas_are new
        ∙ list_all_at is_in_refquota (ledger_of new) place line (let l = long_new in let lt = way.within in omega (arith, l, lt)) (ap is_in_refquota (on_way place line way place line refl) ∙ e)

    -- so the answer is that of the world
    module _ (met : AreQuotasMet old) (start : ℕ) (lt : start < length (keys old.file_systems)) (is : key start ≡ name) (first : Line) (way : IsOnWay old name here referenced start first)
        (place : ℕ) (line : Line) (on : IsOnWay old name here referenced place line)
        (asked : (j : ℕ) (d : Line) → j < length (keys old.file_systems) → IsUnder (key j) (key place) ⊎ (is_in_quota (get_or (ledger_of new) j d) ≡ true))
        (fits : is_in_quota line ≡ true) (top : IsTop (keys old.file_systems) lines place line) where
      pub within_quotas : is_in_refquota first ≡ true → (charge : ℕ) → (place ≡ 0 → charge ≡ charge_in line) → (¬ (place ≡ 0) → charge ≡ charge_in (get_or lines 0 line))
          → IsWithinQuotas new charge
      within_quotas e charge own_charge other_charge = record {
        quotas = asked_all met place line on fits top asked;
        refquotas = refquota_asked met start lt is first way e;
        root = asked_root met place line on fits top charge own_charge other_charge;
      }

      pub over_refquota : is_in_refquota first ≡ false → IsOverQuota new RefQuota
      over_refquota e = inr (refl, asked_all met place line on fits top asked, refquota_broken start first way e)

    pub over_quota : (place : ℕ) (line : Line) → IsOnWay old name here referenced place line → is_in_quota line ≡ false → IsOverQuota new Quota
    over_quota place line way e = inl (refl, quota_broken place line way e)

-- ---- the row of limits

module _ (s : State) where
  -- else the pool's room is
  pub told_room : (space : Space) → IsSpaceOf s space → (charge : ℕ) → IsWithinQuotas s.now charge → (b : Bool) → b ≡ nat_le (charge + space.freeing + space.waiting) space.size
      → first_of (limit_row s) ≡ first_of ((not b, NoSpace) ∷ [])
  unfolding pool_holds
  told_room space of charge in' b e =
      ap (λ x. first_of ((not x, Quota) ∷ (not (refquotas_hold s.now), RefQuota) ∷ (not (pool_holds s), NoSpace) ∷ [])) in'.quotas
      ∙ ap (λ x. first_of ((not x, RefQuota) ∷ (not (pool_holds s), NoSpace) ∷ [])) in'.refquotas
      ∙ (λ i. first_of ((not (nat_le (sym in'.root i + sym of.freeing i + sym of.waiting i) (sym of.size i)), NoSpace) ∷ []))
      ∙ ap (λ x. first_of ((not x, NoSpace) ∷ [])) (sym e)
