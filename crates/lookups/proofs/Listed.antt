-- The list of all records of a map, in order, is what a send of it has.
use Rattle.std.proofs.Common.{◌≡◌, ℕ, ◌+◌, ◌<◌, inl, inr, List, [], ◌∷◌, map, Option, Some, None, refl, sym, ap, subst, ◌∙◌, arith, T, is_lt, ◌&&◌, Bool, true, false}
use Rattle.std.specs.Prelude.{◌↔◌, IfSome, IfNone}
use Rattle.std.specs.Ordering.{nat_cmp}
use Rattle.std.specs.Cmp.{nat_cmp_total, nat_cmp_is}
use Rattle.std.specs.declared.cmp.Ordering.TheVariants.{Less}
use Rattle.std.specs.FinMap as finmap
use Rattle.std.specs.FinMap.{FinMap, get, entries, values, from_entries, from_sorted, entries-from_sorted, get-from_entries, get-empty, find, is_sorted, same_map, nat_cmp-IsAntisymmetric}
use Rattle.std.specs.FinMap.Entries.{below_all}
use Rattle.base.specs.Key.{key_cmp, first_leaf, parent}
use Rattle.base.specs.Map.{Map}
use Rattle.base.specs.Surveys.{IsIn}
use Rattle.world.specs.Shapes.{view_order}
use Rattle.world.proofs.lists.Maps.{no_value, entry_of, at_entry}
use Rattle.world.proofs.lists.Listed.{in_map, map_in}
use Rattle.stream.specs.declared.record.Record.{Record}
use Rattle.stream.specs.declared.record.Record.TheVariants.{Write, Free}
use Rattle.stream.specs.Records.{start_of, end_of, records_since}
use Rattle.tree.specs.Branch.{Branch}
use Rattle.laws.specs.Records.{root_key, leaf_key, IsSent}
use Rattle.laws.proofs.Lists.{from_found, is_found}
use Rattle.laws.proofs.Sent.{raw, made_sent, sent_made, entry_in, in_entry}
use Rattle.lookups.specs.Walk.{IsSentAt, AreRising, AddsSent}

-- records by their first leaves
abbrev rows : List Record → List (ℕ × Record)
rows rs = map (λ r. (start_of r, r)) rs

both : (a b : Bool) → T a → T b → T (a && b)
both true b p q = q
both false b p q = p

less : (a b : ℕ) → a < b → T (is_lt (nat_cmp a b))
less a b h = subst (λ r. T (is_lt r)) (nat_cmp_is a b Less h) tt

above_all : (x from upto : ℕ) (rs : List Record) → x < from → AreRising from rs upto → T (below_all nat_cmp x (rows rs))
above_all x from upto [] h rise = tt
above_all x from upto (r ∷ rs) h rise =
    let low = rise.0 in
    both _ _ (less x (start_of r) (omega (arith, low))) (above_all x (start_of r + 1) upto rs (omega (arith, low)) rise.1)

rising_sorted : (from upto : ℕ) (rs : List Record) → AreRising from rs upto → T (is_sorted nat_cmp (rows rs))
rising_sorted from upto [] rise = tt
rising_sorted from upto (r ∷ rs) rise = both _ _ (above_all (start_of r) (start_of r + 1) upto rs (omega arith) rise.1) (rising_sorted (start_of r + 1) upto rs rise.1)

seconds : (rs : List Record) → map (λ (e : ℕ × Record). e.1) (rows rs) ≡ rs
seconds [] = refl
seconds (r ∷ rs) = ap (λ xs. r ∷ xs) (seconds rs)

module _ (m : Map) (t : ℕ) (rs : List Record) (sorted : T (is_sorted nat_cmp (rows rs))) (each : (r : Record) → IsIn rs r ↔ IsSent m t r) where
  listed : entries (from_sorted {R = nat_cmp} (rows rs)) ≡ rows rs
  listed = entries-from_sorted nat_cmp (rows rs) sorted

  -- what is found among the records that are made stands in the list
  found_there : (q : ℕ) (r : Record) → find nat_cmp q (rows (raw m t)) ≡ Some r → get (from_sorted {R = nat_cmp} (rows rs)) q ≡ Some r
  found_there q r e =
      let i = in_map (λ (r : Record). (start_of r, r)) (raw m t) (q, r) (from_found (rows (raw m t)) q r e) in
      let is : r ≡ i.0 = ap (λ x. x.1) i.2 in
      let there = (each i.0).1 (made_sent m t i.0 i.1) in
      let row = subst (λ x. IsIn (rows rs) x) (sym i.2) (map_in (λ (r : Record). (start_of r, r)) rs i.0 there) in
      at_entry view_order (from_sorted (rows rs)) q r (in_entry (entries (from_sorted {R = nat_cmp} (rows rs))) (q, r) (subst (λ xs. IsIn xs (q, r)) (sym listed) row))

  -- and what is not found there does not
  not_found : (q : ℕ) (r : Record) → find nat_cmp q (rows (raw m t)) ≡ None → get (from_sorted {R = nat_cmp} (rows rs)) q ≡ Some r → ⊥
  not_found q r e there =
      let row = subst (λ xs. IsIn xs (q, r)) listed (entry_in (entries (from_sorted {R = nat_cmp} (rows rs))) q r (entry_of view_order (from_sorted (rows rs)) q r there)) in
      let i = in_map (λ (r : Record). (start_of r, r)) rs (q, r) row in
      let made = sent_made m t i.0 ((each i.0).0 i.1) in
      let found = is_found (rows (raw m t)) q r (subst (λ x. IsIn (rows (raw m t)) x) (sym i.2) (map_in (λ (r : Record). (start_of r, r)) (raw m t) i.0 made)) in
      no_value found.0 (sym e ∙ found.1)

  same_at : (q : ℕ) → get (from_entries {R = nat_cmp} (rows (raw m t))) q ≡ get (from_sorted {R = nat_cmp} (rows rs)) q
  same_at q = get-from_entries nat_cmp_total (rows (raw m t)) q ∙ by (find nat_cmp q (rows (raw m t))) (get (from_sorted {R = nat_cmp} (rows rs)) q) refl refl
    where
      by : (o p : Option Record) → find nat_cmp q (rows (raw m t)) ≡ o → get (from_sorted {R = nat_cmp} (rows rs)) q ≡ p → o ≡ p
      by (Some r) p e f = sym (found_there q r e) ∙ f
      by None None e f = refl
      by None (Some r) e f = absurd (not_found q r e f)

  all_listed : rs ≡ records_since m t
  unfolding records_since raw
  all_listed =
      sym (ap (λ (f : FinMap nat_cmp Record). values f) (same_map nat_cmp_total nat_cmp-IsAntisymmetric _ _ same_at) ∙ ap (map (λ (e : ℕ × Record). e.1)) listed ∙ seconds rs)

-- an empty map has the free of everything
nothing_sent : (t : ℕ) (r : Record) → (r ≡ Free root_key) ↔ IsSent finmap.empty t r
nothing_sent t r = (λ is. subst (λ x. IsSent finmap.empty t x) (sym is) (inr (record { nothing = λ q. get-empty key_cmp q; is = refl })), by r)
  where
    by : (r : Record) → IsSent finmap.empty t r → r ≡ Free root_key
    by (Write leaf bytes) w = absurd (no_value w.cell (sym (get-empty key_cmp (leaf_key leaf)) ∙ w.there))
    by (Free k) (inl g) = absurd (no_value g.above (sym (get-empty key_cmp (parent k)) ∙ g.there))
    by (Free k) (inr a) = ap Free a.is

-- all of a map: the branch at the root's key, or nothing
whole_sent : (m : Map) (t : ℕ) (top : Option Branch) → IfSome top (λ b. b.map ≡ m) → IfNone top (m ≡ finmap.empty) → (r : Record) → IsSentAt t root_key top r ↔ IsSent m t r
whole_sent m t None is none r = subst (λ x. (r ≡ Free root_key) ↔ IsSent x t r) (sym none) (nothing_sent t r)
whole_sent m t (Some b) is none r = (subst (λ x. IsSent x t r) is, subst (λ x. IsSent x t r) (sym is))

pub all_sent : (m : Map) (t : ℕ) (top : Option Branch) (rs : List Record) → IfSome top (λ b. b.map ≡ m) → IfNone top (m ≡ finmap.empty) → AddsSent t root_key top [] rs → rs ≡ records_since m t
all_sent m t top rs is none adds =
    adds.is
    ∙ all_listed m t adds.sent (rising_sorted (first_leaf root_key) (end_of (Free root_key)) adds.sent adds.are.rising)
    (λ r. ((λ i. (whole_sent m t top is none r).0 ((adds.are.each r).0 i)), (λ s. (adds.are.each r).1 ((whole_sent m t top is none r).1 s))))
