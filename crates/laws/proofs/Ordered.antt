-- The records of a send are all there, and stand in order without overlapping: they are a stream.
use Rattle.std.proofs.Common.{◌≡◌, ℕ, suc, ◌+◌, ◌-◌, ◌*◌, ◌/◌, ◌^◌, ◌<◌, ◌≤◌, inl, inr, ⊎_elim, Bool, true, false, ◌&&◌, List, [], ◌∷◌, map, length, Option, Some, None, refl, sym, ap, subst, ◌∙◌, arith, T, is_lt}
use Rattle.std.specs.Prelude.{IfSome}
use Rattle.std.specs.List.{All}
use Rattle.std.specs.Ordering.{nat_cmp}
use Rattle.std.specs.Cmp.{nat_cmp_total}
use Rattle.std.proofs.lemmas.Cmp.{ranked}
use Rattle.std.proofs.Math.Nat.{pow-suc}
use Rattle.std.specs.declared.cmp.Ordering.{Ordering}
use Rattle.std.specs.declared.cmp.Ordering.TheVariants.{Less, Equal, Greater}
use Rattle.std.specs.FinMap.{FinMap, get, entries, entries_sorted, get-from_entries, from_entries, values, is_sorted}
use Rattle.std.specs.FinMap.Entries.{below_all}
use Rattle.base.specs.Key.{IsKey, parent}
use Rattle.base.specs.Map.{Map, Cell, IsTree, HasBytes}
use Rattle.base.specs.Surveys.{IsIn}
use Rattle.world.specs.Shapes.{view_order}
use Rattle.world.proofs.lists.Maps.{same_value, no_value, entry_of, at_entry}
use Rattle.world.proofs.lists.Listed.{in_map, map_in}
use Rattle.stream.specs.declared.record.Record.{Record}
use Rattle.stream.specs.declared.record.Record.TheVariants.{Write, Free}
use Rattle.stream.specs.Records.{start_of, end_of, records_since}
use Rattle.stream.specs.Spelling.{IsRecord, AreApartFrom}
use Rattle.laws.specs.Records.{leaf_key, IsSent, IsOver}
use Rattle.laws.specs.Laws.{SendsAreStreams}
use Rattle.laws.proofs.RecordKeys.{power_positive}
use Rattle.laws.proofs.Lists.{all_of, from_found, is_found}
use Rattle.laws.proofs.Sent.{raw, made_sent, sent_made, one_record, entry_in, in_entry, some_there}

-- a record covers the first of its leaves
over_start : (r : Record) → IsOver r (start_of r)
over_start (Write leaf bytes) = record { from = omega arith; upto = omega arith }
over_start (Free k) = let p = power_positive k.level in record { from = omega arith; upto = omega arith }

module _ (n : ℕ) (m : Map) (t : ℕ) (tree : IsTree n m) where
  table : FinMap nat_cmp Record
  table = from_entries {R = nat_cmp} (map (λ r. (start_of r, r)) (raw m t))

  as_values : records_since m t ≡ values table
  unfolding records_since raw table
  as_values = refl

  in_table : (q : ℕ) (r : Record) → get table q ≡ Some r → IsSent m t r × (q ≡ start_of r)
  unfolding table
  in_table q r e =
      let found = sym (get-from_entries nat_cmp_total (map (λ r. (start_of r, r)) (raw m t)) q) ∙ e in
      let i = in_map (λ (r : Record). (start_of r, r)) (raw m t) (q, r) (from_found _ q r found) in
      let is : r ≡ i.0 = ap (λ x. x.1) i.2 in
      let at : q ≡ start_of i.0 = ap (λ x. x.0) i.2 in
      (made_sent m t r (subst (λ x. IsIn (raw m t) x) (sym is) i.1), at ∙ ap start_of (sym is))

  -- each record of the list is one that a send has
  pub listed_sent : (r : Record) → IsIn (records_since m t) r → IsSent m t r
  listed_sent r i =
      let j = in_map (λ (e : ℕ × Record). e.1) (entries table) r (subst (λ xs. IsIn xs r) as_values i) in
      let e = j.0 in
      let there = at_entry view_order table e.0 e.1 (in_entry (entries table) e j.1) in
      subst (λ x. IsSent m t x) (sym j.2) (in_table e.0 e.1 there).0

  -- and each of those is in the list
  pub sent_listed : (r : Record) → IsSent m t r → IsIn (records_since m t) r
  unfolding table
  sent_listed r h =
      let q = start_of r in
      let f = is_found (map (λ r. (start_of r, r)) (raw m t)) q r (map_in (λ (r : Record). (start_of r, r)) (raw m t) r (sent_made m t r h)) in
      let there : get table q ≡ Some f.0 = get-from_entries nat_cmp_total _ q ∙ f.1 in
      let s = in_table q f.0 there in
      let covers_too : IsOver f.0 q = subst (λ x. IsOver f.0 x) (sym s.1) (over_start f.0) in
      let is : r ≡ f.0 = one_record n m t tree r f.0 q h s.0 (over_start r) covers_too in
      subst (λ xs. IsIn xs r) (sym as_values)
      (subst (λ x. IsIn (values table) x) (sym is) (map_in (λ (e : ℕ × Record). e.1) (entries table) (q, f.0) (entry_in (entries table) q f.0 (entry_of view_order table q f.0 there))))

  -- a record ends before a later one starts
  before : (r s : Record) → IsSent m t r → IsSent m t s → start_of r < start_of s → end_of r ≤ start_of s
  before r s h g less =
      let out : start_of s < end_of r → ⊥ = λ inside.
      let is = one_record n m t tree r s (start_of s) h g (record { from = omega (arith, less); upto = inside }) (over_start s) in
      let same = ap start_of is in
      omega (arith, same, less) in
      omega (arith, out)

  less_of : (a b : ℕ) → T (is_lt (nat_cmp a b)) → a < b
  less_of a b h = at (nat_cmp a b) refl h
    where
      at : (r : Ordering) → r ≡ nat_cmp a b → T (is_lt r) → a < b
      at Less e h = ranked a b Less e
      at Equal e h = absurd h
      at Greater e h = absurd h

  apart_sorted : (from : ℕ) (es : List (ℕ × Record)) → ((e : ℕ × Record) → IsIn es e → IsSent m t e.1 × (e.0 ≡ start_of e.1)) → ((e : ℕ × Record) → IsIn es e → from ≤ start_of e.1) → T (is_sorted nat_cmp es)
      → AreApartFrom from (map (λ e. e.1) es)
  apart_sorted from [] each low h = tt
  apart_sorted from (e ∷ es) each low h = (low e (inl refl), apart_sorted (end_of e.1) es (λ f i. each f (inr i)) (λ f i. past f i (below_in e.0 es (T_left _ _ h) f i)) (T_right _ _ h))
    where
      T_left : (a b : Bool) → T (a && b) → T a
      T_left true b h = tt
      T_left false b h = absurd h

      T_right : (a b : Bool) → T (a && b) → T b
      T_right true b h = h
      T_right false b h = absurd h

      below_in : (x : ℕ) (es : List (ℕ × Record)) → T (below_all nat_cmp x es) → (f : ℕ × Record) → IsIn es f → x < f.0
      below_in x [] h f i = absurd i
      below_in x (y ∷ ys) h f i = ⊎_elim (λ is. subst (λ z. x < z.0) (sym is) (less_of x y.0 (T_left _ _ h))) (λ r. below_in x ys (T_right _ _ h) f r) i

      past : (f : ℕ × Record) → IsIn es f → e.0 < f.0 → end_of e.1 ≤ start_of f.1
      past f i less =
          let a = each e (inl refl) in
          let b = each f (inr i) in
          before e.1 f.1 a.0 b.0 (subst (λ x. x < start_of f.1) a.1 (subst (λ x. e.0 < x) b.1 less))

  -- the records stand in order, and no two cover one leaf
  pub records_apart : AreApartFrom 0 (records_since m t)
  records_apart = subst (λ xs. AreApartFrom 0 xs) (sym as_values) (apart_sorted 0 (entries table)
      (λ e i. in_table e.0 e.1 (at_entry view_order table e.0 e.1 (in_entry (entries table) e i)))
      (λ e i. omega arith)
      (entries_sorted table))

  sent_record : (r : Record) → IsSent m t r → IsRecord r
  sent_record (Write leaf bytes) w =
      let there = some_there (get m (leaf_key leaf)) w.cell w.there in
      let key = tree.keys (leaf_key leaf) there in
      let cell = cell_at (get m (leaf_key leaf)) w.there (tree.cells (leaf_key leaf)) in
      let b = cell.1.0 refl in
      (key.index, ap length (sym w.bytes_are) ∙ b.0, subst (λ x. All (λ b. b < 256) x) w.bytes_are b.1)
    where
      cell_at : (o : Option Cell) → o ≡ Some w.cell → IfSome o (λ c. (c.number < n) × HasBytes (leaf_key leaf) c) → (w.cell.number < n) × HasBytes (leaf_key leaf) w.cell
      cell_at None e h = absurd (no_value w.cell e)
      cell_at (Some c) e h = subst (λ c. (c.number < n) × HasBytes (leaf_key leaf) c) (same_value c w.cell e) h
  sent_record (Free k) h = ⊎_elim
      (λ g.
      let up = tree.keys (parent k) (some_there (get m (parent k)) g.above g.there) in
      below up.level up.index)
      (λ a. subst (λ q. IsKey q) (sym a.is) (record { level = omega arith; index = omega arith }))
      h
    where
      below : k.level + 1 ≤ 5 → k.index / 16 < 16 ^ (5 - (k.level + 1)) → IsKey k
      below l i =
          let e : 5 - k.level ≡ suc (5 - (k.level + 1)) = omega arith in
          let p : 16 ^ (5 - k.level) ≡ 16 ^ (5 - (k.level + 1)) * 16 = ap (λ x. 16 ^ x) e ∙ pow-suc 16 (5 - (k.level + 1)) in
          record { level = omega arith; index = omega (arith, p, i) }

  pub records_are : All IsRecord (records_since m t)
  records_are = all_of IsRecord (records_since m t) (λ r i. sent_record r (listed_sent r i))

-- what a send spells is a stream, and says what was sent
pub sends_are_streams : SendsAreStreams
sends_are_streams n t source target m tree guids =
    record { rules = record { guids = guids; each = records_are n m t tree; apart = records_apart n m t tree }; spelled = refl }
