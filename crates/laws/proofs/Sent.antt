-- What the records of a send are, and that no two of them cover one leaf.
use Rattle.std.proofs.Common.{◌≡◌, ℕ, ◌+◌, ◌-◌, ◌*◌, ◌/◌, ◌^◌, ◌<◌, ◌≤◌, inl, inr, ⊎_elim, Bool, true, false, cond, ◌&&◌, List, [], ◌∷◌, ◌++◌, map, Option, Some, None, refl, sym, ap, subst, ◌∙◌, arith, true≢false}
use Rattle.std.specs.Prelude.{IsSome, is_some, not, ◌==◌, nat_lt}
use Rattle.std.specs.List.{filter, range_with_len}
use Rattle.std.specs.FinMap.{get, entries, get-empty, contains_key, len, len-empty, empty, empty_of_len, same_map}
use Rattle.std.proofs.lemmas.Bool.{eqb-true, eq-eqb, ltb-true, lt-ltb, and_parts, and_from}
use Rattle.base.specs.declared.number.Key.{Key}
use Rattle.base.specs.Key.{parent, key_cmp, key_cmp_total, key_cmp-IsAntisymmetric}
use Rattle.base.specs.Map.{Map, Cell, IsTree}
use Rattle.base.specs.Surveys.{IsIn}
use Rattle.world.specs.Usage.{IsEntry}
use Rattle.world.specs.Shapes.{key_order}
use Rattle.world.proofs.lists.Maps.{same_value, no_value, entry_of, at_entry}
use Rattle.world.proofs.lists.Finding.{in_left, in_right, in_either, from_filter, in_filter, from_flat, in_flat}
use Rattle.world.proofs.lists.Listed.{in_map, map_in}
use Rattle.stream.specs.declared.record.Record.{Record}
use Rattle.stream.specs.declared.record.Record.TheVariants.{Write, Free}
use Rattle.stream.specs.Records.{write_records, free_records, empty_records, children}
use Rattle.laws.specs.Records.{root_key, leaf_key, IsWritten, IsGap, IsSent, IsOver}
use Rattle.laws.proofs.RecordKeys.{over, over_leaf, covers_from, key_over, higher, next_over, same_key}
use Rattle.laws.proofs.Lists.{from_filter_map, in_filter_map, from_range, in_range}

-- an entry of a list by its key and value, as an element of the list
pub entry_in : {K X : Type 0} (es : List (K × X)) (k : K) (v : X) → IsEntry es k v → IsIn es (k, v)
entry_in [] k v h = absurd h
entry_in (e ∷ es) k v h = ⊎_elim (λ is. inl (λ i. (is.0 i, is.1 i))) (λ r. inr (entry_in es k v r)) h

pub in_entry : {K X : Type 0} (es : List (K × X)) (e : K × X) → IsIn es e → IsEntry es e.0 e.1
in_entry [] e h = absurd h
in_entry (f ∷ es) e h = ⊎_elim (λ is. inl (ap (λ x. x.0) is, ap (λ x. x.1) is)) (λ r. inr (in_entry es e r)) h

pub some_there : {X : Type 0} (o : Option X) (x : X) → o ≡ Some x → IsSome o
some_there o x e = subst (λ y. IsSome y) (sym e) refl

pub not_there : {X : Type 0} (o : Option X) → o ≡ None → IsSome o → ⊥
not_there o e h = true≢false (sym h ∙ ap is_some e)

not_some : {X : Type 0} (o : Option X) → not (is_some o) ≡ true → o ≡ None
not_some None e = refl
not_some (Some x) e = absurd (true≢false (sym e))

none_not : {X : Type 0} (o : Option X) → o ≡ None → not (is_some o) ≡ true
none_not None e = refl
none_not (Some x) e = absurd (no_value x (sym e))

pub from_if : {X : Type 0} (b : Bool) (x y : X) → cond b (Some x) None ≡ Some y → (b ≡ true) × (x ≡ y)
from_if true x y e = (refl, same_value x y e)
from_if false x y e = absurd (no_value y e)

in_if : {X : Type 0} (b : Bool) (xs : List X) (y : X) → IsIn (cond b xs []) y → (b ≡ true) × IsIn xs y
in_if true xs y i = (refl, i)
in_if false xs y i = absurd i

if_true : {X : Type 0} (b : Bool) (x y : X) → b ≡ true → cond b x y ≡ x
if_true true x y e = refl
if_true false x y e = absurd (true≢false (sym e))

-- the keys below one
child_parent : (p k : Key) → 0 < p.level → IsIn (children p) k → (parent k ≡ p) × (k.level < p.level)
child_parent p k low i =
    let q = in_map (λ (i : ℕ). record { level = p.level - 1; index = i }) (range_with_len (16 * p.index) 16) k i in
    let r = from_range (16 * p.index) 16 q.0 q.1 in
    let l : k.level ≡ p.level - 1 = ap (λ (x : Key). x.level) q.2 in
    let j : k.index ≡ q.0 = ap (λ (x : Key). x.index) q.2 in
    (same_key (parent k) p (omega arith) (omega arith), omega arith)

parent_child : (k : Key) → IsIn (children (parent k)) k
parent_child k =
    let l : k.level + 1 - 1 ≡ k.level = omega arith in
    subst (λ x. IsIn (children (parent k)) x) (same_key (record { level = k.level + 1 - 1; index = k.index }) k l refl)
    (map_in (λ (i : ℕ). record { level = k.level + 1 - 1; index = i }) (range_with_len (16 * (k.index / 16)) 16) k.index
    (in_range (16 * (k.index / 16)) 16 k.index (omega arith) (omega arith)))

module _ (m : Map) (t : ℕ) where
  unfoldable pub raw : List Record
  raw = write_records m t ++ free_records m t ++ empty_records m

  -- each record that is made is one of those that a send has
  pub made_sent : (r : Record) → IsIn raw r → IsSent m t r
  unfolding raw
  made_sent r i = ⊎_elim (λ j. ⊎_elim (λ w. from_write w) (λ f. from_free f) (in_either (write_records m t) (free_records m t) r j)) (λ e. from_empty e) (in_either (write_records m t ++ free_records m t) (empty_records m) r i)
    where
      from_write : IsIn (write_records m t) r → IsSent m t r
      from_write i =
          let q = from_filter_map _ (entries m) r i in
          let e = q.0 in
          let f = from_if ((e.0.level == 0) && nat_lt t e.1.birth) (Write e.0.index e.1.bytes) r q.2 in
          let b = and_parts (e.0.level == 0) (nat_lt t e.1.birth) f.0 in
          let is : e.0 ≡ leaf_key e.0.index = same_key e.0 (leaf_key e.0.index) (eqb-true e.0.level 0 b.0) refl in
          let there : get m e.0 ≡ Some e.1 = at_entry key_order m e.0 e.1 (in_entry (entries m) e q.1) in
          subst (λ x. IsSent m t x) f.1 (record { cell = e.1; there = subst (λ k. get m k ≡ Some e.1) is there; young = ltb-true t e.1.birth b.1; bytes_are = refl })

      from_free : IsIn (free_records m t) r → IsSent m t r
      from_free i =
          let q = from_flat _ (entries m) r i in
          let e = q.0 in
          let f = in_if (nat_lt 0 e.0.level && nat_lt t e.1.birth) (map Free (filter (λ k. not (contains_key m k)) (children e.0))) r q.2 in
          let b = and_parts (nat_lt 0 e.0.level) (nat_lt t e.1.birth) f.0 in
          let k = in_map Free (filter (λ k. not (contains_key m k)) (children e.0)) r f.1 in
          let c = from_filter (λ k. not (contains_key m k)) (children e.0) k.0 k.1 in
          let is = child_parent e.0 k.0 (ltb-true 0 e.0.level b.0) c.0 in
          let there : get m e.0 ≡ Some e.1 = at_entry key_order m e.0 e.1 (in_entry (entries m) e q.1) in
          let gap : IsGap m t k.0 = record { above = e.1; there = subst (λ x. get m x ≡ Some e.1) (sym is.0) there; young = ltb-true t e.1.birth b.1; absent = not_some (get m k.0) c.1 } in
          subst (λ x. IsSent m t x) (sym k.2) (inl gap)

      from_empty : IsIn (empty_records m) r → IsSent m t r
      from_empty i =
          let f = in_if (len m == 0) (Free root_key ∷ []) r i in
          let is : m ≡ empty = empty_of_len m (eqb-true (len m) 0 f.0) in
          ⊎_elim
          (λ e. subst (λ x. IsSent m t x) (sym e) (inr (record { nothing = λ q. ap (λ (x : Map). get x q) is ∙ get-empty key_cmp q; is = refl })))
          (λ z. absurd z)
          f.1

  -- and each of those is made
  pub sent_made : (r : Record) → IsSent m t r → IsIn raw r
  unfolding raw
  sent_made (Write leaf bytes) w =
      in_left (write_records m t ++ free_records m t) (empty_records m) (Write leaf bytes)
      (in_left (write_records m t) (free_records m t) (Write leaf bytes) (in_filter_map _ (entries m) (leaf_key leaf, w.cell) (Write leaf bytes) (entry_in (entries m) (leaf_key leaf) w.cell (entry_of key_order m (leaf_key leaf) w.cell w.there))
      (if_true (true && nat_lt t w.cell.birth) (Some (Write leaf w.cell.bytes)) None (lt-ltb t w.cell.birth w.young) ∙ ap (λ b. Some (Write leaf b)) w.bytes_are)))
  sent_made (Free k) h = ⊎_elim
      (λ g. in_left (write_records m t ++ free_records m t) (empty_records m) (Free k)
      (in_right (write_records m t) (free_records m t) (Free k) (in_flat _ (entries m) (parent k, g.above) (Free k) (entry_in (entries m) (parent k) g.above (entry_of key_order m (parent k) g.above g.there))
      (subst (λ xs. IsIn xs (Free k)) (sym (if_true (nat_lt 0 (k.level + 1) && nat_lt t g.above.birth) (map Free (filter (λ k. not (contains_key m k)) (children (parent k)))) [] (and_from _ _ (lt-ltb 0 (k.level + 1) (omega arith)) (lt-ltb t g.above.birth g.young))))
      (map_in Free (filter (λ k. not (contains_key m k)) (children (parent k))) k (in_filter (λ k. not (contains_key m k)) (children (parent k)) k (parent_child k) (none_not (get m k) g.absent)))))))
      (λ a. in_right (write_records m t ++ free_records m t) (empty_records m) (Free k)
      (let is : m ≡ empty = same_map key_cmp_total key_cmp-IsAntisymmetric m empty (λ q. a.nothing q ∙ sym (get-empty key_cmp q)) in
      let zero_long : len m ≡ 0 = ap len is ∙ len-empty key_cmp Cell in
      subst (λ xs. IsIn xs (Free k)) (sym (if_true (len m == 0) (Free root_key ∷ []) [] (eq-eqb (len m) 0 zero_long))) (inl (ap Free a.is))))
      h

module _ (n : ℕ) (m : Map) (t : ℕ) (tree : IsTree n m) where
  -- an absent key over a leaf, that a record frees, has no present one below it
  gap_high : (k : Key) (x l : ℕ) → IsGap m t k → x / 16 ^ k.level ≡ k.index → l ≤ k.level → k.level ≤ 5 → IsSome (get m (over x l)) → ⊥
  gap_high k x l g at le top there = not_there (get m k) g.absent (subst (λ q. IsSome (get m q)) (key_over k x at) (higher n m tree x l k.level le top there))

  gap_key : (k : Key) → IsGap m t k → k.level < 5
  gap_key k g = let h = (tree.keys (parent k) (some_there (get m (parent k)) g.above g.there)).level in omega arith

  free_at : (k : Key) (x : ℕ) → IsOver (Free k) x → x / 16 ^ k.level ≡ k.index
  free_at k x o = covers_from k x o.from o.upto

  two_gaps : (k l : Key) (x : ℕ) → IsGap m t k → IsGap m t l → x / 16 ^ k.level ≡ k.index → x / 16 ^ l.level ≡ l.index → k.level < l.level → ⊥
  two_gaps k l x g h a b less =
      let top = gap_key l h in
      let above : IsSome (get m (over x (k.level + 1))) =
      subst (λ q. IsSome (get m q)) (ap parent (sym (key_over k x a)) ∙ next_over x k.level) (some_there (get m (parent k)) g.above g.there) in
      gap_high l x (k.level + 1) h b (omega arith) (omega arith) above

  write_gap : (leaf : ℕ) (bytes : List ℕ) (k : Key) (x : ℕ) → IsWritten m t leaf bytes → IsGap m t k → IsOver (Write leaf bytes) x → IsOver (Free k) x → ⊥
  write_gap leaf bytes k x w g o p =
      let is : leaf ≡ x = omega (arith, o.from, o.upto) in
      let there : IsSome (get m (over x 0)) = subst (λ q. IsSome (get m q)) (ap leaf_key is ∙ sym (over_leaf x)) (some_there (get m (leaf_key leaf)) w.cell w.there) in
      let top = gap_key k g in
      gap_high k x 0 g (free_at k x p) (omega arith) (omega arith) there

  -- two records of a send that cover one leaf are one
  pub one_record : (r s : Record) (x : ℕ) → IsSent m t r → IsSent m t s → IsOver r x → IsOver s x → r ≡ s
  one_record (Write a as1) (Write b bs) x v w o p =
      let is : a ≡ b = omega (arith, o.from, o.upto, p.from, p.upto) in
      let cells : v.cell ≡ w.cell = same_value v.cell w.cell (sym v.there ∙ ap (λ l. get m (leaf_key l)) is ∙ w.there) in
      let bytes : as1 ≡ bs = sym v.bytes_are ∙ ap (λ (c : Cell). c.bytes) cells ∙ w.bytes_are in
      λ i. Write (is i) (bytes i)
  one_record (Write a bs) (Free k) x v w o p = absurd (⊎_elim (λ g. write_gap a bs k x v g o p) (λ e. no_value v.cell (sym (e.nothing (leaf_key a)) ∙ v.there)) w)
  one_record (Free k) (Write a bs) x v w o p = absurd (⊎_elim (λ g. write_gap a bs k x w g p o) (λ e. no_value w.cell (sym (e.nothing (leaf_key a)) ∙ w.there)) v)
  one_record (Free k) (Free l) x v w o p = ⊎_elim
      (λ g. ⊎_elim
      (λ h. ap Free (gaps g h))
      (λ e. absurd (no_value g.above (sym (e.nothing (parent k)) ∙ g.there)))
      w)
      (λ e. ⊎_elim
      (λ h. absurd (no_value h.above (sym (e.nothing (parent l)) ∙ h.there)))
      (λ f. ap Free (e.is ∙ sym f.is))
      w)
      v
    where
      gaps : IsGap m t k → IsGap m t l → k ≡ l
      gaps g h =
          let a = free_at k x o in
          let b = free_at l x p in
          let up : k.level < l.level → ⊥ = two_gaps k l x g h a b in
          let down : l.level < k.level → ⊥ = two_gaps l k x h g b a in
          let level : k.level ≡ l.level = omega (arith, up, down) in
          same_key k l level (sym a ∙ ap (λ j. x / 16 ^ j) level ∙ b)
