-- What the records do to contents, and that they carry one map's contents to the other's.
use Rattle.std.proofs.Common.{◌≡◌, ℕ, zero, suc, ◌+◌, ◌-◌, ◌/◌, ◌^◌, ◌<◌, ◌≤◌, inl, inr, ⊎_elim, ◌⊎◌, Bool, true, false, cond, ◌||◌, List, [], ◌∷◌, Option, Some, None, refl, sym, ap, subst, ◌∙◌, arith, true≢false}
use Rattle.std.specs.Prelude.{IsSome, IsTrue, is_some, not, nat_lt, ◌==◌, nat_le}
use Rattle.std.specs.Option.{option_map}
use Rattle.std.specs.Cmp.{nat_cmp_total}
use Rattle.std.specs.FinMap.{get, get-from_entries, same_map, nat_cmp-IsAntisymmetric}
use Rattle.std.specs.FinMap as finmap
use Rattle.std.proofs.lemmas.Bool.{eqb-true, eq-eqb, ltb-true, ltb-false, or_cases, or_right, le-leb, and_from, false_from_ne_true}
use Rattle.base.specs.declared.number.Key.{Key}
use Rattle.base.specs.Key.{covers, parent, is_at_or_below}
use Rattle.base.specs.Map.{Map, Cell, contents, IsTree}
use Rattle.base.specs.Surveys.{IsIn}
use Rattle.base.proofs.Contents.{get-contents}
use Rattle.world.proofs.changes.Drawn.{none_tree}
use Rattle.world.proofs.lists.Maps.{same_value, no_value}
use Rattle.stream.specs.declared.record.Record.{Record}
use Rattle.stream.specs.declared.record.Record.TheVariants.{Write, Free}
use Rattle.stream.specs.Records.{records_since, written_leaves, is_freed, changes_of, apply_records}
use Rattle.laws.proofs.Sources.{itself_below}
use Rattle.laws.specs.Records.{root_key, leaf_key, IsWritten, IsGap, IsAll, SharesUntil, AreBorn}
use Rattle.laws.specs.Laws.{SendsDifference, FullSends}
use Rattle.laws.proofs.RecordKeys.{over, over_leaf, over_root, key_over, higher, root_there, next_over, leaf_small}
use Rattle.laws.proofs.Lists.{from_found, is_found}
use Rattle.laws.proofs.Changed.{get-changed, no_contents}
use Rattle.laws.proofs.Sent.{some_there, not_there}
use Rattle.laws.proofs.Ordered.{listed_sent, sent_listed}

written_in : (rs : List Record) (x : ℕ) (b : List ℕ) → IsIn (written_leaves rs) (x, b) → IsIn rs (Write x b)
written_in [] x b i = absurd i
written_in (Write leaf bytes ∷ rs) x b i = ⊎_elim (λ is. inl (λ j. Write (is j).0 (is j).1)) (λ r. inr (written_in rs x b r)) i
written_in (Free k ∷ rs) x b i = inr (written_in rs x b i)

in_written : (rs : List Record) (x : ℕ) (b : List ℕ) → IsIn rs (Write x b) → IsIn (written_leaves rs) (x, b)
in_written [] x b i = absurd i
in_written (Write leaf bytes ∷ rs) x b i = ⊎_elim (λ is. let e : x ≡ leaf = cc in let f : b ≡ bytes = cc in inl (λ j. (e j, f j))) (λ r. inr (in_written rs x b r)) i
in_written (Free k ∷ rs) x b i = ⊎_elim (λ is. cc) (λ r. in_written rs x b r) i

freed_in : (rs : List Record) (x : ℕ) → is_freed rs x ≡ true → (k : Key) × IsIn rs (Free k) × (covers k x ≡ true)
freed_in [] x e = absurd (true≢false (sym e))
freed_in (Write leaf bytes ∷ rs) x e = let q = freed_in rs x e in (q.0, inr q.1, q.2)
freed_in (Free k ∷ rs) x e = ⊎_elim (λ h. (k, inl refl, h)) (λ r. let q = freed_in rs x r in (q.0, inr q.1, q.2)) (or_cases (covers k x) (is_freed rs x) e)

in_freed : (rs : List Record) (x : ℕ) (k : Key) → IsIn rs (Free k) → covers k x ≡ true → is_freed rs x ≡ true
in_freed [] x k i e = absurd i
in_freed (Write leaf bytes ∷ rs) x k i e = ⊎_elim (λ is. cc) (λ r. in_freed rs x k r e) i
in_freed (Free l ∷ rs) x k i e = ⊎_elim
    (λ is. let f : k ≡ l = cc in ap (λ b. b || is_freed rs x) (ap (λ q. covers q x) (sym f) ∙ e))
    (λ r. or_right (covers l x) (is_freed rs x) (in_freed rs x k r e)) i

pub none_from : {X : Type 0} (o : Option X) → ((x : X) → o ≡ Some x → ⊥) → o ≡ None
none_from None h = refl
none_from (Some x) h = absurd (h x refl)

below_over : (x l : ℕ) → IsTrue (is_at_or_below (over x l) (leaf_key x))
below_over x l = and_from (nat_le 0 l) (x / 16 ^ (l - 0) == x / 16 ^ l) (le-leb 0 l (omega arith))
    (let e : l - 0 ≡ l = omega arith in eq-eqb (x / 16 ^ (l - 0)) (x / 16 ^ l) (ap (λ j. x / 16 ^ j) e))

module _ (n m g : ℕ) (s t : Map) (source : IsTree n s) (tree : IsTree m t) (shares : SharesUntil g s t) where
  write_of : (x : ℕ) (b : List ℕ) → get (changes_of (records_since t g)).writes x ≡ Some b → IsWritten t g x b
  write_of x b e =
      let found = sym (get-from_entries nat_cmp_total (written_leaves (records_since t g)) x) ∙ e in
      listed_sent m t g tree (Write x b) (written_in (records_since t g) x b (from_found _ x b found))

  of_write : (x : ℕ) (b : List ℕ) → IsWritten t g x b → get (changes_of (records_since t g)).writes x ≡ Some b
  of_write x b w =
      let i = in_written (records_since t g) x b (sent_listed m t g tree (Write x b) w) in
      let f = is_found (written_leaves (records_since t g)) x b i in
      let there = get-from_entries nat_cmp_total (written_leaves (records_since t g)) x ∙ f.1 in
      let v = write_of x f.0 there in
      let cells : v.cell ≡ w.cell = same_value v.cell w.cell (sym v.there ∙ w.there) in
      there ∙ ap Some (sym v.bytes_are ∙ ap (λ (c : Cell). c.bytes) cells ∙ w.bytes_are)

  -- no record frees a present leaf
  kept : (x : ℕ) (c : Cell) → get t (leaf_key x) ≡ Some c → is_freed (records_since t g) x ≡ false
  kept x c there = false_from_ne_true _ (λ e.
      let q = freed_in (records_since t g) x e in
      let k = q.0 in
      let at = eqb-true (x / 16 ^ k.level) k.index q.2 in
      ⊎_elim
      (λ (gap : IsGap t g k).
      let top = (tree.keys (parent k) (some_there (get t (parent k)) gap.above gap.there)).level in
      let leaf : IsSome (get t (over x 0)) = subst (λ l. IsSome (get t l)) (sym (over_leaf x)) (some_there (get t (leaf_key x)) c there) in
      let up = higher m t tree x 0 k.level (omega arith) (omega arith) leaf in
      not_there (get t k) gap.absent (subst (λ l. IsSome (get t l)) (key_over k x at) up))
      (λ (a : IsAll t k). no_value c (sym (a.nothing (leaf_key x)) ∙ there))
      (listed_sent m t g tree (Free k) q.1))

  covers_over : (x l : ℕ) → covers (over x l) x ≡ true
  covers_over x l = eq-eqb (x / 16 ^ l) (x / 16 ^ l) refl

  -- an absent leaf is freed, or was absent before
  gone : (d x l : ℕ) → l + d ≡ 5 → x < 16 ^ 5 → get t (over x l) ≡ None → (is_freed (records_since t g) x ≡ true) ⊎ (get s (leaf_key x) ≡ get t (leaf_key x))
  gone zero x l e small absent =
      let five : l ≡ 5 = omega arith in
      let root : get t root_key ≡ None = ap (get t) (sym (over_root x small)) ∙ ap (λ i. get t (over x i)) (sym five) ∙ absent in
      let all : IsAll t root_key = record { nothing = λ q. none_from (get t q) (λ c there. not_there (get t root_key) root (root_there m t tree q (some_there (get t q) c there))); is = refl } in
      inl (in_freed (records_since t g) x root_key (sent_listed m t g tree (Free root_key) (inr all)) (ap (λ k. covers k x) (sym (over_root x small)) ∙ covers_over x 5))
  gone (suc d) x l e small absent = above (get t (over x (l + 1))) refl (gone d x (l + 1) (omega arith) small)
    where
      above : (o : Option Cell) → get t (over x (l + 1)) ≡ o
          → (get t (over x (l + 1)) ≡ None → (is_freed (records_since t g) x ≡ true) ⊎ (get s (leaf_key x) ≡ get t (leaf_key x)))
          → (is_freed (records_since t g) x ≡ true) ⊎ (get s (leaf_key x) ≡ get t (leaf_key x))
      above None there rest = rest there
      above (Some p) there rest = by_age (nat_lt g p.birth) refl
        where
          by_age : (b : Bool) → nat_lt g p.birth ≡ b → (is_freed (records_since t g) x ≡ true) ⊎ (get s (leaf_key x) ≡ get t (leaf_key x))
          by_age true young =
              let gap : IsGap t g (over x l) = record { above = p; there = ap (get t) (next_over x l) ∙ there; young = ltb-true g p.birth young; absent = absent } in
              inl (in_freed (records_since t g) x (over x l) (sent_listed m t g tree (Free (over x l)) (inl gap)) (covers_over x l))
          by_age false old = inr (shares (over x (l + 1)) (leaf_key x) p there (ltb-false g p.birth old) (below_over x (l + 1)))

  was : (x : ℕ) → get s (leaf_key x) ≡ get t (leaf_key x) → get (contents s) x ≡ get (contents t) x
  was x e = get-contents s x ∙ ap (option_map (λ (c : Cell). c.bytes)) e ∙ sym (get-contents t x)

  result : (o : Option (List ℕ)) (b : Bool) (x : ℕ) → get (changes_of (records_since t g)).writes x ≡ o → is_freed (records_since t g) x ≡ b
      → get (apply_records (records_since t g) (contents s)) x ≡ cond (is_some o) o (cond (not b) (get (contents s) x) None)
  result o b x e f = get-changed (contents s) (changes_of (records_since t g)) x ∙ (λ i. cond (is_some (e i)) (e i) (cond (not (f i)) (get (contents s) x) None))

  no_write : (x : ℕ) → ((b : List ℕ) → IsWritten t g x b → ⊥) → get (changes_of (records_since t g)).writes x ≡ None
  no_write x h = none_from _ (λ b e. h b (write_of x b e))

  at_leaf : (x : ℕ) → get (apply_records (records_since t g) (contents s)) x ≡ get (contents t) x
  at_leaf x = by_cell (get t (leaf_key x)) refl
    where
      present : (c : Cell) → get t (leaf_key x) ≡ Some c → (b : Bool) → nat_lt g c.birth ≡ b → get (apply_records (records_since t g) (contents s)) x ≡ get (contents t) x
      present c there true young =
          let w : IsWritten t g x c.bytes = record { cell = c; there = there; young = ltb-true g c.birth young; bytes_are = refl } in
          result (Some c.bytes) false x (of_write x c.bytes w) (kept x c there) ∙ sym (get-contents t x ∙ ap (option_map (λ (c : Cell). c.bytes)) there)
      present c there false old =
          let low : c.birth ≤ g = ltb-false g c.birth old in
          let none = no_write x (λ b w. let same : w.cell ≡ c = same_value w.cell c (sym w.there ∙ there) in let y = w.young in let e = ap (λ (c : Cell). c.birth) same in omega (arith, low, y, e)) in
          result None false x none (kept x c there) ∙ was x (shares (leaf_key x) (leaf_key x) c there low (itself_below (leaf_key x)))

      absent : get t (leaf_key x) ≡ None → get (apply_records (records_since t g) (contents s)) x ≡ get (contents t) x
      absent there =
          let none = no_write x (λ b w. no_value w.cell (sym there ∙ w.there)) in
          let nothing : get (contents t) x ≡ None = get-contents t x ∙ ap (option_map (λ (c : Cell). c.bytes)) there in
          ⊎_elim
          (λ (same : get s (leaf_key x) ≡ get t (leaf_key x)). let is = was x same in by_free (is_freed (records_since t g) x) refl none nothing is)
          (λ (freed : is_freed (records_since t g) x ≡ true). result None true x none freed ∙ sym nothing)
          (cases there)
        where
          by_free : (b : Bool) → is_freed (records_since t g) x ≡ b → get (changes_of (records_since t g)).writes x ≡ None → get (contents t) x ≡ None → get (contents s) x ≡ get (contents t) x
              → get (apply_records (records_since t g) (contents s)) x ≡ get (contents t) x
          by_free true f none nothing is = result None true x none f ∙ sym nothing
          by_free false f none nothing is = result None false x none f ∙ is

          cases : get t (leaf_key x) ≡ None → (get s (leaf_key x) ≡ get t (leaf_key x)) ⊎ (is_freed (records_since t g) x ≡ true)
          cases there = from_range (nat_lt x (16 ^ 5)) refl
            where
              from_range : (b : Bool) → nat_lt x (16 ^ 5) ≡ b → (get s (leaf_key x) ≡ get t (leaf_key x)) ⊎ (is_freed (records_since t g) x ≡ true)
              from_range true small = ⊎_elim (λ f. inr f) (λ e. inl e) (gone 5 x 0 refl (ltb-true x (16 ^ 5) small) (ap (get t) (over_leaf x) ∙ there))
              from_range false large =
                  let high = ltb-false x (16 ^ 5) large in
                  inl (none_from (get s (leaf_key x)) (λ c e. let l = leaf_small n s source x (some_there (get s (leaf_key x)) c e) in omega (arith, high, l)) ∙ sym there)

      by_cell : (o : Option Cell) → get t (leaf_key x) ≡ o → get (apply_records (records_since t g) (contents s)) x ≡ get (contents t) x
      by_cell (Some c) there = present c there (nat_lt g c.birth) refl
      by_cell None there = absent there

  pub difference : apply_records (records_since t g) (contents s) ≡ contents t
  difference = same_map nat_cmp_total nat_cmp-IsAntisymmetric _ _ at_leaf

pub sends_difference : SendsDifference
sends_difference n m g s t a b shares = difference n m g s t a b shares

-- a map that has nothing shares with every map what was born by group 0
pub nothing_shared : (t : Map) → AreBorn t → SharesUntil 0 finmap.empty t
nothing_shared t born k below c there low at = let y = born k c there in absurd (omega (arith, low, y))

pub full_sends : FullSends
full_sends n t tree born = ap (apply_records (records_since t 0)) (sym no_contents) ∙ difference n n 0 finmap.empty t (none_tree n) tree (nothing_shared t born)
