-- What the records of the sixteen places below a key come to.
use Rattle.std.proofs.Common.{◌≡◌, ℕ, suc, ◌+◌, ◌-◌, ◌*◌, ◌/◌, ◌%◌, ◌^◌, ◌<◌, ◌≤◌, inl, inr, ⊎_elim, Bool, true, false, cond, List, [], ◌∷◌, ◌++◌, append-nil, append_assoc, Option, Some, None, refl, sym, ap, subst, ◌∙◌, arith, true≢false}
use Rattle.std.specs.Prelude.{IsSome, IfSome, is_some, ◌↔◌, nat_lt, nat_le, ◌==◌, ◌&&◌}
use Rattle.std.specs.Option.{option_map}
use Rattle.std.specs.FinMap.{get, get-retain_keys}
use Rattle.std.proofs.lemmas.Bool.{cases_lt, eqb-true, eq-eqb, leb-true, le-leb, ltb-true, lt-ltb, and_parts, and_from}
use Rattle.std.proofs.Math.Nat.{pow-suc}
use Rattle.base.specs.declared.number.Dead.{Dead}
use Rattle.base.specs.declared.number.Key.{Key}
use Rattle.base.specs.Key.{first_leaf, parent, is_at_or_below, key_cmp-IsAntisymmetric}
use Rattle.base.specs.Map.{Cell, Block, block_of}
use Rattle.base.specs.Surveys.{IsIn, dead_block}
use Rattle.node.proofs.Digits.{high_digits}
use Rattle.node.proofs.Options.{mapped}
use Rattle.stream.specs.declared.record.Record.{Record}
use Rattle.stream.specs.declared.record.Record.TheVariants.{Write, Free}
use Rattle.stream.specs.Records.{start_of, end_of}
use Rattle.tree.specs.Branch.{Branch, map_below, child_key, child_of, IsKeyBelow, AreOwnOrBelow}
use Rattle.laws.proofs.Sources.{itself_below}
use Rattle.laws.specs.Records.{leaf_key, IsSent, IsGap}
use Rattle.laws.proofs.RecordKeys.{power_positive, same_key}
use Rattle.laws.proofs.Sent.{some_there, not_there}
use Rattle.world.proofs.lists.Finding.{in_left, in_right, in_either}
use Rattle.world.proofs.lists.Maps.{same_value, no_value}
use Rattle.lookups.specs.Walk.{IsAt, IsYoung, IsOld, IsSentAt, AreRising, AreSent, AddsSent}
use Rattle.laws.proofs.Sent.{from_if as if_some}

-- a record that a send has of one of the places before n
pub record IsSentBefore (t : ℕ) (b : Branch) (n : ℕ) (r : Record) : Type 0 where
  pub place : ℕ
  pub small : place < n
  pub sent : IsSentAt t (child_key b.key place) (child_of b place) r

-- a list of records has those of the places before n after others
pub record AddsBefore (t : ℕ) (b : Branch) (n : ℕ) (old new : List Record) : Type 0 where
  pub sent : List Record
  pub is : new ≡ old ++ sent
  pub each : (r : Record) → IsIn sent r ↔ IsSentBefore t b n r
  pub rising : AreRising (first_leaf b.key) sent (first_leaf (child_key b.key n))

-- lists in order, one after the other
rising_from : (a b c : ℕ) (ys : List Record) → a ≤ b → AreRising b ys c → AreRising a ys c
rising_from a b c [] le h = omega arith
rising_from a b c (y ∷ ys) le h = (omega (arith, h.0), h.1)

rising_both : (a b c : ℕ) (xs ys : List Record) → AreRising a xs b → AreRising b ys c → AreRising a (xs ++ ys) c
rising_both a b c [] ys g h = rising_from a b c ys g h
rising_both a b c (x ∷ xs) ys g h = (g.0, rising_both (start_of x + 1) b c xs ys g.1 h)

-- the leaves of a key are those of the sixteen keys below it
place_start : (k : Key) (i : ℕ) → 0 < k.level → first_leaf (child_key k i) ≡ k.index * 16 ^ k.level + i * 16 ^ (k.level - 1)
place_start k i high =
    let deep : k.level ≡ suc (k.level - 1) = omega arith in
    let wide : 16 ^ k.level ≡ 16 ^ (k.level - 1) * 16 = ap (λ n. 16 ^ n) deep ∙ pow-suc 16 (k.level - 1) in
    let all : k.index * 16 ^ k.level ≡ k.index * (16 ^ (k.level - 1) * 16) = ap (λ n. k.index * n) wide in
    omega (arith, all)

places_end : (k : Key) → 0 < k.level → first_leaf (child_key k 16) ≡ end_of (Free k)
places_end k high =
    let deep : k.level ≡ suc (k.level - 1) = omega arith in
    let wide : 16 ^ k.level ≡ 16 ^ (k.level - 1) * 16 = ap (λ n. 16 ^ n) deep ∙ pow-suc 16 (k.level - 1) in
    let start = place_start k 16 high in
    omega (arith, start, wide)

if_none : {X : Type 0} (a b : Bool) (x : X) → a ≡ true → cond (a && b) (Some x) None ≡ None → b ≡ false
if_none true true x t e = absurd (no_value x (sym e))
if_none true false x t e = refl
if_none false b x t e = absurd (true≢false (sym t))

if_absent : {X : Type 0} (a : Bool) (o : Option Cell) (x : X) → o ≡ None → cond (a && is_some o) (Some x) None ≡ None
if_absent true o x e = ap (λ c. cond (is_some c) (Some x) None) e
if_absent false o x e = refl

no_cell : (o : Option Cell) → is_some o ≡ false → o ≡ None
no_cell None e = refl
no_cell (Some c) e = absurd (true≢false e)

some_if : {X : Type 0} (b : Bool) (o : Option X) → IsSome (cond b o None) → b ≡ true
some_if true o h = refl
some_if false o h = absurd (true≢false (sym h))

none_if : {X : Type 0} (b : Bool) (o : Option X) → o ≡ None → cond b o None ≡ None
none_if true o e = e
none_if false o e = refl

module _ (b : Branch) (i : ℕ) where
  absent_place : get b.map (child_key b.key i) ≡ None → child_of b i ≡ None
  absent_place e = if_absent (nat_lt 0 b.key.level) (get b.map (child_key b.key i)) _ e

  place_absent : 0 < b.key.level → child_of b i ≡ None → get b.map (child_key b.key i) ≡ None
  place_absent high e = no_cell _ (if_none (nat_lt 0 b.key.level) (is_some (get b.map (child_key b.key i))) _ (lt-ltb 0 b.key.level high) e)

  module _ (c : Branch) (e : child_of b i ≡ Some c) where
    place_parts : (0 < b.key.level) × IsSome (get b.map (child_key b.key i)) × (record { key = child_key b.key i; map = map_below b.map (child_key b.key i) } ≡ c)
    place_parts =
        let is = if_some (nat_lt 0 b.key.level && is_some (get b.map (child_key b.key i))) (record { key = child_key b.key i; map = map_below b.map (child_key b.key i) }) c e in
        let parts = and_parts (nat_lt 0 b.key.level) (is_some (get b.map (child_key b.key i))) is.0 in
        (ltb-true 0 b.key.level parts.0, parts.1, is.1)

    place_high : 0 < b.key.level
    place_high = place_parts.0

    place_key : c.key ≡ child_key b.key i
    place_key = sym (ap (λ (x : Branch). x.key) place_parts.2)

    -- its map is that of the keys at and below its key
    place_get : (q : Key) → get c.map q ≡ cond (is_at_or_below (child_key b.key i) q) (get b.map q) None
    unfolding map_below
    place_get q =
        ap (λ (x : Branch). get x.map q) (sym place_parts.2)
        ∙ get-retain_keys b.map (is_at_or_below (child_key b.key i)) q (λ x t. ap (is_at_or_below (child_key b.key i)) (sym (key_cmp-IsAntisymmetric q x t)))

    place_below : (q : Key) → IsSome (get c.map q) → is_at_or_below (child_key b.key i) q ≡ true
    place_below q h = some_if (is_at_or_below (child_key b.key i) q) (get b.map q) (subst (λ o. IsSome o) (place_get q) h)

    place_same : (q : Key) → is_at_or_below (child_key b.key i) q ≡ true → get c.map q ≡ get b.map q
    place_same q t = place_get q ∙ ap (λ x. cond x (get b.map q) None) t

    place_at : IsAt (child_key b.key i) c
    place_at = record {
      key = place_key;
      there = subst (λ o. IsSome o) (sym (place_same (child_key b.key i) (itself_below (child_key b.key i)))) place_parts.1;
    }

-- what stands at a place is a branch at its key
pub place_is : (b : Branch) (i : ℕ) (o : Option Branch) → child_of b i ≡ o → IfSome o (IsAt (child_key b.key i))
place_is b i None e = tt
place_is b i (Some c) e = place_at b i c e

-- below a key's parent is below
below_parent : (top k : Key) → is_at_or_below top (parent k) ≡ true → is_at_or_below top k ≡ true
below_parent top k t =
    let parts = and_parts (nat_le (k.level + 1) top.level) (k.index / 16 / 16 ^ (top.level - (k.level + 1)) == top.index) t in
    let low = leb-true (k.level + 1) top.level parts.0 in
    let deep : 1 + (top.level - (k.level + 1)) ≡ top.level - k.level = omega arith in
    and_from (nat_le k.level top.level) (k.index / 16 ^ (top.level - k.level) == top.index) (le-leb k.level top.level (omega arith))
    (eq-eqb _ _ (sym (high_digits k.index 1 (top.level - (k.level + 1)) (top.level - k.level) deep) ∙ eqb-true _ _ parts.1))

parent_child : (k : Key) (i : ℕ) → 0 < k.level → i < 16 → parent (child_key k i) ≡ k
parent_child k i high small = same_key (parent (child_key k i)) k (omega arith) (omega arith)

child_parent : (k p : Key) → parent k ≡ p → child_key p (k.index % 16) ≡ k
child_parent k p e =
    let level : k.level + 1 ≡ p.level = ap (λ (x : Key). x.level) e in
    let index : k.index / 16 ≡ p.index = ap (λ (x : Key). x.index) e in
    same_key (child_key p (k.index % 16)) k (omega arith) (omega arith)

module _ (t : ℕ) (b : Branch) where
  -- no record
  pub none_before : (old : List Record) → 0 < b.key.level → AddsBefore t b 0 old old
  none_before old high =
      let start = place_start b.key 0 high in
      record {
        sent = [];
        is = sym (append-nil old);
        each = λ r. ((λ i. absurd i), (λ s. absurd (omega (arith, s.small))));
        rising = omega (arith, start);
      }

  -- those of one more place
  pub one_more : (n : ℕ) (old mid new : List Record) → AddsBefore t b n old mid → (more : List Record) → new ≡ mid ++ more → AreSent t (child_key b.key n) (child_of b n) more → AddsBefore t b (n + 1) old new
  one_more n old mid new adds more e are =
      let next : 16 * b.key.index + n + 1 ≡ 16 * b.key.index + (n + 1) = omega arith in
      record {
        sent = adds.sent ++ more;
        is = e ∙ ap (λ xs. xs ++ more) adds.is ∙ append_assoc old adds.sent more;
        each = λ r. (
          (λ i. ⊎_elim
              (λ j. let s = (adds.each r).0 j in let small = s.small in record { place = s.place; small = omega (arith, small); sent = s.sent })
              (λ j. record { place = n; small = omega arith; sent = (are.each r).0 j })
              (in_either adds.sent more r i)),
          (λ s. let small = s.small in ⊎_elim
              (λ lt. in_left adds.sent more r ((adds.each r).1 (record { place = s.place; small = lt; sent = s.sent })))
              (λ ge. let last : s.place ≡ n = omega (arith, small, ge) in
              in_right adds.sent more r ((are.each r).1 (subst (λ p. IsSentAt t (child_key b.key p) (child_of b p) r) last s.sent)))
              (cases_lt s.place n)),
        );
        rising = rising_both _ _ _ adds.sent more adds.rising (subst (λ x. AreRising (first_leaf (child_key b.key n)) more (x * 16 ^ (b.key.level - 1))) next are.rising);
      }

  module _ (y : IsYoung t b) where
    -- what a send of the branch has is what it has of its places
    below_sent : 0 < b.key.level → (r : Record) → IsSent b.map t r → IsSentBefore t b 16 r
    below_sent high (Write leaf bytes) w = ⊎_elim
        (λ own. let level = ap (λ (x : Key). x.level) own in absurd (omega (arith, high, level)))
        (λ k. let e : get k.child.map (leaf_key leaf) ≡ Some w.cell = place_same b k.place k.child k.there (leaf_key leaf) (place_below b k.place k.child k.there (leaf_key leaf) k.has) ∙ w.there in
        record {
          place = k.place;
          small = k.small;
          sent = subst (λ o. IsSentAt t (child_key b.key k.place) o (Write leaf bytes)) (sym k.there) (record { cell = w.cell; there = e; young = w.young; bytes_are = w.bytes_are });
        })
        (y.keys (leaf_key leaf) (some_there (get b.map (leaf_key leaf)) w.cell w.there))
    below_sent high (Free k) (inl g) = ⊎_elim
        (λ own. let child = child_parent k b.key own in record {
          place = k.index % 16;
          small = omega arith;
          sent = subst (λ o. IsSentAt t (child_key b.key (k.index % 16)) o (Free k)) (sym (absent_place b (k.index % 16) (ap (get b.map) child ∙ g.absent))) (ap Free (sym child));
        })
        (λ p. let e : get p.child.map (parent k) ≡ Some g.above = place_same b p.place p.child p.there (parent k) (place_below b p.place p.child p.there (parent k) p.has) ∙ g.there in
        record {
          place = p.place;
          small = p.small;
          sent = subst (λ o. IsSentAt t (child_key b.key p.place) o (Free k)) (sym p.there)
              (inl (record { above = g.above; there = e; young = g.young; absent = place_get b p.place p.child p.there k ∙ none_if _ (get b.map k) g.absent }));
        })
        (y.keys (parent k) (some_there (get b.map (parent k)) g.above g.there))
    below_sent high (Free k) (inr a) = absurd (no_value y.cell (sym (a.nothing b.key) ∙ y.there))

    sent_below : 0 < b.key.level → (r : Record) → IsSentBefore t b 16 r → IsSent b.map t r
    sent_below high r s = at (child_of b s.place) refl s.sent
      where
        part : (c : Branch) → child_of b s.place ≡ Some c → (r : Record) → IsSent c.map t r → IsSent b.map t r
        part c e (Write leaf bytes) w =
            let under = place_below b s.place c e (leaf_key leaf) (some_there (get c.map (leaf_key leaf)) w.cell w.there) in
            record { cell = w.cell; there = sym (place_same b s.place c e (leaf_key leaf) under) ∙ w.there; young = w.young; bytes_are = w.bytes_are }
        part c e (Free k) (inl g) =
            let under = place_below b s.place c e (parent k) (some_there (get c.map (parent k)) g.above g.there) in
            inl (record {
              above = g.above;
              there = sym (place_same b s.place c e (parent k) under) ∙ g.there;
              young = g.young;
              absent = sym (place_same b s.place c e k (below_parent (child_key b.key s.place) k under)) ∙ g.absent;
            })
        part c e (Free k) (inr a) = absurd (not_there (get c.map (child_key b.key s.place)) (a.nothing (child_key b.key s.place)) (place_at b s.place c e).there)

        at : (o : Option Branch) → child_of b s.place ≡ o → IsSentAt t (child_key b.key s.place) o r → IsSent b.map t r
        at None e h =
            let small = s.small in
            let gap : IsGap b.map t (child_key b.key s.place) = record {
              above = y.cell;
              there = ap (get b.map) (parent_child b.key s.place high small) ∙ y.there;
              young = y.young;
              absent = place_absent b s.place high e;
            } in
            subst (λ x. IsSent b.map t x) (sym h) (inl gap)
        at (Some c) e h = part c e r h

    -- so the records of all places are the branch's
    pub all_places : (k : Key) (old new : List Record) → b.key ≡ k → 0 < k.level → AddsBefore t b 16 old new → AddsSent t k (Some b) old new
    all_places k old new e up adds =
        let level : b.key.level ≡ k.level = ap (λ (x : Key). x.level) e in
        let high : 0 < b.key.level = omega arith in
        record {
          sent = adds.sent;
          is = adds.is;
          are = record {
            each = λ r. ((λ i. sent_below high r ((adds.each r).0 i)), (λ s. (adds.each r).1 (below_sent high r s)));
            rising = subst (λ x. AreRising (first_leaf x) adds.sent (end_of (Free x))) e (subst (λ x. AreRising (first_leaf b.key) adds.sent x) (places_end b.key high) adds.rising);
          };
        }

    -- of a leaf it is one write
    pub one_write : (leaf : ℕ) → b.key ≡ leaf_key leaf → AreSent t (leaf_key leaf) (Some b) (Write leaf y.cell.bytes ∷ [])
    one_write leaf e =
        let level : b.key.level ≡ 0 = ap (λ (x : Key). x.level) e in
        let none : (q : Key) → IsKeyBelow b q → ⊥ = λ q k. (let high = place_high b k.place k.child k.there in omega (arith, high, level)) in
        let own : IsSent b.map t (Write leaf y.cell.bytes) = record { cell = y.cell; there = ap (get b.map) (sym e) ∙ y.there; young = y.young; bytes_are = refl } in
        record {
          each = λ r. ((λ i. ⊎_elim (λ is. subst (λ x. IsSent b.map t x) (sym is) own) (λ z. absurd z) i), (λ s. inl (is_it r s none)));
          rising = (omega arith, omega arith);
        }
      where
        is_it : (r : Record) → IsSent b.map t r → ((q : Key) → IsKeyBelow b q → ⊥) → r ≡ Write leaf y.cell.bytes
        is_it (Write l bytes) w none = ⊎_elim
            (λ own.
            let same : l ≡ leaf = ap (λ (x : Key). x.index) (own ∙ e) in
            let cells : w.cell ≡ y.cell = same_value w.cell y.cell (sym w.there ∙ ap (get b.map) own ∙ y.there) in
            (λ z. Write (same z) ((sym w.bytes_are ∙ ap (λ (c : Cell). c.bytes) cells) z)))
            (λ k. absurd (none (leaf_key l) k))
            (y.keys (leaf_key l) (some_there (get b.map (leaf_key l)) w.cell w.there))
        is_it (Free k) (inl g) none = ⊎_elim
            (λ own. let level : k.level + 1 ≡ 0 = ap (λ (x : Key). x.level) (own ∙ e) in absurd (omega arith))
            (λ p. absurd (none (parent k) p))
            (y.keys (parent k) (some_there (get b.map (parent k)) g.above g.there))
        is_it (Free k) (inr a) none = absurd (no_value y.cell (sym (a.nothing b.key) ∙ y.there))

  -- of what is old, nothing
  pub old_none : (k : Key) → IsAt k b → IsOld t b → AreSent t k (Some b) []
  old_none k at old = record {
    each = λ r. ((λ i. absurd i), (λ s. absurd (not r s)));
    rising = omega arith;
  }
    where
      age : (q : Key) (c : Cell) → get b.map q ≡ Some c → c.birth ≤ t
      age q c e = subst (λ o. IfSome o (λ x. x.birth ≤ t)) e (old q)

      not : (r : Record) → IsSent b.map t r → ⊥
      not (Write leaf bytes) w = let y = w.young in let a = age (leaf_key leaf) w.cell w.there in omega (arith, y, a)
      not (Free q) (inl g) = let y = g.young in let a = age (parent q) g.above g.there in omega (arith, y, a)
      not (Free q) (inr a) = not_there (get b.map k) (a.nothing k) at.there

-- a top whose block was born late
pub born_late : (t : ℕ) (b : Branch) (d : Dead) → option_map block_of (get b.map b.key) ≡ Some (dead_block d) → t < d.birth.0 → AreOwnOrBelow b → IsYoung t b
born_late t b d block young keys =
    let top = mapped block_of (get b.map b.key) (dead_block d) block in
    let birth : top.0.birth ≡ d.birth.0 = ap (λ (x : Block). x.birth) top.2 in
    record { cell = top.0; there = top.1; young = omega (arith, birth, young); keys = keys }

-- nothing of a top that was born early is younger
pub born_early : (t : ℕ) (b : Branch) (d : Dead) → d.birth.0 ≤ t → ((k : Key) → IfSome (get b.map k) (λ c. c.birth ≤ d.birth.0)) → IsOld t b
born_early t b d early youngest k = by (get b.map k) (youngest k)
  where
    by : (o : Option Cell) → IfSome o (λ c. c.birth ≤ d.birth.0) → IfSome o (λ c. c.birth ≤ t)
    by None h = tt
    by (Some c) h = omega (arith, h, early)

-- of what is absent, its free
pub one_free : (t : ℕ) (k : Key) → AreSent t k None (Free k ∷ [])
one_free t k =
    let positive = power_positive k.level in
    record {
      each = λ r. ((λ i. ⊎_elim (λ is. is) (λ z. absurd z) i), (λ is. inl is));
      rising = (omega arith, omega arith);
    }
