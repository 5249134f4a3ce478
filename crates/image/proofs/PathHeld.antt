-- Where an image has the blocks of a map, and the writes of a change of one path are done, it has those of the new map.
use Rattle.std.proofs.Common.{◌≡◌, ℕ, zero, suc, ◌+◌, ◌-◌, ◌*◌, ◌/◌, ◌%◌, ◌^◌, ◌<◌, ◌≤◌, inl, ⊎_elim, Bool, true, false, cond, List, [], ◌∷◌, length, map, set, get_or, replicate, Option, Some, None, refl, sym, ap, subst, ◌∙◌, arith, true≢false}
use Rattle.std.specs.Prelude.{◌==◌, ◌&&◌, IsSome}
use Rattle.std.specs.List.{flat_map, range_with_len}
use Rattle.std.specs.Option.{option_map}
use Rattle.std.specs.FinMap.{get}
use Rattle.std.proofs.lemmas.Bool.{eqb-true, eq-eqb, cases_lt, and_parts, false_from_ne_true}
use Rattle.std.proofs.lemmas.List.{map-append, same_lists, length-set, get_or-set_other, get_or-replicate, set-get_or}
use Rattle.std.proofs.lemmas.Grind.{get_or-set_at}
use Rattle.std.proofs.Math.Nat.{div-div-eq-div-mul, pow-suc, mod-lt}
use Rattle.base.specs.declared.number.Key.{Key}
use Rattle.base.specs.Key.{covers, parent}
use Rattle.base.specs.Map.{Map, Cell, Block, IsTree, block_of}
use Rattle.base.specs.Surveys.{IsIn, AreDifferent}
use Rattle.node.specs.Unique.{IsUnique}
use Rattle.node.proofs.Digits.{eq_not}
use Rattle.node.proofs.Options.{if_some, mapped, not_some}
use Rattle.batch.proofs.NumberLaws.{in_append, in_left, in_right, different_append}
use Rattle.batch.proofs.Listing.{from_map}
use Rattle.tree.specs.Branch.{child_key}
use Rattle.tree.specs.Reading.{key_over}
use Rattle.tree.proofs.Told.{at_range, range_long}
use Rattle.image.specs.ImageBlocks.{pointer_bytes, pointers_bytes, pointers_of, bytes_of}
use Rattle.image.specs.HasBlocks.{HasBlocks}
use Rattle.image.specs.BlockWrites.{bytes_put, blocks_put}
use Rattle.image.specs.PathWrites.{is_same_block, inner_writes, leaf_writes, level_writes, path_writes, IsPathChange}
use Rattle.image.proofs.AfterChange.{same_bytes}
use Rattle.image.proofs.LeafPaths.{same_key, from_above}
use Rattle.image.proofs.Options.{is_there}
use Rattle.image.proofs.Patches.{pointer_put}
use Rattle.image.proofs.Unwritten.{unwritten, written_there}

-- the elements of lists that stand one behind the other
in_flat : {A : Type 0} (f : ℕ → List A) (k a l : ℕ) (x : A) → a ≤ l → l < a + k → IsIn (f l) x → IsIn (flat_map f (range_with_len a k)) x
in_flat f zero a l x low high i = absurd (omega arith)
in_flat f (suc k) a l x low high i = ⊎_elim
    (λ (lt : a < l). in_right (f a) (flat_map f (range_with_len (a + 1) k)) x (in_flat f k (a + 1) l x (omega arith) (omega arith) i))
    (λ (le : l ≤ a). let same : l ≡ a = omega arith in in_left (f a) (flat_map f (range_with_len (a + 1) k)) x (subst (λ n. IsIn (f n) x) same i))
    (cases_lt a l)

pub from_flat : {A : Type 0} (f : ℕ → List A) (k a : ℕ) (x : A) → IsIn (flat_map f (range_with_len a k)) x → (l : ℕ) × (a ≤ l) × (l < a + k) × IsIn (f l) x
from_flat f zero a x i = absurd i
from_flat f (suc k) a x i = ⊎_elim
    (λ here. (a, omega arith, omega arith, here))
    (λ later. let r = from_flat f k (a + 1) x later in let low = r.1 in let high = r.2 in (r.0, omega arith, omega arith, r.3))
    (in_append (f a) (flat_map f (range_with_len (a + 1) k)) x i)

different_flat : (f : ℕ → List (ℕ × List ℕ)) (k a : ℕ) → ((l : ℕ) → a ≤ l → l < a + k → AreDifferent (map (λ (w : ℕ × List ℕ). w.0) (f l)))
    → ((l m : ℕ) (v w : ℕ × List ℕ) → a ≤ l → l < a + k → a ≤ m → m < a + k → IsIn (f l) v → IsIn (f m) w → v.0 ≡ w.0 → l ≡ m)
    → AreDifferent (map (λ (w : ℕ × List ℕ). w.0) (flat_map f (range_with_len a k)))
different_flat f zero a each apart = tt
different_flat f (suc k) a each apart =
    let first : ℕ × List ℕ → ℕ = λ w. w.0 in
    subst AreDifferent (sym (map-append (λ (w : ℕ × List ℕ). w.0) (f a) (flat_map f (range_with_len (a + 1) k))))
    (different_append (map (λ (w : ℕ × List ℕ). w.0) (f a)) (map (λ (w : ℕ × List ℕ). w.0) (flat_map f (range_with_len (a + 1) k)))
    (each a (omega arith) (omega arith))
    (different_flat f k (a + 1) (λ l low high. each l (omega arith) (omega arith)) (λ l m v w p q r s. apart l m v w (omega arith) (omega arith) (omega arith) (omega arith)))
    (λ n i j.
    let v = from_map (λ (w : ℕ × List ℕ). w.0) (f a) n i in
    let w = from_map (λ (w : ℕ × List ℕ). w.0) (flat_map f (range_with_len (a + 1) k)) n j in
    let m = from_flat f k (a + 1) w.0 w.1 in
    let low = m.1 in
    let high = m.2 in
    let same = apart a m.0 v.0 w.0 (omega arith) (omega arith) (omega arith) (omega arith) v.1 m.3 (v.2 ∙ sym w.2) in
    absurd (omega (arith, same, low))))

-- what is written at a level, if anything, is at the number that the block has there
inner_number : (image : ℕ → List ℕ) (l i : ℕ) (b a c d : Option Block) (w : ℕ × List ℕ) → IsIn (inner_writes image l i b a c d) w → (n : Block) × (a ≡ Some n) × (w.0 ≡ n.number)
inner_number image l i b None c d w h = absurd h
inner_number image l i None (Some n) c d w h = ⊎_elim (λ (e : w ≡ (n.number, pointers_bytes l (set (replicate 16 None) i d))). (n, refl, ap (λ (w : ℕ × List ℕ). w.0) e)) (λ none. absurd none) h
inner_number image l i (Some o) (Some n) c d w h = at ((o.number == n.number) && is_same_block c d) h
  where
    at : (t : Bool) → IsIn (cond t [] ((n.number, bytes_put (image o.number) (32 * i) (pointer_bytes l d)) ∷ [])) w → (m : Block) × (Some n ≡ Some m) × (w.0 ≡ m.number)
    at true h = absurd h
    at false h = ⊎_elim (λ (e : w ≡ (n.number, bytes_put (image o.number) (32 * i) (pointer_bytes l d))). (n, refl, ap (λ (w : ℕ × List ℕ). w.0) e)) (λ none. absurd none) h

leaf_number : (a : Option Block) (bytes : List ℕ) (w : ℕ × List ℕ) → IsIn (leaf_writes a bytes) w → (n : Block) × (a ≡ Some n) × (w.0 ≡ n.number)
leaf_number None bytes w h = absurd h
leaf_number (Some n) bytes w h = ⊎_elim (λ (e : w ≡ (n.number, bytes)). (n, refl, ap (λ (w : ℕ × List ℕ). w.0) e)) (λ none. absurd none) h

inner_once : (image : ℕ → List ℕ) (l i : ℕ) (b a c d : Option Block) → AreDifferent (map (λ (w : ℕ × List ℕ). w.0) (inner_writes image l i b a c d))
inner_once image l i b None c d = tt
inner_once image l i None (Some n) c d = (λ h. h, tt)
inner_once image l i (Some o) (Some n) c d = at ((o.number == n.number) && is_same_block c d)
  where
    at : (t : Bool) → AreDifferent (map (λ (w : ℕ × List ℕ). w.0) (cond t [] ((n.number, bytes_put (image o.number) (32 * i) (pointer_bytes l d)) ∷ [])))
    at true = tt
    at false = (λ h. h, tt)

leaf_once : (a : Option Block) (bytes : List ℕ) → AreDifferent (map (λ (w : ℕ × List ℕ). w.0) (leaf_writes a bytes))
leaf_once None bytes = tt
leaf_once (Some n) bytes = (λ h. h, tt)

module _ (image : ℕ → List ℕ) (leaf : ℕ) (before after : ℕ → Option Block) (bytes : List ℕ) where
  pub level_number : (l : ℕ) (w : ℕ × List ℕ) → IsIn (level_writes image leaf before after bytes l) w → (n : Block) × (after l ≡ Some n) × (w.0 ≡ n.number)
  level_number zero w i = leaf_number (after 0) bytes w i
  level_number (suc l) w i = inner_number image l ((leaf / 16 ^ l) % 16) (before (suc l)) (after (suc l)) (before l) (after l) w i

  level_once : (l : ℕ) → AreDifferent (map (λ (w : ℕ × List ℕ). w.0) (level_writes image leaf before after bytes l))
  level_once zero = leaf_once (after 0) bytes
  level_once (suc l) = inner_once image l ((leaf / 16 ^ l) % 16) (before (suc l)) (after (suc l)) (before l) (after l)

-- two places that are the same block
same_blocks : (c d : Option Block) → is_same_block c d ≡ true → c ≡ d
same_blocks None None e = refl
same_blocks (Some a) (Some b) e =
    let parts = and_parts (a.number == b.number) (a.birth == b.birth) e in
    let number = eqb-true a.number b.number parts.0 in
    let birth = eqb-true a.birth b.birth parts.1 in
    λ i. Some (record { number = number i; birth = birth i })
same_blocks None (Some b) e = absurd (true≢false (sym e))
same_blocks (Some a) None e = absurd (true≢false (sym e))

not_one : (o : Option Cell) (n : Block) → option_map block_of o ≡ Some n → (x : Cell) × (o ≡ Some x) × (x.number ≡ n.number)
not_one o n e = let m = mapped block_of o n e in (m.0, m.1, ap (λ (b : Block). b.number) m.2)

-- the pointers of a key, where one of its children changed
pointers_set : (old new : Map) (k : Key) (i : ℕ) (d : Option Block) → i < 16 → option_map block_of (get new (child_key k i)) ≡ d
    → ((j : ℕ) → j < 16 → (j ≡ i → ⊥) → get new (child_key k j) ≡ get old (child_key k j)) → set (pointers_of old k) i d ≡ pointers_of new k
unfolding pointers_of
pointers_set old new k i d small here others =
    let f : ℕ → Option Block = λ j. option_map block_of (get old (child_key k j)) in
    let g : ℕ → Option Block = λ j. option_map block_of (get new (child_key k j)) in
    same_lists (set (map f (range_with_len 0 16)) i d) (map g (range_with_len 0 16))
    (length-set (map f (range_with_len 0 16)) i d ∙ range_long f 16 0 ∙ sym (range_long g 16 0))
    (λ j e within.
    let low : j < 16 = omega (arith, within, length-set (map f (range_with_len 0 16)) i d, range_long f 16 0) in
    let index : 0 + j ≡ j = omega arith in
    let long : i < length (map f (range_with_len 0 16)) = omega (arith, small, range_long f 16 0) in
    let other = λ (ne : j ≡ i → ⊥). get_or-set_other (map f (range_with_len 0 16)) i j d e ne ∙ at_range f e 16 0 j low ∙ ap f index ∙ ap (option_map block_of) (sym (others j low ne)) ∙ sym (at_range g e 16 0 j low ∙ ap g index) in
    ⊎_elim (λ (lt : j < i). other (λ e. omega arith)) (λ (ge : i ≤ j). ⊎_elim
    (λ (gt : i < j). other (λ e. omega arith))
    (λ (le : j ≤ i). let same : j ≡ i = omega arith in get_or-set_at (map f (range_with_len 0 16)) i j d e same long ∙ sym (at_range g e 16 0 j low ∙ ap g index ∙ ap g same ∙ here))
    (cases_lt i j)) (cases_lt j i))

-- the pointers of a key without a child
no_children : (old : Map) (k : Key) → ((i : ℕ) → i < 16 → get old (child_key k i) ≡ None) → pointers_of old k ≡ replicate 16 None
unfolding pointers_of
no_children old k none =
    let f : ℕ → Option Block = λ j. option_map block_of (get old (child_key k j)) in
    same_lists (map f (range_with_len 0 16)) (replicate 16 None) (range_long f 16 0) (λ j e within.
    let low : j < 16 = omega (arith, within, range_long f 16 0) in
    let index : 0 + j ≡ j = omega arith in
    at_range f e 16 0 j low ∙ ap f index ∙ ap (option_map block_of) (none j low) ∙ sym (get_or-replicate 16 j None e low))

sixteen : (m : Map) (k : Key) → length (pointers_of m k) ≡ 16
unfolding pointers_of
sixteen m k = range_long (λ i. option_map block_of (get m (child_key k i))) 16 0

none_without : (o : Option Cell) → (IsSome o → ⊥) → o ≡ None
none_without None h = refl
none_without (Some x) h = absurd (h refl)

module _ (n : ℕ) (image : ℕ → List ℕ) (old new : Map) (leaf : ℕ) (before after : ℕ → Option Block) (bytes : List ℕ)
    (old_tree : IsTree n old) (new_tree : IsTree n new) (unique : IsUnique new) (change : IsPathChange old new leaf before after bytes) (holds : HasBlocks image old) where
  abbrev f : ℕ → List (ℕ × List ℕ)
  f = level_writes image leaf before after bytes

  abbrev ws : List (ℕ × List ℕ)
  ws = path_writes image leaf before after bytes 6

  -- what is written at a level is at the number of the new map's block there
  number_of_level : (l : ℕ) (w : ℕ × List ℕ) → l ≤ 5 → IsIn (f l) w → (x : Cell) × (get new (key_over leaf l) ≡ Some x) × (x.number ≡ w.0)
  number_of_level l w low i =
      let n = level_number image leaf before after bytes l w i in
      let x = not_one (get new (key_over leaf l)) n.0 (sym (change.after_is l low) ∙ n.1) in
      (x.0, x.1, x.2 ∙ sym n.2)

  once : AreDifferent (map (λ (w : ℕ × List ℕ). w.0) ws)
  once = different_flat f 6 0 (λ l low high. level_once image leaf before after bytes l) (λ l m v w a b c d i j same.
      let x = number_of_level l v (omega arith) i in
      let y = number_of_level m w (omega arith) j in
      ap (λ (k : Key). k.level) (unique.one (key_over leaf l) (key_over leaf m) x.0 y.0 x.1 y.1 (x.2 ∙ same ∙ sym y.2)))

  -- a number that is written is one of the path's
  by_level : (k : Key) (c : Cell) (w : ℕ × List ℕ) → get new k ≡ Some c → IsIn ws w → w.0 ≡ c.number → (l : ℕ) × (l ≤ 5) × (k ≡ key_over leaf l) × IsIn (f l) w
  by_level k c w there i same =
      let l = from_flat f 6 0 w i in
      let high = l.2 in
      let low : l.0 ≤ 5 = omega (arith, high) in
      let x = number_of_level l.0 w low l.3 in
      (l.0, low, unique.one k (key_over leaf l.0) c x.0 there x.1 (sym same ∙ sym x.2), l.3)

  written : (l : ℕ) (c : Cell) (bs : List ℕ) → l ≤ 5 → IsIn (f l) (c.number, bs) → blocks_put image ws c.number ≡ bs
  written l c bs low i = written_there image ws c.number bs once (in_flat f 6 0 l (c.number, bs) (omega arith) (omega arith) i)

  -- a key that isn't on the path
  off_path : (k : Key) (c : Cell) → covers k leaf ≡ false → get new k ≡ Some c → blocks_put image ws c.number ≡ bytes_of new k c
  off_path k c off there =
      let here = is_there (get new k) c there in
      let was : get old k ≡ Some c = sym (change.rest k off (new_tree.parents k here)) ∙ there in
      unwritten image ws c.number (λ w i same.
      let l = by_level k c w there i same in
      true≢false (sym (eq-eqb _ _ (ap (λ (j : Key). leaf / 16 ^ j.level) l.2 ∙ sym (ap (λ (j : Key). j.index) l.2))) ∙ off))
      ∙ holds k c was
      ∙ same_bytes old new k c (λ high i small. change.rest (child_key k i) (child_off k i high small off)
      (λ deep. subst (λ q. IsSome (get new q)) (sym (above_child k i high small)) here))
    where
      above_child : (k : Key) (i : ℕ) → 0 < k.level → i < 16 → parent (child_key k i) ≡ k
      above_child k i high small = same_key (parent (child_key k i)) k (omega (arith, high)) (omega (arith, small))

      child_off : (k : Key) (i : ℕ) → 0 < k.level → i < 16 → covers k leaf ≡ false → covers (child_key k i) leaf ≡ false
      child_off k i high small off = false_from_ne_true (covers (child_key k i) leaf) (λ e.
          let at : leaf / 16 ^ (k.level - 1) ≡ 16 * k.index + i = eqb-true _ _ e in
          let up : suc (k.level - 1) ≡ k.level = omega arith in
          let power : 16 ^ k.level ≡ 16 ^ (k.level - 1) * 16 = ap (λ n. 16 ^ n) (sym up) ∙ pow-suc 16 (k.level - 1) in
          let over : leaf / 16 ^ k.level ≡ k.index = ap (λ n. leaf / n) power ∙ sym (div-div-eq-div-mul leaf (16 ^ (k.level - 1)) 16) ∙ omega (arith, at, small) in
          true≢false (sym (eq-eqb _ _ over) ∙ off))

  -- the children of a key of the path: one is on it, and the others aren't
  module _ (l : ℕ) (low : suc l ≤ 5) where
    abbrev place : ℕ
    place = (leaf / 16 ^ l) % 16

    abbrev key : Key
    key = key_over leaf (suc l)

    small : place < 16
    small = let p : 0 < 16 = omega arith in mod-lt (leaf / 16 ^ l) p

    index : leaf / 16 ^ l ≡ 16 * (leaf / 16 ^ suc l) + place
    index = from_above leaf l (leaf / 16 ^ suc l) refl

    on : child_key key place ≡ key_over leaf l
    on = same_key (child_key (key_over leaf (suc l)) place) (key_over leaf l) (let e : suc l - 1 ≡ l = omega arith in e) (sym index)

    off : (j : ℕ) → j < 16 → (j ≡ place → ⊥) → covers (child_key key j) leaf ≡ false
    off j within ne = false_from_ne_true (covers (child_key (key_over leaf (suc l)) j) leaf) (λ e.
        let level : suc l - 1 ≡ l = omega arith in
        let at : leaf / 16 ^ l ≡ 16 * (leaf / 16 ^ suc l) + j = ap (λ n. leaf / 16 ^ n) (sym level) ∙ eqb-true _ _ e in
        ne (omega (arith, at, index)))

    here : option_map block_of (get new (child_key key place)) ≡ after l
    here = ap (λ k. option_map block_of (get new k)) on ∙ sym (change.after_is l (omega (arith, low)))

    above : (j : ℕ) → j < 16 → parent (child_key key j) ≡ key
    above j within = same_key (parent (child_key key j)) key (let e : suc l - 1 + 1 ≡ suc l = omega arith in e) (omega (arith, within))

    module _ (stays : IsSome (get new key)) where
      others : (j : ℕ) → j < 16 → (j ≡ place → ⊥) → get new (child_key key j) ≡ get old (child_key key j)
      others j within ne = change.rest (child_key key j) (off j within ne) (λ deep. subst (λ q. IsSome (get new q)) (sym (above j within)) stays)

      pointers : set (pointers_of old key) place (after l) ≡ pointers_of new key
      pointers = pointers_set old new key place (after l) small here others

    -- the bytes of a block of the path
    inner : (m : Map) (c : Cell) → pointers_bytes l (pointers_of m key) ≡ bytes_of m key c
    unfolding bytes_of
    inner m c =
        let above : (suc l == 0) ≡ false = eq_not (suc l) 0 (λ e. omega arith) in
        let level : suc l - 1 ≡ l = omega arith in
        ap (λ d. pointers_bytes d (pointers_of m (key_over leaf (suc l)))) (sym level)
        ∙ ap (λ b. cond b c.bytes (pointers_bytes (suc l - 1) (pointers_of m (key_over leaf (suc l))))) (sym above)

    patched : IsSome (get new key) → (x : Cell) → get old key ≡ Some x → bytes_put (image x.number) (32 * place) (pointer_bytes l (after l)) ≡ pointers_bytes l (pointers_of new key)
    patched stays x was =
        ap (λ bs. bytes_put bs (32 * place) (pointer_bytes l (after l))) (holds key x was ∙ sym (inner old x))
        ∙ pointer_put l place (pointers_of old key) (after l) (omega (arith, small, sixteen old key)) ∙ ap (pointers_bytes l) (pointers stays)

    there_was : get_or (pointers_of old key) place None ≡ before l
    unfolding pointers_of
    there_was =
        let f : ℕ → Option Block = λ j. option_map block_of (get old (child_key key j)) in
        let first : 0 + place ≡ place = omega arith in
        at_range f None 16 0 place small ∙ ap f first ∙ ap (λ k. option_map block_of (get old k)) on ∙ sym (change.before_is l (omega (arith, low)))

    pointers_same : before l ≡ after l → set (pointers_of old key) place (after l) ≡ pointers_of old key
    pointers_same child = ap (set (pointers_of old key) place) (sym child ∙ sym there_was) ∙ set-get_or (pointers_of old key) place None

    absent : (i : ℕ) → i < 16 → get old key ≡ None → get old (child_key key i) ≡ None
    absent i within e =
        none_without (get old (child_key key i)) (λ h.
        not_some (get old (parent (child_key key i))) (ap (get old) (above i within) ∙ e) (old_tree.parents (child_key key i) h (omega (arith, low))))

    on_inner : (c : Cell) → get new key ≡ Some c → blocks_put image ws c.number ≡ bytes_of new key c
    on_inner c there = by (get old key) refl
      where
        stays : IsSome (get new key)
        stays = is_there (get new key) c there

        was : (o : Option Cell) → get old key ≡ o → before (suc l) ≡ option_map block_of o
        was o e = change.before_is (suc l) low ∙ ap (option_map block_of) e

        is : after (suc l) ≡ Some (block_of c)
        is = change.after_is (suc l) low ∙ ap (option_map block_of) there

        these : (o : Option Cell) → get old key ≡ o → f (suc l) ≡ inner_writes image l place (option_map block_of o) (Some (block_of c)) (before l) (after l)
        these o e = λ i. inner_writes image l place (was o e i) (is i) (before l) (after l)

        by : (o : Option Cell) → get old key ≡ o → blocks_put image ws c.number ≡ bytes_of new key c
        by None e =
            let none : pointers_of old key ≡ replicate 16 None = no_children old key (λ i within. absent i within e) in
            written (suc l) c (pointers_bytes l (set (replicate 16 None) place (after l))) low (subst (λ xs. IsIn xs (c.number, pointers_bytes l (set (replicate 16 None) place (after l)))) (sym (these None e)) (inl refl))
            ∙ ap (λ ps. pointers_bytes l (set ps place (after l))) (sym none) ∙ ap (pointers_bytes l) (pointers stays) ∙ inner new c
        by (Some x) e = stay ((x.number == c.number) && is_same_block (before l) (after l)) refl
          where
            stay : (t : Bool) → ((x.number == c.number) && is_same_block (before l) (after l)) ≡ t → blocks_put image ws c.number ≡ bytes_of new key c
            stay true t =
                let parts = and_parts (x.number == c.number) (is_same_block (before l) (after l)) t in
                let number : x.number ≡ c.number = eqb-true x.number c.number parts.0 in
                let child : before l ≡ after l = same_blocks (before l) (after l) parts.1 in
                let none : f (suc l) ≡ [] = these (Some x) e ∙ ap (λ b. cond b [] ((c.number, bytes_put (image x.number) (32 * place) (pointer_bytes l (after l))) ∷ [])) t in
                unwritten image ws c.number (λ w i same.
                let m = by_level key c w there i same in
                absurd (subst (λ xs. IsIn xs w) (ap f (sym (ap (λ (k : Key). k.level) m.2)) ∙ none) m.3))
                ∙ ap image (sym number) ∙ holds key x e ∙ sym (inner old x)
                ∙ ap (pointers_bytes l) (sym (pointers_same child) ∙ pointers stays) ∙ inner new c
            stay false t =
                let one : f (suc l) ≡ (c.number, bytes_put (image x.number) (32 * place) (pointer_bytes l (after l))) ∷ [] = these (Some x) e ∙ ap (λ b. cond b [] ((c.number, bytes_put (image x.number) (32 * place) (pointer_bytes l (after l))) ∷ [])) t in
                written (suc l) c (bytes_put (image x.number) (32 * place) (pointer_bytes l (after l))) low (subst (λ xs. IsIn xs (c.number, bytes_put (image x.number) (32 * place) (pointer_bytes l (after l)))) (sym one) (inl refl))
                ∙ patched stays x e ∙ inner new c

  on_leaf : (c : Cell) → get new (key_over leaf 0) ≡ Some c → blocks_put image ws c.number ≡ bytes_of new (key_over leaf 0) c
  unfolding bytes_of
  on_leaf c there =
      let is : after 0 ≡ Some (block_of c) = change.after_is 0 (omega arith) ∙ ap (option_map block_of) there in
      written 0 c bytes (omega arith) (subst (λ a. IsIn (leaf_writes a bytes) (c.number, bytes)) (sym is) (inl refl))
      ∙ sym (if_some (λ (c : Cell). c.bytes ≡ bytes) (get new (key_over leaf 0)) c there change.contents)

  -- a number that no new block of the path has
  pub path_leaves : (q : ℕ) → ((l : ℕ) (x : Cell) → l ≤ 5 → get new (key_over leaf l) ≡ Some x → x.number ≡ q → ⊥) → blocks_put image ws q ≡ image q
  path_leaves q none = unwritten image ws q (λ w i same.
      let l = from_flat f 6 0 w i in
      let high = l.2 in
      let low : l.0 ≤ 5 = omega (arith, high) in
      let x = number_of_level l.0 w low l.3 in
      none l.0 x.0 low x.1 (x.2 ∙ same))

  pub path_held : HasBlocks (blocks_put image ws) new
  path_held k c there = by (covers k leaf) refl
    where
      at_level : (l : ℕ) → l ≤ 5 → get new (key_over leaf l) ≡ Some c → blocks_put image ws c.number ≡ bytes_of new (key_over leaf l) c
      at_level zero low e = on_leaf c e
      at_level (suc l) low e = on_inner l low c e

      by : (t : Bool) → covers k leaf ≡ t → blocks_put image ws c.number ≡ bytes_of new k c
      by false t = off_path k c t there
      by true t =
          let key : k ≡ key_over leaf k.level = same_key k (key_over leaf k.level) refl (sym (eqb-true _ _ t)) in
          let low : k.level ≤ 5 = (new_tree.keys k (is_there (get new k) c there)).level in
          at_level k.level low (sym (ap (get new) key) ∙ there) ∙ ap (λ j. bytes_of new j c) (sym key)
