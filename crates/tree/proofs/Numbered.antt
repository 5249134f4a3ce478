-- The map after a batch, once the numbers are chosen.
use Rattle.std.proofs.Common.{◌≡◌, ℕ, suc, ◌+◌, ◌*◌, ◌-◌, ◌/◌, ◌%◌, ◌^◌, ◌<◌, ◌≤◌, Bool, true, false, cond, List, [], ◌∷◌, ◌++◌, length, map, reverse, Option, Some, None, refl, sym, ap, subst, ◌∙◌, arith, inl, inr, ◌⊎◌, ⊎_elim, true≢false}
use Rattle.std.specs.Prelude.{is_some, IsSome, unwrap_or, ◌||◌, slice_get, count_by}
use Rattle.std.specs.List.{list_any, All}
use Rattle.std.specs.FinMap.{get, keys}
use Rattle.std.proofs.lemmas.Bool.{eqb-true, eq-eqb, cases_lt, or_cases, or_right}
use Rattle.std.proofs.lemmas.List.{map-append}
use Rattle.std.specs.List.Sorted.{IsStrictlySortedBy}
use Rattle.base.specs.declared.number.Key.{Key}
use Rattle.base.specs.declared.number.BlockNo.{BlockNo}
use Rattle.base.specs.declared.number.Dead.{Dead}
use Rattle.base.specs.Key.{covers, key_cmp}
use Rattle.base.specs.Map.{Map, Cell, IsTree, Contents, contents}
use Rattle.base.specs.Rewrite.{Changes, rewrite, changed_contents}
use Rattle.base.specs.Surveys.{IsIn, AreDifferent, IsMadeKey, dead_block}
use Rattle.zalloc.specs.declared.BlockState.{BlockState}
use Rattle.zalloc.specs.declared.BlockState.TheVariants.{Free, Allocated}
use Rattle.tree.specs.Change.{Shown, IsChange}
use Rattle.batch.specs.Room.{IsKept}
use Rattle.tree.specs.ChangeParts.{made_pair}
use Rattle.batch.specs.declared.update.Update.{Update}
use Rattle.batch.specs.declared.findings.Claim.{Claim}
use Rattle.batch.specs.declared.numbers.NewBlock.{NewBlock}
use Rattle.node.specs.Entries.{key_at}
use Rattle.node.specs.Shape.{Part}
use Rattle.batch.specs.Said.{Said, silent, hole, full, said}
use Rattle.batch.specs.Touch.{touched, stays, claims, released, own_block, young_one, leaf_touched, leaf_stays}
use Rattle.node.specs.Cells.{dead_of}
use Rattle.batch.specs.Build.{rebuilt, filled, number_of, is_fresh}
use Rattle.batch.specs.Numbers.{numbers, IsAtHand}
use Rattle.node.specs.Unique.{IsUnique}
use Rattle.batch.specs.Updates.{changes_of}
use Rattle.node.proofs.Options.{same_value, some_of, not_some, if_some, for_some, some_mapped}
use Rattle.batch.proofs.Lists.{all_bytes}
use Rattle.batch.proofs.SaidLaws.{said_sized}
use Rattle.node.proofs.Digits.{high_digits}
use Rattle.batch.proofs.TouchLaws.{touched_at_leaf, stays_at_leaf, untouched_stays}
use Rattle.batch.proofs.Words.{leaf_left, leaf_after}
use Rattle.batch.proofs.Standing.{Stands, IsPlace, part_at_key, stays_here, after_is, new_bytes, new_map}
use Rattle.batch.proofs.Listing.{in_map}
use Rattle.batch.proofs.NumberLaws.{free_apart, in_left, in_right}
use Rattle.batch.proofs.Falling.{reverse_step, in_unreversed, rises}
use Rattle.batch.proofs.Filled.{claim_key, filled_keys, kept_number, fresh_number, used_number, once_number, placed, in_placed, new_key}
use Rattle.batch.specs.Room.{AreAllocated}
use Rattle.batch.proofs.Batch.{IsAsked, IsMade, made_to, made_from, claim_keys_fall, claim_keys_once, claimed_to, claimed_from, kept_claim, claim_kept, fresh_claim, claim_fresh, claim_of_key, key_claim, released_to, released_from, released_blocks_once, gone_of, here_is}

any_up : (l j : ℕ) (ns : List ℕ) → list_any (covers (key_at l j)) ns ≡ true → list_any (covers (key_at (suc l) (j / 16))) ns ≡ true
any_up l j [] e = absurd (true≢false (sym e))
any_up l j (n ∷ ns) e = ⊎_elim
    (λ t. let at : n / 16 ^ l ≡ j = eqb-true _ _ t in
    let up = high_digits n l 1 (suc l) (let s : l + 1 ≡ suc l = omega arith in s) in
    ap (λ b. b || list_any (covers (key_at (suc l) (j / 16))) ns) (eq-eqb _ _ (sym up ∙ ap (λ x. x / 16) at)))
    (λ r. or_right _ _ (any_up l j ns r))
    (or_cases _ _ e)

any_child : (l j : ℕ) (ns : List ℕ) → list_any (covers (key_at (suc l) j)) ns ≡ true → (i : ℕ) × (i / 16 ≡ j) × (list_any (covers (key_at l i)) ns ≡ true)
any_child l j [] e = absurd (true≢false (sym e))
any_child l j (n ∷ ns) e = ⊎_elim
    (λ t. let at : n / 16 ^ suc l ≡ j = eqb-true _ _ t in
    let up = high_digits n l 1 (suc l) (let s : l + 1 ≡ suc l = omega arith in s) in
    (n / 16 ^ l, up ∙ at, ap (λ b. b || list_any (covers (key_at l (n / 16 ^ l))) ns) (eq-eqb (n / 16 ^ l) (n / 16 ^ l) refl)))
    (λ r. let x = any_child l j ns r in (x.0, x.1, or_right _ _ x.2))
    (or_cases _ _ e)

-- the new blocks turned round: the same, by their keys in order
map-reversed : {A B : Type 0} (f : A → B) (xs : List A) → map f (reverse xs) ≡ reverse (map f xs)
map-reversed f [] = refl
map-reversed f (x ∷ xs) =
    ap (map f) (reverse_step x xs) ∙ map-append f (reverse xs) (x ∷ []) ∙ ap (λ ys. ys ++ f x ∷ []) (map-reversed f xs) ∙ sym (reverse_step (f x) (map f xs))

in_reversed : {A : Type 0} (xs : List A) (a : A) → IsIn xs a → IsIn (reverse xs) a
in_reversed [] a h = h
in_reversed (x ∷ xs) a h = subst (λ ys. IsIn ys a) (sym (reverse_step x xs))
    (⊎_elim (λ s. in_right (reverse xs) (x ∷ []) a (inl s)) (λ r. in_left (reverse xs) (x ∷ []) a (in_reversed xs a r)) h)

keys_reversed : (bs : List NewBlock) → map (λ (z : Key × ℕ). z.0) (map made_pair (reverse bs)) ≡ reverse (map new_key bs)
keys_reversed bs = two_maps (reverse bs) ∙ map-reversed new_key bs
  where
    two_maps : (xs : List NewBlock) → map (λ (z : Key × ℕ). z.0) (map made_pair xs) ≡ map new_key xs
    two_maps [] = refl
    two_maps (x ∷ xs) = ap (λ ks. x.key ∷ ks) (two_maps xs)

module _ (m : Map) (o : Option Part) (us : List Update) (g y : ℕ) (states : List BlockState) (q : IsAsked m o us g y states) (all : AreAllocated m states)
    (ns : List BlockNo) (len : length ns ≡ count_by is_fresh (claims (said us) y 5 0 o)) (hand : (n : ℕ) → IsIn (numbers ns) n → IsAtHand states y (released (said us) y 5 0 o) n) (nums : AreDifferent (numbers ns))
    (m' : Map) (st' : Stands m' (rebuilt (said us) (number_of (filled (claims (said us) y 5 0 o) ns)) g 5 0 o) g) where
  abbrev c : Changes
  c = changes_of us

  abbrev s : ℕ → Said
  s = said us

  abbrev at : ℕ → ℕ → Option Part
  at = part_at_key o

  abbrev t : Key → Bool
  t k = touched s k.level k.index (at k.level k.index)

  abbrev p : Key → Bool
  p k = stays s k.level k.index (at k.level k.index)

  abbrev C : List Claim
  C = claims s y 5 0 o

  abbrev R : List Dead
  R = released s y 5 0 o

  abbrev N : Key → ℕ
  N = number_of (filled C ns)

  abbrev Made : Key → Type 0
  Made = IsMade m o us g y states q

  abbrev claim_at : Key → Claim
  claim_at k = record { key = k; kept = young_one y (own_block (at k.level k.index)) }

  pub new_is : m' ≡ rewrite m c g N
  new_is = new_map m o g q.stands us q.batch g N m' st'

  keys_once : AreDifferent (map claim_key C)
  keys_once = claim_keys_once m o us g y states q

  -- the new blocks' keys, once they are turned round
  keys_rise : IsStrictlySortedBy key_cmp (reverse (map new_key (filled C ns)))
  keys_rise = subst (λ ks. IsStrictlySortedBy key_cmp (reverse ks)) (sym (filled_keys C ns)) (rises (map claim_key C) (claim_keys_fall m o us g y states q))

  kept_n : (k : Key) (x : Cell) → Made k → get m k ≡ Some x → y ≤ x.birth → N k ≡ x.number
  kept_n k x h e b = kept_number C ns len keys_once nums (claim_at k) (dead_of x) (key_claim m o us g y states q k h) (kept_claim m o us g y states q k x h e b)

  fresh_n : (k : Key) → Made k → ¬ (IsKept m c y k) → IsIn (numbers ns) (N k)
  fresh_n k h n = fresh_number C ns len keys_once nums (claim_at k) (key_claim m o us g y states q k h) (fresh_claim m o us g y states q k h n)

  once_n : (j k : Key) → Made j → Made k → ¬ (IsKept m c y j) → ¬ (IsKept m c y k) → N j ≡ N k → j ≡ k
  once_n j k a b x z e = once_number C ns len keys_once nums (claim_at j) (claim_at k) (key_claim m o us g y states q j a) (key_claim m o us g y states q k b) (fresh_claim m o us g y states q j a x) (fresh_claim m o us g y states q k b z) e

  used_n : (n : ℕ) → IsIn (numbers ns) n → (k : Key) × IsMadeKey m c k × (¬ (IsKept m c y k)) × (N k ≡ n)
  used_n n h =
      let u = used_number C ns len keys_once nums n h in
      let k = claim_of_key m o us g y states q u.0 u.1 in
      (k.0, made_from m o us g y states q k.0 k.1, claim_fresh m o us g y states q k.0 (ap (λ (x : Claim). x.kept) (sym k.2) ∙ u.2), ap N (sym (ap claim_key k.2)) ∙ u.3)

  -- each cell afterwards
  new_at : (k : Key) → IsPlace k.level k.index → get m' k ≡ cond (t k) (cond (p k) (Some (record { number = N k; birth = g; bytes = new_bytes m o g q.stands us q.batch k.level k.index })) None) (get m k)
  new_at k w = ap (λ n. get n k) new_is ∙ after_is m o g q.stands us q.batch g N k w

  place_new : (k : Key) (x : Cell) → get m' k ≡ Some x → IsPlace k.level k.index
  place_new k x e = ⊎_elim
      (λ h. absurd (not_some _ (st'.high k h) (ap is_some e)))
      (λ l. ⊎_elim (λ b. record { level = l; index = b }) (λ b. absurd (not_some _ (st'.past k l b) (ap is_some e))) (cases_lt k.index (16 ^ (5 - k.level))))
      (cases_lt 5 k.level)

  two_ways : (b v : Bool) (x z : Cell) (r : Option Cell) → cond b (cond v (Some x) None) r ≡ Some z → ((b ≡ true) × (v ≡ true) × (x ≡ z)) ⊎ ((b ≡ false) × (r ≡ Some z))
  two_ways true true x z r e = inl (refl, refl, same_value x z e)
  two_ways true false x z r e = cc
  two_ways false v x z r e = inr (refl, e)

  pub record IsNew (k : Key) (x : Cell) : Type 0 where
    pub made : Made k
    pub is : record { number = N k; birth = g; bytes = new_bytes m o g q.stands us q.batch k.level k.index } ≡ x

  either : (k : Key) (x : Cell) → get m' k ≡ Some x → IsNew k x ⊎ ((t k ≡ false) × (get m k ≡ Some x))
  either k x e =
      let w = place_new k x e in
      ⊎_elim (λ a. inl (record { made = record { place = w; touched = a.0; stays = a.1 }; is = a.2 })) (λ a. inr a) (two_ways (t k) (p k) _ x (get m k) (sym (new_at k w) ∙ e))

  -- a number of a new cell is that of the cell that was there, a Free one, or that of a key that lets it go
  data Source (k : Key) : Type 0 where
    stays_put : (x : Cell) → get m k ≡ Some x → y ≤ x.birth → N k ≡ x.number → Source k
    was_free : ¬ (IsKept m c y k) → slice_get states (N k) ≡ Some Free → Source k
    was_let_go : ¬ (IsKept m c y k) → (j : Key) (x : Cell) → get m j ≡ Some x → t j ≡ true → (p j ≡ true → x.birth < y) → y ≤ x.birth → x.number ≡ N k → Source k

  source : (k : Key) → Made k → Source k
  source k h = by (claim_at k).kept refl
    where
      taken : ¬ (IsKept m c y k) → Source k
      taken n = ⊎_elim (λ f. was_free n f)
          (λ d.
          let r = gone_of m o us g y states q d.0 d.1 in
          let z = r.1 in
          let b = ap (λ (e : Dead). e.birth.0) z.is in
          let a = d.2 in
          was_let_go n r.0 z.cell z.there z.touched (λ e. let l = z.goes e in omega (arith, l, b)) (omega (arith, a, b)) (ap (λ (e : Dead). e.block.0) z.is ∙ d.3))
          (hand (N k) (fresh_n k h n))

      by : (d : Option Dead) → (claim_at k).kept ≡ d → Source k
      by None e = taken (claim_fresh m o us g y states q k e)
      by (Some d) e = let w = claim_kept m o us g y states q k d h e in stays_put w.cell w.there w.born (kept_n k w.cell h w.there w.born)

  is_allocated : (k : Key) (x : Cell) → get m k ≡ Some x → slice_get states x.number ≡ Some Allocated
  is_allocated k x e = if_some _ _ x e (all k)

  -- a new cell beside one that stays as it was
  crossed : (j k : Key) (b : Cell) → Made j → t k ≡ false → get m k ≡ Some b → N j ≡ b.number → j ≡ k
  crossed j k b h u e n = by (source j h)
    where
      by : Source j → j ≡ k
      by (stays_put x f l r) = q.unique.one j k x b f e (sym r ∙ n)
      by (was_free z f) = absurd (free_apart _ f (ap (slice_get states) n ∙ is_allocated k b e))
      by (was_let_go z i x f v w l r) =
          let same : i ≡ k = q.unique.one i k x b f e (r ∙ n) in
          absurd (true≢false (sym v ∙ ap t same ∙ u))

  both_new : (j k : Key) → Made j → Made k → N j ≡ N k → j ≡ k
  both_new j k a b n = by (source j a) (source k b)
    where
      mixed : (j k : Key) (x : Cell) → Made j → Made k → get m j ≡ Some x → y ≤ x.birth → N j ≡ x.number → N j ≡ N k → (i : Key) (z : Cell) → get m i ≡ Some z → (p i ≡ true → z.birth < y) → y ≤ z.birth → z.number ≡ N k → ⊥
      mixed j k x a b e l r n i z f w v u =
          let same : i ≡ j = q.unique.one i j z x f e (u ∙ sym n ∙ r) in
          let h = w (ap p same ∙ a.stays) in
          omega (arith, h, v)

      by : Source j → Source k → j ≡ k
      by (stays_put x e l r) (stays_put z f v u) = q.unique.one j k x z e f (sym r ∙ n ∙ u)
      by (stays_put x e l r) (was_free w f) = absurd (free_apart _ f (ap (slice_get states) (sym n ∙ r) ∙ is_allocated j x e))
      by (stays_put x e l r) (was_let_go w i z f v d u h) = absurd (mixed j k x a b e l r n i z f d u h)
      by (was_free w f) (stays_put x e l r) = absurd (free_apart _ f (ap (slice_get states) (n ∙ r) ∙ is_allocated k x e))
      by (was_free w f) (was_free z h) = once_n j k a b w z n
      by (was_free w f) (was_let_go z i x e v d u h) = once_n j k a b w z n
      by (was_let_go w i z f v d u h) (stays_put x e l r) = absurd (mixed k j x b a e l r (sym n) i z f d u h)
      by (was_let_go w i z f v d u h) (was_free x e) = once_n j k a b w x n
      by (was_let_go w i z f v d u h) (was_let_go x i' x' e v' d' u' h') = once_n j k a b w x n

  -- one number stands at one key afterwards too
  pub unique_after : IsUnique m'
  unique_after = record {
    one = λ j k a b h r e. ⊎_elim
        (λ u. ⊎_elim
        (λ w. both_new j k u.made w.made (ap (λ (x : Cell). x.number) u.is ∙ e ∙ sym (ap (λ (x : Cell). x.number) w.is)))
        (λ w. crossed j k b u.made w.0 w.1 (ap (λ (x : Cell). x.number) u.is ∙ e))
        (either k b r))
        (λ u. ⊎_elim
        (λ w. sym (crossed k j a w.made u.0 u.1 (ap (λ (x : Cell). x.number) w.is ∙ sym e)))
        (λ w. q.unique.one j k a b u.1 w.1 e)
        (either k b r))
        (either j a h);
  }

  -- which keys are present afterwards
  present : (k : Key) → IsPlace k.level k.index → is_some (get m' k) ≡ p k
  present k w = ap is_some (new_at k w) ∙ by (t k) (p k) refl _ (get m k) (ap is_some (here_is m o us g y states q k w) ∙ some_mapped (λ (x : Part). x.cell) (at k.level k.index))
    where
      by : (b v : Bool) → t k ≡ b → (x : Cell) (r : Option Cell) → is_some r ≡ is_some (at k.level k.index) → is_some (cond b (cond (p k) (Some x) None) r) ≡ p k
      by true v e x r h = by_stay (p k)
        where
          by_stay : (b : Bool) → is_some (cond b (Some x) None) ≡ b
          by_stay true = refl
          by_stay false = refl
      by false v e x r h = h ∙ sym (untouched_stays s k.level k.index (at k.level k.index) e)

  abbrev after : Contents
  after = changed_contents (contents m) c

  left_here : (k : Key) → IsPlace k.level k.index → list_any (covers k) (keys after) ≡ is_some (get m' k)
  left_here k w = stays_here m o g q.stands us q.batch k.level k.index w ∙ sym (present k w)

  new_number : (n : ℕ) → IsTree n m → ((k : ℕ) → IsIn (numbers ns) k → k < n) → (k : Key) → Made k → N k < n
  new_number n tree small k h = by (claim_at k).kept refl
    where
      by : (d : Option Dead) → (claim_at k).kept ≡ d → N k < n
      by None e = small (N k) (fresh_n k h (claim_fresh m o us g y states q k e))
      by (Some d) e =
          let w = claim_kept m o us g y states q k d h e in
          let r = kept_n k w.cell h w.there w.born in
          let z = (if_some _ _ w.cell w.there (tree.cells k)).0 in
          omega (arith, r, z)

  leaf_octets : (k : Key) → Made k → k.level ≡ 0 → (length (new_bytes m o g q.stands us q.batch k.level k.index) ≡ 512) × All (λ b. b < 256) (new_bytes m o g q.stands us q.batch k.level k.index)
  leaf_octets k h z = subst (λ l. IsPlace l k.index → touched s l k.index (at l k.index) ≡ true → stays s l k.index (at l k.index) ≡ true → (length (new_bytes m o g q.stands us q.batch l k.index) ≡ 512) × All (λ b. b < 256) (new_bytes m o g q.stands us q.batch l k.index))
      (sym z) leaf h.place h.touched h.stays
    where
      word : (w : Said) → s k.index ≡ w → leaf_touched w (at 0 k.index) ≡ true → leaf_stays w (at 0 k.index) ≡ true → (length (unwrap_or (leaf_after w (get (contents m) k.index)) []) ≡ 512) × All (λ b. b < 256) (unwrap_or (leaf_after w (get (contents m) k.index)) [])
      word silent e a b = absurd (true≢false (sym a))
      word hole e a b = absurd (true≢false (sym b))
      word (full bytes) e a b = let r = said_sized us k.index bytes q.sized.each e in (r.0, all_bytes bytes r.1)

      leaf : IsPlace 0 k.index → touched s 0 k.index (at 0 k.index) ≡ true → stays s 0 k.index (at 0 k.index) ≡ true → (length (new_bytes m o g q.stands us q.batch 0 k.index) ≡ 512) × All (λ b. b < 256) (new_bytes m o g q.stands us q.batch 0 k.index)
      leaf w a b = subst (λ (r : Option (List ℕ)). (length (unwrap_or r []) ≡ 512) × All (λ b. b < 256) (unwrap_or r [])) (sym (leaf_left m us k.index q.batch))
          (word (s k.index) refl (sym (touched_at_leaf s k.index (at 0 k.index)) ∙ a) (sym (stays_at_leaf s k.index (at 0 k.index)) ∙ b))

  no_octets : (l j : ℕ) → 0 < l → new_bytes m o g q.stands us q.batch l j ≡ []
  no_octets l j h = ap (λ b. cond b (unwrap_or (get after j) []) []) (Rattle.node.proofs.Digits.eq_not l 0 (λ e. absurd (omega arith)))

  -- the tree that it leads to
  pub tree_after : (n : ℕ) → IsTree n m → ((k : ℕ) → IsIn (numbers ns) k → k < n) → IsTree n m'
  tree_after n tree small = record {
    keys = λ k h. let x = some_of (get m' k) h in let w = place_new k x.0 x.1 in record { level = w.level; index = w.index };
    cells = λ k. for_some _ (get m' k) (λ x e. ⊎_elim
        (λ u.
        let d = new_number n tree small k u.made in
        let a = ap (λ (z : Cell). z.number) u.is in
        let b = ap (λ (z : Cell). z.bytes) u.is in (
          omega (arith, d, a),
          (
            (λ z. let r = leaf_octets k u.made z in (ap length (sym b) ∙ r.0, subst (All (λ b. b < 256)) b r.1)),
            (λ z. sym b ∙ no_octets k.level k.index z),
          ),
        ))
        (λ u. if_some _ _ x u.1 (tree.cells k))
        (either k x e));
    parents = λ k h l.
        let x = some_of (get m' k) h in let w = place_new k x.0 x.1 in
        let up = any_up k.level k.index (keys after) (left_here k w ∙ h) in
        let one : k.level + 1 ≡ suc k.level = omega arith in
        let v = Rattle.batch.proofs.Standing.place_down k.level k.index l w in
        subst (λ j. IsSome (get m' (key_at j (k.index / 16)))) (sym one) (sym (left_here (key_at (suc k.level) (k.index / 16)) v) ∙ up);
    children = λ k h l.
        let x = some_of (get m' k) h in let w = place_new k x.0 x.1 in
        let down : suc (k.level - 1) ≡ k.level = omega arith in
        let P : ℕ → Type 0 = λ j. list_any (covers (key_at j k.index)) (keys after) ≡ true in
        let r = any_child (k.level - 1) k.index (keys after) (subst P (sym down) (left_here k w ∙ h)) in
        let W : ℕ → Type 0 = λ j. IsPlace j k.index in
        let up : IsPlace (suc (k.level - 1)) k.index = subst W (sym down) w in
        let v = Rattle.batch.proofs.Standing.place_up (k.level - 1) k.index (r.0 % 16) up (omega arith) in
        let split : 16 * k.index + r.0 % 16 ≡ r.0 = let d = r.1 in omega (arith, d) in
        let z : IsPlace (k.level - 1) r.0 = subst (IsPlace (k.level - 1)) split v in
        let one : k.level - 1 + 1 ≡ k.level = omega arith in
        (key_at (k.level - 1) r.0, (λ i. record { level = one i; index = r.1 i }), sym (left_here (key_at (k.level - 1) r.0) z) ∙ r.2);
  }

  -- the change is the rewrite
  pub is_change : (v : Shown) → v.old ≡ m → v.new ≡ m' → v.taken ≡ numbers ns → v.released ≡ map dead_block R → v.made ≡ map made_pair (reverse (filled C ns)) → IsChange m c g y states v
  is_change v a b d e f = record {
    old_is = a;
    number = N;
    new_is = b ∙ new_is;
    kept = λ k x h i z. kept_n k x (made_to m o us g y states q k h) i z;
    fresh = λ k h n. subst (λ xs. IsIn xs (N k)) (sym d) (fresh_n k (made_to m o us g y states q k h) n);
    used = λ n h. used_n n (subst (λ xs. IsIn xs n) d h);
    once = λ j k h i x z w. once_n j k (made_to m o us g y states q j h) (made_to m o us g y states q k i) x z w;
    taken_free = λ n h. ⊎_elim (λ x. inl x)
        (λ x. inr (dead_block x.0, subst (λ xs. IsIn xs (dead_block x.0)) (sym e) (in_map dead_block R x.0 x.1), x.2, x.3))
        (hand n (subst (λ xs. IsIn xs n) d h));
    taken_once = subst AreDifferent (sym d) nums;
    released = λ x. ((λ h. released_to m o us g y states q x (subst (λ xs. IsIn xs x) e h)), (λ h. subst (λ xs. IsIn xs x) (sym e) (released_from m o us g y states q x h)));
    released_once = subst AreDifferent (sym e) (released_blocks_once m o us g y states q);
    made = λ k n.
        let x : Key × ℕ = (k, n) in
        let turned : v.made ≡ reverse (map made_pair (filled C ns)) = f ∙ map-reversed made_pair (filled C ns) in (
          (λ h.
              let w = placed C ns len keys_once nums x (in_unreversed (map made_pair (filled C ns)) x (subst (λ xs. IsIn xs x) turned h)) in
              (made_from m o us g y states q k (claimed_to m o us g y states q k w.0), w.1)),
          (λ h. subst (λ xs. IsIn xs x) (sym turned) (in_reversed (map made_pair (filled C ns)) x (in_placed C ns len keys_once nums x (claimed_from m o us g y states q k (made_to m o us g y states q k h.0)) h.1))),
        );
    made_order = subst (IsStrictlySortedBy key_cmp) (sym (ap (map (λ (z : Key × ℕ). z.0)) f ∙ keys_reversed (filled C ns))) keys_rise;
    tree = λ n h z. subst (IsTree n) (sym b) (tree_after n h (λ k i. z k (subst (λ xs. IsIn xs k) (sym d) i)));
  }
