-- A batch on a map, by the parts that stand at its keys.
use Rattle.std.proofs.Common.{◌≡◌, ℕ, zero, suc, ◌+◌, ◌*◌, ◌-◌, ◌/◌, ◌%◌, ◌^◌, ◌<◌, ◌≤◌, Bool, true, false, cond, List, [], ◌∷◌, ◌++◌, length, get_or, Option, Some, None, refl, sym, ap, subst, ◌∙◌, arith, inl, inr, ◌⊎◌, ⊎_elim, true≢false}
use Rattle.std.specs.Prelude.{is_some, unwrap_or, ◌||◌, ◌&&◌, ◌==◌}
use Rattle.std.specs.Option.{option_map}
use Rattle.std.specs.List.{list_any, flat_map}
use Rattle.std.specs.Ordering.{eq_by_cmp}
use Rattle.std.specs.FinMap.{get, keys, same_map, contains_key-keys}
use Rattle.std.specs.Cmp.{Equal-is}
use Rattle.std.specs.declared.sync.Arc.{Arc}
use Rattle.std.specs.declared.alloc.Global.{Global}
use Rattle.std.proofs.lemmas.Bool.{eqb-true, eq-eqb, cases_lt, or_cases, or_right}
use Rattle.std.proofs.lemmas.Nat.{pow-add}
use Rattle.std.proofs.Math.Nat.{pow-suc, mul-le-mul_right}
use Rattle.base.specs.declared.number.Key.{Key}
use Rattle.base.specs.Key.{key_cmp, key_cmp_total, key_cmp-IsAntisymmetric, covers, path}
use Rattle.base.specs.Map.{Cell, Map, Contents, contents}
use Rattle.base.specs.Rewrite.{Changes, rewrite, is_touched, changed_contents, new_cell, cell_after}
use Rattle.base.proofs.RewriteLaw.{get-rewrite, get-rewrite_any}
use Rattle.batch.specs.declared.update.Update.{Update}
use Rattle.node.specs.Entries.{key_at, map_of, IsWell}
use Rattle.node.specs.Kid.{IsKid, places_of}
use Rattle.node.specs.Node.{Root, whole, root_forest}
use Rattle.node.specs.Shape.{Part}
use Rattle.batch.specs.Said.{Said, silent, hole, full, said}
use Rattle.batch.specs.Touch.{any_kid, touched, stays, leaf_touched, leaf_stays}
use Rattle.batch.specs.Build.{leaf_rebuilt, remade, rebuilt}
use Rattle.batch.specs.Updates.{changes_of, IsBatchFrom}
use Rattle.node.proofs.Options.{some_mapped}
use Rattle.node.proofs.Places.{kids_of}
use Rattle.node.proofs.Roots.{get-here, none-high, none-past}
use Rattle.batch.proofs.SaidLaws.{covers_from}
use Rattle.batch.proofs.TouchLaws.{touched_down, touched_at_leaf, stays_down, stays_at_leaf, untouched_stays}
use Rattle.batch.proofs.MadeLaws.{rebuilt_down, rebuilt_at_leaf}
use Rattle.batch.proofs.Heres.{kid_of, part_down, cell_down, part_up, down_sound, kids_at, any_split, any_present, any_false, rebuilt_kid}
use Rattle.base.proofs.Contents.{get-contents, leaf_key}
use Rattle.batch.proofs.Words.{touches, touched_by, leaf_touch, leaf_left, leaf_after, leaf_of_keys, far_silent, said_bytes, said_hole}

-- the part at a key of a root
abbrev pub part_at_key : Option Part → ℕ → ℕ → Option Part
part_at_key o l j = part_down (5 - l) j o

-- a map is that of a root part
pub record Stands (m : Map) (o : Option Part) (h : ℕ) : Type 0 where
  pub sound : IsKid 5 h o
  pub here : (k : Key) → k.level ≤ 5 → k.index < 16 ^ (5 - k.level) → get m k ≡ option_map (λ (p : Part). p.cell) (part_at_key o k.level k.index)
  pub high : (k : Key) → 5 < k.level → get m k ≡ None
  pub past : (k : Key) → k.level ≤ 5 → 16 ^ (5 - k.level) ≤ k.index → get m k ≡ None

pub stands_of : (root : Option (Arc Root Global)) (w h : ℕ) → IsWell 5 w (root_forest root) → IsKid 5 h (whole root) → Stands (map_of (root_forest root)) (whole root) h
stands_of root w h well k = record {
  sound = k;
  here = λ k l b. get-here root w well k l b ∙ cell_down (5 - k.level) k.index (whole root);
  high = none-high root w well;
  past = none-past root w well;
}

-- a key of a tree
pub record IsPlace (l j : ℕ) : Type 0 where
  pub level : l ≤ 5
  pub index : j < 16 ^ (5 - l)

pub place_up : (l j i : ℕ) → IsPlace (suc l) j → i < 16 → IsPlace l (16 * j + i)
place_up l j i p h =
    let a = p.level in let b = p.index in
    let s : 5 - l ≡ suc (5 - suc l) = omega arith in
    let w : 16 ^ (5 - l) ≡ 16 ^ (5 - suc l) * 16 = ap (λ n. 16 ^ n) s ∙ pow-suc 16 (5 - suc l) in
    record { level = omega arith; index = omega (arith, w) }

pub place_down : (l j : ℕ) → l < 5 → IsPlace l j → IsPlace (suc l) (j / 16)
place_down l j h p =
    let b = p.index in
    let s : 5 - l ≡ suc (5 - suc l) = omega arith in
    let w : 16 ^ (5 - l) ≡ 16 ^ (5 - suc l) * 16 = ap (λ n. 16 ^ n) s ∙ pow-suc 16 (5 - suc l) in
    record { level = omega arith; index = omega (arith, w) }

pub at_kid : (o : Option Part) (l j i : ℕ) → IsPlace (suc l) j → i < 16 → part_at_key o l (16 * j + i) ≡ kid_of (part_at_key o (suc l) j) i
at_kid o l j i p h =
    let a = p.level in
    let q = place_up l j i p h in
    let s : 5 - l ≡ suc (5 - suc l) = omega arith in
    let up : (16 * j + i) / 16 ≡ j = omega arith in
    let last : (16 * j + i) % 16 ≡ i = omega arith in
    ap (λ d. part_down d (16 * j + i) o) s ∙ part_up (5 - suc l) (16 * j + i) o (let b = q.index in let w = ap (λ n. 16 ^ n) s in omega (arith, b, w))
    ∙ (λ k. kid_of (part_down (5 - suc l) (up k) o) (last k))

pub at_sound : (m : Map) (o : Option Part) (h l j : ℕ) → Stands m o h → l ≤ 5 → IsKid l h (part_at_key o l j)
at_sound m o h l j s a = let e : 5 ≡ l + (5 - l) = omega arith in down_sound (5 - l) l h j o (subst (λ n. IsKid n h o) e s.sound)

by_said : (w : Said) (o : Option Part) (b : Bool) → b ≡ is_some o → (is_some (said_bytes w) || (said_hole w && b)) ≡ leaf_touched w o
by_said silent o b e = refl
by_said hole o b e = e
by_said (full bytes) o b e = refl

by_left : (w : Said) (o : Option Part) (old : Option (List ℕ)) → is_some old ≡ is_some o → is_some (leaf_after w old) ≡ leaf_stays w o
by_left silent o old e = e
by_left hole o old e = refl
by_left (full bytes) o old e = refl

any_leaf : (k : Key) (ns : List ℕ) → list_any (covers k) ns ≡ true → (n : ℕ) × (covers k n ≡ true) × (list_any (covers (key_at 0 n)) ns ≡ true)
any_leaf k [] e = absurd (true≢false (sym e))
any_leaf k (x ∷ ns) e = ⊎_elim
    (λ t. (x, t, ap (λ b. b || list_any (covers (key_at 0 x)) ns) (eq-eqb (x / 1) x (let s : x / 1 ≡ x = omega arith in s))))
    (λ t. let r = any_leaf k ns t in (r.0, r.1, or_right _ _ r.2))
    (or_cases (covers k x) _ e)

far_leaf : (k : Key) (n : ℕ) → k.level ≤ 5 → 16 ^ (5 - k.level) ≤ k.index → covers k n ≡ true → 1048576 ≤ n
far_leaf k n l b e =
    let s : 5 - k.level + k.level ≡ 5 = omega arith in
    let p : 16 ^ (5 - k.level) * 16 ^ k.level ≡ 1048576 = sym (pow-add 16 (5 - k.level) k.level) ∙ ap (λ n. 16 ^ n) s in
    let m = mul-le-mul_right {m = 16 ^ (5 - k.level)} {n = k.index} (16 ^ k.level) b in
    let c = (covers_from k n e).0 in
    omega (arith, p, m, c)

not_on : (b : Bool) → (b ≡ true → ⊥) → b ≡ false
not_on true h = absurd (h refl)
not_on false h = refl

module _ (m : Map) (o : Option Part) (h : ℕ) (st : Stands m o h) (us : List Update) (batch : IsBatchFrom 0 us) where
  abbrev c : Changes
  c = changes_of us

  abbrev s : ℕ → Said
  s = said us

  abbrev after : Contents
  after = changed_contents (contents m) c

  abbrev at : ℕ → ℕ → Option Part
  at = part_at_key o

  leaf_there : (j : ℕ) → j < 16 ^ 5 → is_some (get m (leaf_key j)) ≡ is_some (at 0 j)
  leaf_there j b = ap is_some (st.here (leaf_key j) (omega arith) b) ∙ some_mapped (λ (p : Part). p.cell) (at 0 j)

  wide : (l j : ℕ) → l < 5 → length (places_of (at (suc l) j)) ≡ 16
  wide l j a = (kids_of l h (at (suc l) j) (at_sound m o h (suc l) j st (omega arith))).0

  -- the touched keys
  pub touched_here : (l j : ℕ) → IsPlace l j → list_any (covers (key_at l j)) (touches m c) ≡ touched s l j (at l j)
  touched_here zero j p = leaf_touch m us j batch ∙ by_said (s j) (at 0 j) _ (leaf_there j p.index) ∙ sym (touched_at_leaf s j (at 0 j))
  touched_here (suc l) j p =
      let a = p.level in
      let w = wide l j (omega arith) in
      any_split l j (places_of (at (suc l) j)) w (touches m c)
      ∙ kids_at (λ a b. a || b) false (λ k q. list_any (covers (key_at l k)) (touches m c)) (touched s l) (16 * j) (places_of (at (suc l) j))
      (λ i b. let q : i < 16 = omega arith in touched_here l (16 * j + i) (place_up l j i p q) ∙ ap (touched s l (16 * j + i)) (at_kid o l j i p q))
      ∙ sym (touched_down s l j (at (suc l) j))

  stays_by : (l j : ℕ) (q : Option Part) (b t : Bool) → IsKid (suc l) h q → touched s (suc l) j q ≡ t → b ≡ any_kid (stays s l) (16 * j) (places_of q) → b ≡ stays s (suc l) j q
  stays_by l j q b true k e d = d ∙ sym (stays_down s l j q ∙ ap (λ x. cond x (any_kid (stays s l) (16 * j) (places_of q)) (is_some q)) e)
  stays_by l j q b false k e d =
      d ∙ kids_at (λ a b. a || b) false (stays s l) (λ n x. is_some x) (16 * j) (places_of q)
      (λ i w. untouched_stays s l (16 * j + i) (get_or (places_of q) i None) (any_false (touched s l) (16 * j) i (places_of q) w (sym (touched_down s l j q) ∙ e)))
      ∙ any_present l h (16 * j) q k ∙ sym (untouched_stays s (suc l) j q e)

  -- the keys with a leaf below them afterwards
  pub stays_here : (l j : ℕ) → IsPlace l j → list_any (covers (key_at l j)) (keys after) ≡ stays s l j (at l j)
  stays_here zero j p =
      leaf_of_keys after j ∙ ap is_some (leaf_left m us j batch)
      ∙ by_left (s j) (at 0 j) (get (contents m) j) (ap is_some (get-contents m j) ∙ some_mapped (λ (x : Cell). x.bytes) (get m (leaf_key j)) ∙ leaf_there j p.index)
      ∙ sym (stays_at_leaf s j (at 0 j))
  stays_here (suc l) j p =
      let a = p.level in
      let w = wide l j (omega arith) in
      stays_by l j (at (suc l) j) _ (touched s (suc l) j (at (suc l) j)) (at_sound m o h (suc l) j st a) refl
      (any_split l j (places_of (at (suc l) j)) w (keys after)
      ∙ kids_at (λ a b. a || b) false (λ k q. list_any (covers (key_at l k)) (keys after)) (stays s l) (16 * j) (places_of (at (suc l) j))
      (λ i b. let q : i < 16 = omega arith in stays_here l (16 * j + i) (place_up l j i p q) ∙ ap (stays s l (16 * j + i)) (at_kid o l j i p q)))

  pub touched_key : (k : Key) → IsPlace k.level k.index → is_touched m c k ≡ touched s k.level k.index (at k.level k.index)
  touched_key k p = touched_by m c k ∙ touched_here k.level k.index p

  -- past the keys of a tree nothing is touched
  pub untouched_past : (k : Key) → k.level ≤ 5 → 16 ^ (5 - k.level) ≤ k.index → is_touched m c k ≡ false
  untouched_past k l b = touched_by m c k ∙ not_on _ (λ t.
      let r = any_leaf k (touches m c) t in
      let f = far_silent 0 r.0 us batch (far_leaf k r.0 l b r.1) in
      true≢false (sym r.2 ∙ leaf_touch m us r.0 batch ∙ ap (λ w. is_some (said_bytes w) || (said_hole w && is_some (get m (leaf_key r.0)))) f))

  after_untouched : (g : ℕ) (number : Key → ℕ) (k : Key) → is_touched m c k ≡ false → cell_after m c g number k ≡ get m k
  unfolding cell_after
  after_untouched g number k e = rw e refl

  -- above the root nothing comes
  low : (q : Key) (ks : List Key) → list_any (eq_by_cmp key_cmp q) ks ≡ true → list_any (λ (k : Key). k.level == q.level) ks ≡ true
  low q [] e = absurd (true≢false (sym e))
  low q (k ∷ ks) e = ⊎_elim
      (λ t. let same : q ≡ k = key_cmp-IsAntisymmetric q k ((Equal-is (key_cmp q k)).0 t) in
      ap (λ b. b || list_any (λ (j : Key). j.level == q.level) ks) (eq-eqb k.level q.level (ap (λ (j : Key). j.level) (sym same))))
      (λ r. or_right _ _ (low q ks r))
      (or_cases _ _ e)

  path_low : (q : Key) (leaf : ℕ) → list_any (λ (k : Key). k.level == q.level) (path leaf) ≡ true → q.level ≤ 5
  path_low q leaf e = ⊎_elim (λ t. lev 0 (omega arith) t) (λ e. ⊎_elim (λ t. lev 1 (omega arith) t) (λ e. ⊎_elim (λ t. lev 2 (omega arith) t) (λ e. ⊎_elim (λ t. lev 3 (omega arith) t) (λ e. ⊎_elim (λ t. lev 4 (omega arith) t) (λ e. ⊎_elim (λ t. lev 5 (omega arith) t) (λ e. absurd (true≢false (sym e))) (or_cases _ _ e)) (or_cases _ _ e)) (or_cases _ _ e)) (or_cases _ _ e)) (or_cases _ _ e)) (or_cases _ _ e)
    where
      lev : (l : ℕ) → l ≤ 5 → (l == q.level) ≡ true → q.level ≤ 5
      lev l h t = let e : l ≡ q.level = eqb-true _ _ t in omega arith

  any_append : (p : Key → Bool) (xs ys : List Key) → list_any p (xs ++ ys) ≡ true → (list_any p xs ≡ true) ⊎ (list_any p ys ≡ true)
  any_append p [] ys h = inr h
  any_append p (x ∷ xs) ys h = ⊎_elim
      (λ l. inl (ap (λ b. b || list_any p xs) l))
      (λ r. ⊎_elim (λ l. inl (or_right (p x) _ l)) (λ r. inr r) (any_append p xs ys r))
      (or_cases (p x) _ h)

  paths_low : (q : Key) (leaves : List ℕ) → list_any (eq_by_cmp key_cmp q) (flat_map path leaves) ≡ true → q.level ≤ 5
  paths_low q [] e = absurd (true≢false (sym e))
  paths_low q (leaf ∷ leaves) e = ⊎_elim (λ l. path_low q leaf (low q (path leaf) l)) (paths_low q leaves) (any_append (eq_by_cmp key_cmp q) (path leaf) _ e)

  no_cand : (b : Bool) (x : Option Cell) → (b ≡ true → ⊥) → cond b x None ≡ None
  no_cand true x h = absurd (h refl)
  no_cand false x h = refl

  pub rewrite_high : (g : ℕ) (number : Key → ℕ) (k : Key) → 5 < k.level → get (rewrite m c g number) k ≡ None
  rewrite_high g number k b =
      get-rewrite_any m c g number k
      ∙ no_cand (list_any (eq_by_cmp key_cmp k) (keys m ++ flat_map path (keys after))) (cell_after m c g number k) (λ e. ⊎_elim
      (λ l. let some : is_some (get m k) ≡ true = contains_key-keys m k ∙ l in true≢false (sym some ∙ ap is_some (st.high k b)))
      (λ r. let low = paths_low k (keys after) r in omega arith)
      (any_append (eq_by_cmp key_cmp k) (keys m) (flat_map path (keys after)) e))

  pub rewrite_past : (g : ℕ) (number : Key → ℕ) (k : Key) → k.level ≤ 5 → 16 ^ (5 - k.level) ≤ k.index → get (rewrite m c g number) k ≡ None
  rewrite_past g number k l b = get-rewrite m c g number k l ∙ after_untouched g number k (untouched_past k l b) ∙ st.past k l b

  -- the cell at a key afterwards
  abbrev pub new_bytes : ℕ → ℕ → List ℕ
  new_bytes l j = cond (l == 0) (unwrap_or (get after j) []) []

  new_is : (g : ℕ) (number : Key → ℕ) (k : Key) → IsPlace k.level k.index → new_cell after g number k ≡ cond (stays s k.level k.index (at k.level k.index)) (Some (record { number = number k; birth = g; bytes = new_bytes k.level k.index })) None
  unfolding new_cell
  new_is g number k p = ap (λ b. cond b (Some (record { number = number k; birth = g; bytes = new_bytes k.level k.index })) None) (stays_here k.level k.index p)

  pub after_is : (g : ℕ) (number : Key → ℕ) (k : Key) → IsPlace k.level k.index
      → get (rewrite m c g number) k ≡ cond (touched s k.level k.index (at k.level k.index)) (cond (stays s k.level k.index (at k.level k.index)) (Some (record { number = number k; birth = g; bytes = new_bytes k.level k.index })) None) (get m k)
  unfolding cell_after
  after_is g number k p = get-rewrite m c g number k p.level ∙ (λ i. cond (touched_key k p i) (new_is g number k p i) (get m k))

  leaf_bytes : (w : Said) (q : Option Part) (n g : ℕ) (old : Option (List ℕ)) → option_map (λ (p : Part). p.cell) (leaf_rebuilt w n g q) ≡ cond (leaf_touched w q) (cond (leaf_stays w q) (Some (record { number = n; birth = g; bytes = unwrap_or (leaf_after w old) [] })) None) (option_map (λ (p : Part). p.cell) q)
  leaf_bytes silent q n g old = refl
  leaf_bytes hole None n g old = refl
  leaf_bytes hole (Some p) n g old = refl
  leaf_bytes (full bytes) q n g old = refl

  remade_cell : (t p : Bool) (n g : ℕ) (kids : List (Option Part)) (q : Option Part) → option_map (λ (x : Part). x.cell) (remade t p n g kids q) ≡ cond t (cond p (Some (record { number = n; birth = g; bytes = [] })) None) (option_map (λ (x : Part). x.cell) q)
  remade_cell true true n g kids q = refl
  remade_cell true false n g kids q = refl
  remade_cell false p n g kids q = refl

  rebuilt_cell : (g : ℕ) (number : Key → ℕ) (l j : ℕ) (q : Option Part) → option_map (λ (p : Part). p.cell) (rebuilt s number g l j q) ≡ cond (touched s l j q) (cond (stays s l j q) (Some (record { number = number (key_at l j); birth = g; bytes = new_bytes l j })) None) (option_map (λ (p : Part). p.cell) q)
  rebuilt_cell g number zero j q =
      ap (option_map (λ (p : Part). p.cell)) (rebuilt_at_leaf s number g j q (s j) refl) ∙ leaf_bytes (s j) q (number (key_at 0 j)) g (get (contents m) j)
      ∙ (λ i. cond (sym (touched_at_leaf s j q) i) (cond (sym (stays_at_leaf s j q) i) (Some (record { number = number (key_at 0 j); birth = g; bytes = unwrap_or (sym (leaf_left m us j batch) i) [] })) None) (option_map (λ (p : Part). p.cell) q))
  rebuilt_cell g number (suc l) j q =
      ap (option_map (λ (p : Part). p.cell)) (rebuilt_down s number g l j q) ∙ remade_cell (touched s (suc l) j q) (stays s (suc l) j q) _ g _ q
      ∙ ap (λ b. cond (touched s (suc l) j q) (cond (stays s (suc l) j q) (Some (record { number = number (key_at (suc l) j); birth = g; bytes = cond b (unwrap_or (get after j) []) [] })) None) (option_map (λ (p : Part). p.cell) q)) (sym (Rattle.node.proofs.Digits.eq_not (suc l) 0 (λ e. absurd (omega arith))))

  module _ (g : ℕ) (number : Key → ℕ) where
    abbrev new : Option Part
    new = rebuilt s number g 5 0 o

    -- the part at a key afterwards
    pub rebuilt_here : (d l j : ℕ) → l + d ≡ 5 → IsPlace l j → part_at_key new l j ≡ rebuilt s number g l j (at l j)
    rebuilt_here zero l j e p =
        let five : l ≡ 5 = omega arith in
        let b = p.index in
        let one : 16 ^ (5 - l) ≡ 1 = ap (λ n. 16 ^ (5 - n)) five in
        let z : j ≡ 0 = omega (arith, one, b) in
        let P : ℕ → ℕ → Type 0 = λ l j. part_at_key new l j ≡ rebuilt s number g l j (at l j) in
        subst (λ l. P l j) (sym five) (subst (P 5) (sym z) refl)
    rebuilt_here (suc d) l j e p =
        let up = place_down l j (omega arith) p in
        let split : 16 * (j / 16) + j % 16 ≡ j = omega arith in
        let r : j % 16 < 16 = omega arith in
        ap (part_at_key new l) (sym split) ∙ at_kid new l (j / 16) (j % 16) up r
        ∙ ap (λ q. kid_of q (j % 16)) (rebuilt_here d (suc l) (j / 16) (omega arith) up)
        ∙ rebuilt_kid s number g h l (j / 16) (j % 16) (at (suc l) (j / 16)) (at_sound m o h (suc l) (j / 16) st (omega arith)) r
        ∙ ap (rebuilt s number g l (16 * (j / 16) + j % 16)) (sym (at_kid o l (j / 16) (j % 16) up r))
        ∙ ap (λ n. rebuilt s number g l n (at l n)) split

    -- the map afterwards is the rewrite
    pub new_map : (m' : Map) → Stands m' new g → m' ≡ rewrite m c g number
    new_map m' st' = same_map key_cmp_total key_cmp-IsAntisymmetric m' (rewrite m c g number) each
      where
        inside : (k : Key) → IsPlace k.level k.index → get m' k ≡ get (rewrite m c g number) k
        inside k p =
            let sum : k.level + (5 - k.level) ≡ 5 = let a = p.level in omega arith in
            st'.here k p.level p.index ∙ ap (option_map (λ (q : Part). q.cell)) (rebuilt_here (5 - k.level) k.level k.index sum p)
            ∙ rebuilt_cell g number k.level k.index (at k.level k.index)
            ∙ ap (λ x. cond (touched s k.level k.index (at k.level k.index)) (cond (stays s k.level k.index (at k.level k.index)) (Some (record { number = number k; birth = g; bytes = new_bytes k.level k.index })) None) x) (sym (st.here k p.level p.index))
            ∙ sym (after_is g number k p)

        each : (q : Key) → get m' q ≡ get (rewrite m c g number) q
        each q = ⊎_elim
            (λ b. st'.high q b ∙ sym (rewrite_high g number q b))
            (λ l. ⊎_elim (λ b. inside q (record { level = l; index = b })) (λ b. st'.past q l b ∙ sym (rewrite_past g number q l b)) (cases_lt q.index (16 ^ (5 - q.level))))
            (cases_lt 5 q.level)
