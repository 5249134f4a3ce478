-- What one update of a tree touches: what is at or below its key, and above it.
use Rattle.std.proofs.Common.{◌≡◌, ℕ, zero, suc, ◌+◌, ◌-◌, ◌/◌, ◌^◌, ◌≤◌, Bool, Bor, true, false, cond, ◌&&◌, ◌||◌, List, [], ◌∷◌, Option, Some, None, refl, sym, ap, subst, ◌∙◌, ◌⊎◌, inl, inr, ⊎_elim, arith, true≢false}
use Rattle.std.specs.Prelude.{◌==◌, IsSome, is_some, unwrap_or}
use Rattle.std.specs.List.{list_any}
use Rattle.std.specs.Ordering.{nat_cmp, eq_by_cmp, is_eq}
use Rattle.std.specs.Cmp.{nat_cmp_total, Equal-is, tied_itself}
use Rattle.std.specs.FinMap.{FinMap, get, keys, contains_key-keys, nat_cmp-IsAntisymmetric}
use Rattle.std.proofs.lemmas.Bool.{or_cases, or_left, or_right, and_parts, and_from, eqb-true, eq-eqb}
use Rattle.std.proofs.lemmas.Nat.{pow-add}
use Rattle.std.proofs.Math.Nat.{div-div-eq-div-mul, div-one, mul-div_cancel, pow-suc}
use Rattle.base.specs.declared.number.Key.{Key}
use Rattle.base.specs.Key.{covers, first_leaf}
use Rattle.base.specs.Map.{Map, Cell, IsTree, contents}
use Rattle.base.specs.Rewrite.{Changes, rewrite, is_touched, cell_after, new_cell, changed_contents}
use Rattle.base.specs.Surveys.{IsIn}
use Rattle.base.proofs.Contents.{leaf_key, get-contents}
use Rattle.base.proofs.RewriteLaw.{get-rewrite}
use Rattle.batch.specs.Said.{said, first_said, full, hole, silent}
use Rattle.batch.specs.Updates.{changes_of, first_of, IsBatch}
use Rattle.batch.specs.declared.update.Update.{Update}
use Rattle.batch.specs.declared.update.Update.TheVariants.{Write, Punch}
use Rattle.batch.proofs.Words.{said_bytes, said_hole, written_at, punched_at, leaf_after, leaf_left}
use Rattle.image.proofs.LeafPaths.{above_leaf}
use Rattle.node.specs.Entries.{key_at}
use Rattle.node.proofs.Options.{some_mapped}
use Rattle.node.proofs.Order.{span_positive}
use Rattle.tree.specs.Reading.{key_over}
use Rattle.world.proofs.lists.Maps.{same_value, no_value}
use Rattle.image.specs.Updates.{top_of, ChangesSome}

-- ---- lists and maps

any_one : {A : Type 0} (p : A → Bool) (xs : List A) → list_any p xs ≡ true → (x : A) × IsIn xs x × (p x ≡ true)
any_one p [] e = absurd (true≢false (sym e))
any_one {A} p (x ∷ xs) e = at (p x) refl (any_one p xs) e
  where
    at : (b : Bool) → p x ≡ b → (list_any p xs ≡ true → (y : A) × IsIn xs y × (p y ≡ true)) → (b || list_any p xs) ≡ true → (y : A) × IsIn (x ∷ xs) y × (p y ≡ true)
    at true f rest e = (x, inl refl, f)
    at false f rest e = let r = rest e in (r.0, inr r.1, r.2)

one_any : {A : Type 0} (p : A → Bool) (xs : List A) (x : A) → IsIn xs x → p x ≡ true → list_any p xs ≡ true
one_any p [] x i e = absurd i
one_any p (y ∷ ys) x i e = ⊎_elim (λ (s : x ≡ y). or_left (p y) (list_any p ys) (ap p (sym s) ∙ e)) (λ (r : IsIn ys x). or_right (p y) (list_any p ys) (one_any p ys x r e)) i

key_there : {X : Type 0} (m : FinMap nat_cmp X) (x : ℕ) → IsIn (keys m) x → IsSome (get m x)
key_there m x i = contains_key-keys m x ∙ one_any (eq_by_cmp nat_cmp x) (keys m) x i (ap is_eq (tied_itself nat_cmp_total x))

there_key : {X : Type 0} (m : FinMap nat_cmp X) (x : ℕ) → IsSome (get m x) → IsIn (keys m) x
there_key m x some =
    let r = any_one (eq_by_cmp nat_cmp x) (keys m) (sym (contains_key-keys m x) ∙ some) in
    subst (IsIn (keys m)) (sym (nat_cmp-IsAntisymmetric x r.0 ((Equal-is (nat_cmp x r.0)).0 r.2))) r.1

contents_there : (m : Map) (x : ℕ) → is_some (get (contents m) x) ≡ is_some (get m (leaf_key x))
contents_there m x = ap is_some (get-contents m x) ∙ some_mapped (λ (c : Cell). c.bytes) (get m (leaf_key x))

-- ---- leaves below keys

-- a present key has a present leaf below it
pub leaf_under : (n : ℕ) (m : Map) → IsTree n m → (l j : ℕ) → IsSome (get m (key_at l j)) → (x : ℕ) × (x / 16 ^ l ≡ j) × IsSome (get m (leaf_key x))
leaf_under n m tree zero j there = (j, div-one j, there)
leaf_under n m tree (suc l) j there =
    let child = tree.children (key_at (suc l) j) there (omega arith) in
    let level : child.0.level + 1 ≡ suc l = ap (λ (k : Key). k.level) child.1 in
    let index : child.0.index / 16 ≡ j = ap (λ (k : Key). k.index) child.1 in
    let low : child.0.level ≡ l = omega (arith, level) in
    let is : child.0 ≡ key_at l child.0.index = λ i. record { level = low i; index = child.0.index } in
    let r = leaf_under n m tree l child.0.index (subst (λ k. IsSome (get m k)) is child.2) in
    (r.0, ap (λ p. r.0 / p) (pow-suc 16 l) ∙ sym (div-div-eq-div-mul r.0 (16 ^ l) 16) ∙ ap (λ q. q / 16) r.1 ∙ index, r.2)

-- two leaves below a key are below the same key of each level above it
pub same_over : (top : Key) (x y l : ℕ) → covers top x ≡ true → covers top y ≡ true → top.level ≤ l → x / 16 ^ l ≡ y / 16 ^ l
same_over top x y l e f high =
    let sum : top.level + (l - top.level) ≡ l = omega (arith, high) in
    let up = λ (z : ℕ). ap (λ n. z / 16 ^ n) (sym sum) ∙ ap (λ n. z / n) (pow-add 16 top.level (l - top.level)) ∙ sym (div-div-eq-div-mul z (16 ^ top.level) (16 ^ (l - top.level))) in
    up x ∙ ap (λ n. n / 16 ^ (l - top.level)) (eqb-true _ _ e ∙ sym (eqb-true _ _ f)) ∙ sym (up y)

pub covers_over : (top k : Key) (x y : ℕ) → covers top x ≡ true → covers top y ≡ true → top.level ≤ k.level → covers k x ≡ true → covers k y ≡ true
covers_over top k x y e f high g = eq-eqb _ _ (sym (same_over top x y k.level e f high) ∙ eqb-true _ _ g)

-- ---- touched keys

pub touched_from : (m : Map) (c : Changes) (k : Key) → is_touched m c k ≡ true → (x : ℕ) × (covers k x ≡ true) × (IsSome (get c.writes x) ⊎ ((c.punches x ≡ true) × IsSome (get m (leaf_key x))))
unfolding is_touched
touched_from m c k e = ⊎_elim
    (λ (w : list_any (covers k) (keys c.writes) ≡ true). let r = any_one (covers k) (keys c.writes) w in (r.0, r.2, inl (key_there c.writes r.0 r.1)))
    (λ (p : list_any (λ leaf. c.punches leaf && covers k leaf) (keys (contents m)) ≡ true).
    let r = any_one (λ leaf. c.punches leaf && covers k leaf) (keys (contents m)) p in
    let both = and_parts (c.punches r.0) (covers k r.0) r.2 in
    (r.0, both.1, inr (both.0, sym (contents_there m r.0) ∙ key_there (contents m) r.0 r.1)))
    (or_cases _ _ e)

touched_by_write : (m : Map) (c : Changes) (k : Key) (x : ℕ) → IsSome (get c.writes x) → covers k x ≡ true → is_touched m c k ≡ true
unfolding is_touched
touched_by_write m c k x some e = or_left (list_any (covers k) (keys c.writes)) _ (one_any (covers k) (keys c.writes) x (there_key c.writes x some) e)

touched_by_punch : (m : Map) (c : Changes) (k : Key) (x : ℕ) → c.punches x ≡ true → IsSome (get m (leaf_key x)) → covers k x ≡ true → is_touched m c k ≡ true
unfolding is_touched
touched_by_punch m c k x p some e = or_right (list_any (covers k) (keys c.writes)) _
    (one_any (λ leaf. c.punches leaf && covers k leaf) (keys (contents m)) x (there_key (contents m) x (contents_there m x ∙ some)) (and_from (c.punches x) (covers k x) p e))

-- ---- one update

pub top_covers : (u : Update) → covers (top_of u) (first_of u) ≡ true
top_covers (Write leaf bytes) = eq-eqb _ _ (div-one leaf)
top_covers (Punch key) = eq-eqb _ _ (mul-div_cancel key.index (span_positive key.level))

write_said : (leaf x : ℕ) (bytes : List ℕ) (b : Bool) → (leaf == x) ≡ b → IsSome (said_bytes (first_said (cond b (full bytes) silent) silent)) → covers (leaf_key leaf) x ≡ true
write_said leaf x bytes true e some = eq-eqb _ _ (div-one x ∙ sym (eqb-true leaf x e))
write_said leaf x bytes false e some = absurd (true≢false (sym some))

write_holes : (bytes : List ℕ) (b : Bool) → said_hole (first_said (cond b (full bytes) silent) silent) ≡ true → ⊥
write_holes bytes true e = true≢false (sym e)
write_holes bytes false e = true≢false (sym e)

punch_bytes : (b : Bool) → IsSome (said_bytes (first_said (cond b hole silent) silent)) → ⊥
punch_bytes true some = true≢false (sym some)
punch_bytes false some = true≢false (sym some)

punch_holes : (b : Bool) → said_hole (first_said (cond b hole silent) silent) ≡ true → b ≡ true
punch_holes true e = refl
punch_holes false e = absurd (true≢false (sym e))

writes_under : (u : Update) (x : ℕ) → IsBatch (u ∷ []) → IsSome (get (changes_of (u ∷ [])).writes x) → covers (top_of u) x ≡ true
unfolding said
writes_under (Write leaf bytes) x b some = write_said leaf x bytes.now (leaf == x) refl (sym (ap is_some (written_at (Write leaf bytes ∷ []) x b)) ∙ some)
writes_under (Punch key) x b some = absurd (punch_bytes (covers key x) (sym (ap is_some (written_at (Punch key ∷ []) x b)) ∙ some))

punches_under : (u : Update) (x : ℕ) → IsBatch (u ∷ []) → (changes_of (u ∷ [])).punches x ≡ true → covers (top_of u) x ≡ true
unfolding said
punches_under (Write leaf bytes) x b e = absurd (write_holes bytes.now (leaf == x) (sym (punched_at (Write leaf bytes ∷ []) x b) ∙ e))
punches_under (Punch key) x b e = punch_holes (covers key x) (sym (punched_at (Punch key ∷ []) x b) ∙ e)

writes_it : (leaf : ℕ) (bytes : List ℕ) (b : Bool) → b ≡ true → said_bytes (first_said (cond b (full bytes) silent) silent) ≡ Some bytes
writes_it leaf bytes true e = refl
writes_it leaf bytes false e = absurd (true≢false (sym e))

module _ (m : Map) (u : Update) (batch : IsBatch (u ∷ [])) where
  abbrev c : Changes
  c = changes_of (u ∷ [])

  -- what is touched is above or below its key
  pub touched_near : (k : Key) → is_touched m (changes_of (u ∷ [])) k ≡ true → (x : ℕ) × (covers k x ≡ true) × (covers (top_of u) x ≡ true)
  touched_near k e =
      let r = touched_from m c k e in
      (r.0, r.1, ⊎_elim (λ (w : IsSome (get c.writes r.0)). writes_under u r.0 batch w) (λ p. punches_under u r.0 batch p.0) r.2)

-- what is above its key is touched
pub touched_over : (n : ℕ) (m : Map) → IsTree n m → (u : Update) → IsBatch (u ∷ []) → ChangesSome m u → (k : Key) → covers k (first_of u) ≡ true → (top_of u).level ≤ k.level
    → is_touched m (changes_of (u ∷ [])) k ≡ true
unfolding said
touched_over n m tree (Write leaf bytes) b some k e high =
    touched_by_write m (changes_of (Write leaf bytes ∷ [])) k leaf (ap is_some (written_at (Write leaf bytes ∷ []) leaf b ∙ writes_it leaf bytes.now (leaf == leaf) (eq-eqb leaf leaf refl))) e
touched_over n m tree (Punch key) b some k e high =
    let x = leaf_under n m tree key.level key.index some in
    let under : covers key x.0 ≡ true = eq-eqb _ _ x.1 in
    touched_by_punch m (changes_of (Punch key ∷ [])) k x.0 (punched_at (Punch key ∷ []) x.0 b ∙ holes (covers key x.0) under) x.2
    (covers_over key k (first_leaf key) x.0 (top_covers (Punch key)) under high e)
  where
    holes : (b : Bool) → b ≡ true → said_hole (first_said (cond b hole silent) silent) ≡ true
    holes true e = refl
    holes false e = absurd (true≢false (sym e))

-- nothing is left at a key that is punched, or below it
module _ (n : ℕ) (m : Map) (tree : IsTree n m) (key : Key) (b : IsBatch (Punch key ∷ [])) (g : ℕ) (number : Key → ℕ) where
  abbrev punch : Changes
  punch = changes_of (Punch key ∷ [])

  hole_at : (x : ℕ) → covers key x ≡ true → said (Punch key ∷ []) x ≡ hole
  unfolding said
  hole_at x e = ap (λ t. first_said (cond t hole silent) silent) e

  none_left : (x : ℕ) → covers key x ≡ true → get (changed_contents (contents m) (changes_of (Punch key ∷ []))) x ≡ None
  none_left x e = leaf_left m (Punch key ∷ []) x b ∙ ap (λ w. leaf_after w (get (contents m) x)) (hole_at x e)

  pub gone : (k : Key) (x : ℕ) → k.level ≤ 5 → k.level ≤ key.level → covers k x ≡ true → covers key x ≡ true → get (rewrite m (changes_of (Punch key ∷ [])) g number) k ≡ None
  unfolding cell_after new_cell
  gone k x shallow low e f = get-rewrite m punch g number k shallow ∙ by_touch (is_touched m punch k) refl
    where
      under : (y : ℕ) → covers k y ≡ true → covers key y ≡ true
      under y h = covers_over k key x y e h low f

      no_key : list_any (covers k) (keys (changed_contents (contents m) (changes_of (Punch key ∷ [])))) ≡ true → ⊥
      no_key t =
          let r = any_one (covers k) (keys (changed_contents (contents m) punch)) t in
          true≢false (sym (key_there (changed_contents (contents m) punch) r.0 r.1) ∙ ap is_some (none_left r.0 (under r.0 r.2)))

      by_left : (t : Bool) (y : Cell) → list_any (covers k) (keys (changed_contents (contents m) (changes_of (Punch key ∷ [])))) ≡ t → cond t (Some y) None ≡ None
      by_left true y h = absurd (no_key h)
      by_left false y h = refl

      by_old : (o : Option Cell) → get m k ≡ o → is_touched m (changes_of (Punch key ∷ [])) k ≡ false → o ≡ None
      by_old None h t = refl
      by_old (Some y) h t =
          let r = leaf_under n m tree k.level k.index (ap is_some h) in
          let here : covers k r.0 ≡ true = eq-eqb _ _ r.1 in
          let holes : punch.punches r.0 ≡ true = punched_at (Punch key ∷ []) r.0 b ∙ ap said_hole (hole_at r.0 (under r.0 here)) in
          absurd (true≢false (sym (touched_by_punch m punch k r.0 holes r.2 here) ∙ t))

      by_touch : (t : Bool) → is_touched m (changes_of (Punch key ∷ [])) k ≡ t
          → cond t (cond (list_any (covers k) (keys (changed_contents (contents m) (changes_of (Punch key ∷ []))))) (Some (record { number = number k; birth = g; bytes = cond (k.level == 0) (unwrap_or (get (changed_contents (contents m) (changes_of (Punch key ∷ []))) k.index) []) [] })) None) (get m k) ≡ None
      by_touch true t = by_left (list_any (covers k) (keys (changed_contents (contents m) punch))) _ refl
      by_touch false t = by_old (get m k) refl t

no_write : (key : Key) → IsBatch (Punch key ∷ []) → (x : ℕ) → IsSome (get (changes_of (Punch key ∷ [])).writes x) → ⊥
unfolding said
no_write key b x w = punch_bytes (covers key x) (sym (ap is_some (written_at (Punch key ∷ []) x b)) ∙ w)

-- where a punch has nothing to punch, nothing is touched
pub punch_idle : (n : ℕ) (m : Map) → IsTree n m → (key : Key) → IsBatch (Punch key ∷ []) → get m key ≡ None → (k : Key) → is_touched m (changes_of (Punch key ∷ [])) k ≡ false
punch_idle n m tree key b none k = by_touch (is_touched m (changes_of (Punch key ∷ [])) k) refl
  where
    by_touch : (t : Bool) → is_touched m (changes_of (Punch key ∷ [])) k ≡ t → t ≡ false
    by_touch false e = refl
    by_touch true e =
        let r = touched_from m (changes_of (Punch key ∷ [])) k e in
        let p = ⊎_elim (λ (w : IsSome (get (changes_of (Punch key ∷ [])).writes r.0)). absurd (no_write key b r.0 w)) (λ p. p) r.2 in
        let over : key_over r.0 key.level ≡ key = λ i. record { level = key.level; index = eqb-true _ _ (punches_under (Punch key) r.0 b p.0) i } in
        absurd (true≢false (sym (subst (λ q. IsSome (get m q)) over (above_leaf n m tree r.0 key.level b.1.level p.1)) ∙ ap is_some none))

-- a leaf that is written has its bytes
pub leaf_written : (m : Map) (leaf : ℕ) (bytes : Bor (List ℕ)) → IsBatch (Write leaf bytes ∷ []) → (g : ℕ) (number : Key → ℕ) (c : Cell)
    → get (rewrite m (changes_of (Write leaf bytes ∷ [])) g number) (key_over leaf 0) ≡ Some c → c.bytes ≡ bytes.now
unfolding cell_after new_cell said
leaf_written m leaf bytes b g number c there =
    let ch = changes_of (Write leaf bytes ∷ []) in
    let after = changed_contents (contents m) ch in
    let said_is : said (Write leaf bytes ∷ []) leaf ≡ full bytes.now = ap (λ t. first_said (cond t (full bytes.now) silent) silent) (eq-eqb leaf leaf refl) in
    let touched : is_touched m ch (key_over leaf 0) ≡ true = touched_by_write m ch (key_over leaf 0) leaf (ap is_some (written_at (Write leaf bytes ∷ []) leaf b ∙ ap said_bytes said_is)) (eq-eqb _ _ refl) in
    let left : get after (leaf / 16 ^ 0) ≡ Some bytes.now = ap (get after) (div-one leaf) ∙ leaf_left m (Write leaf bytes ∷ []) leaf b ∙ ap (λ w. leaf_after w (get (contents m) leaf)) said_is in
    let one = made (is_touched m ch (key_over leaf 0)) touched (list_any (covers (key_over leaf 0)) (keys after)) _ (get m (key_over leaf 0)) (sym (get-rewrite m ch g number (key_over leaf 0) (omega arith)) ∙ there) in
    sym (ap (λ (x : Cell). x.bytes) one) ∙ ap (λ o. unwrap_or o []) left
  where
    made : (t : Bool) → t ≡ true → (a : Bool) (y : Cell) (o : Option Cell) → cond t (cond a (Some y) None) o ≡ Some c → y ≡ c
    made true t true y o e = same_value y c e
    made true t false y o e = absurd (no_value c e)
    made false t a y o e = absurd (true≢false (sym t))
