-- What a rewrite leaves and what it makes.
use Rattle.std.proofs.Common.{◌≡◌, ℕ, ◌+◌, ◌-◌, ◌≤◌, ◌/◌, ◌^◌, Bool, true, false, cond, ◌||◌, ◌&&◌, List, [], ◌∷◌, ◌++◌, Option, Some, None, refl, sym, ap, ◌∙◌, arith, true≢false}
use Rattle.std.specs.Prelude.{◌==◌, nat_le, IsTrue, unwrap_or}
use Rattle.std.specs.Ordering.{eq_by_cmp}
use Rattle.std.specs.List.{list_any, flat_map}
use Rattle.std.specs.FinMap.{get, keys}
use Rattle.std.proofs.lemmas.Bool.{eqb-true, eq-eqb, leb-true, and_parts}
use Rattle.std.proofs.lemmas.Nat.{pow-add}
use Rattle.std.proofs.Math.Nat.{div-div-eq-div-mul}
use Rattle.base.specs.declared.number.Key.{Key}
use Rattle.base.specs.Key.{key_cmp, covers, path, is_at_or_below}
use Rattle.base.specs.Map.{Cell, Map, Contents, contents}
use Rattle.base.specs.Rewrite.{Changes, rewrite, cell_after, new_cell, changed_contents, is_touched}
use Rattle.base.proofs.RewriteLaw.{get-rewrite_any, absent_key}

same_value : {X : Type 0} (x y : X) → Some x ≡ Some y → x ≡ y
same_value x y e = cc

no_value : {X : Type 0} (x : X) → None ≡ Some x → ⊥
no_value x e = cc

-- a leaf below a key below another is below that one
covers_up : (k q : Key) (leaf : ℕ) → IsTrue (is_at_or_below k q) → covers q leaf ≡ true → covers k leaf ≡ true
covers_up k q leaf h e =
    let parts = and_parts (nat_le q.level k.level) (q.index / 16 ^ (k.level - q.level) == k.index) h in
    let le : q.level ≤ k.level = leb-true q.level k.level parts.0 in
    let at : q.index / 16 ^ (k.level - q.level) ≡ k.index = eqb-true _ _ parts.1 in
    let below : leaf / 16 ^ q.level ≡ q.index = eqb-true _ _ e in
    let sum : q.level + (k.level - q.level) ≡ k.level = omega arith in
    eq-eqb (leaf / 16 ^ k.level) k.index
    (ap (λ n. leaf / 16 ^ n) (sym sum) ∙ ap (λ n. leaf / n) (pow-add 16 q.level (k.level - q.level))
    ∙ sym (div-div-eq-div-mul leaf (16 ^ q.level) (16 ^ (k.level - q.level))) ∙ ap (λ n. n / 16 ^ (k.level - q.level)) below ∙ at)

-- what is true of no leaf under one test is true of none under a narrower one
any_narrower : (p q : ℕ → Bool) → ((x : ℕ) → q x ≡ true → p x ≡ true) → (xs : List ℕ) → list_any p xs ≡ false → list_any q xs ≡ false
any_narrower p q h [] e = refl
any_narrower p q h (x ∷ xs) e = at (p x) (q x) (h x) e (any_narrower p q h xs)
  where
    at : (a b : Bool) → (b ≡ true → a ≡ true) → (a || list_any p xs) ≡ false → (list_any p xs ≡ false → list_any q xs ≡ false) → (b || list_any q xs) ≡ false
    at true b f e r = absurd (true≢false e)
    at false true f e r = absurd (true≢false (sym (f refl)))
    at false false f e r = r e

both_false : (a b : Bool) → (a || b) ≡ false → (a ≡ false) × (b ≡ false)
both_false true b e = absurd (true≢false e)
both_false false b e = (refl, e)

none_either : (a b : Bool) → a ≡ false → b ≡ false → (a || b) ≡ false
none_either true b e f = e
none_either false b e f = f

narrower_and : (p a b : Bool) → (b ≡ true → a ≡ true) → (p && b) ≡ true → (p && a) ≡ true
narrower_and true a b h e = h e
narrower_and false a b h e = e

-- where a key isn't touched, none below it is
pub untouched_below : (m : Map) (c : Changes) (k q : Key) → is_touched m c k ≡ false → IsTrue (is_at_or_below k q) → is_touched m c q ≡ false
unfolding is_touched
untouched_below m c k q e h =
    let parts = both_false (list_any (covers k) (keys c.writes)) (list_any (λ leaf. c.punches leaf && covers k leaf) (keys (contents m))) e in
    none_either _ _
    (any_narrower (covers k) (covers q) (λ leaf. covers_up k q leaf h) (keys c.writes) parts.0)
    (any_narrower (λ leaf. c.punches leaf && covers k leaf) (λ leaf. c.punches leaf && covers q leaf) (λ leaf. narrower_and (c.punches leaf) (covers k leaf) (covers q leaf) (covers_up k q leaf h)) (keys (contents m)) parts.1)

module _ (m : Map) (c : Changes) (g : ℕ) (number : Key → ℕ) where
  after_untouched : (k : Key) → is_touched m c k ≡ false → cell_after m c g number k ≡ get m k
  unfolding cell_after
  after_untouched k e = rw e refl

  after_touched : (k : Key) → is_touched m c k ≡ true → cell_after m c g number k ≡ new_cell (changed_contents (contents m) c) g number k
  unfolding cell_after
  after_touched k e = rw e refl

  new_cell_is : (after : Contents) (k : Key) (x : Cell) → new_cell after g number k ≡ Some x → (x.number ≡ number k) × (x.birth ≡ g)
  unfolding new_cell
  new_cell_is after k x e = at (list_any (covers k) (keys after)) e
    where
      at : (b : Bool) → cond b (Some (record { number = number k; birth = g; bytes = cond (k.level == 0) (unwrap_or (get after k.index) []) [] })) None ≡ Some x → (x.number ≡ number k) × (x.birth ≡ g)
      at true f = let s = same_value _ x f in (ap (λ (y : Cell). y.number) (sym s), ap (λ (y : Cell). y.birth) (sym s))
      at false f = absurd (no_value x f)

  choose : (b : Bool) (x y : Option Cell) → (b ≡ false → y ≡ None) → x ≡ y → cond b x None ≡ y
  choose true x y h e = e
  choose false x y h e = sym (h refl)

  taken_from : (b : Bool) (x : Option Cell) (y : Cell) → cond b x None ≡ Some y → x ≡ Some y
  taken_from true x y e = e
  taken_from false x y e = absurd (no_value y e)

  -- a key that isn't touched keeps its cell
  pub rewrite_keeps : (k : Key) → is_touched m c k ≡ false → get (rewrite m c g number) k ≡ get m k
  rewrite_keeps k e =
      get-rewrite_any m c g number k
      ∙ choose (list_any (eq_by_cmp key_cmp k) (keys m ++ flat_map path (keys (changed_contents (contents m) c)))) _ _ (absent_key m (flat_map path (keys (changed_contents (contents m) c))) k) (after_untouched k e)

  -- one that is touched and stays has the number chosen for it, and was born in the group
  pub rewrite_makes : (k : Key) (x : Cell) → is_touched m c k ≡ true → get (rewrite m c g number) k ≡ Some x → (x.number ≡ number k) × (x.birth ≡ g)
  rewrite_makes k x e h = new_cell_is _ k x (sym (after_touched k e) ∙ taken_from _ _ x (sym (get-rewrite_any m c g number k) ∙ h))
