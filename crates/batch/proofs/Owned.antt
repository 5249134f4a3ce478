-- What a key makes and what it lets go.
use Rattle.std.proofs.Common.{◌≡◌, ℕ, suc, ◌+◌, ◌<◌, ◌≤◌, Bool, true, false, cond, List, [], ◌∷◌, length, map, Option, Some, None, refl, sym, ap, subst, ◌∙◌, arith, inl, inr, ⊎_elim, true≢false}
use Rattle.std.specs.Prelude.{is_some, nat_le, not, ◌&&◌, count_by}
use Rattle.std.specs.Option.{option_map}
use Rattle.std.proofs.lemmas.Bool.{le-leb, leb-true, cases_lt}
use Rattle.std.proofs.lemmas.List.Sums.{sum_by-cons}
use Rattle.base.specs.declared.number.Key.{Key}
use Rattle.base.specs.declared.number.Dead.{Dead}
use Rattle.base.specs.Map.{Cell, Block}
use Rattle.base.specs.Surveys.{IsIn, dead_block}
use Rattle.batch.specs.declared.findings.Claim.{Claim}
use Rattle.node.specs.Shape.{Part}
use Rattle.batch.specs.Touch.{claim_of, let_go, own_block, young_one}
use Rattle.node.specs.Cells.{dead_of}
use Rattle.batch.specs.Build.{is_fresh}
use Rattle.batch.specs.Numbers.{is_young}
use Rattle.node.proofs.Options.{same_value}
use Rattle.batch.proofs.Falling.{Falls}

pub claim_in : (t p : Bool) (k : Key) (y : ℕ) (d : Option Dead) (c : Claim) → IsIn (claim_of t p k y d) c → (t ≡ true) × (p ≡ true) × (c ≡ record { key = k; kept = young_one y d })
claim_in true true k y d c h = ⊎_elim (λ e. (refl, refl, e)) (λ r. absurd r) h
claim_in true false k y d c h = absurd h
claim_in false p k y d c h = absurd h

pub in_claim : (t p : Bool) (k : Key) (y : ℕ) (d : Option Dead) → t ≡ true → p ≡ true → IsIn (claim_of t p k y d) (record { key = k; kept = young_one y d })
in_claim true true k y d a b = inl refl
in_claim true false k y d a b = absurd (true≢false (sym b))
in_claim false p k y d a b = absurd (true≢false (sym a))

one_of : (b : Bool) (d x : Dead) → IsIn (cond b (d ∷ []) []) x → (b ≡ true) × (x ≡ d)
one_of true d x h = ⊎_elim (λ e. (refl, e)) (λ r. absurd r) h
one_of false d x h = absurd h

of_one : (b : Bool) (d : Dead) → b ≡ true → IsIn (cond b (d ∷ []) []) d
of_one true d e = inl refl
of_one false d e = absurd (true≢false (sym e))

goes_when : (t p v : Bool) → (t && not (p && v)) ≡ true → (t ≡ true) × (p ≡ true → v ≡ false)
goes_when true true true e = absurd (true≢false (sym e))
goes_when true true false e = (refl, λ _. refl)
goes_when true false v e = (refl, λ f. absurd (true≢false (sym f)))
goes_when false p v e = absurd (true≢false (sym e))

when_goes : (t p v : Bool) → t ≡ true → (p ≡ true → v ≡ true → ⊥) → (t && not (p && v)) ≡ true
when_goes true true true e h = absurd (h refl refl)
when_goes true true false e h = refl
when_goes true false v e h = refl
when_goes false p v e h = absurd (true≢false (sym e))

not_young : (y b : ℕ) → nat_le y b ≡ false → b < y
not_young y b e = ⊎_elim (λ l. l) (λ l. absurd (true≢false (sym (le-leb y b l) ∙ e))) (cases_lt b y)

pub gone_in : (t p : Bool) (y : ℕ) (d : Option Dead) (x : Dead) → IsIn (let_go t p y d) x → (t ≡ true) × (d ≡ Some x) × (p ≡ true → x.birth.0 < y)
gone_in t p y None x h = absurd h
gone_in t p y (Some d) x h =
    let o = one_of (t && not (p && nat_le y d.birth.0)) d x h in
    let w = goes_when t p (nat_le y d.birth.0) o.0 in
    (w.0, ap Some (sym o.1), λ e. let b = not_young y d.birth.0 (w.1 e) in let s = ap (λ (z : Dead). z.birth.0) o.1 in omega (arith, b, s))

pub in_gone : (t p : Bool) (y : ℕ) (d : Option Dead) (x : Dead) → t ≡ true → d ≡ Some x → (p ≡ true → y ≤ x.birth.0 → ⊥) → IsIn (let_go t p y d) x
in_gone t p y None x a e h = cc
in_gone t p y (Some d) x a e h =
    let s : d ≡ x = same_value d x e in
    subst (IsIn (let_go t p y (Some d))) s (of_one _ d (when_goes t p (nat_le y d.birth.0) a (λ f v. h f (let l = leb-true y d.birth.0 v in let b = ap (λ (z : Dead). z.birth.0) s in omega (arith, l, b)))))

-- lists by their keys
pub keyed : Key → List Dead → List (Key × Dead)
keyed k = map (λ d. (k, d))

pub keyed_values : (k : Key) (ds : List Dead) → map (λ (e : Key × Dead). e.1) (keyed k ds) ≡ ds
unfolding keyed
keyed_values k [] = refl
keyed_values k (d ∷ ds) = ap (λ xs. d ∷ xs) (keyed_values k ds)

pub keyed_in : (k : Key) (ds : List Dead) (e : Key × Dead) → IsIn (keyed k ds) e → (e.0 ≡ k) × IsIn ds e.1
unfolding keyed
keyed_in k [] e h = absurd h
keyed_in k (d ∷ ds) e h = ⊎_elim (λ s. (ap (λ (z : Key × Dead). z.0) s, inl (ap (λ (z : Key × Dead). z.1) s))) (λ r. let p = keyed_in k ds e r in (p.0, inr p.1)) h

pub in_keyed : (k : Key) (ds : List Dead) (d : Dead) → IsIn ds d → IsIn (keyed k ds) (k, d)
unfolding keyed
in_keyed k [] d h = absurd h
in_keyed k (x ∷ ds) d h = ⊎_elim (λ s. inl (ap (λ (z : Dead). (k, z)) s)) (λ r. inr (in_keyed k ds d r)) h

pub keyed_falls : (k : Key) (t p : Bool) (y : ℕ) (d : Option Dead) → Falls (map (λ (e : Key × Dead). e.0) (keyed k (let_go t p y d)))
unfolding keyed
keyed_falls k t p y None = tt
keyed_falls k t p y (Some d) = one (t && not (p && nat_le y d.birth.0))
  where
    one : (b : Bool) → Falls (map (λ (e : Key × Dead). e.0) (map (λ d. (k, d)) (cond b (d ∷ []) [])))
    one true = ((λ x h. absurd h), tt)
    one false = tt

pub claim_falls : (t p : Bool) (k : Key) (y : ℕ) (d : Option Dead) → Falls (map (λ (c : Claim). c.key) (claim_of t p k y d))
claim_falls true true k y d = ((λ x h. absurd h), tt)
claim_falls true false k y d = tt
claim_falls false p k y d = tt

-- a cell's block
pub own_cell : (q : Option Part) (d : Dead) → own_block q ≡ Some d → (c : Cell) × (option_map (λ (p : Part). p.cell) q ≡ Some c) × (dead_of c ≡ d)
own_cell None d e = cc
own_cell (Some p) d e = (p.cell, refl, same_value (dead_of p.cell) d e)

pub cell_own : (q : Option Part) (c : Cell) → option_map (λ (p : Part). p.cell) q ≡ Some c → own_block q ≡ Some (dead_of c)
cell_own None c e = cc
cell_own (Some p) c e = ap (λ (x : Cell). Some (dead_of x)) (same_value p.cell c e)

pub young_of : (y : ℕ) (o : Option Dead) (d : Dead) → young_one y o ≡ Some d → (o ≡ Some d) × (y ≤ d.birth.0)
young_of y None d e = cc
young_of y (Some x) d e = by (nat_le y x.birth.0) refl e
  where
    by : (b : Bool) → nat_le y x.birth.0 ≡ b → cond b (Some x) None ≡ Some d → (Some x ≡ Some d) × (y ≤ d.birth.0)
    by true l e = let s : x ≡ d = same_value x d e in let h = leb-true y x.birth.0 l in let b = ap (λ (z : Dead). z.birth.0) s in (e, omega (arith, h, b))
    by false l e = cc

pub of_young : (y : ℕ) (o : Option Dead) (d : Dead) → o ≡ Some d → y ≤ d.birth.0 → young_one y o ≡ Some d
of_young y o d e h = ap (young_one y) e ∙ ap (λ b. cond b (Some d) None) (le-leb y d.birth.0 h)

-- counts
pub is_kept : Claim → Bool
is_kept c = is_some c.kept

one_count : {A : Type 0} (p : A → Bool) (x : A) → count_by p (x ∷ []) ≡ cond (p x) 1 0
one_count p x = sum_by-cons (λ z. cond (p z) 1 0) x [] ∙ add_none (cond (p x) 1 0)
  where
    add_none : (n : ℕ) → n + 0 ≡ n
    add_none n = omega arith

pub own_count : (t p : Bool) (k : Key) (y : ℕ) (d : Option Dead) → count_by (is_young y) (let_go t false y d) ≡ count_by (is_young y) (let_go t p y d) + count_by is_kept (claim_of t p k y d)
unfolding is_kept
own_count false p k y None = refl
own_count false p k y (Some d) = refl
own_count true true k y None = let e = one_count is_kept (record { key = k; kept = None }) in omega (arith, e)
own_count true false k y None = refl
own_count true false k y (Some d) = omega arith
own_count true true k y (Some d) = by (nat_le y d.birth.0) refl
  where
    by : (b : Bool) → nat_le y d.birth.0 ≡ b → count_by (is_young y) (d ∷ []) ≡ count_by (is_young y) (cond (not b) (d ∷ []) []) + count_by is_kept (record { key = k; kept = cond b (Some d) None } ∷ [])
    by true e = let a = one_count (is_young y) d in let v : ◌≡◌ {A = ℕ} (cond (is_young y d) 1 0) 1 = rw e refl in let c = one_count is_kept (record { key = k; kept = Some d }) in omega (arith, a, v, c)
    by false e = let c = one_count is_kept (record { key = k; kept = None }) in omega (arith, c)

pub count_claims : (cs : List Claim) → length cs ≡ count_by is_fresh cs + count_by is_kept cs
unfolding is_kept
count_claims [] = refl
count_claims (c ∷ cs) = by c.kept refl (count_claims cs)
  where
    by : (o : Option Dead) → c.kept ≡ o → length cs ≡ count_by is_fresh cs + count_by (λ (c : Claim). is_some c.kept) cs → suc (length cs) ≡ count_by is_fresh (c ∷ cs) + count_by (λ (c : Claim). is_some c.kept) (c ∷ cs)
    by None e h = let a = sum_by-cons (λ z. cond (is_fresh z) 1 0) c cs in let b = sum_by-cons (λ (z : Claim). cond (is_some z.kept) 1 0) c cs in let u : ◌≡◌ {A = ℕ} (cond (is_fresh c) 1 0) 1 = rw e refl in let v : ◌≡◌ {A = ℕ} (cond (is_some c.kept) 1 0) 0 = rw e refl in omega (arith, a, b, u, v, h)
    by (Some d) e h = let a = sum_by-cons (λ z. cond (is_fresh z) 1 0) c cs in let b = sum_by-cons (λ (z : Claim). cond (is_some z.kept) 1 0) c cs in let u : ◌≡◌ {A = ℕ} (cond (is_fresh c) 1 0) 0 = rw e refl in let v : ◌≡◌ {A = ℕ} (cond (is_some c.kept) 1 0) 1 = rw e refl in omega (arith, a, b, u, v, h)

pub young_blocks : (y : ℕ) (ds : List Dead) → count_by (λ (b : Block). nat_le y b.birth) (map dead_block ds) ≡ count_by (is_young y) ds
young_blocks y [] = refl
young_blocks y (d ∷ ds) = let a = sum_by-cons (λ (b : Block). cond (nat_le y b.birth) 1 0) (dead_block d) (map dead_block ds) in let b = sum_by-cons (λ (z : Dead). cond (is_young y z) 1 0) d ds in let r = young_blocks y ds in omega (arith, a, b, r)
