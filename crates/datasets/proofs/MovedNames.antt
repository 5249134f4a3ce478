-- A name below one name, put below another, is a name.
use Rattle.std.proofs.Common.{◌≡◌, ℕ, ◌<◌, Bool, true, false, ◌&&◌, cond, List, [], ◌∷◌, ◌++◌, refl, sym, ap, ◌∙◌, true≢false, length, drop, Option, Some, None, Ok, Err, ⊎_elim, subst, arith}
use Rattle.std.specs.Prelude.{◌==◌, nat_lt}
use Rattle.std.specs.List.{list_all, slice_split, onto_first}
use Rattle.std.proofs.lemmas.List.Splits.{slice_split-cons_yes, slice_split-cons_no}
use Rattle.std.proofs.lemmas.List.Folds.{list_all-append}
use Rattle.std.specs.Prelude.{IfOk, IfErr, Result}
use Rattle.std.proofs.lemmas.Bool.{eqb-true}
use Rattle.base.specs.Names.{slash, name_limit, is_component, is_name}
use Rattle.base.specs.Reading.{Reads, name_of}
use Rattle.base.specs.declared.refusal.Refusal.{Refusal}
use Rattle.base.specs.declared.refusal.Refusal.TheVariants.{NoMemory}
use Rattle.world.proofs.lists.Finding.{append_none}
use Rattle.model.specs.Hierarchy.{is_in_family}
use Rattle.world.proofs.lists.Names.{goes_on, behind}

-- the components of a name
abbrev parts_of : List ℕ → List (List ℕ)
parts_of = slice_split (λ b. b == 47)

-- a byte onto the first of some lists comes before those that follow
onto_first_append : (x : ℕ) (xs : List ℕ) (ys : List (List ℕ)) → onto_first x (parts_of xs ++ ys) ≡ onto_first x (parts_of xs) ++ ys
onto_first_append x xs ys = at (parts_of xs) (some xs)
  where
    at : (ps : List (List ℕ)) → 0 < length ps → onto_first x (ps ++ ys) ≡ onto_first x ps ++ ys
    at [] l = absurd (omega (arith, l))
    at (p ∷ ps) l = refl

    onto : (b : ℕ) (ps : List (List ℕ)) → 0 < length (onto_first b ps)
    onto b [] = omega arith
    onto b (p ∷ ps) = omega arith

    more : (b : ℕ) (bs : List ℕ) (t : Bool) → 0 < length (cond t ([] ∷ parts_of bs) (onto_first b (parts_of bs)))
    more b bs true = omega arith
    more b bs false = onto b (parts_of bs)

    some : (xs : List ℕ) → 0 < length (parts_of xs)
    some [] = omega arith
    some (b ∷ bs) = more b bs (b == 47)

-- the components of two names that a `/` joins
joined : (xs ys : List ℕ) → parts_of (xs ++ slash ∷ ys) ≡ parts_of xs ++ parts_of ys
joined [] ys = refl
joined (b ∷ bs) ys = at (joined bs ys) (b == 47) refl
  where
    at : parts_of (bs ++ slash ∷ ys) ≡ parts_of bs ++ parts_of ys → (t : Bool) → (b == 47) ≡ t → parts_of (b ∷ bs ++ slash ∷ ys) ≡ parts_of (b ∷ bs) ++ parts_of ys
    at h true e =
        slice_split-cons_yes (λ b. b == 47) b (bs ++ slash ∷ ys) e ∙ ap (λ z. [] ∷ z) h
        ∙ ap (λ z. z ++ parts_of ys) (sym (slice_split-cons_yes (λ b. b == 47) b bs e))
    at h false e =
        slice_split-cons_no (λ b. b == 47) b (bs ++ slash ∷ ys) e ∙ ap (onto_first b) h
        ∙ onto_first_append b bs (parts_of ys)
        ∙ ap (λ z. z ++ parts_of ys) (sym (slice_split-cons_no (λ b. b == 47) b bs e))

-- the components of a name are components
components : (xs : List ℕ) → is_name xs ≡ true → list_all is_component (parts_of xs) ≡ true
components xs e = at (nat_lt name_limit (length xs)) e
  where
    at : (t : Bool) → cond t false (list_all is_component (parts_of xs)) ≡ true → list_all is_component (parts_of xs) ≡ true
    at true e = absurd (true≢false (sym e))
    at false e = e

and_right : (x y : Bool) → (x && y) ≡ true → y ≡ true
and_right true y e = e
and_right false y e = absurd (true≢false (sym e))

-- what stands below one name is a name below another, where it is short enough
pub is_name_moved : (from to rest : List ℕ) → is_name to ≡ true → is_name (from ++ slash ∷ rest) ≡ true → nat_lt name_limit (length (to ++ slash ∷ rest)) ≡ false
    → is_name (to ++ slash ∷ rest) ≡ true
is_name_moved from to rest is below short =
    let tail = and_right (list_all is_component (parts_of from)) (list_all is_component (parts_of rest))
    (sym (list_all-append is_component (parts_of from) (parts_of rest)) ∙ ap (list_all is_component) (sym (joined from rest)) ∙ components (from ++ slash ∷ rest) below) in
    let all = ap (list_all is_component) (joined to rest) ∙ list_all-append is_component (parts_of to) (parts_of rest)
    ∙ ap (λ t. t && list_all is_component (parts_of rest)) (components to is) ∙ tail in
    ap (λ t. cond t false (list_all is_component (parts_of (to ++ slash ∷ rest)))) short ∙ all

-- ---- such a name read

-- what reading gives is a name
pub is_read : (bs x : List ℕ) → name_of bs ≡ Some x → is_name bs ≡ true
unfolding name_of
is_read bs x e = at (is_name bs) e
  where
    at : (t : Bool) → cond t (Some bs) None ≡ Some x → t ≡ true
    at true e = refl
    at false e = absurd cc

-- a name of a family, put below another name, is read
pub moved_is_read : (from to name : List ℕ) → name_of to ≡ Some to → name_of name ≡ Some name → is_in_family from name ≡ true
    → nat_lt name_limit (length (to ++ drop (length from) name)) ≡ false → name_of (to ++ drop (length from) name) ≡ Some (to ++ drop (length from) name)
unfolding name_of
moved_is_read from to name to_read name_read family short =
    let is = is_read to to to_read in
    let old = is_read name name name_read in
    let k = behind from name family in
    ap (λ t. cond t (Some (to ++ drop (length from) name)) None) (by is (drop (length from) name) (subst (λ n. is_name n ≡ true) k.0 old) k.1 short)
  where
    by : is_name to ≡ true → (rest : List ℕ) → is_name (from ++ rest) ≡ true → goes_on rest ≡ true → nat_lt name_limit (length (to ++ rest)) ≡ false → is_name (to ++ rest) ≡ true
    by is [] below on few = ap is_name (append_none to) ∙ is
    by is (b ∷ bs) below on few =
        let at = eqb-true slash b on in
        subst (λ x. is_name (to ++ x ∷ bs) ≡ true) at
        (is_name_moved from to bs is (subst (λ x. is_name (from ++ x ∷ bs) ≡ true) (sym at) below) (subst (λ x. nat_lt name_limit (length (to ++ x ∷ bs)) ≡ false) (sym at) few))

-- so a reader gives it, or has no memory
pub reads_ok : (bs : List ℕ) (r : Result (List ℕ) Refusal) → Reads r (name_of bs) → name_of bs ≡ Some bs → IfOk r (λ n. n ≡ bs)
reads_ok bs (Ok x) h e = some_same (sym h ∙ e)
  where
    some_same : Some x ≡ Some bs → x ≡ bs
    some_same k = ap (λ (o : Option (List ℕ)). or_else o) k
      where
        or_else : Option (List ℕ) → List ℕ
        or_else None = bs
        or_else (Some y) = y
reads_ok bs (Err why) h e = tt

pub reads_err : (bs : List ℕ) (r : Result (List ℕ) Refusal) → Reads r (name_of bs) → name_of bs ≡ Some bs → IfErr r (λ why. why ≡ NoMemory)
reads_err bs (Ok x) h e = tt
reads_err bs (Err why) h e = ⊎_elim (λ k. k) (λ k. absurd (none_some (sym k.1 ∙ e))) h
  where
    none_some : None ≡ Some bs → ⊥
    none_some k = cc
