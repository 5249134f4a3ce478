-- Indexes of snapshots of which the first go, or to which others come before.
use Rattle.std.proofs.Common.{◌≡◌, ◌++◌, ◌∷◌, [], ℕ, Bool, true, false, true≢false, List, Option, None, Some, cond, is_some, refl, sym, ap, subst, ◌∙◌}
use Rattle.std.specs.List.{find}
use Rattle.std.specs.Option.{IsSome, IfSome}
use Rattle.std.specs.Prelude.{Result, Ok, Err, IfOk}
use Rattle.base.specs.declared.refusal.Refusal.{Refusal}
use Rattle.std.proofs.lemmas.List.{append-nil, append_assoc}
use Rattle.base.specs.Names.{same_name}
use Rattle.snapshots.specs.declared.kept.Kept.{Kept}
use Rattle.snapshots.specs.Index.{IsIndex, AreNamesOnce}
use Rattle.std.specs.Cmp.Lexicographic.{same_text}
use Rattle.snapshots.proofs.Names.{miss, from_not}
use Rattle.snapshots.proofs.Splices.{same_itself}

-- those that are done come last, and the index has them before the others
pub record IsMoving (all left others : List Kept) (by_name : Option (List Kept)) : Type 0 where
  pub done : List Kept
  pub split : all ≡ left ++ done
  pub index : IsIndex by_name (done ++ others)

-- those after some of snapshots of different names have different names
pub once_past : (xs ks : List Kept) → AreNamesOnce (xs ++ ks) → AreNamesOnce ks
once_past [] ks once = once
once_past (x ∷ xs) ks once = once_past xs ks once.1

-- the last one that is left is put before those that are done
pub move_one : (all left rest others : List Kept) (k : Kept) (was now : Option (List Kept)) → left ≡ rest ++ k ∷ [] → AreNamesOnce (all ++ others) → IsMoving all left others was
    → ((ks : List Kept) → find (λ j. same_name j.snapshot.name k.snapshot.name) ks ≡ None → IsIndex was ks → IsIndex now (k ∷ ks))
    → IsMoving all rest others now
move_one all left rest others k was now e once m put =
    let split : all ≡ rest ++ k ∷ m.done = m.split ∙ ap (λ ks. ks ++ m.done) e ∙ append_assoc rest (k ∷ []) m.done in
    let whole : AreNamesOnce (rest ++ k ∷ (m.done ++ others)) = subst AreNamesOnce (ap (λ ks. ks ++ others) split ∙ append_assoc rest (k ∷ m.done) others) once in
    record { done = k ∷ m.done; split = split; index = put (m.done ++ others) (once_past rest (k ∷ (m.done ++ others)) whole).0 m.index }

-- what snapshots have of a name an index over them has
pub in_index : (by_name : Option (List Kept)) (ks : List Kept) (name : List ℕ) → IsIndex by_name ks → IsSome (find (λ k. same_name k.snapshot.name name) ks)
    → IfSome by_name (λ index. IsSome (find (λ k. same_name k.snapshot.name name) index))
in_index None ks name index there = tt
in_index (Some b) ks name index there = subst IsSome (sym (index name)) there

-- the first has its name
pub first_named : (k : Kept) (ks : List Kept) (name : List ℕ) → name ≡ k.snapshot.name → IsSome (find (λ j. same_name j.snapshot.name name) (k ∷ ks))
first_named k ks name e = subst (λ n. IsSome (find (λ j. same_name j.snapshot.name n) (k ∷ ks))) (sym e) (ap (λ b. is_some (cond b (Some k) (find (λ j. same_name j.snapshot.name k.snapshot.name) ks))) (same_itself k.snapshot.name))

find_front : (p : Kept → Bool) (xs ys : List Kept) → find p (xs ++ ys) ≡ None → find p xs ≡ None
find_front p [] ys h = refl
find_front p (x ∷ xs) ys h =
    let both = miss (p x) x (find p (xs ++ ys)) h in
    ap (λ b. cond b (Some x) (find p xs)) both.0 ∙ find_front p xs ys both.1

-- the first of snapshots of different names have different names
pub once_first : (xs ys : List Kept) → AreNamesOnce (xs ++ ys) → AreNamesOnce xs
once_first [] ys once = tt
once_first (x ∷ xs) ys once = (find_front (λ j. same_name j.snapshot.name x.snapshot.name) xs ys once.0, once_first xs ys once.1)

find_back : (p : Kept → Bool) (xs ys : List Kept) → find p (xs ++ ys) ≡ None → find p ys ≡ None
find_back p [] ys h = h
find_back p (x ∷ xs) ys h = find_back p xs ys (miss (p x) x (find p (xs ++ ys)) h).1

find_none : (p : Kept → Bool) (xs ys : List Kept) → find p xs ≡ None → find p (xs ++ ys) ≡ find p ys
find_none p [] ys h = refl
find_none p (x ∷ xs) ys h =
    let both = miss (p x) x (find p xs) h in
    ap (λ b. cond b (Some x) (find p (xs ++ ys))) both.0 ∙ find_none p xs ys both.1

find_some : (p : Kept → Bool) (xs ys : List Kept) (k : Kept) → find p xs ≡ Some k → find p (xs ++ ys) ≡ Some k
find_some p [] ys k h = absurd (cc)
find_some p (x ∷ xs) ys k h = by_test (p x) (find_some p xs ys k) h
  where
    by_test : (b : Bool) → (find p xs ≡ Some k → find p (xs ++ ys) ≡ Some k) → cond b (Some x) (find p xs) ≡ Some k → cond b (Some x) (find p (xs ++ ys)) ≡ Some k
    by_test true ih e = e
    by_test false ih e = ih e

-- what the first of snapshots of different names have of a name the others haven't
find_once : (n : List ℕ) (xs ys : List Kept) (k : Kept) → AreNamesOnce (xs ++ ys) → find (λ j. same_name j.snapshot.name n) xs ≡ Some k → find (λ j. same_name j.snapshot.name n) ys ≡ None
find_once n [] ys k once h = absurd (cc)
find_once n (x ∷ xs) ys k once h = by_test (same_name x.snapshot.name n) refl (find_once n xs ys k once.1) h
  where
    by_test : (b : Bool) → same_name x.snapshot.name n ≡ b → (find (λ j. same_name j.snapshot.name n) xs ≡ Some k → find (λ j. same_name j.snapshot.name n) ys ≡ None)
        → cond b (Some x) (find (λ j. same_name j.snapshot.name n) xs) ≡ Some k → find (λ j. same_name j.snapshot.name n) ys ≡ None
    by_test true e ih g = subst (λ m. find (λ j. same_name j.snapshot.name m) ys ≡ None) (same_text x.snapshot.name n (sym e)) (find_back (λ j. same_name j.snapshot.name x.snapshot.name) xs ys once.0)
    by_test false e ih g = ih g

-- where not both have one, the order of two lists doesn't matter
find_either : (p : Kept → Bool) (xs ys : List Kept) → ((k : Kept) → find p xs ≡ Some k → find p ys ≡ None) → find p (xs ++ ys) ≡ find p (ys ++ xs)
find_either p xs ys one = by_found (find p xs) refl
  where
    by_other : find p xs ≡ None → (o : Option Kept) → find p ys ≡ o → find p ys ≡ find p (ys ++ xs)
    by_other e None f = f ∙ sym (find_none p ys xs f ∙ e)
    by_other e (Some k) f = f ∙ sym (find_some p ys xs k f)

    by_found : (o : Option Kept) → find p xs ≡ o → find p (xs ++ ys) ≡ find p (ys ++ xs)
    by_found None e = find_none p xs ys e ∙ by_other e (find p ys) refl
    by_found (Some k) e = find_some p xs ys k e ∙ sym (find_none p ys xs (one k e) ∙ e)

find_turned : (n : List ℕ) (xs ys : List Kept) → AreNamesOnce (xs ++ ys) → find (λ j. same_name j.snapshot.name n) (xs ++ ys) ≡ find (λ j. same_name j.snapshot.name n) (ys ++ xs)
find_turned n xs ys once = find_either (λ j. same_name j.snapshot.name n) xs ys (λ k e. find_once n xs ys k once e)

-- an index of snapshots of different names is one of them in another order
pub index_turned : (by_name : Option (List Kept)) (xs ys : List Kept) → AreNamesOnce (xs ++ ys) → IsIndex by_name (xs ++ ys) → IsIndex by_name (ys ++ xs)
index_turned None xs ys once index = tt
index_turned (Some b) xs ys once index = λ name. index name ∙ find_turned name xs ys once

-- and they are so in another order
pub once_turned : (xs ys : List Kept) → AreNamesOnce (xs ++ ys) → AreNamesOnce (ys ++ xs)
once_turned xs [] once = subst AreNamesOnce (append-nil xs) once
once_turned xs (y ∷ ys) once =
    let rest = without_middle xs ys once in
    (one_none ys xs rest.1, once_turned xs ys rest.0)
  where
    one_none : (zs ws : List Kept) → find (λ j. same_name j.snapshot.name y.snapshot.name) (ws ++ zs) ≡ None → find (λ j. same_name j.snapshot.name y.snapshot.name) (zs ++ ws) ≡ None
    one_none zs ws h =
        find_none (λ j. same_name j.snapshot.name y.snapshot.name) zs ws (find_back (λ j. same_name j.snapshot.name y.snapshot.name) ws zs h)
        ∙ find_front (λ j. same_name j.snapshot.name y.snapshot.name) ws zs h

    none_without : (p : Kept → Bool) (zs ws : List Kept) → find p (zs ++ y ∷ ws) ≡ None → (find p (zs ++ ws) ≡ None) × (p y ≡ false)
    none_without p [] ws h = let both = miss (p y) y (find p ws) h in (both.1, both.0)
    none_without p (z ∷ zs) ws h =
        let both = miss (p z) z (find p (zs ++ y ∷ ws)) h in
        let ih = none_without p zs ws both.1 in
        (ap (λ b. cond b (Some z) (find p (zs ++ ws))) both.0 ∙ ih.0, ih.1)

    turned_name : (a b : List ℕ) → same_name b a ≡ false → same_name a b ≡ false
    turned_name a b h = from_not (same_name a b) (λ e. true≢false (sym (ap (λ n. same_name n a) (sym (same_text a b (sym e))) ∙ same_itself a) ∙ h))

    without_middle : (zs ws : List Kept) → AreNamesOnce (zs ++ y ∷ ws) → AreNamesOnce (zs ++ ws) × (find (λ j. same_name j.snapshot.name y.snapshot.name) (zs ++ ws) ≡ None)
    without_middle [] ws o = (o.1, o.0)
    without_middle (z ∷ zs) ws o =
        let ih = without_middle zs ws o.1 in
        let n = none_without (λ j. same_name j.snapshot.name z.snapshot.name) zs ws o.0 in
        ((n.0, ih.0), ap (λ b. cond b (Some z) (find (λ j. same_name j.snapshot.name y.snapshot.name) (zs ++ ws))) (turned_name z.snapshot.name y.snapshot.name n.1) ∙ ih.1)

-- what is an index of the ones before the others is one of the others before them
pub index_either : (r : Result (Option (List Kept)) Refusal) (xs ys : List Kept) → AreNamesOnce (xs ++ ys) → IfOk r (λ b. IsIndex b (xs ++ ys)) → IfOk r (λ b. IsIndex b (ys ++ xs))
index_either (Ok b) xs ys once h = index_turned b xs ys once h
index_either (Err e) xs ys once h = h
