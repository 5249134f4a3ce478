-- An index of kept snapshots, as one more comes behind the others or before them.
use Rattle.std.proofs.Common.{◌≡◌, ℕ, Bool, true, false, cond, List, [], ◌∷◌, ◌++◌, Option, Some, None, is_some, true≢false, refl, sym, ap, ◌∙◌}
use Rattle.std.specs.Prelude.{if◌then◌else◌, Result, Ok, Err, OnOk}
use Rattle.std.specs.Cmp.Lexicographic.{same_text}
use Rattle.std.specs.List.{find}
use Rattle.std.specs.Borrow.{Bor}
use Rattle.std.specs.Result.{is_err}
use Rattle.std.specs.Option.{option_or, option_copied}
use Rattle.base.specs.Names.{same_name}
use Rattle.snapshots.specs.declared.kept.Kept.{Kept}

find_more : (p : Kept → Bool) (ks : List Kept) (k : Kept) → find p (ks ++ k ∷ []) ≡ option_or (find p ks) (cond (p k) (Some k) None)
find_more p [] k = refl
find_more p (x ∷ ks) k = by (p x) (find_more p ks k)
  where
    by : (b : Bool) → find p (ks ++ k ∷ []) ≡ option_or (find p ks) (cond (p k) (Some k) None)
        → cond b (Some x) (find p (ks ++ k ∷ [])) ≡ option_or (cond b (Some x) (find p ks)) (cond (p k) (Some k) None)
    by true rest = refl
    by false rest = rest

-- one more behind what an index is of, where by each name the index has the first
pub index_behind : (b c ks : List Kept) (k : Kept) → ((q : List ℕ) → find (λ x. same_name x.snapshot.name q) b ≡ find (λ x. same_name x.snapshot.name q) ks)
    → ((q : List ℕ) → find (λ x. same_name x.snapshot.name q) c ≡ option_or (find (λ x. same_name x.snapshot.name q) b) (if same_name k.snapshot.name q then Some k else None))
    → (q : List ℕ) → find (λ x. same_name x.snapshot.name q) c ≡ find (λ x. same_name x.snapshot.name q) (ks ++ k ∷ [])
index_behind b c ks k own more q =
    more q
    ∙ ap (λ o. option_or o (cond (same_name k.snapshot.name q) (Some k) None)) (own q)
    ∙ sym (find_more (λ x. same_name x.snapshot.name q) ks k)

-- none to fall back on
pub or_none : (o : Option Kept) → option_or o None ≡ o
or_none None = refl
or_none (Some x) = refl

-- and one more before it, where none has its name
pub index_before : (b c ks : List Kept) (k : Kept) → ((q : List ℕ) → find (λ x. same_name x.snapshot.name q) b ≡ find (λ x. same_name x.snapshot.name q) ks)
    → find (λ x. same_name x.snapshot.name k.snapshot.name) ks ≡ None
    → ((q : List ℕ) → find (λ x. same_name x.snapshot.name q) c ≡ option_or (find (λ x. same_name x.snapshot.name q) b) (if same_name k.snapshot.name q then Some k else None))
    → (q : List ℕ) → find (λ x. same_name x.snapshot.name q) c ≡ find (λ x. same_name x.snapshot.name q) (k ∷ ks)
index_before b c ks k own none more q = more q ∙ ap (λ o. option_or o (cond (same_name k.snapshot.name q) (Some k) None)) (own q) ∙ by (same_name k.snapshot.name q) refl
  where
    by : (t : Bool) → same_name k.snapshot.name q ≡ t
        → option_or (find (λ x. same_name x.snapshot.name q) ks) (cond t (Some k) None) ≡ cond t (Some k) (find (λ x. same_name x.snapshot.name q) ks)
    by true e =
        let same : k.snapshot.name ≡ q = same_text k.snapshot.name q (sym e) in
        ap (λ o. option_or o (Some k)) (ap (λ n. find (λ x. same_name x.snapshot.name n) ks) (sym same) ∙ none)
    by false e = or_none (find (λ x. same_name x.snapshot.name q) ks)

-- a look-up that gives nothing
pub none_found : (r : Option (Bor Kept)) (f : Option Kept) → option_copied r ≡ f → is_some r ≡ false → f ≡ None
none_found None f is h = sym is
none_found (Some k) f is h = absurd (true≢false h)

-- what holds on success holds where it isn't refused
pub not_err : {T E P : Type 0} (r : Result T E) → OnOk r P → is_err r ≡ false → P
not_err (Ok v) p h = p
not_err (Err e) p h = absurd (true≢false h)
