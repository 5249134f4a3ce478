-- Names that were seen, in a set that holds them by reference.
use Rattle.std.proofs.Common.{◌≡◌, ℕ, Bool, true, false, ◌||◌, List, [], ◌∷◌, refl, sym, ap, subst, ◌∙◌, Bor}
use Rattle.std.specs.Ordering.{nat_cmp, is_eq, match_ordering}
use Rattle.std.specs.declared.cmp.Ordering.{Ordering}
use Rattle.std.specs.declared.cmp.Ordering.TheVariants.{Less, Equal, Greater}
use Rattle.std.specs.Cmp.Lexicographic.{slice_cmp}
use Rattle.std.specs.BTreeSet.{insert_key}
use Rattle.std.specs.List.{list_any}
use Rattle.std.proofs.lemmas.Map.Text.{is_eq-slice_cmp}
use Rattle.base.specs.declared.name.member.Member.{Member}
use Rattle.base.specs.Names.{same_name}
use Rattle.model.specs.requests.Snapshot.{has_twice}
use Rattle.world.specs.Shapes.{name_order}

abbrev pub order : Bor (List ℕ) → Bor (List ℕ) → Ordering
order x y = slice_cmp nat_cmp x.now y.now

-- the name is one of these
abbrev pub has_name : List (Bor (List ℕ)) → List ℕ → Bool
has_name ks n = list_any (λ k. is_eq (slice_cmp nat_cmp n k.now)) ks

-- a file system of these was seen, or stands twice among them
abbrev pub twice_after : List (Bor (List ℕ)) → List Member → Bool
twice_after ks ms = list_any (λ m. has_name ks m.file_system) ms || has_twice ms

or_comm : (a b : Bool) → (a || b) ≡ (b || a)
or_comm true true = refl
or_comm true false = refl
or_comm false true = refl
or_comm false false = refl

or_assoc : (a b c : Bool) → (a || (b || c)) ≡ ((a || b) || c)
or_assoc true b c = refl
or_assoc false b c = refl

or_cross : (a b c d : Bool) → ((a || b) || (c || d)) ≡ ((a || c) || (b || d))
or_cross true b c d = refl
or_cross false b true d = or_comm b true
or_cross false b false d = refl

-- a key that is there already adds nothing
or_again : (a b : Bool) → (a || b) ≡ ((a || b) || a)
or_again true b = refl
or_again false true = refl
or_again false false = refl

has_added : (ks : List (Bor (List ℕ))) (k : Bor (List ℕ)) (n : List ℕ) → has_name (insert_key order ks k) n ≡ (has_name ks n || is_eq (slice_cmp nat_cmp n k.now))
has_added [] k n = or_comm (is_eq (slice_cmp nat_cmp n k.now)) false
has_added (x ∷ ks) k n = at (order k x) refl (has_added ks k n)
  where
    p : Bor (List ℕ) → Bool
    p y = is_eq (slice_cmp nat_cmp n y.now)

    at : (o : Ordering) → order k x ≡ o → has_name (insert_key order ks k) n ≡ (has_name ks n || is_eq (slice_cmp nat_cmp n k.now))
        → has_name (match_ordering o (k ∷ x ∷ ks) (x ∷ ks) (x ∷ insert_key order ks k)) n ≡ ((is_eq (slice_cmp nat_cmp n x.now) || has_name ks n) || is_eq (slice_cmp nat_cmp n k.now))
    at Less e ih = or_comm (is_eq (slice_cmp nat_cmp n k.now)) (is_eq (slice_cmp nat_cmp n x.now) || has_name ks n)
    at Equal e ih =
        subst (λ (l : List ℕ). (is_eq (slice_cmp nat_cmp n x.now) || has_name ks n) ≡ ((is_eq (slice_cmp nat_cmp n x.now) || has_name ks n) || is_eq (slice_cmp nat_cmp n l)))
        (sym (name_order.exact k.now x.now e)) (or_again (is_eq (slice_cmp nat_cmp n x.now)) (has_name ks n))
    at Greater e ih = ap (λ b. is_eq (slice_cmp nat_cmp n x.now) || b) ih ∙ or_assoc (is_eq (slice_cmp nat_cmp n x.now)) (has_name ks n) (is_eq (slice_cmp nat_cmp n k.now))

any_added : (ks : List (Bor (List ℕ))) (k : Bor (List ℕ)) (ms : List Member)
    → list_any (λ m. has_name (insert_key order ks k) m.file_system) ms ≡ (list_any (λ m. has_name ks m.file_system) ms || list_any (λ m. same_name m.file_system k.now) ms)
any_added ks k [] = refl
any_added ks k (m ∷ ms) =
    (λ i. (has_added ks k m.file_system ∙ ap (λ b. has_name ks m.file_system || b) (is_eq-slice_cmp m.file_system k.now)) i || any_added ks k ms i)
    ∙ or_cross (has_name ks m.file_system) (same_name m.file_system k.now) (list_any (λ m. has_name ks m.file_system) ms) (list_any (λ m. same_name m.file_system k.now) ms)

pub twice_first : (ms : List Member) → twice_after [] ms ≡ has_twice ms
twice_first ms = ap (λ b. b || has_twice ms) (none ms)
  where
    none : (ms : List Member) → list_any (λ (m : Member). false) ms ≡ false
    none [] = refl
    none (m ∷ ms) = none ms

pub twice_here : (ks : List (Bor (List ℕ))) (m : Member) (ms : List Member) → has_name ks m.file_system ≡ true → twice_after ks (m ∷ ms) ≡ true
twice_here ks m ms e = ap (λ b. (b || list_any (λ m. has_name ks m.file_system) ms) || has_twice (m ∷ ms)) e

pub twice_later : (ks : List (Bor (List ℕ))) (k : Bor (List ℕ)) (m : Member) (ms : List Member) → k.now ≡ m.file_system → has_name ks m.file_system ≡ false
    → twice_after ks (m ∷ ms) ≡ twice_after (insert_key order ks k) ms
twice_later ks k m ms is e =
    ap (λ b. (b || list_any (λ m. has_name ks m.file_system) ms) || has_twice (m ∷ ms)) e
    ∙ subst (λ (l : List ℕ). (list_any (λ m. has_name ks m.file_system) ms || (list_any (λ n. same_name n.file_system l) ms || has_twice ms)) ≡ twice_after (insert_key order ks k) ms)
    is
    (or_assoc (list_any (λ m. has_name ks m.file_system) ms) (list_any (λ n. same_name n.file_system k.now) ms) (has_twice ms) ∙ ap (λ b. b || has_twice ms) (sym (any_added ks k ms)))
