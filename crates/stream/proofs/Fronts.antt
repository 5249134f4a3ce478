-- What begins two equal lists of bytes is the same.
use Rattle.std.proofs.Common.{◌≡◌, ◌≢◌, ℕ, zero, suc, ◌*◌, ◌^◌, ◌<◌, ◌≤◌, List, [], ◌∷◌, ◌++◌, length, refl, sym, ap, subst, ◌∙◌, append_assoc, arith, length-append}
use Rattle.std.specs.List.{flat_map, AllByRecursion}
use Rattle.std.specs.Int.{w32, w64, to_be_bytes, from_be_bytes}
use Rattle.std.proofs.lemmas.List.{append_cancel_left}
use Rattle.std.proofs.lemmas.Nat.{from_be_bytes-to_be_bytes_4, from_be_bytes-to_be_bytes_8}
use Rattle.sha2.specs.Sha256.{sha256, digest_bytes}
use Rattle.base.specs.Key.{IsKey}
use Rattle.base.specs.declared.number.Key.{Key}
use Rattle.stream.specs.declared.record.Record.{Record}
use Rattle.stream.specs.declared.record.Record.TheVariants.{Write, Free}
use Rattle.stream.specs.Records.{start_of, end_of}
use Rattle.stream.specs.Spelling.{magic, header, record_bytes, IsRecord, AreApartFrom, AreGuids}
use Rattle.stream.specs.Reading.{HasNoNext}
use Rattle.stream.proofs.KeyBounds.{index_fits}

-- two fronts of one length
pub same_front : (a b x y : List ℕ) → length a ≡ length b → a ++ x ≡ b ++ y → (a ≡ b) × (x ≡ y)
same_front [] [] x y l e = (refl, e)
same_front [] (b ∷ bs) x y l e = absurd (omega arith)
same_front (a ∷ cs) [] x y l e = absurd (omega arith)
same_front (a ∷ cs) (b ∷ bs) x y l e =
    let rest : cs ++ x ≡ bs ++ y = cc in
    let shorter : length cs ≡ length bs = omega arith in
    let both = same_front cs bs x y shorter rest in
    let first : a ≡ b = cc in
    let others : cs ≡ bs = both.0 in
    (cc, both.1)

-- two numbers of 4 bytes
pub same_number_4 : (m n : ℕ) (x y : List ℕ) → m < 2 ^ 32 → n < 2 ^ 32 → to_be_bytes w32 m ++ x ≡ to_be_bytes w32 n ++ y → (m ≡ n) × (x ≡ y)
same_number_4 m n x y hm hn e =
    let both = same_front (to_be_bytes w32 m) (to_be_bytes w32 n) x y refl e in
    (sym (from_be_bytes-to_be_bytes_4 m hm) ∙ ap (from_be_bytes w32) both.0 ∙ from_be_bytes-to_be_bytes_4 n hn, both.1)

-- two numbers of 8 bytes
pub same_number_8 : (m n : ℕ) (x y : List ℕ) → m < 2 ^ 64 → n < 2 ^ 64 → to_be_bytes w64 m ++ x ≡ to_be_bytes w64 n ++ y → (m ≡ n) × (x ≡ y)
same_number_8 m n x y hm hn e =
    let both = same_front (to_be_bytes w64 m) (to_be_bytes w64 n) x y refl e in
    (sym (from_be_bytes-to_be_bytes_8 m hm) ∙ ap (from_be_bytes w64) both.0 ∙ from_be_bytes-to_be_bytes_8 n hn, both.1)

-- two headers
pub same_header : (s t s' t' : ℕ) (x y : List ℕ) → AreGuids s t → AreGuids s' t' → header s t ++ x ≡ header s' t' ++ y → (s ≡ s') × (t ≡ t') × (x ≡ y)
same_header s t s' t' x y g g' e =
    let guids : to_be_bytes w64 s ++ (to_be_bytes w64 t ++ x) ≡ to_be_bytes w64 s' ++ (to_be_bytes w64 t' ++ y) = append_cancel_left magic _ _ e in
    let first = same_number_8 s s' _ _ g.source_fits g'.source_fits guids in
    let second = same_number_8 t t' x y g.target_fits g'.target_fits first.1 in
    (first.0, second.0, second.1)

same_write : (l m : ℕ) (b c x y : List ℕ) → IsRecord (Write l b) → IsRecord (Write m c) → (to_be_bytes w32 l ++ b) ++ x ≡ (to_be_bytes w32 m ++ c) ++ y → (Write l b ≡ Write m c) × (x ≡ y)
same_write l m b c x y h k e =
    let lf : l < 2 ^ 32 = omega (arith, h.0) in
    let mf : m < 2 ^ 32 = omega (arith, k.0) in
    let first = same_number_4 l m (b ++ x) (c ++ y) lf mf e in
    let second = same_front b c x y (h.1 ∙ sym k.1) first.1 in
    ((λ i. Write (first.0 i) (second.0 i)), second.1)

pub same_free : (k j : Key) (x y : List ℕ) → IsKey k → IsKey j → k.level ∷ (to_be_bytes w32 k.index ++ x) ≡ j.level ∷ (to_be_bytes w32 j.index ++ y) → (Free k ≡ Free j) × (x ≡ y)
same_free k j x y h g e =
    let level : k.level ≡ j.level = cc in
    let rest : to_be_bytes w32 k.index ++ x ≡ to_be_bytes w32 j.index ++ y = append_cancel_left (k.level ∷ []) _ _ (e ∙ ap (λ n. n ∷ (to_be_bytes w32 j.index ++ y)) (sym level)) in
    let both = same_number_4 k.index j.index x y (index_fits k h) (index_fits j g) rest in
    ((λ i. Free (record { level = level i; index = both.0 i })), both.1)

-- two records
pub same_record : (r t : Record) (x y : List ℕ) → IsRecord r → IsRecord t → record_bytes r ++ x ≡ record_bytes t ++ y → (r ≡ t) × (x ≡ y)
same_record (Write l b) (Write m c) x y h k e = same_write l m b c x y h k (append_cancel_left (1 ∷ []) _ _ e)
same_record (Write l b) (Free j) x y h k e = absurd cc
same_record (Free k) (Write m c) x y h g e = absurd cc
same_record (Free k) (Free j) x y h g e = same_free k j x y h g (append_cancel_left (2 ∷ []) _ _ e)

-- a record doesn't begin as the end does
pub no_record_is_end : (r : Record) (x y : List ℕ) → record_bytes r ++ x ≢ 0 ∷ y
no_record_is_end (Write l b) x y e = absurd cc
no_record_is_end (Free k) x y e = absurd cc

-- the bytes of a list's first record, and then the others
first_apart : (r : Record) (rs : List Record) (x : List ℕ) → flat_map record_bytes (r ∷ rs) ++ x ≡ record_bytes r ++ (flat_map record_bytes rs ++ x)
first_apart r rs x = append_assoc (record_bytes r) (flat_map record_bytes rs) x

-- two lists of records, each to its end
pub same_records : (rs ts : List Record) (x y : List ℕ) → AllByRecursion IsRecord rs → AllByRecursion IsRecord ts → flat_map record_bytes rs ++ 0 ∷ x ≡ flat_map record_bytes ts ++ 0 ∷ y → (rs ≡ ts) × (x ≡ y)
same_records [] [] x y h k e = (refl, append_cancel_left (0 ∷ []) _ _ e)
same_records [] (t ∷ ts) x y h k e = absurd (no_record_is_end t _ x (sym (e ∙ first_apart t ts (0 ∷ y))))
same_records (r ∷ rs) [] x y h k e = absurd (no_record_is_end r _ y (sym (first_apart r rs (0 ∷ x)) ∙ e))
same_records (r ∷ rs) (t ∷ ts) x y h k e =
    let first = same_record r t _ _ h.0 k.0 (sym (first_apart r rs (0 ∷ x)) ∙ e ∙ first_apart t ts (0 ∷ y)) in
    let others = same_records rs ts x y h.1 k.1 first.1 in
    ((λ i. first.0 i ∷ others.0 i), others.1)

-- ---- records that were read

-- where the last of the records ends
abbrev pub end_after : ℕ → List Record → ℕ
end_after from [] = from
end_after from (r ∷ rs) = end_after (end_of r) rs

pub end_after-push : (from : ℕ) (rs : List Record) (r : Record) → end_after from (rs ++ r ∷ []) ≡ end_of r
end_after-push from [] r = refl
end_after-push from (t ∷ rs) r = end_after-push (end_of t) rs r

pub AreApartFrom-push : (from : ℕ) (rs : List Record) (r : Record) → AreApartFrom from rs → end_after from rs ≤ start_of r → AreApartFrom from (rs ++ r ∷ [])
AreApartFrom-push from [] r h le = (le, tt)
AreApartFrom-push from (t ∷ rs) r h le = (h.0, AreApartFrom-push (end_of t) rs r h.1 le)

-- where nothing that may follow the records follows them, no longer list of records does
pub stuck_after : (front : List Record) (from : ℕ) (bytes : List ℕ) (rs : List Record) (rest : List ℕ) → AllByRecursion IsRecord front → HasNoNext (end_after from front) bytes
    → AllByRecursion IsRecord rs → AreApartFrom from rs → flat_map record_bytes front ++ bytes ≢ flat_map record_bytes rs ++ 0 ∷ rest
stuck_after [] from bytes [] rest f h k a e = h.no_end rest e
stuck_after [] from bytes (r ∷ rs) rest f h k a e = h.no_record r _ k.0 a.0 (e ∙ first_apart r rs (0 ∷ rest))
stuck_after (t ∷ front) from bytes [] rest f h k a e = no_record_is_end t _ rest (sym (first_apart t front bytes) ∙ e)
stuck_after (t ∷ front) from bytes (r ∷ rs) rest f h k a e =
    let first = same_record t r _ _ f.0 k.0 (sym (first_apart t front bytes) ∙ e ∙ first_apart r rs (0 ∷ rest)) in
    let apart = subst (λ (q : Record). AreApartFrom (end_of q) rs) (sym first.0) a.1 in
    stuck_after front (end_of t) bytes rs rest f.1 h k.1 apart first.1

-- ---- the digest

length-digest_bytes : (h : List ℕ) (n : ℕ) → length (digest_bytes h n) ≡ 4 * n
unfolding digest_bytes
length-digest_bytes h zero = refl
length-digest_bytes h (suc n) = let e = length-digest_bytes h n in omega (arith, e, length-append {A = ℕ})

pub length-sha256 : (m : List ℕ) → length (sha256 m) ≡ 32
unfolding sha256
length-sha256 m = length-digest_bytes _ 8
