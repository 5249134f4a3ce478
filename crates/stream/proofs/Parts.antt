-- The parts of a stream, as they are read.
use Rattle.std.proofs.Common.{◌≡◌, ◌≢◌, ℕ, ◌<◌, ◌≤◌, List, [], ◌∷◌, ◌++◌, length, get_or, All, Option, Some, IfSome, refl, sym, ap, subst, ◌∙◌, append_assoc, arith, ⊎_elim}
use Rattle.std.specs.List.{flat_map}
use Rattle.std.specs.Int.{w32, w64, to_be_bytes, from_be_bytes}
use Rattle.std.proofs.lemmas.List.{append_cancel_left, get_or_past, flat_map_more}
use Rattle.std.proofs.lemmas.Bool.{cases_lt}
use Rattle.std.proofs.lemmas.List.Elements.{All-get_or, All-push, All-cons, All-nil}
use Rattle.std.proofs.lemmas.Nat.{be_bytes_4, be_bytes_8, from_be_bytes-to_be_bytes_8}
use Rattle.byteorder.specs.Endian.{big_number}
use Rattle.sha2.specs.declared.Sha256.{Sha256}
use Rattle.base.specs.declared.number.Key.{Key}
use Rattle.base.specs.Key.{IsKey, first_leaf}
use Rattle.stream.specs.declared.record.Record.{Record}
use Rattle.stream.specs.declared.record.Record.TheVariants.{Write, Free}
use Rattle.stream.specs.Records.{start_of, end_of}
use Rattle.stream.specs.Spelling.{magic, header, record_bytes, IsRecord, AreApartFrom, AreGuids}
use Rattle.stream.specs.Reading.{Passes, HasNoHeader, HasNoNext, HasNoFree, FindsNext}
use Rattle.stream.proofs.KeyBounds.{end_le, start_before}
use Rattle.stream.proofs.Fronts.{same_front, same_free, end_after, end_after-push, AreApartFrom-push}
use Rattle.stream.proofs.Passing.{Passes-trans, told_taken}

abbrev IsByte : ℕ → Type 0
IsByte b = b < 256

each_byte : (bytes : List ℕ) → All (λ b. b < 256) bytes → (i : ℕ) → get_or bytes i 0 < 256
each_byte bytes h i =
    ⊎_elim (λ lt. All-get_or (λ b. b < 256) bytes i 0 lt h) (λ le. rw (get_or_past bytes i 0 le) (omega arith)) (cases_lt i (length bytes))

-- ---- numbers, as `byteorder` reads them

pub number_8 : (bytes : List ℕ) → big_number 8 bytes ≡ from_be_bytes w64 bytes
number_8 bytes = omega arith

pub number_4 : (bytes : List ℕ) → big_number 4 bytes ≡ from_be_bytes w32 bytes
number_4 bytes = omega arith

-- ---- the header

pub record AreEights (text source target : List ℕ) : Type 0 where
  pub text_len : length text ≡ 8
  pub source_len : length source ≡ 8
  pub target_len : length target ≡ 8

header_parts : (text source target rest : List ℕ) (s t : ℕ) (more : List ℕ) → AreEights text source target → ((text ++ source) ++ target) ++ rest ≡ header s t ++ more
    → (text ≡ magic) × (source ≡ to_be_bytes w64 s) × (target ≡ to_be_bytes w64 t)
header_parts text source target rest s t more l e =
    let regrouped = append_assoc (text ++ source) target rest ∙ append_assoc text source (target ++ rest) in
    let first = same_front text magic (source ++ (target ++ rest)) (to_be_bytes w64 s ++ (to_be_bytes w64 t ++ more)) l.text_len (sym regrouped ∙ e) in
    let second = same_front source (to_be_bytes w64 s) (target ++ rest) (to_be_bytes w64 t ++ more) l.source_len first.1 in
    let third = same_front target (to_be_bytes w64 t) rest more l.target_len second.1 in
    (first.0, second.0, third.0)

-- no header was read
pub header_refused : (told later : Option (List ℕ)) (h k : Sha256) (text source target : List ℕ) (m n : ℕ) → Passes told later h k ((text ++ source) ++ target) → AreEights text source target
    → m ≡ from_be_bytes w64 source → n ≡ from_be_bytes w64 target → (text ≡ magic → AreGuids m n → ⊥) → IfSome told HasNoHeader
header_refused told later h k text source target m n p l em en refused =
    told_taken told later ((text ++ source) ++ target) HasNoHeader p.taken (λ rest s t more guids e.
    let parts = header_parts text source target rest s t more l e in
    let ms : s ≡ m = sym (em ∙ ap (from_be_bytes w64) parts.1 ∙ from_be_bytes-to_be_bytes_8 s guids.source_fits) in
    let nt : t ≡ n = sym (en ∙ ap (from_be_bytes w64) parts.2 ∙ from_be_bytes-to_be_bytes_8 t guids.target_fits) in
    let same : AreGuids m n = subst (λ (a : ℕ). AreGuids a n) ms (subst (λ (b : ℕ). AreGuids s b) nt guids) in
    refused parts.0 same)

-- a header was read
pub header_passes : (told later : Option (List ℕ)) (h k : Sha256) (text source target : List ℕ) (m n : ℕ) → Passes told later h k ((text ++ source) ++ target) → AreEights text source target
    → All (λ b. b < 256) source → All (λ b. b < 256) target → text ≡ magic → m ≡ from_be_bytes w64 source → n ≡ from_be_bytes w64 target → Passes told later h k (header m n)
header_passes told later h k text source target m n p l fs ft et em en =
    let es : source ≡ to_be_bytes w64 m = sym (be_bytes_8 source m l.source_len (each_byte source fs) em) in
    let eg : target ≡ to_be_bytes w64 n = sym (be_bytes_8 target n l.target_len (each_byte target ft) en) in
    let all : (text ++ source) ++ target ≡ header m n = ap (λ (x : List ℕ). (x ++ source) ++ target) et ∙ ap (λ (x : List ℕ). (magic ++ x) ++ target) es ∙ ap (λ (x : List ℕ). (magic ++ to_be_bytes w64 m) ++ x) eg in
    subst (Passes told later h k) all p

-- ---- a write

pub leaf_passes : (told later : Option (List ℕ)) (h k : Sha256) (bytes : List ℕ) (n : ℕ) (block : List ℕ) → Passes told later h k (bytes ++ block) → length bytes ≡ 4 → All (λ b. b < 256) bytes
    → n ≡ from_be_bytes w32 bytes → Passes told later h k (to_be_bytes w32 n ++ block)
leaf_passes told later h k bytes n block p l f e = subst (λ (x : List ℕ). Passes told later h k (x ++ block)) (sym (be_bytes_4 bytes n l (each_byte bytes f) e)) p

-- ---- a free

five_bytes : (bytes : List ℕ) → length bytes ≡ 5 → bytes ≡ get_or bytes 0 0 ∷ get_or bytes 1 0 ∷ get_or bytes 2 0 ∷ get_or bytes 3 0 ∷ get_or bytes 4 0 ∷ []
five_bytes [] l = absurd (omega arith)
five_bytes (a ∷ []) l = absurd (omega arith)
five_bytes (a ∷ b ∷ []) l = absurd (omega arith)
five_bytes (a ∷ b ∷ c ∷ []) l = absurd (omega arith)
five_bytes (a ∷ b ∷ c ∷ d ∷ []) l = absurd (omega arith)
five_bytes (a ∷ b ∷ c ∷ d ∷ e ∷ []) l = refl
five_bytes (a ∷ b ∷ c ∷ d ∷ e ∷ f ∷ rest) l = absurd (omega arith)

-- the index of the key that the bytes of a free say
abbrev pub index_in : List ℕ → List ℕ
index_in bytes = get_or bytes 1 0 ∷ get_or bytes 2 0 ∷ get_or bytes 3 0 ∷ get_or bytes 4 0 ∷ []

key_bytes : (bytes : List ℕ) (n : ℕ) → length bytes ≡ 5 → All (λ b. b < 256) bytes → n ≡ from_be_bytes w32 (index_in bytes) → bytes ≡ get_or bytes 0 0 ∷ to_be_bytes w32 n
key_bytes bytes n l f e =
    let each = each_byte bytes f in
    let last = All-cons IsByte (get_or bytes 4 0) [] (each 4) (All-nil IsByte) in
    let third = All-cons IsByte (get_or bytes 3 0) (get_or bytes 4 0 ∷ []) (each 3) last in
    let second = All-cons IsByte (get_or bytes 2 0) (get_or bytes 3 0 ∷ get_or bytes 4 0 ∷ []) (each 2) third in
    let small = each_byte (index_in bytes) (All-cons IsByte (get_or bytes 1 0) (get_or bytes 2 0 ∷ get_or bytes 3 0 ∷ get_or bytes 4 0 ∷ []) (each 1) second) in
    five_bytes bytes l ∙ ap (λ (x : List ℕ). get_or bytes 0 0 ∷ x) (sym (be_bytes_4 (index_in bytes) n refl small e))

pub free_passes : (told later : Option (List ℕ)) (h k : Sha256) (bytes : List ℕ) (n : ℕ) → Passes told later h k bytes → length bytes ≡ 5 → All (λ b. b < 256) bytes
    → n ≡ from_be_bytes w32 (index_in bytes) → Passes told later h k (get_or bytes 0 0 ∷ to_be_bytes w32 n)
free_passes told later h k bytes n p l f e = subst (Passes told later h k) (key_bytes bytes n l f e) p

-- a key was read that can't stand here
pub free_refused : (told later : Option (List ℕ)) (h i : Sha256) (bytes : List ℕ) (n from : ℕ) → Passes told later h i bytes → length bytes ≡ 5 → All (λ b. b < 256) bytes
    → n ≡ from_be_bytes w32 (index_in bytes) → IsKey (record { level = get_or bytes 0 0; index = n }) → first_leaf (record { level = get_or bytes 0 0; index = n }) < from → IfSome told (HasNoFree from)
free_refused told later h i bytes n from p l f e is before =
    told_taken told later bytes (HasNoFree from) p.taken (λ rest j more other le eq.
    let read : Key = record { level = get_or bytes 0 0; index = n } in
    let same = same_free read j rest more is other (ap (λ (x : List ℕ). x ++ rest) (sym (key_bytes bytes n l f e)) ∙ eq) in
    let starts : first_leaf read ≡ start_of (Free j) = ap start_of same.0 in
    omega (arith, starts, before, le))

-- ---- the next record

pub one_byte : (bytes : List ℕ) (n : ℕ) → length bytes ≡ 1 → get_or bytes 0 0 ≡ n → bytes ≡ n ∷ []
one_byte [] n l e = absurd (omega arith)
one_byte (a ∷ []) n l e = ap (λ (x : ℕ). x ∷ []) e
one_byte (a ∷ b ∷ bytes) n l e = absurd (omega arith)

pub next_by_free : (from : ℕ) (rest : List ℕ) → HasNoFree from rest → HasNoNext from (2 ∷ rest)
next_by_free from rest h = record {
  no_end = λ more e. absurd cc;
  no_record = λ r more is le e. no_free r more is le e;
}
  where
    no_free : (r : Record) (more : List ℕ) → IsRecord r → from ≤ start_of r → 2 ∷ rest ≢ record_bytes r ++ more
    no_free (Write l b) more is le e = absurd cc
    no_free (Free k) more is le e = h k more is le (append_cancel_left (2 ∷ []) _ _ e)

-- ---- all records

-- a record's end is past its first leaf, and within the dataset
pub record_bounds : (r : Record) → IsRecord r → (start_of r < end_of r) × (end_of r ≤ 1048576)
record_bounds (Write l b) h = (omega arith, omega (arith, h.0))
record_bounds (Free k) h = (start_before k, end_le k h)

-- the records so far
pub record AreReadTo (told later : Option (List ℕ)) (h i : Sha256) (rs : List Record) (from : ℕ) : Type 0 where
  pub passes : Passes told later h i (flat_map record_bytes rs)
  pub each : All IsRecord rs
  pub apart : AreApartFrom 0 rs
  pub from_is : from ≡ end_after 0 rs
  pub within : from ≤ 1048576

pub AreReadTo-push : (told mid later : Option (List ℕ)) (h i j : Sha256) (rs : List Record) (from : ℕ) (r : Record) → AreReadTo told mid h i rs from → FindsNext from mid later i j (Some r)
    → AreReadTo told later h j (rs ++ r ∷ []) (end_of r)
AreReadTo-push told mid later h i j rs from r a f = record {
  passes = subst (Passes told later h j) (flat_map_more record_bytes [] rs r) (Passes-trans told mid later h i j _ _ a.passes f.0);
  each = All-push IsRecord rs r a.each f.1;
  apart = AreApartFrom-push 0 rs r a.apart (subst (λ (n : ℕ). n ≤ start_of r) a.from_is f.2);
  from_is = sym (end_after-push 0 rs r);
  within = (record_bounds r f.1).1;
}
