-- Which bytes are streams.
use Rattle.std.proofs.Common.{◌≡◌, ◌≢◌, ℕ, Option, IfSome, List, [], ◌∷◌, ◌++◌, All, refl, sym, ap, subst, ◌∙◌, append_assoc, append-nil}
use Rattle.std.specs.List.{flat_map}
use Rattle.std.proofs.lemmas.List.Elements.{recursion_from_All}
use Rattle.std.specs.Int.{w64, to_be_bytes}
use Rattle.std.specs.Io.KnownBytes.{Appends, Consumes}
use Rattle.std.proofs.KnownBytes.{Appends-trans, Consumes-trans}
use Rattle.sha2.specs.Sha256.{sha256}
use Rattle.sha2.specs.Hashers.{Holds256}
use Rattle.sha2.specs.declared.Sha256.{Sha256}
use Rattle.stream.specs.declared.record.Record.{Record}
use Rattle.stream.specs.Spelling.{Sending, magic, header, record_bytes, digested_bytes, spell, IsRecord, AreGuids, KeepsRules, IsNoStream}
use Rattle.stream.specs.Reading.{Passes, HasNoHeader, HasNoNext, HasNoRecords}
use Rattle.stream.specs.Writing.{Puts}
use Rattle.stream.specs.Laws.{HasOneSpelling, HasOneReading, BeginsNoOther}
use Rattle.stream.proofs.Passing.{Puts-trans, told_before}
use Rattle.stream.proofs.Fronts.{same_front, same_header, same_records, end_after, stuck_after, length-sha256}

-- what is digested, with anything after it, is a header and a body
pub digested_parts : (s : Sending) (x : List ℕ) → digested_bytes s ++ x ≡ header s.source s.target ++ (flat_map record_bytes s.records ++ 0 ∷ x)
digested_parts s x = ap (λ (l : List ℕ). header s.source s.target ++ l) (append_assoc (flat_map record_bytes s.records) (0 ∷ []) x)

pub spell_is : (s : Sending) → spell s ≡ digested_bytes s ++ sha256 (digested_bytes s)
unfolding spell
spell_is s = refl

-- the body of what is spelled
pub spell_parts : (s : Sending) → spell s ≡ header s.source s.target ++ (flat_map record_bytes s.records ++ 0 ∷ sha256 (digested_bytes s))
spell_parts s = spell_is s ∙ digested_parts s (sha256 (digested_bytes s))

-- two things that begin as one stream does
same_digested : (s t : Sending) (x y : List ℕ) → KeepsRules s → KeepsRules t → digested_bytes s ++ x ≡ digested_bytes t ++ y → (s ≡ t) × (x ≡ y)
same_digested s t x y h k e =
    let guids = same_header s.source s.target t.source t.target _ _ h.guids k.guids (sym (digested_parts s x) ∙ e ∙ digested_parts t y) in
    let records = same_records s.records t.records x y (recursion_from_All IsRecord s.records h.each) (recursion_from_All IsRecord t.records k.each) guids.2 in
    ((λ i. record { source = guids.0 i; target = guids.1 i; records = records.0 i }), records.1)

same_spelled : (s t : Sending) (x y : List ℕ) → KeepsRules s → KeepsRules t → spell s ++ x ≡ spell t ++ y → (s ≡ t) × (x ≡ y)
same_spelled s t x y h k e =
    let left = ap (λ (l : List ℕ). l ++ x) (spell_is s) ∙ append_assoc (digested_bytes s) (sha256 (digested_bytes s)) x in
    let right = ap (λ (l : List ℕ). l ++ y) (spell_is t) ∙ append_assoc (digested_bytes t) (sha256 (digested_bytes t)) y in
    let said = same_digested s t _ _ h k (sym left ∙ e ∙ right) in
    let rest = same_front (sha256 (digested_bytes s)) (sha256 (digested_bytes t)) x y (length-sha256 _ ∙ sym (length-sha256 _)) said.1 in
    (said.0, rest.1)

pub has_one_spelling : HasOneSpelling
has_one_spelling a b s h k = h.spelled ∙ sym k.spelled

pub has_one_reading : HasOneReading
has_one_reading bytes s t h k = (same_spelled s t [] [] h.rules k.rules (ap (λ (l : List ℕ). l ++ []) (sym h.spelled ∙ k.spelled))).0

pub begins_no_other : BeginsNoOther
begins_no_other a more s t h k =
    (same_spelled s t more [] h.rules k.rules (ap (λ (l : List ℕ). l ++ more) (sym h.spelled) ∙ k.spelled ∙ sym (append-nil (spell t)))).1

-- ---- bytes that are no stream

pub no_header : (bytes : List ℕ) → HasNoHeader bytes → IsNoStream bytes
no_header bytes h s st = h s.source s.target _ st.rules.guids (st.spelled ∙ spell_parts s)

pub no_records : (source target : ℕ) (rest : List ℕ) → AreGuids source target → HasNoRecords rest → IsNoStream (header source target ++ rest)
no_records source target rest g h s st =
    let parts = same_header source target s.source s.target _ _ g st.rules.guids (st.spelled ∙ spell_parts s) in
    h s.records _ st.rules.each st.rules.apart parts.2

pub no_end : (s : Sending) (rest : List ℕ) → KeepsRules s → rest ≢ sha256 (digested_bytes s) → IsNoStream (digested_bytes s ++ rest)
no_end s rest rules h t st =
    let said = same_digested s t _ _ rules st.rules (st.spelled ∙ spell_is t) in
    h (said.1 ∙ ap (λ (q : Sending). sha256 (digested_bytes q)) (sym said.0))

pub no_more_records : (front : List Record) (bytes : List ℕ) → All IsRecord front → HasNoNext (end_after 0 front) bytes → HasNoRecords (flat_map record_bytes front ++ bytes)
no_more_records front bytes each h rs rest each' apart e =
    stuck_after front 0 bytes rs rest (recursion_from_All IsRecord front each) h (recursion_from_All IsRecord rs each') apart e

-- ---- what is written and read as a whole

-- what a hasher that was empty gives as digest
abbrev pub GivesDigest : Sha256 → List ℕ → Type 0
GivesDigest new digest = (m : List ℕ) → Holds256 new m → digest ≡ sha256 m

spelled : (s : Sending) (digest : List ℕ) → digest ≡ sha256 (digested_bytes s) → digested_bytes s ++ digest ≡ spell s
spelled s digest e = ap (λ (l : List ℕ). digested_bytes s ++ l) e ∙ sym (spell_is s)

pub header_puts : (a b c : Option (List ℕ)) (h i j : Sha256) (x y : List ℕ) (s t : ℕ) → Puts a b h i x → Puts b c i j y → x ≡ magic → y ≡ to_be_bytes w64 s ++ to_be_bytes w64 t → Puts a c h j (header s t)
header_puts a b c h i j x y s t p q ex ey =
    subst (Puts a c h j) (ap (λ (l : List ℕ). l ++ y) ex ∙ ap (λ (l : List ℕ). magic ++ l) ey) (Puts-trans a b c h i j x y p q)

pub stream_puts : (a b c d e : Option (List ℕ)) (h i j k : Sha256) (rs : List Record) (s : Sending) (digest : List ℕ) → Holds256 h [] → Puts a b h i (header s.source s.target) → Puts b c i j (flat_map record_bytes rs)
    → Puts c d j k (0 ∷ []) → rs ≡ s.records → GivesDigest k digest → Appends d e digest → Appends a e (spell s)
stream_puts a b c d e h i j k rs s digest empty first second third same gives last =
    let records : Puts b c i j (flat_map record_bytes s.records) = subst (λ (ts : List Record). Puts b c i j (flat_map record_bytes ts)) same second in
    let all : Puts a d h k (digested_bytes s) = Puts-trans a c d h j k _ _ (Puts-trans a b c h i j _ _ first records) third in
    subst (Appends a e) (spelled s digest (gives _ (all.hashed [] empty))) (Appends-trans a d e _ _ all.written last)

pub stream_passes : (a d e : Option (List ℕ)) (h k : Sha256) (s : Sending) (digest : List ℕ) → Holds256 h [] → Passes a d h k (digested_bytes s) → GivesDigest k digest → Consumes d e digest → Consumes a e (spell s)
stream_passes a d e h k s digest empty all gives last =
    subst (Consumes a e) (spelled s digest (gives _ (all.hashed [] empty))) (Consumes-trans a d e _ _ all.taken last)

pub end_refused : (a d : Option (List ℕ)) (h k : Sha256) (s : Sending) (digest : List ℕ) → Holds256 h [] → Passes a d h k (digested_bytes s) → KeepsRules s → GivesDigest k digest → IfSome d (λ bytes. bytes ≢ digest)
    → IfSome a IsNoStream
end_refused a d h k s digest empty all rules gives other =
    told_before a d (digested_bytes s) (λ bytes. bytes ≢ digest) IsNoStream all.taken
    (λ rest differs. no_end s rest rules (λ e. differs (e ∙ sym (gives _ (all.hashed [] empty))))) other
