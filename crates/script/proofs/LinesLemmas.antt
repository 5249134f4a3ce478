-- Lemmas on what is kept of a line, and on the lines of a script.
use Rattle.std.proofs.Common.{◌≡◌, ◌≢◌, ℕ, zero, suc, ◌+◌, ◌-◌, ◌<◌, ◌≤◌, min, Bool, true, false, eqb, not, List, [], ◌∷◌, ◌++◌, All, Option, None, Some, cond, length, take, refl, sym, ap, subst, ◌∙◌, arith, append_assoc, append-nil, get_or-take, length-take, length-take-le, eq-eqb, eqb-true, ne_eqb, zero-le}
use Rattle.std.proofs.Math.Seq.{take-append-add}
use Rattle.std.proofs.lemmas.List.{take_more, take_min}
use Rattle.std.proofs.lemmas.List.Elements.{All-append, All-weaker, All-from_get_or}
use Rattle.std.proofs.lemmas.List.Splits.{slice_split_none, slice_split_at, length-slice_split}
use Rattle.std.proofs.lemmas.Bool.{false≢true}
use Rattle.std.proofs.Common.{MatchBool, IfSome}
use Rattle.std.specs.Io.{StartsWith}
use Rattle.std.specs.Io.KnownBytes.{Keeps, Consumes, IsAtEnd}
use Rattle.std.proofs.KnownBytes.{Consumes-trans, Keeps-trans}
use Rattle.memchr.specs.Find.{Nowhere, Passes, is_byte}
use Rattle.script.specs.Lines.{without_empty_end, lines, kept_of, line_limit, HasNoFeed, TakesMore, TakesFeed, FindsEnd, GivesLine, GivesNone, HasMore}

-- what is kept of a longer line
pub take_grown : (limit : ℕ) (xs ys : List ℕ) → length xs ≤ limit → xs ++ take (min (limit - length xs) (length ys)) ys ≡ take limit (xs ++ ys)
take_grown limit xs ys h =
    let e : length xs + (limit - length xs) ≡ limit = omega arith in
    ap (λ l. xs ++ l) (take_min (limit - length xs) ys) ∙ sym (take-append-add xs ys (limit - length xs)) ∙ ap (λ n. take n (xs ++ ys)) e

-- to keep of what was kept is to keep
pub take_again : (limit : ℕ) (xs ys : List ℕ) → take limit (take limit xs ++ ys) ≡ take limit (xs ++ ys)
take_again zero xs ys = refl
take_again (suc n) [] ys = refl
take_again (suc n) (x ∷ xs) ys = ap (λ l. x ∷ l) (take_again n xs ys)

-- before the first such byte there is none
pub none_before : (byte : ℕ) (hay : List ℕ) (k : ℕ) → k ≤ length hay → Nowhere (Passes (is_byte byte) hay) 0 k → All (λ b. b ≢ byte) (take k hay)
none_before byte hay k within none =
    All-from_get_or (λ b. b ≢ byte) (take k hay) 0 (λ i l e.
    let below : i < k = omega (arith, length-take-le k hay within) in
    none i zero-le below (eq-eqb _ _ (sym (get_or-take k hay i 0 below) ∙ e)))

pub no_feed_before : (hay : List ℕ) (k : ℕ) → k ≤ length hay → Nowhere (Passes (is_byte 10) hay) 0 k → HasNoFeed (take k hay)
no_feed_before hay k = none_before 10 hay k

-- through the first such byte
pub take_through_byte : (byte : ℕ) (hay : List ℕ) (k : ℕ) → k < length hay → Passes (is_byte byte) hay k → take (k + 1) hay ≡ take k hay ++ byte ∷ []
take_through_byte byte hay k within hit = take_more hay k 0 within ∙ ap (λ b. take k hay ++ b ∷ []) (eqb-true _ _ hit)

pub take_through_feed : (hay : List ℕ) (k : ℕ) → k < length hay → Passes (is_byte 10) hay k → take (k + 1) hay ≡ take k hay ++ 10 ∷ []
take_through_feed hay k = take_through_byte 10 hay k

pub kept-nil : kept_of [] ≡ []
unfolding line_limit
kept-nil = refl

-- one look after others
pub TakesMore-more : (a b c : Option (List ℕ)) (k k' : List ℕ) → TakesMore a b [] k → TakesMore b c k k' → TakesMore a c [] k'
TakesMore-more a b c k k' p q = record {
  bytes = p.bytes ++ q.bytes;
  no_feed = All-append (λ b. b ≢ 10) p.bytes q.bytes p.no_feed q.no_feed;
  taken = Consumes-trans a b c p.bytes q.bytes p.taken q.taken;
  kept = q.kept ∙ ap (λ l. kept_of (l ++ q.bytes)) p.kept ∙ take_again (line_limit + 1) p.bytes q.bytes;
}

-- a split goes by no such byte
pub all_false : (byte : ℕ) (xs : List ℕ) → All (λ b. b ≢ byte) xs → All (λ b. eqb b byte ≡ false) xs
all_false byte xs h = All-weaker (λ b. b ≢ byte) (λ b. eqb b byte ≡ false) (λ b n. ne_eqb b byte n) xs h

without_empty_end-cons : (xs : List ℕ) (zs : List (List ℕ)) → 0 < length zs → without_empty_end (xs ∷ zs) ≡ xs ∷ without_empty_end zs
without_empty_end-cons xs [] h = absurd (omega arith)
without_empty_end-cons xs (z ∷ zs) h = refl

-- a line, its line feed and the rest
pub lines-feed : (xs rest : List ℕ) → HasNoFeed xs → lines (xs ++ 10 ∷ rest) ≡ xs ∷ lines rest
unfolding lines
lines-feed xs rest h =
    ap without_empty_end (slice_split_at (λ b. eqb b 10) xs 10 rest (all_false 10 xs h) refl)
    ∙ without_empty_end-cons xs _ (omega (arith, length-slice_split (λ (b : ℕ). eqb b 10) rest))

-- a last line with no line feed
pub lines-last : (xs : List ℕ) → HasNoFeed xs → xs ≢ [] → lines xs ≡ xs ∷ []
unfolding lines
lines-last [] h some = absurd (some refl)
lines-last (x ∷ xs) h some =
    ap without_empty_end (slice_split_none (λ b. eqb b 10) (x ∷ xs) (all_false 10 (x ∷ xs) h))
    ∙ ap (λ b. cond b [] ((x ∷ xs) ∷ [])) (ne_eqb (suc (length xs)) 0 (λ e. omega arith))

pub lines-nil : lines [] ≡ []
unfolding lines
lines-nil = refl

-- known bytes that lost bs and then are rest were bs and rest
pub Keeps-consumed : (a b : Option (List ℕ)) (bs rest : List ℕ) → Consumes a b bs → Keeps b (Some rest) → Keeps a (Some (bs ++ rest))
Keeps-consumed None b bs rest h k = tt
Keeps-consumed (Some xs) None bs rest h k = absurd h
Keeps-consumed (Some xs) (Some ys) bs rest h k = ap (λ l. bs ++ l) k ∙ sym h

-- a line that was given was given, whatever is looked at afterwards
pub GivesLine-kept : (a b c : Option (List ℕ)) (k : List ℕ) → GivesLine a b k → Keeps b c → GivesLine a c k
GivesLine-kept a b c k p q = record {
  line = p.line;
  kept_is = p.kept_is;
  before = λ rest left. p.before rest (Keeps-trans b c (Some rest) q left);
}

-- looks that ended at a line feed give a line
pub GivesLine-feed : (a b c : Option (List ℕ)) (k k' : List ℕ) → TakesMore a b [] k → TakesFeed b c k k' → GivesLine a c k'
GivesLine-feed a b c k k' p q =
    let line = p.bytes ++ q.bytes in
    record {
      line = line;
      kept_is = q.kept ∙ ap (λ l. kept_of (l ++ q.bytes)) p.kept ∙ take_again (line_limit + 1) p.bytes q.bytes;
      before = λ rest kept. (
        line ++ 10 ∷ rest,
        subst (λ l. Keeps a (Some l)) (append_assoc p.bytes (q.bytes ++ 10 ∷ []) rest ∙ ap (λ l. p.bytes ++ l) (append_assoc q.bytes (10 ∷ []) rest) ∙ sym (append_assoc p.bytes q.bytes (10 ∷ rest)))
            (Keeps-consumed a c (p.bytes ++ (q.bytes ++ 10 ∷ [])) rest (Consumes-trans a b c p.bytes (q.bytes ++ 10 ∷ []) p.taken q.taken) kept),
        lines-feed line rest (All-append (λ b. b ≢ 10) p.bytes q.bytes p.no_feed q.no_feed),
      );
    }

-- looks that ended at the end, with nothing
pub GivesNone-end : (a b c : Option (List ℕ)) (k k' : List ℕ) → TakesMore a b [] k → FindsEnd b c k k' → k' ≡ [] → GivesNone a
GivesNone-end a b c k k' p q none =
    let empty : p.bytes ≡ [] = nothing p.bytes (sym p.kept ∙ sym q.kept ∙ none) in
    at a b (subst (Consumes a b) empty p.taken) q.at_end
  where
    nothing : (bs : List ℕ) → kept_of bs ≡ [] → bs ≡ []
    nothing [] e = refl
    nothing (x ∷ xs) e = absurd (omega (arith, ap length e, length-take (line_limit + 1) (x ∷ xs)))

    at : (a b : Option (List ℕ)) → Consumes a b [] → IsAtEnd b → Keeps a (Some [])
    at None b h e = tt
    at (Some xs) None h e = absurd h
    at (Some xs) (Some ys) h e = sym (h ∙ e)

-- looks that ended at the end, with a last line
pub GivesLine-end : (a b c : Option (List ℕ)) (k k' : List ℕ) → TakesMore a b [] k → FindsEnd b c k k' → k' ≢ [] → GivesLine a c k'
GivesLine-end a b c k k' p q some = record {
  line = p.bytes;
  kept_is = q.kept ∙ p.kept;
  before = λ rest kept. at a b c rest p.taken q.at_end q.left kept;
}
  where
    filled : p.bytes ≢ []
    filled e = some (q.kept ∙ p.kept ∙ ap kept_of e ∙ kept-nil)

    at : (a b c : Option (List ℕ)) (rest : List ℕ) → Consumes a b p.bytes → IsAtEnd b → Keeps b c → Keeps c (Some rest)
        → (all : List ℕ) × Keeps a (Some all) × (lines all ≡ p.bytes ∷ lines rest)
    at None b c rest taken end left kept = (p.bytes ++ 10 ∷ rest, tt, lines-feed p.bytes rest p.no_feed)
    at (Some xs) None c rest taken end left kept = absurd taken
    at (Some xs) (Some ys) None rest taken end left kept = absurd left
    at (Some xs) (Some ys) (Some zs) rest taken end left kept =
        let none : rest ≡ [] = kept ∙ left ∙ end in (
          p.bytes ++ ys,
          sym taken,
          ap (λ l. lines (p.bytes ++ l)) end ∙ simp append-nil (lines-last p.bytes p.no_feed filled ∙ ap (λ l. p.bytes ∷ l) (sym lines-nil ∙ ap lines (sym none))),
        )

-- a test of emptiness
pub MatchBool-nonempty : (b : Bool) (k : List ℕ) (A B : Type 0) → b ≡ eqb (length k) 0 → (k ≢ [] → A) → (k ≡ [] → B) → MatchBool (not b) A B
MatchBool-nonempty true k A B e some none = none (empty k (eqb-true _ _ (sym e)))
  where
    empty : (k : List ℕ) → length k ≡ 0 → k ≡ []
    empty [] h = refl
    empty (x ∷ xs) h = absurd (omega arith)
MatchBool-nonempty false k A B e some none = some (λ h. false≢true (e ∙ ap (λ l. eqb (length l) 0) h))

nonempty-append : (xs ys : List ℕ) → ys ≢ [] → xs ++ ys ≢ []
nonempty-append [] ys some = some
nonempty-append (x ∷ xs) ys some = λ e. absurd (omega (arith, ap length e))

-- bytes were shown, so some are left
pub HasMore-shown : (told : Option (List ℕ)) (shown : List ℕ) → IfSome told (λ xs. StartsWith xs shown) → 0 < length shown → HasMore told
HasMore-shown None shown front some = (10 ∷ [], tt, λ e. absurd (omega (arith, ap length e)))
HasMore-shown (Some xs) shown front some = (xs, refl, λ e. none xs e front)
  where
    none : (xs : List ℕ) → xs ≡ [] → StartsWith xs shown → ⊥
    none [] e front = let nil : List ℕ = [] in omega (arith, some, ap length front, length-take (length shown) nil)
    none (x ∷ xs) e front = absurd (omega (arith, ap length e))

-- bytes are left after a part of a line, so there were some before it
pub HasMore-before : (a b : Option (List ℕ)) (k : List ℕ) → TakesMore a b [] k → HasMore b → HasMore a
HasMore-before a b k p more = (p.bytes ++ more.0, Keeps-consumed a b p.bytes more.0 p.taken more.1, nonempty-append p.bytes more.0 more.2)
