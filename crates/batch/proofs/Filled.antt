-- The new blocks of claims, with their numbers.
use Rattle.std.proofs.Common.{◌≡◌, ℕ, ◌+◌, cond, List, [], ◌∷◌, ◌++◌, length, map, drop, Option, Some, None, refl, sym, ap, subst, ◌∙◌, arith, inl, inr, ◌⊎◌, ⊎_elim}
use Rattle.std.specs.Prelude.{slice_get, count_by, is_some, not}
use Rattle.std.specs.Option.{option_map}
use Rattle.std.proofs.lemmas.List.Sums.{sum_by-cons}
use Rattle.base.specs.declared.number.Key.{Key}
use Rattle.base.specs.declared.number.BlockNo.{BlockNo}
use Rattle.base.specs.declared.number.Dead.{Dead}
use Rattle.base.specs.Surveys.{IsIn, AreDifferent}
use Rattle.batch.specs.declared.numbers.NewBlock.{NewBlock}
use Rattle.batch.specs.declared.findings.Claim.{Claim}
use Rattle.batch.specs.Build.{filled, is_fresh, number_for, numbers_after, number_of, HasKeys}
use Rattle.batch.proofs.Listing.{in_map, from_map, one_to_one}
use Rattle.batch.proofs.MadeLaws.{number_here}
use Rattle.batch.proofs.Lists.{in_at}

abbrev pub claim_key : Claim → Key
claim_key c = c.key

abbrev pub new_key : NewBlock → Key
new_key b = b.key

abbrev pub number : BlockNo → ℕ
number b = b.0

pub filled_keys : (cs : List Claim) (ns : List BlockNo) → map new_key (filled cs ns) ≡ map claim_key cs
unfolding filled
filled_keys [] ns = refl
filled_keys (c ∷ cs) ns = ap (λ ks. c.key ∷ ks) (filled_keys cs (numbers_after c.kept ns))

skip : (bs cs : List NewBlock) (b : NewBlock) → slice_get (bs ++ b ∷ cs) (length bs) ≡ Some b
skip [] cs b = refl
skip (x ∷ bs) cs b = skip bs cs b

all_keys : (bs cs : List NewBlock) → HasKeys (bs ++ cs) (length bs) (map new_key cs)
unfolding HasKeys
all_keys bs [] = tt
all_keys bs (b ∷ cs) =
    let n : length (bs ++ b ∷ []) ≡ length bs + 1 = Rattle.std.proofs.Common.length-append bs (b ∷ []) in (
      ap (option_map new_key) (skip bs cs b),
      subst (λ k. HasKeys (bs ++ b ∷ cs) k (map new_key cs)) n (subst (λ xs. HasKeys xs (length (bs ++ b ∷ [])) (map new_key cs)) (Rattle.std.proofs.Common.append_assoc bs (b ∷ []) cs) (all_keys (bs ++ b ∷ []) cs)),
    )

pub filled_has : (cs : List Claim) (ns : List BlockNo) → HasKeys (filled cs ns) 0 (map claim_key cs)
filled_has cs ns = subst (HasKeys (filled cs ns) 0) (filled_keys cs ns) (all_keys [] (filled cs ns))

-- the number of a new block, by its membership
pub number_in : (bs : List NewBlock) (b : NewBlock) → AreDifferent (map new_key bs) → IsIn bs b → number_of bs b.key ≡ b.block.0
number_in bs b d i = let p = in_at bs b i in number_here bs p.0 b d p.1

-- the claims that keep a block
pub kept_in : (cs : List Claim) (ns : List BlockNo) (c : Claim) (d : Dead) → IsIn cs c → c.kept ≡ Some d → IsIn (filled cs ns) (record { key = c.key; block = d.block })
unfolding filled
kept_in [] ns c d i e = absurd i
kept_in (x ∷ cs) ns c d i e = ⊎_elim
    (λ s. let k : x.kept ≡ Some d = ap (λ (z : Claim). z.kept) (sym s) ∙ e in inl (λ j. record { key = (s j).key; block = (ap (λ o. number_for o ns) (sym k)) j }))
    (λ r. inr (kept_in cs (numbers_after x.kept ns) c d r e)) i

-- the fresh claims with the numbers that they take
abbrev fresh_pair : Key → Option Dead → List BlockNo → List (Key × BlockNo) → List (Key × BlockNo)
fresh_pair k None [] ps = ps
fresh_pair k None (n ∷ ns) ps = (k, n) ∷ ps
fresh_pair k (Some d) ns ps = ps

fresh_pairs : List Claim → List BlockNo → List (Key × BlockNo)
fresh_pairs [] ns = []
fresh_pairs (c ∷ cs) ns = fresh_pair c.key c.kept ns (fresh_pairs cs (numbers_after c.kept ns))

fresh_cons : (c : Claim) (cs : List Claim) → count_by is_fresh (c ∷ cs) ≡ cond (not (is_some c.kept)) 1 0 + count_by is_fresh cs
fresh_cons c cs = sum_by-cons (λ z. cond (is_fresh z) 1 0) c cs

pairs_numbers : (cs : List Claim) (ns : List BlockNo) → length ns ≡ count_by is_fresh cs → map (λ (p : Key × BlockNo). p.1) (fresh_pairs cs ns) ≡ ns
unfolding fresh_pairs
pairs_numbers [] [] h = refl
pairs_numbers [] (n ∷ ns) h = absurd (omega arith)
pairs_numbers (c ∷ cs) ns h = by c.kept ns (λ ms m. pairs_numbers cs ms m) (h ∙ fresh_cons c cs)
  where
    by : (k : Option Dead) (ns : List BlockNo) → ((ms : List BlockNo) → length ms ≡ count_by is_fresh cs → map (λ (p : Key × BlockNo). p.1) (fresh_pairs cs ms) ≡ ms) → length ns ≡ cond (not (is_some k)) 1 0 + count_by is_fresh cs
        → map (λ (p : Key × BlockNo). p.1) (fresh_pair c.key k ns (fresh_pairs cs (numbers_after k ns))) ≡ ns
    by None [] ih h = absurd (omega arith)
    by None (n ∷ ns) ih h = ap (λ xs. n ∷ xs) (ih ns (omega arith))
    by (Some d) ns ih h = ih ns (omega arith)

pairs_in : (cs : List Claim) (ns : List BlockNo) (p : Key × BlockNo) → IsIn (fresh_pairs cs ns) p → IsIn (filled cs ns) (record { key = p.0; block = p.1 }) × ((c : Claim) × IsIn cs c × (c.key ≡ p.0) × (c.kept ≡ None))
unfolding fresh_pairs filled
pairs_in [] ns p h = absurd h
pairs_in (c ∷ cs) ns p h = by c.kept refl ns (λ ms i. pairs_in cs ms p i) h
  where
    later : (b : NewBlock) (ms : List BlockNo) → IsIn (filled cs ms) (record { key = p.0; block = p.1 }) × ((x : Claim) × IsIn cs x × (x.key ≡ p.0) × (x.kept ≡ None)) → IsIn (b ∷ filled cs ms) (record { key = p.0; block = p.1 }) × ((x : Claim) × IsIn (c ∷ cs) x × (x.key ≡ p.0) × (x.kept ≡ None))
    later b ms r = (inr r.0, (r.1.0, inr r.1.1, r.1.2, r.1.3))

    by : (k : Option Dead) → c.kept ≡ k → (ns : List BlockNo) → ((ms : List BlockNo) → IsIn (fresh_pairs cs ms) p → IsIn (filled cs ms) (record { key = p.0; block = p.1 }) × ((x : Claim) × IsIn cs x × (x.key ≡ p.0) × (x.kept ≡ None)))
        → IsIn (fresh_pair c.key k ns (fresh_pairs cs (numbers_after k ns))) p → IsIn (record { key = c.key; block = number_for k ns } ∷ filled cs (numbers_after k ns)) (record { key = p.0; block = p.1 }) × ((x : Claim) × IsIn (c ∷ cs) x × (x.key ≡ p.0) × (x.kept ≡ None))
    by None e [] ih h = later _ _ (ih (drop 1 []) h)
    by None e (n ∷ ns) ih h = ⊎_elim
        (λ s. (inl (λ i. record { key = (s i).0; block = (s i).1 }), (c, inl refl, ap (λ (q : Key × BlockNo). q.0) (sym s), e)))
        (λ r. later _ _ (ih ns r)) h
    by (Some d) e ns ih h = later _ _ (ih ns h)

claim_pair : (cs : List Claim) (ns : List BlockNo) (c : Claim) → length ns ≡ count_by is_fresh cs → IsIn cs c → c.kept ≡ None → (n : BlockNo) × IsIn (fresh_pairs cs ns) (c.key, n)
unfolding fresh_pairs
claim_pair [] ns c h i e = absurd i
claim_pair (x ∷ cs) ns c h i e = by x.kept refl ns (h ∙ fresh_cons x cs) (λ ms m r. claim_pair cs ms c m r e) i
  where
    by : (k : Option Dead) → x.kept ≡ k → (ns : List BlockNo) → length ns ≡ cond (not (is_some k)) 1 0 + count_by is_fresh cs → ((ms : List BlockNo) → length ms ≡ count_by is_fresh cs → IsIn cs c → (n : BlockNo) × IsIn (fresh_pairs cs ms) (c.key, n))
        → IsIn (x ∷ cs) c → (n : BlockNo) × IsIn (fresh_pair x.key k ns (fresh_pairs cs (numbers_after k ns))) (c.key, n)
    by None f [] h ih i = absurd (omega arith)
    by None f (n ∷ ns) h ih i = ⊎_elim
        (λ s. (n, inl (λ j. ((s j).key, n))))
        (λ r. let p = ih ns (omega arith) r in (p.0, inr p.1)) i
    by (Some d) f ns h ih i = ⊎_elim
        (λ s. let z : None ≡ Some d = sym e ∙ ap (λ (z : Claim). z.kept) s ∙ f in cc)
        (λ r. ih ns (omega arith) r) i

module _ (cs : List Claim) (ns : List BlockNo) (len : length ns ≡ count_by is_fresh cs) (keys : AreDifferent (map claim_key cs)) (nums : AreDifferent (map number ns)) where
  pub placed_keys : AreDifferent (map new_key (filled cs ns))
  placed_keys = subst AreDifferent (sym (filled_keys cs ns)) keys

  pub kept_number : (c : Claim) (d : Dead) → IsIn cs c → c.kept ≡ Some d → number_of (filled cs ns) c.key ≡ d.block.0
  kept_number c d i e = number_in (filled cs ns) (record { key = c.key; block = d.block }) placed_keys (kept_in cs ns c d i e)

  pair_number : (p : Key × BlockNo) → IsIn (fresh_pairs cs ns) p → number_of (filled cs ns) p.0 ≡ p.1.0
  pair_number p i = number_in (filled cs ns) (record { key = p.0; block = p.1 }) placed_keys (pairs_in cs ns p i).0

  pair_in : (p : Key × BlockNo) → IsIn (fresh_pairs cs ns) p → IsIn ns p.1
  pair_in p i = subst (λ xs. IsIn xs p.1) (pairs_numbers cs ns len) (in_map (λ (q : Key × BlockNo). q.1) (fresh_pairs cs ns) p i)

  pub fresh_number : (c : Claim) → IsIn cs c → c.kept ≡ None → IsIn (map number ns) (number_of (filled cs ns) c.key)
  fresh_number c i e = let n = claim_pair cs ns c len i e in subst (IsIn (map number ns)) (sym (pair_number (c.key, n.0) n.1)) (in_map number ns n.0 (pair_in (c.key, n.0) n.1))

  pub used_number : (n : ℕ) → IsIn (map number ns) n → (c : Claim) × IsIn cs c × (c.kept ≡ None) × (number_of (filled cs ns) c.key ≡ n)
  used_number n h =
      let b = from_map number ns n h in
      let p = from_map (λ (q : Key × BlockNo). q.1) (fresh_pairs cs ns) b.0 (subst (λ xs. IsIn xs b.0) (sym (pairs_numbers cs ns len)) b.1) in
      let c = (pairs_in cs ns p.0 p.1).1 in
      (c.0, c.1, c.3, ap (number_of (filled cs ns)) c.2 ∙ pair_number p.0 p.1 ∙ ap number p.2 ∙ b.2)

  pub once_number : (c d : Claim) → IsIn cs c → IsIn cs d → c.kept ≡ None → d.kept ≡ None → number_of (filled cs ns) c.key ≡ number_of (filled cs ns) d.key → c.key ≡ d.key
  once_number c d i j e f s =
      let a = claim_pair cs ns c len i e in
      let b = claim_pair cs ns d len j f in
      let same : a.0.0 ≡ b.0.0 = sym (pair_number (c.key, a.0) a.1) ∙ s ∙ pair_number (d.key, b.0) b.1 in
      let block : a.0 ≡ b.0 = one_to_one number ns a.0 b.0 nums (pair_in (c.key, a.0) a.1) (pair_in (d.key, b.0) b.1) same in
      let distinct : AreDifferent (map (λ (q : Key × BlockNo). q.1) (fresh_pairs cs ns)) = subst AreDifferent (sym (pairs_numbers cs ns len)) (unmap ns nums) in
      ap (λ (q : Key × BlockNo). q.0) (one_to_one (λ (q : Key × BlockNo). q.1) (fresh_pairs cs ns) (c.key, a.0) (d.key, b.0) distinct a.1 b.1 block)
    where
      unmap : (ns : List BlockNo) → AreDifferent (map number ns) → AreDifferent ns
      unmap [] h = tt
      unmap (n ∷ ns) h = ((λ i. h.0 (in_map number ns n i)), unmap ns h.1)

  -- the new blocks are the claims' keys with these numbers
  abbrev pairs : List (Key × ℕ)
  pairs = map (λ (b : NewBlock). (b.key, b.block.0)) (filled cs ns)

  pub placed : (e : Key × ℕ) → IsIn pairs e → IsIn (map claim_key cs) e.0 × (number_of (filled cs ns) e.0 ≡ e.1)
  placed e h =
      let b = from_map (λ (b : NewBlock). (b.key, b.block.0)) (filled cs ns) e h in
      let same : b.0.key ≡ e.0 = ap (λ (q : Key × ℕ). q.0) b.2 in (
        subst (IsIn (map claim_key cs)) same (subst (λ xs. IsIn xs b.0.key) (filled_keys cs ns) (in_map new_key (filled cs ns) b.0 b.1)),
        ap (number_of (filled cs ns)) (sym same) ∙ number_in (filled cs ns) b.0 placed_keys b.1 ∙ ap (λ (q : Key × ℕ). q.1) b.2,
      )

  pub in_placed : (e : Key × ℕ) → IsIn (map claim_key cs) e.0 → number_of (filled cs ns) e.0 ≡ e.1 → IsIn pairs e
  in_placed e h n =
      let b = from_map new_key (filled cs ns) e.0 (subst (λ xs. IsIn xs e.0) (sym (filled_keys cs ns)) h) in
      let r = number_in (filled cs ns) b.0 placed_keys b.1 in
      let w : b.0.block.0 ≡ e.1 = sym r ∙ ap (number_of (filled cs ns)) b.2 ∙ n in
      let same : ◌≡◌ {A = Key × ℕ} (b.0.key, b.0.block.0) e = λ i. (b.2 i, w i) in
      subst (IsIn pairs) same (in_map (λ (b : NewBlock). (b.key, b.block.0)) (filled cs ns) b.0 b.1)
