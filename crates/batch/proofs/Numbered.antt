-- The claims of a way with their numbers, of which each that keeps no block takes the next Free one.
use Rattle.std.proofs.Common.{◌≡◌, ℕ, suc, ◌+◌, ◌-◌, ◌/◌, ◌^◌, ◌<◌, ◌≤◌, true, false, cond, List, [], ◌∷◌, ◌++◌, length, get_or, take, map, Option, Some, None, refl, sym, ap, subst, ◌∙◌, arith, append_assoc, append-nil, length-append}
use Rattle.std.specs.Prelude.{Bool, min, slice_get, count_by, not, is_some}
use Rattle.std.specs.List.{filter_map, cons_option, zip}
use Rattle.std.proofs.lemmas.Bool.{le-leb}
use Rattle.std.proofs.lemmas.List.{length-map, map-append}
use Rattle.std.proofs.lemmas.Slice.Zip.{length-zip}
use Rattle.std.proofs.lemmas.List.Sums.{sum_by-cons, sum_by-append}
use Rattle.base.specs.declared.number.BlockNo.{BlockNo}
use Rattle.base.specs.declared.number.Dead.{Dead}
use Rattle.base.specs.declared.number.Key.{Key}
use Rattle.base.specs.Key.{path}
use Rattle.base.specs.Surveys.{IsIn, AreDifferent}
use Rattle.batch.specs.declared.findings.Claim.{Claim}
use Rattle.batch.specs.declared.numbers.NewBlock.{NewBlock}
use Rattle.batch.specs.declared.draft.Draft.{Draft}
use Rattle.batch.specs.Build.{filled, is_fresh, number_for, numbers_after}
use Rattle.batch.specs.Forecast.{kept_of}
use Rattle.batch.specs.Numbers.{numbers, frees_from, is_young}
use Rattle.batch.specs.Touch.{let_go, young_one}
use Rattle.batch.specs.Way.{way_claims, way_released, IsNumbered}
use Rattle.zalloc.specs.declared.BlockState.{BlockState}
use Rattle.zalloc.specs.declared.BlockState.TheVariants.{Free}
use Rattle.zalloc.specs.States.{is_free}
use Rattle.zalloc.specs.Tallies.{IsTaken}
use Rattle.batch.proofs.WayLaws.{way_more, way_split}
use Rattle.batch.proofs.NumberLaws.{frees_found, frees_in, frees_once, frees_count, in_left, length-numbers}

-- claims after others
one_filled : (k : Key) (o : Option Dead) (cs ds : List Claim) (ts us : List BlockNo) → ((xs : List BlockNo) → length xs ≡ count_by is_fresh cs → filled (cs ++ ds) (xs ++ us) ≡ filled cs xs ++ filled ds us) → length ts ≡ cond (not (is_some o)) 1 0 + count_by is_fresh cs
    → (record { key = k; block = number_for o (ts ++ us) } ∷ filled (cs ++ ds) (numbers_after o (ts ++ us))) ≡ (record { key = k; block = number_for o ts } ∷ filled cs (numbers_after o ts) ++ filled ds us)
one_filled k None cs ds [] us ih h = absurd (omega arith)
one_filled k None cs ds (t ∷ ts) us ih h = ap (λ (xs : List NewBlock). record { key = k; block = t } ∷ xs) (ih ts (omega arith))
one_filled k (Some d) cs ds ts us ih h = ap (λ (xs : List NewBlock). record { key = k; block = d.block } ∷ xs) (ih ts (omega arith))

filled_append : (cs ds : List Claim) (ts us : List BlockNo) → length ts ≡ count_by is_fresh cs → filled (cs ++ ds) (ts ++ us) ≡ filled cs ts ++ filled ds us
unfolding filled
filled_append [] ds [] us h = refl
filled_append [] ds (t ∷ ts) us h = absurd (omega arith)
filled_append (c ∷ cs) ds ts us h = one_filled c.key c.kept cs ds ts us (λ xs l. filled_append cs ds xs us l) (let n = sum_by-cons (λ z. cond (is_fresh z) 1 0) c cs in omega (arith, n, h))

-- one claim more
module _ (k : Key) (o : Option Dead) (cs : List Claim) (states : List BlockState) (from : ℕ) (old new : Draft) (p : IsNumbered cs states from old) where
  more : (next : ℕ) (fresh : List BlockNo) → length fresh ≡ count_by is_fresh (record { key = k; kept = o } ∷ []) → frees_from from states ≡ numbers fresh ++ frees_from next states
      → new.taken.items ≡ old.taken.items ++ fresh → new.made.items ≡ old.made.items ++ filled (record { key = k; kept = o } ∷ []) fresh → IsNumbered (cs ++ record { key = k; kept = o } ∷ []) states next new
  more next fresh e f t m =
      let c : Claim = record { key = k; kept = o } in
      record {
        enough =
            let l = ap length t ∙ length-append old.taken.items fresh in
            let n = sum_by-append (λ z. cond (is_fresh z) 1 0) cs (c ∷ []) in
            let a = p.enough in
            omega (arith, l, n, a, e);
        free =
            p.free ∙ ap (λ ns. numbers old.taken.items ++ ns) f ∙ sym (append_assoc (numbers old.taken.items) (numbers fresh) (frees_from next states))
            ∙ ap (λ ns. ns ++ frees_from next states) (sym (ap numbers t ∙ map-append (λ (b : BlockNo). b.0) old.taken.items fresh));
        made = m ∙ ap (λ bs. bs ++ filled (c ∷ []) fresh) p.made ∙ sym (filled_append cs (c ∷ []) old.taken.items fresh p.enough) ∙ ap (filled (cs ++ c ∷ [])) (sym t);
      }

  pub numbered_kept : (d : Dead) → o ≡ Some d → new.taken.items ≡ old.taken.items → new.made.items ≡ old.made.items ++ record { key = k; block = d.block } ∷ [] → IsNumbered (cs ++ record { key = k; kept = o } ∷ []) states from new
  unfolding filled
  numbered_kept d e t m =
      more from [] (ap {B = ℕ} (λ (q : Option Dead). count_by is_fresh (record { key = k; kept = q } ∷ [])) (sym e)) refl (t ∙ sym (append-nil old.taken.items))
      (m ∙ ap (λ (q : Option Dead). old.made.items ++ filled (record { key = k; kept = q } ∷ []) []) (sym e))

  pub numbered_fresh : (b : BlockNo) → o ≡ None → from ≤ b.0 → slice_get states b.0 ≡ Some Free → IsTaken states from b.0 → new.taken.items ≡ old.taken.items ++ b ∷ [] → new.made.items ≡ old.made.items ++ record { key = k; block = b } ∷ []
      → IsNumbered (cs ++ record { key = k; kept = o } ∷ []) states (b.0 + 1) new
  unfolding filled
  numbered_fresh b e low f l t m =
      more (b.0 + 1) (b ∷ []) (ap {B = ℕ} (λ (q : Option Dead). count_by is_fresh (record { key = k; kept = q } ∷ [])) (sym e)) (frees_found states from b.0 low f l) t
      (m ∙ ap (λ (q : Option Dead). old.made.items ++ filled (record { key = k; kept = q } ∷ []) (b ∷ [])) (sym e))

pub numbered_none : (states : List BlockState) (l : Draft) → l.taken.items ≡ [] → l.made.items ≡ [] → IsNumbered [] states 0 l
unfolding filled
numbered_none states l t m = record {
  enough = ap length t;
  free = ap (λ bs. numbers bs ++ frees_from 0 states) (sym t);
  made = m ∙ refl;
}

-- what numbered claims have taken
different_left : {A : Type 0} (xs ys : List A) → AreDifferent (xs ++ ys) → AreDifferent xs
different_left [] ys h = tt
different_left (x ∷ xs) ys h = ((λ k. h.0 (in_left xs ys x k)), different_left xs ys h.1)

module _ (cs : List Claim) (states : List BlockState) (next : ℕ) (l : Draft) (p : IsNumbered cs states next l) where
  all_taken : count_by is_free states ≡ count_by is_fresh cs + length (frees_from next states)
  unfolding frees_from
  all_taken =
      let f = frees_count 0 states in
      let a = ap length p.free ∙ length-append (numbers l.taken.items) (frees_from next states) in
      let n = length-numbers l.taken.items in
      let e = p.enough in
      omega (arith, f, a, n, e)

  pub numbered_few : count_by is_fresh cs ≤ count_by is_free states
  numbered_few = let a = all_taken in omega (arith, a)

  pub numbered_all : frees_from next states ≡ [] → count_by is_free states ≡ count_by is_fresh cs
  numbered_all h = let a = all_taken in let n = ap length h in omega (arith, a, n)

  pub numbered_free : (n : ℕ) → IsIn (numbers l.taken.items) n → slice_get states n ≡ Some Free
  unfolding frees_from
  numbered_free n h = let z : n ≡ n - 0 = omega arith in ap (slice_get states) z ∙ (frees_in 0 n states (subst (λ ns. IsIn ns n) (sym p.free) (in_left (numbers l.taken.items) (frees_from next states) n h))).2

  pub numbered_once : AreDifferent (numbers l.taken.items)
  unfolding frees_from
  numbered_once = different_left (numbers l.taken.items) (frees_from next states) (subst AreDifferent p.free (frees_once 0 states))

-- a claim for each level
pub way_length : (y leaf : ℕ) (blocks : List (Option Dead)) → length blocks ≡ 6 → length (way_claims y leaf blocks) ≡ 6
unfolding way_claims
way_length y leaf blocks h = length-map (zip (path leaf) blocks) _ ∙ length-zip (path leaf) blocks ∙ ap (min 6) h

-- where the Free numbers have run out
pub way_short : (y leaf : ℕ) (blocks : List (Option Dead)) (n from : ℕ) (states : List BlockState) (l : Draft) (own : Option Dead) → n ≤ 5 → n < length blocks → own ≡ get_or blocks n None → IsNumbered (way_claims y leaf (take n blocks)) states from l → frees_from from states ≡ [] → young_one y own ≡ None
    → count_by is_free states < count_by is_fresh (way_claims y leaf blocks)
way_short y leaf blocks n from states l own h w b p none old =
    let claim : Claim = record { key = record { level = n; index = leaf / 16 ^ n }; kept = young_one y own } in
    let all = numbered_all (way_claims y leaf (take n blocks)) states from l p none in
    let a = sum_by-append (λ z. cond (is_fresh z) 1 0) (way_claims y leaf (take n blocks)) (claim ∷ []) in
    let m = ap (count_by is_fresh) (way_more y leaf blocks n (leaf / 16 ^ n) own h w refl b) in
    let f = ap {B = ℕ} (λ (o : Option Dead). cond (not (is_some o)) 1 0) old in
    let rest = way_split y leaf blocks (suc n) in
    let g = ap (count_by is_fresh) rest.1 ∙ sum_by-append (λ z. cond (is_fresh z) 1 0) (way_claims y leaf (take (suc n) blocks)) rest.0 in
    omega (arith, all, a, m, f, g)

-- no block that goes is young
one_old : (y : ℕ) (d : Dead) (b : Bool) → is_young y d ≡ b → count_by (is_young y) (cond (not b) (d ∷ []) []) ≡ 0
one_old y d true e = refl
one_old y d false e = let c = sum_by-cons (λ d. cond (is_young y d) 1 0) d [] in let f = ap {B = ℕ} (λ (b : Bool). cond b 1 0) e in omega (arith, c, f)

none_young : (y : ℕ) (own : Option Dead) → count_by (is_young y) (let_go true true y own) ≡ 0
none_young y None = refl
none_young y (Some d) = one_old y d (is_young y d) refl

pub way_old : (y : ℕ) (blocks : List (Option Dead)) → count_by (is_young y) (way_released y blocks) ≡ 0
unfolding way_released
way_old y [] = refl
way_old y (own ∷ blocks) =
    let a = sum_by-append (λ d. cond (is_young y d) 1 0) (let_go true true y own) (way_released y blocks) in
    let h = way_old y blocks in
    let o = none_young y own in
    omega (arith, a, h, o)

-- where every block counts as young, none goes, and each is kept
none_goes : (own : Option Dead) → let_go true true 0 own ≡ []
none_goes None = refl
none_goes (Some d) = ap (λ (b : Bool). cond (not b) (d ∷ []) []) (le-leb 0 d.birth.0 (omega arith))

pub way_stays : (blocks : List (Option Dead)) → way_released 0 blocks ≡ []
unfolding way_released
way_stays [] = refl
way_stays (own ∷ blocks) = λ i. none_goes own i ++ way_stays blocks i

all_young : (own : Option Dead) → young_one 0 own ≡ own
all_young None = refl
all_young (Some d) = ap (λ (b : Bool). cond b (Some d) None) (le-leb 0 d.birth.0 (omega arith))

zip_kept : (ks : List Key) (blocks : List (Option Dead)) → length blocks ≤ length ks → kept_of (map (λ p. record { key = p.0; kept = young_one 0 p.1 }) (zip ks blocks)) ≡ filter_map (λ o. o) blocks
zip_kept [] [] h = refl
zip_kept [] (own ∷ blocks) h = absurd (omega arith)
zip_kept (k ∷ ks) [] h = refl
zip_kept (k ∷ ks) (own ∷ blocks) h = λ i. cons_option (all_young own i) (zip_kept ks blocks (omega arith) i)

pub way_kept : (leaf : ℕ) (blocks : List (Option Dead)) → length blocks ≡ 6 → kept_of (way_claims 0 leaf blocks) ≡ filter_map (λ o. o) blocks
unfolding way_claims
way_kept leaf blocks h = zip_kept (path leaf) blocks (omega (arith, h))
