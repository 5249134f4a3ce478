-- What a batch would drop: the blocks that are let go, and those that claims keep, where every block counts as young.
use Rattle.std.proofs.Common.{◌≡◌, ℕ, ◌≤◌, Bool, true, false, List, [], ◌∷◌, ◌++◌, length, map, Option, Some, None, refl, sym, ap, subst, ◌∙◌, arith, inl, inr, ◌⊎◌, ⊎_elim, true≢false}
use Rattle.std.specs.List.{cons_option}
use Rattle.std.specs.FinMap.{get}
use Rattle.std.proofs.lemmas.List.{map-append}
use Rattle.std.specs.declared.sync.Arc.{Arc}
use Rattle.std.specs.declared.alloc.Global.{Global}
use Rattle.base.specs.declared.number.Key.{Key}
use Rattle.base.specs.declared.number.Dead.{Dead}
use Rattle.base.specs.Map.{Map, Cell, Block}
use Rattle.base.specs.Rewrite.{Changes}
use Rattle.base.specs.Surveys.{IsIn, AreDifferent, IsDropped, IsSurvey, dead_block}
use Rattle.batch.specs.declared.findings.Claim.{Claim}
use Rattle.batch.specs.declared.update.Update.{Update}
use Rattle.batch.specs.Forecast.{kept_of}
use Rattle.batch.specs.Said.{Said, said, AreSized}
use Rattle.base.specs.Counting.{counted}
use Rattle.batch.specs.Cost.{CountsDropped}
use Rattle.batch.specs.Touch.{touched, stays, claims, released, dropped, own_block}
use Rattle.batch.specs.Updates.{changes_of, IsBatch}
use Rattle.node.specs.Cells.{dead_of}
use Rattle.node.specs.Entries.{map_of}
use Rattle.node.specs.Kid.{birth_of}
use Rattle.node.specs.Node.{Root, whole, root_forest, root_part, shared_part}
use Rattle.node.specs.Shape.{Part}
use Rattle.node.specs.Sound.{IsSoundTree}
use Rattle.node.proofs.Roots.{root_kid}
use Rattle.batch.proofs.Standing.{IsPlace, part_at_key, stands_of, touched_key}
use Rattle.batch.proofs.Listing.{in_map, from_map}
use Rattle.batch.proofs.NumberLaws.{in_append, in_left, in_right, different_append}
use Rattle.batch.proofs.Filled.{claim_key}
use Rattle.batch.proofs.Owned.{own_cell, young_of}
use Rattle.batch.proofs.Batch.{IsAsked, IsMade, gone_to, gone_from, gone_once, claim_of_key, key_claim, claim_keys_once, kept_claim, place_of_cell, here_is, made_from, survey, counts}

-- ---- the blocks that claims keep

from_option : (o : Option Dead) (ds : List Dead) (d : Dead) → IsIn (cons_option o ds) d → (o ≡ Some d) ⊎ IsIn ds d
from_option None ds d h = inr h
from_option (Some y) ds d h = ⊎_elim (λ e. inl (ap Some (sym e))) inr h

option_more : (o : Option Dead) (ds : List Dead) (d : Dead) → IsIn ds d → IsIn (cons_option o ds) d
option_more None ds d h = h
option_more (Some y) ds d h = inr h

from_kept : (cs : List Claim) (d : Dead) → IsIn (kept_of cs) d → (x : Claim) × IsIn cs x × (x.kept ≡ Some d)
from_kept [] d h = absurd h
from_kept (c ∷ cs) d h = ⊎_elim (λ e. (c, inl refl, e)) (λ r. let w = from_kept cs d r in (w.0, inr w.1, w.2)) (from_option c.kept (kept_of cs) d h)

in_kept : (cs : List Claim) (x : Claim) (d : Dead) → IsIn cs x → x.kept ≡ Some d → IsIn (kept_of cs) d
in_kept [] x d i e = absurd i
in_kept (c ∷ cs) x d i e = ⊎_elim
    (λ s. subst (λ o. IsIn (cons_option o (kept_of cs)) d) (sym e ∙ ap (λ (z : Claim). z.kept) s) (inl refl))
    (λ r. option_more c.kept (kept_of cs) d (in_kept cs x d r e)) i

-- each is one claim's, where no two claims keep one block
kept_once : (cs : List Claim) → AreDifferent (map claim_key cs)
    → ((a b : Claim) (d e : Dead) → IsIn cs a → IsIn cs b → a.kept ≡ Some d → b.kept ≡ Some e → dead_block d ≡ dead_block e → a.key ≡ b.key)
    → AreDifferent (map dead_block (kept_of cs))
kept_once [] once one = tt
kept_once (c ∷ cs) once one = by c.kept refl (kept_once cs once.1 (λ a b d e i j. one a b d e (inr i) (inr j)))
  where
    by : (o : Option Dead) → c.kept ≡ o → AreDifferent (map dead_block (kept_of cs)) → AreDifferent (map dead_block (cons_option o (kept_of cs)))
    by None e rest = rest
    by (Some d) e rest = (
      λ i.
          let w = from_map dead_block (kept_of cs) (dead_block d) i in
          let x = from_kept cs w.0 w.1 in
          once.0 (subst (λ k. IsIn (map claim_key cs) k) (one x.0 c w.0 d (inr x.1) (inl refl) x.2 e w.2) (in_map claim_key cs x.0 x.1)),
      rest,
    )

-- ---- a batch on a map

module _ (m : Map) (o : Option Part) (us : List Update) (g : ℕ) (q : IsAsked m o us g 0 []) where
  abbrev c : Changes
  c = changes_of us

  abbrev s : ℕ → Said
  s = said us

  abbrev C : List Claim
  C = claims s 0 5 0 o

  abbrev R : List Dead
  R = released s 0 5 0 o

  abbrev K : List Dead
  K = kept_of C

  -- the block that a key keeps, which is made
  record IsHeld (k : Key) (d : Dead) : Type 0 where
    pub made : IsMade m o us g 0 [] q k
    pub cell : Cell
    pub there : get m k ≡ Some cell
    pub is : dead_of cell ≡ d

  held : (x : Claim) (d : Dead) → IsIn C x → x.kept ≡ Some d → IsHeld x.key d
  held x d i e =
      let w = claim_of_key m o us g 0 [] q x i in
      let k = w.0 in
      let y = young_of 0 (own_block (part_at_key o k.level k.index)) d (sym (ap (λ (z : Claim). z.kept) w.2) ∙ e) in
      let z = own_cell (part_at_key o k.level k.index) d y.0 in
      let h : IsHeld k d = record { made = w.1; cell = z.0; there = here_is m o us g 0 [] q k w.1.place ∙ z.1; is = z.2 } in
      subst (λ n. IsHeld n d) (sym (ap (λ (z : Claim). z.key) w.2)) h

  dropped_from : (b : Block) → IsIn (map dead_block (R ++ K)) b → IsDropped m c b
  dropped_from b h =
      let d = from_map dead_block (R ++ K) b h in
      ⊎_elim
      (λ i.
      let k = gone_to m o us g 0 [] q (stays s) d.0 i in
      let r = k.1 in
      record { key = k.0; cell = r.cell; there = r.there; is = ap dead_block r.is ∙ d.2; touched = touched_key m o g q.stands us q.batch k.0 r.place ∙ r.touched })
      (λ i.
      let x = from_kept C d.0 i in
      let w = held x.0 d.0 x.1 x.2 in
      record { key = x.0.key; cell = w.cell; there = w.there; is = ap dead_block w.is ∙ d.2; touched = (made_from m o us g 0 [] q x.0.key w.made).0 })
      (in_append R K d.0 d.1)

  dropped_to : (b : Block) → IsDropped m c b → IsIn (map dead_block (R ++ K)) b
  dropped_to b h =
      let w = place_of_cell m o us g 0 [] q h.key h.cell h.there in
      let t = sym (touched_key m o g q.stands us q.batch h.key w) ∙ h.touched in
      subst (IsIn (map dead_block (R ++ K))) h.is (in_map dead_block (R ++ K) (dead_of h.cell) (by w t (stays s h.key.level h.key.index (part_at_key o h.key.level h.key.index)) refl))
    where
      by : IsPlace h.key.level h.key.index → touched s h.key.level h.key.index (part_at_key o h.key.level h.key.index) ≡ true
          → (b : Bool) → stays s h.key.level h.key.index (part_at_key o h.key.level h.key.index) ≡ b → IsIn (R ++ K) (dead_of h.cell)
      by w t true e =
          let made : IsMade m o us g 0 [] q h.key = record { place = w; touched = t; stays = e } in
          in_right R K (dead_of h.cell) (in_kept C _ (dead_of h.cell) (key_claim m o us g 0 [] q h.key made) (kept_claim m o us g 0 [] q h.key h.cell made h.there (omega arith)))
      by w t false e =
          in_left R K (dead_of h.cell)
          (gone_from m o us g 0 [] q (stays s) h.key (dead_of h.cell) (record { place = w; touched = t; cell = h.cell; there = h.there; is = refl; goes = λ f. absurd (true≢false (sym f ∙ e)) }))

  one_key : (j k : Key) (x y : Cell) (d e : Dead) → get m j ≡ Some x → get m k ≡ Some y → dead_of x ≡ d → dead_of y ≡ e → dead_block d ≡ dead_block e → j ≡ k
  one_key j k x y d e f h a b is =
      q.unique.one j k x y f h (ap (λ (z : Dead). z.block.0) a ∙ ap (λ (z : Block). z.number) is ∙ sym (ap (λ (z : Dead). z.block.0) b))

  dropped_once : AreDifferent (map dead_block (R ++ K))
  dropped_once = subst AreDifferent (sym (map-append dead_block R K))
      (different_append (map dead_block R) (map dead_block K) (gone_once m o us g 0 [] q (stays s))
      (kept_once C (claim_keys_once m o us g 0 [] q)
      (λ a b d e i j k l is. let x = held a d i k in let y = held b e j l in one_key a.key b.key x.cell y.cell d e x.there y.there x.is y.is is))
      (λ b i j.
      let d = from_map dead_block R b i in
      let k = gone_to m o us g 0 [] q (stays s) d.0 d.1 in
      let r = k.1 in
      let e = from_map dead_block K b j in
      let x = from_kept C e.0 e.1 in
      let w = held x.0 e.0 x.1 x.2 in
      let same = one_key x.0.key k.0 w.cell r.cell e.0 d.0 w.there r.there w.is r.is (e.2 ∙ sym d.2) in
      let late = r.goes (subst (λ n. stays s n.level n.index (part_at_key o n.level n.index) ≡ true) same w.made.stays) in
      absurd (omega (arith, late))))

  forecast_survey : IsSurvey m c (map dead_block (R ++ K)) (map claim_key C)
  forecast_survey = let v = survey m o us g 0 [] q in record {
    gone = λ b. (dropped_from b, dropped_to b);
    gone_once = dropped_once;
    each = v.each;
    levels = v.levels;
    made_once = v.made_once;
  }

-- ---- a batch on a root

module _ (root : Option (Arc Root Global)) (us : List Update) (sound : (count : ℕ) × IsSoundTree root count) (batch : IsBatch us) (sized : AreSized us) where
  abbrev b : ℕ
  b = birth_of (whole root)

  asked : IsAsked (map_of (root_forest root)) (whole root) us b 0 []
  asked = record { stands = stands_of root _ b sound.1.well (root_kid (shared_part root_part) root b sound.1.well (omega arith)); batch = batch; sized = sized; unique = sound.1.unique }

  pub root_survey : IsSurvey (map_of (root_forest root)) (changes_of us) (map dead_block (released (said us) 0 5 0 (whole root) ++ kept_of (claims (said us) 0 5 0 (whole root)))) (map claim_key (claims (said us) 0 5 0 (whole root)))
  root_survey = forecast_survey (map_of (root_forest root)) (whole root) us b asked

  pub root_counts : (before after : ℕ) → counted before (length (dropped (said us) 0 5 0 (whole root))) ≤ after → CountsDropped (map_of (root_forest root)) (changes_of us) before after
  root_counts = counts (map_of (root_forest root)) (whole root) us b 0 [] asked
