-- A batch on a map: what it drops and makes, and the map with the numbers chosen.
use Rattle.std.proofs.Common.{◌≡◌, ℕ, ◌+◌, ◌-◌, ◌^◌, ◌<◌, ◌≤◌, Bool, true, false, cond, List, [], ◌∷◌, length, map, Option, Some, None, refl, sym, ap, subst, ◌∙◌, arith, ⊎_elim, true≢false}
use Rattle.std.specs.Prelude.{is_some, slice_get, count_by}
use Rattle.std.specs.Option.{option_map}
use Rattle.std.specs.FinMap.{get}
use Rattle.std.proofs.lemmas.Bool.{cases_lt}
use Rattle.std.proofs.lemmas.List.{length-map}
use Rattle.base.specs.declared.number.Key.{Key}
use Rattle.base.specs.declared.number.Dead.{Dead}
use Rattle.base.specs.Map.{Map, Cell, Block}
use Rattle.base.specs.Rewrite.{Changes}
use Rattle.base.specs.Surveys.{IsIn, AreDifferent, IsMadeKey, IsDropped, IsSurvey, dead_block}
use Rattle.zalloc.specs.declared.BlockState.{BlockState}
use Rattle.zalloc.specs.declared.BlockState.TheVariants.{Allocated}
use Rattle.zalloc.specs.States.{is_free}
use Rattle.base.specs.Counting.{counted as counted_from}
use Rattle.batch.specs.Cost.{CountsDropped}
use Rattle.batch.specs.Room.{AreAllocated, IsKept, IsReleased, HasRoom, LacksRoom, young_count}
use Rattle.batch.specs.declared.update.Update.{Update}
use Rattle.batch.specs.declared.findings.Claim.{Claim}
use Rattle.node.specs.Entries.{key_at}
use Rattle.node.specs.Shape.{Part}
use Rattle.batch.specs.Said.{Said, said, AreSized}
use Rattle.batch.specs.Touch.{touched, stays, listing, claims, released, dropped, claim_of, let_go, own_block, young_one}
use Rattle.node.specs.Cells.{dead_of}
use Rattle.batch.specs.Build.{is_fresh}
use Rattle.batch.specs.Numbers.{is_young}
use Rattle.node.specs.Unique.{IsUnique}
use Rattle.batch.specs.Updates.{changes_of, IsBatchFrom}
use Rattle.node.proofs.Options.{same_value, not_some, if_some}
use Rattle.batch.proofs.Standing.{Stands, IsPlace, part_at_key, touched_key, rewrite_high, rewrite_past, after_is}
use Rattle.batch.proofs.Listing.{in_map, from_map, different_by, listing_in, in_listing, listing_falls, listing_map, listing_count}
use Rattle.batch.proofs.Falling.{Falls, falls_once}
use Rattle.batch.proofs.Filled.{claim_key}
use Rattle.batch.proofs.Owned.{claim_in, in_claim, gone_in, in_gone, keyed, keyed_values, keyed_in, in_keyed, keyed_falls, claim_falls, own_cell, cell_own, young_of, of_young, is_kept, own_count, count_claims, young_blocks}

-- what is known of a map and of what is to be done to it
pub record IsAsked (m : Map) (o : Option Part) (us : List Update) (g y : ℕ) (states : List BlockState) : Type 0 where
  pub stands : Stands m o g
  pub batch : IsBatchFrom 0 us
  pub sized : AreSized us
  pub unique : IsUnique m

module _ (m : Map) (o : Option Part) (us : List Update) (g y : ℕ) (states : List BlockState) (q : IsAsked m o us g y states) where
  abbrev c : Changes
  c = changes_of us

  abbrev s : ℕ → Said
  s = said us

  abbrev at : ℕ → ℕ → Option Part
  at = part_at_key o

  abbrev t : Key → Bool
  t k = touched s k.level k.index (at k.level k.index)

  abbrev p : Key → Bool
  p k = stays s k.level k.index (at k.level k.index)

  abbrev C : List Claim
  C = claims s y 5 0 o

  abbrev R : List Dead
  R = released s y 5 0 o

  here : (k : Key) → IsPlace k.level k.index → get m k ≡ option_map (λ (x : Part). x.cell) (at k.level k.index)
  here k w = q.stands.here k w.level w.index

  place_of : (k : Key) (x : Cell) → get m k ≡ Some x → IsPlace k.level k.index
  place_of k x e = ⊎_elim
      (λ h. absurd (not_some _ (q.stands.high k h) (ap is_some e)))
      (λ l. ⊎_elim (λ b. record { level = l; index = b }) (λ b. absurd (not_some _ (q.stands.past k l b) (ap is_some e))) (cases_lt k.index (16 ^ (5 - k.level))))
      (cases_lt 5 k.level)

  -- the keys that are made
  pub record IsMade (k : Key) : Type 0 where
    pub place : IsPlace k.level k.index
    pub touched : t k ≡ true
    pub stays : p k ≡ true

  some_new : (b v : Bool) (x : Cell) (r : Option Cell) → b ≡ true → is_some (cond b (cond v (Some x) None) r) ≡ true → v ≡ true
  some_new true true x r e h = refl
  some_new true false x r e h = absurd (true≢false (sym h))
  some_new false v x r e h = absurd (true≢false (sym e))

  pub made_to : (k : Key) → IsMadeKey m c k → IsMade k
  made_to k h = ⊎_elim
      (λ b. absurd (not_some _ (rewrite_high m o g q.stands us q.batch 0 (λ _. 0) k b) h.1))
      (λ l. ⊎_elim
      (λ b.
      let w : IsPlace k.level k.index = record { level = l; index = b } in
      let e = sym (touched_key m o g q.stands us q.batch k w) ∙ h.0 in
      record { place = w; touched = e; stays = some_new (t k) (p k) _ _ e (sym (ap is_some (after_is m o g q.stands us q.batch 0 (λ _. 0) k w)) ∙ h.1) })
      (λ b. absurd (not_some _ (rewrite_past m o g q.stands us q.batch 0 (λ _. 0) k l b) h.1))
      (cases_lt k.index (16 ^ (5 - k.level))))
      (cases_lt 5 k.level)

  both_true : (b v : Bool) (x : Cell) (r : Option Cell) → b ≡ true → v ≡ true → is_some (cond b (cond v (Some x) None) r) ≡ true
  both_true true true x r e f = refl
  both_true true false x r e f = absurd (true≢false (sym f))
  both_true false v x r e f = absurd (true≢false (sym e))

  pub made_from : (k : Key) → IsMade k → IsMadeKey m c k
  made_from k h = (touched_key m o g q.stands us q.batch k h.place ∙ h.touched, ap is_some (after_is m o g q.stands us q.batch 0 (λ _. 0) k h.place) ∙ both_true (t k) (p k) _ _ h.touched h.stays)

  -- the claims
  abbrev own_claim : ℕ → ℕ → Option Part → List Claim
  own_claim l j x = claim_of (touched s l j x) (stays s l j x) (key_at l j) y (own_block x)

  abbrev claim_at : Key → Claim
  claim_at k = record { key = k; kept = young_one y (own_block (at k.level k.index)) }

  root_place : IsPlace 5 0
  root_place = record { level = omega arith; index = omega arith }

  claims_in : (x : Claim) → IsIn C x → (k : Key) × IsMade k × (x ≡ claim_at k)
  claims_in x h =
      let w = listing_in m o g q.stands own_claim 5 0 x root_place h in
      let k = w.0 in
      let e = claim_in (t k) (p k) k y (own_block (at k.level k.index)) x w.3 in
      (k, record { place = w.1; touched = e.0; stays = e.1 }, e.2)

  in_claims : (k : Key) → IsMade k → IsIn C (claim_at k)
  in_claims k h = in_listing m o g q.stands own_claim k (claim_at k) h.place (in_claim (t k) (p k) k y (own_block (at k.level k.index)) h.touched h.stays)

  pub claim_keys_fall : Falls (map claim_key C)
  claim_keys_fall = listing_falls m o g q.stands own_claim claim_key
      (λ l j x. claim_falls (touched s l j x) (stays s l j x) (key_at l j) y (own_block x))
      (λ l j x z h. ap claim_key (claim_in (touched s l j x) (stays s l j x) (key_at l j) y (own_block x) z h).2)
      5 0 root_place

  pub claim_keys_once : AreDifferent (map claim_key C)
  claim_keys_once = falls_once (map claim_key C) claim_keys_fall

  pub claimed_to : (k : Key) → IsIn (map claim_key C) k → IsMade k
  claimed_to k h = let x = from_map claim_key C k h in let w = claims_in x.0 x.1 in subst IsMade (sym (ap claim_key w.2) ∙ x.2) w.1

  pub claimed_from : (k : Key) → IsMade k → IsIn (map claim_key C) k
  claimed_from k h = in_map claim_key C (claim_at k) (in_claims k h)

  -- blocks that are let go, where v says which keys keep theirs
  module _ (v : ℕ → ℕ → Option Part → Bool) where
    abbrev own_gone : ℕ → ℕ → Option Part → List Dead
    own_gone l j x = let_go (touched s l j x) (v l j x) y (own_block x)

    abbrev own_keyed : ℕ → ℕ → Option Part → List (Key × Dead)
    own_keyed l j x = keyed (key_at l j) (own_gone l j x)

    abbrev G : List (Key × Dead)
    G = listing own_keyed 5 0 o

    pub gone_values : map (λ (e : Key × Dead). e.1) G ≡ listing own_gone 5 0 o
    gone_values = listing_map (λ (e : Key × Dead). e.1) own_keyed own_gone (λ l j x. keyed_values (key_at l j) (own_gone l j x)) 5 0 o

    gone_keys : AreDifferent (map (λ (e : Key × Dead). e.0) G)
    gone_keys = falls_once (map (λ (e : Key × Dead). e.0) G) (listing_falls m o g q.stands own_keyed (λ e. e.0)
        (λ l j x. keyed_falls (key_at l j) (touched s l j x) (v l j x) y (own_block x))
        (λ l j x e h. (keyed_in (key_at l j) (own_gone l j x) e h).0)
        5 0 root_place)

    -- one block of one key
    pub record IsGone (k : Key) (d : Dead) : Type 0 where
      pub place : IsPlace k.level k.index
      pub touched : t k ≡ true
      pub cell : Cell
      pub there : get m k ≡ Some cell
      pub is : dead_of cell ≡ d
      pub goes : v k.level k.index (at k.level k.index) ≡ true → d.birth.0 < y

    keyed_gone : (e : Key × Dead) → IsIn G e → IsGone e.0 e.1
    keyed_gone e h =
        let w = listing_in m o g q.stands own_keyed 5 0 e root_place h in
        let k = w.0 in
        let i = keyed_in k (own_gone k.level k.index (at k.level k.index)) e w.3 in
        let f = gone_in (t k) (v k.level k.index (at k.level k.index)) y (own_block (at k.level k.index)) e.1 i.1 in
        let x = own_cell (at k.level k.index) e.1 f.1 in
        let r : IsGone k e.1 = record { place = w.1; touched = f.0; cell = x.0; there = here k w.1 ∙ x.1; is = x.2; goes = f.2 } in
        subst (λ z. IsGone z e.1) (sym i.0) r

    gone_keyed : (k : Key) (d : Dead) → IsGone k d → IsIn G (k, d)
    gone_keyed k d r =
        in_listing m o g q.stands own_keyed k (k, d) r.place
        (in_keyed k (own_gone k.level k.index (at k.level k.index)) d
        (in_gone (t k) (v k.level k.index (at k.level k.index)) y (own_block (at k.level k.index)) d r.touched
        (cell_own (at k.level k.index) r.cell (sym (here k r.place) ∙ r.there) ∙ ap Some r.is)
        (λ f b. let l = r.goes f in absurd (omega arith))))

    pub gone_to : (d : Dead) → IsIn (listing own_gone 5 0 o) d → (k : Key) × IsGone k d
    gone_to d h =
        let e = from_map (λ (e : Key × Dead). e.1) G d (subst (λ xs. IsIn xs d) (sym gone_values) h) in
        (e.0.0, subst (IsGone e.0.0) e.2 (keyed_gone e.0 e.1))

    pub gone_from : (k : Key) (d : Dead) → IsGone k d → IsIn (listing own_gone 5 0 o) d
    gone_from k d r = subst (λ xs. IsIn xs d) gone_values (in_map (λ (e : Key × Dead). e.1) G (k, d) (gone_keyed k d r))

    same_number : (a b : Key × Dead) → IsIn G a → IsIn G b → a.1.block.0 ≡ b.1.block.0 → a.0 ≡ b.0
    same_number a b h i e =
        let x = keyed_gone a h in let z = keyed_gone b i in
        q.unique.one a.0 b.0 x.cell z.cell x.there z.there (ap (λ (d : Dead). d.block.0) x.is ∙ e ∙ sym (ap (λ (d : Dead). d.block.0) z.is))

    map_map : {A : Type 0} (f : Dead → A) (es : List (Key × Dead)) → map f (map (λ (e : Key × Dead). e.1) es) ≡ map (λ (e : Key × Dead). f e.1) es
    map_map f [] = refl
    map_map f (e ∷ es) = ap (λ xs. f e.1 ∷ xs) (map_map f es)

    pub gone_numbers_once : AreDifferent (map (λ (d : Dead). d.block.0) (listing own_gone 5 0 o))
    gone_numbers_once = subst AreDifferent (sym (map_map (λ (d : Dead). d.block.0) G) ∙ ap (map (λ (d : Dead). d.block.0)) gone_values)
        (different_by (λ (e : Key × Dead). e.0) (λ (e : Key × Dead). e.1.block.0) G gone_keys same_number)

    pub gone_once : AreDifferent (map dead_block (listing own_gone 5 0 o))
    gone_once = subst AreDifferent (sym (map_map dead_block G) ∙ ap (map dead_block) gone_values)
        (different_by (λ (e : Key × Dead). e.0) (λ (e : Key × Dead). dead_block e.1) G gone_keys (λ a b h i e. same_number a b h i (ap (λ (x : Block). x.number) e)))

  abbrev none : ℕ → ℕ → Option Part → Bool
  none l j x = false

  abbrev D : List Dead
  D = dropped s y 5 0 o

  dropped_from : (b : Block) → IsIn (map dead_block D) b → IsDropped m c b
  dropped_from b h =
      let d = from_map dead_block D b h in
      let k = gone_to none d.0 d.1 in
      let r = k.1 in
      record { key = k.0; cell = r.cell; there = r.there; is = ap dead_block r.is ∙ d.2; touched = touched_key m o g q.stands us q.batch k.0 r.place ∙ r.touched }

  dropped_to : (b : Block) → IsDropped m c b → IsIn (map dead_block D) b
  dropped_to b h =
      let w = place_of h.key h.cell h.there in
      subst (IsIn (map dead_block D)) h.is (in_map dead_block D (dead_of h.cell) (gone_from none h.key (dead_of h.cell) (record { place = w; touched = sym (touched_key m o g q.stands us q.batch h.key w) ∙ h.touched; cell = h.cell; there = h.there; is = refl; goes = λ e. absurd (true≢false (sym e)) })))

  -- what the change drops and makes
  pub survey : IsSurvey m c (map dead_block D) (map claim_key C)
  survey = record {
    gone = λ b. (dropped_from b, dropped_to b);
    gone_once = gone_once none;
    each = λ k. ((λ h. made_from k (claimed_to k h)), (λ h. claimed_from k (made_to k h)));
    levels = λ k h. let w = (claimed_to k h).place in w.level;
    made_once = claim_keys_once;
  }

  -- what its meter has counted
  pub counts : (before after : ℕ) → counted_from before (length D) ≤ after → CountsDropped m c before after
  counts before after h = record {
    dropped = map dead_block D;
    each = λ b. (dropped_from b, dropped_to b);
    once = gone_once none;
    metered = subst (λ n. counted_from before n ≤ after) (sym (length-map D dead_block)) h;
  }

  counted : young_count y (map dead_block D) ≡ count_by (is_young y) R + count_by is_kept C
  counted = young_blocks y D ∙ listing_count (is_young y) (is_young y) is_kept (own_gone none) (own_gone (stays s)) own_claim
      (λ l j x. own_count (touched s l j x) (stays s l j x) (key_at l j) y (own_block x)) 5 0 o

  made_count : length (map claim_key C) ≡ count_by is_fresh C + count_by is_kept C
  made_count = length-map C claim_key ∙ count_claims C

  pub room : count_by is_fresh C ≤ count_by is_free states + count_by (is_young y) R → HasRoom m c y states
  room h = record { dropped = map dead_block D; made = map claim_key C; survey = survey; enough = omega (arith, counted, made_count, h) }

  pub no_room : count_by is_free states + count_by (is_young y) R < count_by is_fresh C → LacksRoom m c y states
  no_room h = record { dropped = map dead_block D; made = map claim_key C; survey = survey; short = omega (arith, counted, made_count, h) }

  -- what the choice of numbers asks
  pub released_allocated : AreAllocated m states → (d : Dead) → IsIn R d → slice_get states d.block.0 ≡ Some Allocated
  released_allocated all d h =
      let r = gone_to (stays s) d h in
      let x = r.1 in
      ap (slice_get states) (sym (ap (λ (e : Dead). e.block.0) x.is)) ∙ if_some _ _ x.cell x.there (all r.0)

  pub released_once : AreDifferent (map (λ (d : Dead). d.block.0) R)
  released_once = gone_numbers_once (stays s)

  pub released_blocks_once : AreDifferent (map dead_block R)
  released_blocks_once = gone_once (stays s)

  -- a key that keeps its number, by its claim
  pub kept_claim : (k : Key) (x : Cell) → IsMade k → get m k ≡ Some x → y ≤ x.birth → (claim_at k).kept ≡ Some (dead_of x)
  kept_claim k x h e b = of_young y (own_block (at k.level k.index)) (dead_of x) (cell_own (at k.level k.index) x (sym (here k h.place) ∙ e)) b

  pub claim_kept : (k : Key) (d : Dead) → IsMade k → (claim_at k).kept ≡ Some d → IsKept m c y k
  claim_kept k d h e =
      let w = young_of y (own_block (at k.level k.index)) d e in
      let x = own_cell (at k.level k.index) d w.0 in
      record { made = made_from k h; cell = x.0; there = here k h.place ∙ x.1; born = let b = ap (λ (z : Dead). z.birth.0) x.2 in let l = w.1 in omega (arith, b, l) }

  pub fresh_claim : (k : Key) → IsMade k → ¬ (IsKept m c y k) → (claim_at k).kept ≡ None
  fresh_claim k h n = by (claim_at k).kept refl
    where
      by : (d : Option Dead) → (claim_at k).kept ≡ d → (claim_at k).kept ≡ None
      by None e = e
      by (Some d) e = absurd (n (claim_kept k d h e))

  pub claim_fresh : (k : Key) → (claim_at k).kept ≡ None → ¬ (IsKept m c y k)
  claim_fresh k e h = let f = sym e ∙ kept_claim k h.cell (made_to k h.made) h.there h.born in cc

  pub claim_of_key : (x : Claim) → IsIn C x → (k : Key) × IsMade k × (x ≡ claim_at k)
  claim_of_key = claims_in

  pub key_claim : (k : Key) → IsMade k → IsIn C (claim_at k)
  key_claim = in_claims

  -- the blocks that are let go
  pub released_to : (b : Block) → IsIn (map dead_block R) b → IsReleased m c y b
  released_to b h =
      let d = from_map dead_block R b h in
      let r = gone_to (stays s) d.0 d.1 in
      let x = r.1 in
      record {
        key = r.0;
        cell = x.cell;
        there = x.there;
        is = ap dead_block x.is ∙ d.2;
        touched = touched_key m o g q.stands us q.batch r.0 x.place ∙ x.touched;
        goes = λ k.
            let l = x.goes (made_to r.0 k.made).stays in
            let same : x.cell ≡ k.cell = same_value x.cell k.cell (sym x.there ∙ k.there) in
            let e = ap (λ (z : Cell). z.birth) same in
            let f = ap (λ (z : Dead). z.birth.0) x.is in
            let n = k.born in
            absurd (omega (arith, l, e, f, n));
      }

  pub released_from : (b : Block) → IsReleased m c y b → IsIn (map dead_block R) b
  released_from b h =
      let w = place_of h.key h.cell h.there in
      let e = sym (touched_key m o g q.stands us q.batch h.key w) ∙ h.touched in
      subst (IsIn (map dead_block R)) h.is (in_map dead_block R (dead_of h.cell) (gone_from (stays s) h.key (dead_of h.cell) (record {
        place = w;
        touched = e;
        cell = h.cell;
        there = h.there;
        is = refl;
        goes = λ f. ⊎_elim (λ l. l) (λ l. absurd (h.goes (record { made = made_from h.key (record { place = w; touched = e; stays = f }); cell = h.cell; there = h.there; born = l }))) (cases_lt h.cell.birth y);
      })))

  pub gone_of : (d : Dead) → IsIn R d → (k : Key) × IsGone (stays s) k d
  gone_of = gone_to (stays s)

  pub place_of_cell : (k : Key) (x : Cell) → get m k ≡ Some x → IsPlace k.level k.index
  place_of_cell = place_of

  pub here_is : (k : Key) → IsPlace k.level k.index → get m k ≡ option_map (λ (x : Part). x.cell) (at k.level k.index)
  here_is = here
