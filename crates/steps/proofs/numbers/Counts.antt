-- How many numbers are in each state.
use Rattle.std.proofs.Common.{◌≡◌, ℕ, zero, suc, ◌+◌, ◌<◌, Bool, true, false, cond, not, List, refl, sym, ap, subst, ◌∙◌, true≢false, ⊎_elim, length, arith}
use Rattle.std.specs.Prelude.{nat_le, nat_lt, count_by, max}
use Rattle.std.specs.List.{filter}
use Rattle.std.specs.FinSet.{union, difference, retain, from_list, len}
use Rattle.std.proofs.lemmas.List.Sums.{length-filter}
use Rattle.std.proofs.lemmas.Bool.{leb-true, lt-ltb, ltb-true}
use Rattle.std.proofs.lemmas.Bool.Decides.{leb_tells}
use Rattle.base.specs.Map.{Block, BlockSet}
use Rattle.base.specs.Surveys.{IsIn, AreDifferent}
use Rattle.zalloc.specs.declared.BlockState.{BlockState}
use Rattle.zalloc.specs.declared.BlockState.TheVariants.{Free, Allocated, Waiting}
use Rattle.zalloc.specs.States.{is_free, is_allocated, is_waiting}
use Rattle.model.specs.State.{is_number_of}
use Rattle.world.specs.Sets.{Has}
use Rattle.steps.specs.Settles.{state_at, AreStatesOf}
use Rattle.world.specs.Worlds.{AreReached}
use Rattle.world.specs.Blocks.{block_order as o}
use Rattle.world.proofs.lists.SetCounts.{in_union_left, in_union_right, in_difference, from_difference, in_retain, from_retain, same_members}
use Rattle.world.proofs.maps.Cells.{from_number}
use Rattle.steps.proofs.numbers.Lookups.{filter_different}
use Rattle.world.proofs.lists.Finding.{in_filter, from_filter}
use Rattle.steps.proofs.numbers.Surveys.{in_list, from_in_list, len-from_list}
use Rattle.steps.proofs.numbers.States.{free-state_at, count-list, count_below-same}
use Rattle.steps.proofs.numbers.Free.{count_below, free_and_taken}

-- how many numbers are in each state
module _ (now last : BlockSet) (synced group size : ℕ) (reached : AreReached now last synced group size) (states : List BlockState)
    (known : AreStatesOf now last size states) where
  abbrev U : BlockSet
  U = union now last

  all_small : (s : BlockSet) → ((b : Block) → Has s b → b.number < size) → retain s (λ b. nat_lt b.number size) ≡ s
  all_small s small = same_members o _ _
      (λ b h. (from_retain o s (λ b. nat_lt b.number size) b h).0)
      (λ b h. in_retain o s (λ b. nat_lt b.number size) b h (lt-ltb b.number size (small b h)))

  -- as many numbers pass a test as there are blocks, where the test is whether one of the blocks has the number
  count-of : (p : BlockState → Bool) (s : BlockSet) → ((b : Block) → Has s b → Has U b) → ((n : ℕ) → p (state_at now last n) ≡ is_number_of s n)
      → count_by p states ≡ len s
  count-of p s inside test =
      let counted : count_by p states ≡ count_below (is_number_of s) size =
      count-list p states (state_at now last) (λ k l. let e = known.count in known.each k (omega arith))
      ∙ count_below-same _ _ (length states) test ∙ ap (count_below (is_number_of s)) known.count in
      let all = free_and_taken s (λ a b h g n. reached.unique a b (inside a h) (inside b g) n) size in
      let same = ap len (all_small s (λ b h. reached.small b (inside b h))) in
      let either = count-either (is_number_of s) size in
      omega (arith, counted, all, same, either)
    where
      one_way : (b : Bool) → cond {A = ℕ} b 1 0 + cond {A = ℕ} (not b) 1 0 ≡ 1
      one_way true = refl
      one_way false = refl

      count-either : (q : ℕ → Bool) (n : ℕ) → count_below q n + count_below (λ k. not (q k)) n ≡ n
      count-either q zero = refl
      count-either q (suc n) = let ih = count-either q n in let w = one_way (q n) in omega (arith, ih, w)

  -- as many numbers are Free as the blocks of both worlds leave
  pub count-free : count_by is_free states + len U ≡ size
  count-free =
      let counted : count_by is_free states ≡ count_below (λ k. not (is_number_of U k)) size =
      count-list is_free states (state_at now last) (λ k l. let e = known.count in known.each k (omega arith))
      ∙ count_below-same _ _ (length states) (free-state_at now last) ∙ ap (count_below (λ k. not (is_number_of U k))) known.count in
      let all = free_and_taken U reached.unique size in
      let same = ap len (all_small U reached.small) in
      omega (arith, counted, all, same)

  pub count-allocated : count_by is_allocated states ≡ len now
  count-allocated = count-of is_allocated now (λ b h. in_union_left o now last b h) (λ n. at (is_number_of now n) (is_number_of (difference last now) n))
    where
      at : (a w : Bool) → is_allocated (cond a Allocated (cond w Waiting Free)) ≡ a
      at true w = refl
      at false true = refl
      at false false = refl

  pub count-waiting : count_by is_waiting states ≡ len (difference last now)
  count-waiting = count-of is_waiting (difference last now) (λ b h. in_union_right o now last b (from_difference o last now b h).0)
      (λ n. at n (is_number_of now n) refl (is_number_of (difference last now) n) refl)
    where
      -- a number that waits is no block's that is reached
      apart : (n : ℕ) → is_number_of now n ≡ true → is_number_of (difference last now) n ≡ true → ⊥
      apart n a w =
          let x = from_number now n a in
          let y = from_number (difference last now) n w in
          let p = from_difference o last now y.0 y.1 in
          p.1 (subst (λ z. Has now z) (reached.unique x.0 y.0 (in_union_left o now last x.0 x.1) (in_union_right o now last y.0 p.0) (x.2 ∙ sym y.2)) x.1)

      at : (n : ℕ) (a : Bool) → is_number_of now n ≡ a → (w : Bool) → is_number_of (difference last now) n ≡ w
          → is_waiting (cond (is_number_of now n) Allocated (cond (is_number_of (difference last now) n) Waiting Free)) ≡ is_number_of (difference last now) n
      at n true a true w = absurd (apart n a w)
      at n true a false w = rw (a, w) refl
      at n false a true w = rw (a, w) refl
      at n false a false w = rw (a, w) refl

  -- of the dropped blocks that one map alone has, those that the last synced world hasn't are those born since both groups
  module _ (base young : ℕ) (young_is : young ≡ max synced (base + 1)) where
    abbrev is_young : Block → Bool
    is_young b = nat_le young b.birth

    abbrev leaves : Block → Bool
    leaves b = nat_lt base b.birth

    not_last : (b : Block) → is_young b ≡ true → Has last b → ⊥
    not_last b e h = let l = leb-true young b.birth e in let k = reached.since.older b h in let y = young_is in absurd (omega arith)

    is_last : (b : Block) → is_young b ≡ false → leaves b ≡ true → Has now b → Has last b
    is_last b e l h = ⊎_elim
        (λ t. absurd (true≢false (sym t.0 ∙ e)))
        (λ t. let k = ltb-true base b.birth l in let y = young_is in let z = t.1 in reached.since.stays b h (omega arith))
        (leb_tells young b.birth)

    young_leaves : (b : Block) → is_young b ≡ true → leaves b ≡ true
    young_leaves b e = let l = leb-true young b.birth e in let y = young_is in lt-ltb base b.birth (omega arith)

    pub len-young : (bs : List Block) → AreDifferent bs → ((b : Block) → IsIn bs b → Has now b) → len (difference (from_list (filter leaves bs)) last) ≡ count_by is_young bs
    len-young bs d h =
        ap len (same_members o (difference (from_list (filter leaves bs)) last) (from_list (filter is_young bs))
        (λ b i. let p = from_difference o (from_list (filter leaves bs)) last b i in
        let k = from_filter leaves bs b (from_in_list (filter leaves bs) b p.0) in
        in_list (filter is_young bs) b (in_filter is_young bs b k.0 (by_last b k.0 k.1 p.1 (is_young b) refl)))
        (λ b i. let k = from_filter is_young bs b (from_in_list (filter is_young bs) b i) in
        in_difference o (from_list (filter leaves bs)) last b (in_list (filter leaves bs) b (in_filter leaves bs b k.0 (young_leaves b k.1))) (not_last b k.1)))
        ∙ len-from_list (filter is_young bs) (filter_different is_young bs d) ∙ length-filter is_young bs
      where
        by_last : (b : Block) → IsIn bs b → leaves b ≡ true → (Has last b → ⊥) → (t : Bool) → is_young b ≡ t → is_young b ≡ true
        by_last b k l n true e = e
        by_last b k l n false e = absurd (n (is_last b e l (h b k)))
