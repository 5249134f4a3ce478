-- The states of the numbers after a change that takes numbers of blocks that it releases: first the blocks are released, and then
-- the numbers are taken.
use Rattle.std.proofs.Common.{◌≡◌, ℕ, ◌<◌, ◌≤◌, cond, List, [], ◌∷◌, Some, refl, sym, ap, ◌∙◌, inl, inr, ⊎_elim, length, arith}
use Rattle.std.specs.Prelude.{slice_get, slice_set, nat_lt}
use Rattle.std.specs.FinSet.{union, difference, from_list}
use Rattle.std.proofs.lemmas.Bool.{ltb-true, false_from_ne_true}
use Rattle.std.proofs.lemmas.List.{length-set}
use Rattle.base.specs.Map.{Block, BlockSet}
use Rattle.base.specs.Surveys.{IsIn, AreDifferent}
use Rattle.zalloc.specs.declared.BlockState.{BlockState}
use Rattle.zalloc.specs.declared.BlockState.TheVariants.{Free, Allocated, Waiting}
use Rattle.tree.specs.Taking.{takes, AllFree}
use Rattle.world.specs.Sets.{Has}
use Rattle.steps.specs.Settles.{state_at, released_state, releases, AllAllocated, AreStatesOf, AreTakable}
use Rattle.world.specs.Plans.{IsSettling}
use Rattle.world.specs.Worlds.{AreReached}
use Rattle.world.specs.Blocks.{block_order as o}
use Rattle.world.proofs.lists.SetCounts.{in_union_left, in_union_right, from_union, in_difference, from_difference}
use Rattle.steps.proofs.numbers.Surveys.{in_list, from_in_list}
use Rattle.world.proofs.lists.Listed.{in_map, different_map}
use Rattle.steps.proofs.numbers.States.{state_at-now}
use Rattle.steps.proofs.numbers.Settles as settles
use Rattle.steps.proofs.numbers.Settles.{numbers_of, releases_other, releases_here}

length-takes : (states : List BlockState) (ns : List ℕ) → length (takes states ns) ≡ length states
length-takes states [] = refl
length-takes states (n ∷ ns) = length-takes (slice_set states n Allocated) ns ∙ length-set states n Allocated

length-releases : (g : ℕ) (states : List BlockState) (bs : List Block) → length (releases g states bs) ≡ length states
length-releases g states [] = refl
length-releases g states (b ∷ bs) = length-releases g (slice_set states b.number (released_state g b)) bs ∙ length-set states b.number (released_state g b)

module _ (now after last : BlockSet) (synced group size : ℕ) (reached : AreReached now last synced group size)
    (released : List Block) (taken : List ℕ) (settling : IsSettling now after last synced released taken)
    (states : List BlockState) (known : AreStatesOf now last size states) (takable : AreTakable states synced released taken) where
  -- the blocks that stay while the change is half done
  abbrev R : BlockSet
  R = from_list released

  abbrev between : BlockSet
  between = difference now R

  in_between : (b : Block) → Has now b → (IsIn released b → ⊥) → Has between b
  in_between b h out = in_difference o now R b h (λ k. out (from_in_list released b k))

  from_between : (b : Block) → Has between b → Has now b × (IsIn released b → ⊥)
  from_between b h = let p = from_difference o now R b h in (p.0, λ i. p.1 (in_list released b i))

  gone_first : IsSettling now between last synced released []
  gone_first = record {
    unique = settling.unique;
    there = settling.there;
    came = λ b h. let p = from_between b h in inl (b, p.0, refl, p.1);
    stays = λ b h out. ((b, in_between b h out, refl), λ l. in_between b h out);
    made = λ n i. absurd i;
    waits = settling.waits;
    once = settling.once;
    taken_once = tt;
  }

  taken_then : IsSettling between after last synced [] taken
  taken_then = record {
    unique = λ a b h g n. settling.unique a b (wider a h) (wider b g) n;
    there = λ b i. absurd i;
    came = λ b h. ⊎_elim (λ k. inl (k.0, in_between k.0 k.1 k.3, k.2, λ i. i)) (λ i. inr i) (settling.came b h);
    stays = λ b h out. let p = from_between b h in settling.stays b p.0 p.1;
    made = settling.made;
    waits = λ b h. settling.waits b (from_between b h).0;
    once = tt;
    taken_once = settling.taken_once;
  }
    where
      wider : (b : Block) → Has (union between last) b → Has (union now last) b
      wider b h = ⊎_elim (λ k. in_union_left o now last b (from_between b k).0) (λ l. in_union_right o now last b l) (from_union o between last b h)

  abbrev freed : List BlockState
  freed = releases synced states released

  in_pool : (b : Block) → Has now b → b.number < size
  in_pool b h = reached.small b (in_union_left o now last b h)

  pub release_them : AllAllocated synced states released
  release_them = settles.release_them now between last synced released [] gone_first states (λ n. n < size) known.each in_pool (λ n i. absurd i)

  freed_states : (n : ℕ) → n < size → slice_get freed n ≡ Some (state_at between last n)
  freed_states = settles.settled now between last synced released [] gone_first states (λ n. n < size) known.each in_pool (λ n i. absurd i)

  was_allocated : (b : Block) → IsIn released b → slice_get states b.number ≡ Some Allocated
  was_allocated b i = let h = settling.there b i in known.each b.number (in_pool b h) ∙ ap Some (state_at-now now last b h)

  numbers_once : AreDifferent (numbers_of released)
  numbers_once = different_map (λ (b : Block). b.number) released
      (λ a b h k e. settling.unique a b (in_union_left o now last a (settling.there a h)) (in_union_left o now last b (settling.there b k)) e) settling.once

  free_not_allocated : {X : Type 0} → Some Free ≡ Some Allocated → X
  free_not_allocated e = cc

  young_is_free : (b : Block) → synced ≤ b.birth → released_state synced b ≡ Free
  young_is_free b l = ap (λ t. cond t Waiting Free) (false_from_ne_true (nat_lt b.birth synced) (λ t. let k = ltb-true b.birth synced t in absurd (omega arith)))

  now_free : (n : ℕ) → IsIn taken n → slice_get freed n ≡ Some Free
  now_free n i = ⊎_elim
      (λ f. releases_other synced states released n (λ k.
      let b = in_map (λ (b : Block). b.number) released n k in
      free_not_allocated (sym f ∙ ap (slice_get states) b.2 ∙ was_allocated b.0 b.1)) ∙ f)
      (λ w. ap (slice_get freed) (sym w.3) ∙ releases_here synced states released w.0 numbers_once w.1 Allocated (was_allocated w.0 w.1) ∙ ap Some (young_is_free w.0 w.2))
      (takable n i)

  still_in_pool : (b : Block) → Has between b → b.number < size
  still_in_pool b h = in_pool b (from_between b h).0

  pub take_them : AllFree freed taken
  take_them = settles.take_them between after last synced [] taken taken_then freed (λ n. n < size) freed_states still_in_pool now_free

  -- and then every number has the state that the worlds after the change give it
  pub settled : AreStatesOf after last size (takes freed taken)
  settled = record {
    count = length-takes freed taken ∙ length-releases synced states released ∙ known.count;
    each = settles.settled between after last synced [] taken taken_then freed (λ n. n < size) freed_states still_in_pool now_free;
  }
