-- The pool's room after a change of one live map, from a survey's counts.
use Rattle.std.proofs.Common.{◌≡◌, ℕ, ◌+◌, Bool, true, false, List, Some, refl, sym, ap, subst, ◌∙◌, true≢false, map, ◌⊎◌, inl, inr, ⊎_elim, length}
use Rattle.std.specs.Prelude.{is_some, nat_lt}
use Rattle.std.specs.List.{filter}
use Rattle.std.specs.FinMap.{get}
use Rattle.std.specs.FinSet.{union, difference, from_list, len}
use Rattle.std.proofs.lemmas.Bool.{lt-ltb, ltb-true}
use Rattle.base.specs.declared.number.Key.{Key}
use Rattle.base.specs.Map.{Map, Cell, Block, BlockSet, block_of, blocks}
use Rattle.base.specs.Rewrite.{Changes, rewrite, is_touched}
use Rattle.base.specs.Surveys.{IsIn, IsDropped, IsSurvey}
use Rattle.world.specs.Sets.{Has}
use Rattle.world.specs.Numbering.{ChangesKeys}
use Rattle.steps.specs.Room.{GivesWay, AreKeysOne}
use Rattle.world.specs.Blocks.{block_order as o, after}
use Rattle.world.proofs.lineage.Lineage.{in_after, from_after}
use Rattle.world.proofs.lists.SetCounts.{in_union_left, in_union_right, Has-cases}
use Rattle.world.proofs.maps.Cells.{in_blocks, from_blocks, from_new_blocks}
use Rattle.world.proofs.maps.Rewrites.{rewrite_is_change}
use Rattle.world.proofs.lists.Listed.{in_map, map_in, different_map, length-mapped}
use Rattle.steps.proofs.numbers.Lookups.{some_of}
use Rattle.world.proofs.lists.Finding.{in_filter, from_filter}
use Rattle.steps.proofs.numbers.Surveys.{room_after, in_list, from_in_list, len-from_list}
use Rattle.base.proofs.Presence.{same_presence}

-- what a change with numbers that no block has takes of the pool's room
module _ (m : Map) (base : ℕ) (now last : BlockSet) (group : ℕ) (one : AreKeysOne m) (inside : (b : Block) → Has (blocks m) b → Has now b)
    (ch : Changes) (dropped : List Block) (made : List Key) (survey : IsSurvey m ch dropped made) (number : Key → ℕ)
    (once : (j k : Key) → IsIn made j → IsIn made k → number j ≡ number k → j ≡ k)
    (free : (k : Key) (b : Block) → Has (union now last) b → b.number ≡ number k → ⊥) where
  abbrev new : Map
  new = rewrite m ch group number

  change : ChangesKeys m new (is_touched m ch) group number
  change = rewrite_is_change m ch group number

  abbrev block_at : Key → Block
  block_at k = record { number = number k; birth = group }

  in_made : (k : Key) (x : Cell) → is_touched m ch k ≡ true → get new k ≡ Some x → IsIn made k
  in_made k x t h = (survey.each k).1 (t, same_presence m ch 0 group (λ _. 0) number k ∙ ap is_some h)

  from_made : (k : Key) → IsIn made k → (x : Cell) × (get new k ≡ Some x) × (is_touched m ch k ≡ true) × (block_of x ≡ block_at k)
  from_made k h =
      let p = (survey.each k).0 h in
      let s = some_of (get new k) (same_presence m ch group 0 number (λ _. 0) k ∙ p.1) in
      let w = change.made k s.0 p.0 s.1 in
      (s.0, s.1, p.0, λ i. record { number = w.0 i; birth = w.1 i })

  dropped_at : (j : Key) (x : Cell) (b : Block) → get m j ≡ Some x → block_of x ≡ b → IsDropped m ch b → is_touched m ch j ≡ true
  dropped_at j x b h is d = ap (is_touched m ch) (one j d.key x d.cell h d.there (ap (λ (y : Block). y.number) (is ∙ sym d.is))) ∙ d.touched

  -- the dropped blocks that the map alone has: they leave what is reached
  abbrev pub leaves : Block → Bool
  leaves b = nat_lt base b.birth

  abbrev D : BlockSet
  D = from_list (filter leaves dropped)

  abbrev M : BlockSet
  M = from_list (map block_at made)

  in_D : (b : Block) → IsDropped m ch b → leaves b ≡ true → Has D b
  in_D b d l = in_list (filter leaves dropped) b (in_filter leaves dropped b ((survey.gone b).1 d) l)

  from_D : (b : Block) → Has D b → IsDropped m ch b × (leaves b ≡ true)
  from_D b h = let k = from_filter leaves dropped b (from_in_list (filter leaves dropped) b h) in ((survey.gone b).0 k.0, k.1)

  own : (b : Block) → IsDropped m ch b → Has (blocks m) b
  own b d = subst (λ y. Has (blocks m) y) d.is (in_blocks m d.key d.cell d.there)

  in_M : (k : Key) → IsIn made k → Has M (block_at k)
  in_M k h = in_list (map block_at made) (block_at k) (map_in block_at made k h)

  from_M : (b : Block) → Has M b → (k : Key) × IsIn made k × (b ≡ block_at k)
  from_M b h = in_map block_at made b (from_in_list (map block_at made) b h)

  -- a dropped block is one that is reached
  pub dropped_reached : (b : Block) → IsIn dropped b → Has now b
  dropped_reached b i = inside b (own b ((survey.gone b).0 i))

  -- a block of the map afterwards was there, or was born in the open group with a number that no block has
  pub fresh_or_old : (b : Block) → Has (blocks new) b → Has (blocks m) b ⊎ ((b.birth ≡ group) × ¬ (Has (union now last) b))
  fresh_or_old b h = ⊎_elim
      (λ w. inl (subst (λ y. Has (blocks m) y) w.3 (in_blocks m w.0 w.1 w.2)))
      (λ w. inr (w.6, λ u. free w.0 b u w.5))
      (from_new_blocks m new (is_touched m ch) group number change b h)

  module _ (reached : BlockSet) (way : GivesWay (after base (blocks m)) (blocks new) now reached) where
    old_or : (b : Block) (k : Key) (x : Cell) → get m k ≡ Some x → block_of x ≡ b → leaves b ≡ true → (t : Bool) → is_touched m ch k ≡ t → Has D b ⊎ Has reached b
    old_or b k x h is l true t = inl (in_D b (record { key = k; cell = x; there = h; is = is; touched = t }) l)
    old_or b k x h is l false t = inr (subst (λ y. Has reached y) is (way.there (block_of x) (in_blocks new k x (change.kept k t ∙ h))))

    own_of : (b : Block) → Has D b → Has (after base (blocks m)) b
    own_of b h = let k = from_D b h in in_after base (blocks m) b (own b k.0) (ltb-true base b.birth k.1)

    -- the room that the change takes: what it makes, less what it drops and the last synced world hasn't
    pub room_of_change : len (union reached last) + len (difference D last) ≡ len (union now last) + length made
    room_of_change =
        room_after now reached D M last
        (λ b h. inside b (own b (from_D b h).0))
        (λ b h. let k = from_M b h in let w = from_made k.0 k.1 in subst (λ y. Has reached y) (w.3 ∙ sym k.2) (way.there (block_of w.0) (in_blocks new k.0 w.0 w.1)))
        (λ b h. ⊎_elim
        (λ k. let a = from_after base (blocks m) b k in let f = from_blocks m b a.0 in old_or b f.0 f.1 f.2 f.3 (lt-ltb base b.birth a.1) (is_touched m ch f.0) refl)
        (λ n. inr (way.stays b h n))
        (Has-cases o (after base (blocks m)) b))
        (λ b h. ⊎_elim
        (λ k. ⊎_elim
        (λ w. inr (inside b (subst (λ y. Has (blocks m) y) w.3 (in_blocks m w.0 w.1 w.2)), λ d. true≢false (sym (dropped_at w.0 w.1 b w.2 w.3 (from_D b d).0) ∙ w.4)))
        (λ w. inl (subst (λ y. Has M y) ((λ i. record { number = sym w.5 i; birth = sym w.6 i })) (in_M w.0 (in_made w.0 w.1 w.3 w.2))))
        (from_new_blocks m new (is_touched m ch) group number change b k))
        (λ k. inr (k.0, λ d. k.1 (own_of b d)))
        (way.comes b h))
        (λ b q. let k = from_M b q in let n = ap (λ (y : Block). y.number) k.2 in λ s. ⊎_elim
        (λ a. free k.0 b (in_union_left o now last b a.0) n)
        (λ l. free k.0 b (in_union_right o now last b l) n) s)
        ∙ ap (λ n. len (union now last) + n)
        (len-from_list (map block_at made) (different_map block_at made (λ a b h g e. once a b h g (ap (λ (y : Block). y.number) e)) survey.made_once) ∙ length-mapped block_at made)
