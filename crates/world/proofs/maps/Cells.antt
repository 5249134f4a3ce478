-- The blocks of a map, as facts, and what a change does to them.
use Rattle.std.proofs.Common.{◌≡◌, ℕ, Bool, true, false, ◌||◌, List, [], ◌∷◌, Some, refl, sym, ap, ◌∙◌, true≢false, map, ◌⊎◌, inl, inr, ⊎_elim}
use Rattle.std.specs.Prelude.{IsTrue, ◌==◌}
use Rattle.std.specs.Ordering.{eq_by_cmp, is_eq}
use Rattle.std.specs.List.{list_any}
use Rattle.std.specs.FinMap.{get, entries}
use Rattle.std.specs.FinSet.{retain, contains-from_list}
use Rattle.std.specs.Cmp.{Equal-is, tied_itself}
use Rattle.std.proofs.lemmas.Bool.{or_cases, or_right, eqb-true, eq-eqb, ltb-true, lt-ltb}
use Rattle.base.specs.declared.number.Key.{Key}
use Rattle.base.specs.Map.{Map, Cell, Block, BlockSet, block_of, blocks, block_cmp, block_cmp_total, block_cmp-IsAntisymmetric}
use Rattle.model.specs.State.{is_number_of}
use Rattle.world.specs.Sets.{Has}
use Rattle.world.specs.Usage.{IsEntry}
use Rattle.world.specs.Numbering.{ChangesKeys}
use Rattle.world.specs.Blocks.{block_order}
use Rattle.world.specs.Shapes.{key_order}
use Rattle.world.proofs.lists.Maps.{entry_of, at_entry}
use Rattle.world.proofs.lists.SetCounts.{in_retain, from_retain, has_some, some_member}

abbrev tied : Block → Block → Bool
tied a b = eq_by_cmp block_cmp a b

tied_same : (b : Block) → tied b b ≡ true
tied_same b = ap is_eq (tied_itself block_cmp_total b)

same_tied : (a b : Block) → tied a b ≡ true → a ≡ b
same_tied a b e = block_cmp-IsAntisymmetric a b ((Equal-is (block_cmp a b)).0 e)

any_entry : (es : List (Key × Cell)) (k : Key) (c : Cell) → IsEntry es k c → list_any (tied (block_of c)) (map block_of (map (λ e. e.1) es)) ≡ true
any_entry [] k c h = absurd h
any_entry (e ∷ es) k c h = ⊎_elim
    (λ is. ap (λ b. b || list_any (tied (block_of c)) (map block_of (map (λ e. e.1) es))) (ap (λ d. tied (block_of c) (block_of d)) (sym is.1) ∙ tied_same (block_of c)))
    (λ r. or_right _ _ (any_entry es k c r)) h

entry_any : (es : List (Key × Cell)) (b : Block) → list_any (tied b) (map block_of (map (λ e. e.1) es)) ≡ true → (k : Key) × (c : Cell) × IsEntry es k c × (block_of c ≡ b)
entry_any [] b h = absurd (true≢false (sym h))
entry_any (e ∷ es) b h = ⊎_elim
    (λ t. (e.0, e.1, inl (refl, refl), sym (same_tied b (block_of e.1) t)))
    (λ r. let i = entry_any es b r in (i.0, i.1, inr i.2, i.3)) (or_cases _ _ h)

pub in_blocks : (m : Map) (k : Key) (c : Cell) → get m k ≡ Some c → Has (blocks m) (block_of c)
unfolding blocks
in_blocks m k c h = contains-from_list block_cmp_total _ (block_of c) ∙ any_entry (entries m) k c (entry_of key_order m k c h)

pub from_blocks : (m : Map) (b : Block) → Has (blocks m) b → (k : Key) × (c : Cell) × (get m k ≡ Some c) × (block_of c ≡ b)
unfolding blocks
from_blocks m b h = let i = entry_any (entries m) b (sym (contains-from_list block_cmp_total _ b) ∙ h) in (i.0, i.1, at_entry key_order m i.0 i.1 i.2, i.3)

-- the set has a block of that number, as a fact
pub number_in : (s : BlockSet) (n : ℕ) (b : Block) → Has s b → b.number ≡ n → IsTrue (is_number_of s n)
number_in s n b h e = lt-ltb 0 _ (has_some block_order (retain s (λ b. b.number == n)) b (in_retain block_order s (λ b. b.number == n) b h (eq-eqb b.number n e)))

pub from_number : (s : BlockSet) (n : ℕ) → IsTrue (is_number_of s n) → (b : Block) × Has s b × (b.number ≡ n)
from_number s n h =
    let some = some_member block_order (retain s (λ b. b.number == n)) (ltb-true 0 _ h) in
    let parts = from_retain block_order s (λ b. b.number == n) some.0 some.1 in
    (some.0, parts.0, eqb-true some.0.number n parts.1)

module _ (old new : Map) (touched : Key → Bool) (g : ℕ) (number : Key → ℕ) (change : ChangesKeys old new touched g number) where
  -- a block afterwards was there, or it is a new one
  pub from_new_blocks : (b : Block) → Has (blocks new) b
      → ((k : Key) × (c : Cell) × (get old k ≡ Some c) × (block_of c ≡ b) × (touched k ≡ false))
      ⊎ ((k : Key) × (c : Cell) × (get new k ≡ Some c) × (touched k ≡ true) × (block_of c ≡ b) × (b.number ≡ number k) × (b.birth ≡ g))
  from_new_blocks b h = let f = from_blocks new b h in by_touch f.0 f.1 f.2 f.3 (touched f.0) refl
    where
      by_touch : (k : Key) (c : Cell) → get new k ≡ Some c → block_of c ≡ b → (t : Bool) → touched k ≡ t
          → ((k : Key) × (c : Cell) × (get old k ≡ Some c) × (block_of c ≡ b) × (touched k ≡ false))
          ⊎ ((k : Key) × (c : Cell) × (get new k ≡ Some c) × (touched k ≡ true) × (block_of c ≡ b) × (b.number ≡ number k) × (b.birth ≡ g))
      by_touch k c e is true t =
          let m = change.made k c t e in
          inr (k, c, e, t, is, ap (λ (x : Block). x.number) (sym is) ∙ m.0, ap (λ (x : Block). x.birth) (sym is) ∙ m.1)
      by_touch k c e is false t = inl (k, c, sym (change.kept k t) ∙ e, is, t)
