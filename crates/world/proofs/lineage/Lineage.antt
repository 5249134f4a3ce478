-- What follows from the facts on lineages.
use Rattle.std.proofs.Common.{◌≡◌, ℕ, zero, suc, ◌<◌, ◌≤◌, Option, Some, None, refl, sym, ap, subst, ◌∙◌, ⊎_elim, leb, ltb, arith}
use Rattle.std.proofs.lemmas.Bool.{cases_lt, le-leb, leb-true, lt-ltb, ltb-true}
use Rattle.world.specs.Sets.{Has}
use Rattle.world.specs.Blocks.{Block, BlockSet, block_order as o, after, upto}
use Rattle.world.specs.Lineage.{Row, Rows, IsPrior, IsSound, Facts}
use Rattle.world.proofs.lists.SetCounts.{no-empty, in_difference, from_difference, in_retain, from_retain}

module _ {D : Type 0} (w : Rows D) (facts : Facts D w) where
  -- where the one before has a block of the set, it is there and its group is lower
  pub stands_before : (p : Option D) (g : ℕ) (s : BlockSet) (b : Block) → IsPrior D w p g s → Has s b → (e : D) × (m : Row D) × w e m × (p ≡ Some e) × (m.group ≡ g) × Has m.blocks b
  stands_before None g s b h k = absurd (no-empty o b (subst (λ t. Has t b) h.1 k))
  stands_before (Some e) g s b h k = (e, h.0, h.1, refl, h.2, subst (λ t. Has t b) (sym h.3) k)

  -- where a block that a dataset has came in
  birthplace_by : (k : ℕ) (d : D) (n : Row D) (b : Block) → n.group ≤ k → w d n → Has n.blocks b → (e : D) × (m : Row D) × w e m × Has m.blocks b × (m.base < b.birth)
  birthplace_by zero d n b l h has = let f = (facts.sound d n h).falls in absurd (omega arith)
  birthplace_by (suc k) d n b l h has =
      ⊎_elim (λ (lt : n.base < b.birth). (d, n, h, has, lt))
      (λ (le : b.birth ≤ n.base).
      let q = stands_before n.prev n.base n.below b (facts.prior d n h) ((facts.sound d n h).kept b has le) in
      let f = (facts.sound d n h).falls in
      birthplace_by k q.0 q.1 b (omega arith) q.2 q.5)
      (cases_lt n.base b.birth)

  pub birthplace : (d : D) (n : Row D) (b : Block) → w d n → Has n.blocks b → (e : D) × (m : Row D) × w e m × Has m.blocks b × (m.base < b.birth)
  birthplace d n b = birthplace_by n.group d n b (omega arith)

  -- A block that came in inside a set of datasets, and that no dataset next after one of the set has unless it is of the set too, is in no other dataset.
  module _ (In : D → Type 0) (S : D) (s : Row D) (b : Block) (inside : In S) (in_w : w S s) (has : Has s.blocks b) (new : s.base < b.birth)
      (nexts : (p e : D) (n : Row D) → In p → w e n → n.prev ≡ Some p → Has n.blocks b → In e) where
    stays_inside_by : (k : ℕ) (d : D) (n : Row D) → n.group ≤ k → w d n → Has n.blocks b → In d
    stays_inside_by zero d n l h k = let f = (facts.sound d n h).falls in absurd (omega arith)
    stays_inside_by (suc k) d n l h has_n =
        ⊎_elim (λ (lt : n.base < b.birth). subst In (facts.once S d s n b in_w h has has_n new lt) inside)
        (λ (le : b.birth ≤ n.base).
        let q = stands_before n.prev n.base n.below b (facts.prior d n h) ((facts.sound d n h).kept b has_n le) in
        let f = (facts.sound d n h).falls in
        nexts q.0 d n (stays_inside_by k q.0 q.1 (omega arith) q.2 q.5) h q.3 has_n)
        (cases_lt n.base b.birth)

    pub stays_inside : (d : D) (n : Row D) → w d n → Has n.blocks b → In d
    stays_inside d n = stays_inside_by n.group d n (omega arith)

  -- A block that the one before S lacks, and that no dataset next after S has, is in no other dataset.
  pub alone : (S : D) (s : Row D) (b : Block) → w S s → Has s.blocks b → s.base < b.birth
      → ((e : D) (n : Row D) → w e n → n.prev ≡ Some S → Has n.blocks b → ⊥)
      → (d : D) (n : Row D) → w d n → Has n.blocks b → d ≡ S
  alone S s b in_w has new nexts = stays_inside (λ d. d ≡ S) S s b refl in_w has new
      (λ p e n is h prev_is in_n. absurd (nexts e n h (prev_is ∙ ap Some is) in_n))

  -- the births of what stands before are at most its group
  prior_born : (p : Option D) (g : ℕ) (s : BlockSet) (b : Block) → IsPrior D w p g s → Has s b → b.birth ≤ g
  prior_born p g s b h k =
      let q = stands_before p g s b h k in
      let f = (facts.sound q.0 q.1 q.2).born b q.5 in
      subst (λ x. b.birth ≤ x) q.4 f

  pub below_born : (d : D) (n : Row D) (b : Block) → w d n → Has n.below b → b.birth ≤ n.base
  below_born d n b h k = prior_born n.prev n.base n.below b (facts.prior d n h) k

  -- what the dataset named by `prev` is
  pub prior_is : (d S : D) (n s : Row D) → w d n → w S s → n.prev ≡ Some S → (s.group ≡ n.base) × (s.blocks ≡ n.below)
  prior_is d S n s h k e =
      let q = subst (λ p. IsPrior D w p n.base n.below) e (facts.prior d n h) in
      let same : q.0 ≡ s = facts.one S q.0 s q.1 k in
      (ap (λ m. m.group) (sym same) ∙ q.2, ap (λ m. m.blocks) (sym same) ∙ q.3)

module _ {D : Type 0} (n : Row D) (sound : IsSound D n) where
  pub in_dead : (b : Block) → Has n.below b → ¬ (Has n.blocks b) → Has n.dead b
  in_dead b h k = subst (λ s. Has s b) (sym sound.gone) (in_difference o n.below n.blocks b h k)

  pub from_dead : (b : Block) → Has n.dead b → Has n.below b × (¬ (Has n.blocks b))
  from_dead b h = from_difference o n.below n.blocks b (subst (λ s. Has s b) sound.gone h)

pub in_upto : (cut : ℕ) (s : BlockSet) (b : Block) → Has s b → b.birth ≤ cut → Has (upto cut s) b
in_upto cut s b h l = in_retain o s _ b h (le-leb b.birth cut l)

pub from_upto : (cut : ℕ) (s : BlockSet) (b : Block) → Has (upto cut s) b → Has s b × (b.birth ≤ cut)
from_upto cut s b h = let k = from_retain o s (λ b. leb b.birth cut) b h in (k.0, leb-true b.birth cut k.1)

pub in_after : (cut : ℕ) (s : BlockSet) (b : Block) → Has s b → cut < b.birth → Has (after cut s) b
in_after cut s b h l = in_retain o s _ b h (lt-ltb cut b.birth l)

pub from_after : (cut : ℕ) (s : BlockSet) (b : Block) → Has (after cut s) b → Has s b × (cut < b.birth)
from_after cut s b h = let k = from_retain o s (λ b. ltb cut b.birth) b h in (k.0, ltb-true cut b.birth k.1)
