-- A snapshot gone from between what stands before it and what comes after it: the blocks.
use Rattle.std.proofs.Common.{◌≡◌, ◌≤◌, ◌<◌, ℕ, List, ◌++◌, ◌∙◌, ⊎_elim, arith}
use Rattle.std.proofs.lemmas.Bool.{cases_lt}
use Rattle.std.specs.FinSet.{difference, union}
use Rattle.base.specs.Map.{Block, BlockSet}
use Rattle.world.specs.Sets.{Has, AreDisjoint}
use Rattle.world.specs.Blocks.{block_order as o, after, upto}
use Rattle.world.specs.Deadlists.{Lists, entries_after, entries_upto}
use Rattle.world.proofs.lists.SetCounts.{Has-cases, same_members, in_union_left, in_union_right, from_union, in_difference, from_difference}
use Rattle.world.proofs.lineage.Lineage.{in_upto, from_upto, in_after, from_after}
use Rattle.world.proofs.lineage.Deadlists.{dead_counts, dead_join}

-- What stands before has the blocks `below`, born by its group; the snapshot has the blocks `it`, and what comes after it has `next`
module _ (below it next : BlockSet) (base group : ℕ) (closed : (b : Block) → Has below b → b.birth ≤ base) (rises : base < group)
    (it_kept : (b : Block) → Has it b → b.birth ≤ base → Has below b) (next_kept : (b : Block) → Has next b → b.birth ≤ group → Has it b)
    (xs ys : List Block) (own : Lists xs (difference below it)) (its : Lists ys (difference it next)) where
  apart : AreDisjoint (difference below it) (upto base (difference it next))
  apart b h k = (from_difference o below it b h).1 (from_difference o it next b (from_upto base (difference it next) b k).0).0

  together : union (difference below it) (upto base (difference it next)) ≡ difference below next
  together = same_members o (union (difference below it) (upto base (difference it next))) (difference below next)
      (λ b h. ⊎_elim
      (λ i.
      let d = from_difference o below it b i in
      let l = closed b d.0 in
      in_difference o below next b d.0 (λ n. d.1 (next_kept b n (omega arith))))
      (λ i.
      let u = from_upto base (difference it next) b i in
      let d = from_difference o it next b u.0 in
      in_difference o below next b (it_kept b d.0 u.1) d.1)
      (from_union o (difference below it) (upto base (difference it next)) b h))
      (λ b h.
      let d = from_difference o below next b h in
      ⊎_elim
      (λ i. in_union_right o (difference below it) (upto base (difference it next)) b (in_upto base (difference it next) b (in_difference o it next b i d.1) (closed b d.0)))
      (λ i. in_union_left o (difference below it) (upto base (difference it next)) b (in_difference o below it b d.0 i))
      (Has-cases o it b))

  -- the dead list of what comes after it, once it is gone
  pub dead_joined : Lists (xs ++ entries_upto base ys) (difference below next)
  dead_joined =
      let both = dead_join xs (entries_upto base ys) (difference below it) (upto base (difference it next)) own (dead_counts ys (difference it next) base its).4 apart in
      record { once = both.once; is = both.is ∙ together }

  born_after : (b : Block) → Has it b → (Has below b → ⊥) → base < b.birth
  born_after b h n = ⊎_elim (λ l. l) (λ l. absurd (n (it_kept b h l))) (cases_lt base b.birth)

  lost_alone : after base (difference it next) ≡ difference (difference it below) next
  lost_alone = same_members o (after base (difference it next)) (difference (difference it below) next)
      (λ b h.
      let a = from_after base (difference it next) b h in
      let d = from_difference o it next b a.0 in
      let l = a.1 in
      in_difference o (difference it below) next b (in_difference o it below b d.0 (λ n. let m = closed b n in absurd (omega arith))) d.1)
      (λ b h.
      let d = from_difference o (difference it below) next b h in
      let e = from_difference o it below b d.0 in
      in_after base (difference it next) b (in_difference o it next b e.0 d.1) (born_after b e.0 e.1))

  -- what is lost with it
  pub dead_lost : Lists (entries_after base ys) (difference (difference it below) next)
  dead_lost =
      let cut = (dead_counts ys (difference it next) base its).3 in
      record { once = cut.once; is = cut.is ∙ lost_alone }
