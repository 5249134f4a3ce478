use Rattle.std.proofs.Common.{◌≡◌, List, length, sym, ap, subst, ◌∙◌, ltb, leb}
use Rattle.std.specs.FinSet.{union, len}
use Rattle.world.specs.Sets.{Has}
use Rattle.world.specs.Blocks.{Block, BlockSet, block_order as o, after, upto}
use Rattle.world.specs.Deadlists.{Lists, entries_after, entries_upto, DeadCounts, DeadJoin}
use Rattle.world.proofs.lists.Lists.{len-from_list, from_list-append, from_list-filter, in_listed, once_filter, once_append}

pub dead_counts : DeadCounts
dead_counts ds s cut h =
    let a : Lists (entries_after cut ds) (after cut s) = record { once = once_filter o (λ b. ltb cut b.birth) ds h.once; is = from_list-filter o (λ b. ltb cut b.birth) ds ∙ ap (after cut) h.is } in
    let u : Lists (entries_upto cut ds) (upto cut s) = record { once = once_filter o (λ b. leb b.birth cut) ds h.once; is = from_list-filter o (λ b. leb b.birth cut) ds ∙ ap (upto cut) h.is } in
    (size ds s h, size (entries_after cut ds) (after cut s) a, size (entries_upto cut ds) (upto cut s) u, a, u)
  where
    size : (ds : List Block) (s : BlockSet) → Lists ds s → length ds ≡ len s
    size ds s h = sym (len-from_list o ds h.once) ∙ ap len h.is

pub dead_join : DeadJoin
dead_join xs ys s t a b apart = record {
  once = once_append o xs ys a.once b.once (λ k x y. apart k (subst (λ z. Has z k) a.is (in_listed o xs k x)) (subst (λ z. Has z k) b.is (in_listed o ys k y)));
  is = from_list-append o xs ys ∙ (λ i. union (a.is i) (b.is i));
}
