-- The orders of bookmarks.
use Rattle.std.proofs.Common.{ℕ, List}
use Rattle.std.proofs.lemmas.Cmp.{on_total, then_total, nat_cmp_total}
use Rattle.std.proofs.lemmas.Map.Lookups.{exact_pairs, exact_unsigned}
use Rattle.std.specs.Cmp.Lexicographic.{nat_list_cmp_total}
use Rattle.std.specs.FinMap.{nat_cmp-IsAntisymmetric, slice_cmp-IsAntisymmetric}
use Rattle.std.specs.Ordering.{nat_cmp}
use Rattle.base.specs.Names.{name_cmp}
use Rattle.model.specs.Properties.{bookmark_cmp}
use Rattle.snapshots.proofs.Sorted.{IsExactOrder}

-- only equal names tie
pub by_name : IsExactOrder name_cmp
by_name = record { total = nat_list_cmp_total; exact = slice_cmp-IsAntisymmetric nat_cmp-IsAntisymmetric }

-- only equal groups with equal names tie
pub by_group : IsExactOrder bookmark_cmp
by_group = record {
  total = then_total (on_total (λ (k : ℕ × List ℕ). k.0) nat_cmp_total) (on_total (λ (k : ℕ × List ℕ). k.1) nat_list_cmp_total);
  exact = exact_pairs nat_cmp name_cmp exact_unsigned by_name.exact;
}
