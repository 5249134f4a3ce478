use Rattle.std.proofs.Common.{map, ap, ◌∙◌}
use Rattle.std.specs.FinMap.{from_sorted}
use Rattle.datasets.specs.CloneNames.{key_cmp, key_in}
use Rattle.datasets.proofs.CloneKeys.{nothing_is}
use Rattle.datasets.proofs.clones.CloneIndex.new.Goals as goal

pub returns : goal.returns
returns c = ap (λ l. from_sorted {R = key_cmp} (map key_in l)) c.new.ensures.items ∙ nothing_is
