use Rattle.std.proofs.Common.{◌≡◌, map, ap, sym, subst, ◌∙◌}
use Rattle.std.specs.Prelude.{IsTrue}
use Rattle.std.specs.FinMap.{is_sorted, from_sorted}
use Rattle.datasets.specs.CloneNames.{key_cmp, key_in}
use Rattle.datasets.proofs.clones.CloneIndex.copy.Goals as goal

-- the clones are the same
pub invariant_of-result : goal.invariant_of-result
invariant_of-result c =
    let same : map key_in c.in_ok-entries.entries.items ≡ map key_in c.self.inside.entries.items = c.in_ok-entries.ensures.ok ∙ ap (map key_in) c.deref.ensures.value in
    subst (λ l. IsTrue (is_sorted key_cmp l)) (sym same) c.self.invariant

pub returns-clause-ok : goal.returns-clause-ok
returns-clause-ok c =
    let same : map key_in c.in_ok-entries.entries.items ≡ map key_in c.self.inside.entries.items = c.in_ok-entries.ensures.ok ∙ ap (map key_in) c.deref.ensures.value in
    ap (from_sorted {R = key_cmp}) same ∙ c.self.view_is
