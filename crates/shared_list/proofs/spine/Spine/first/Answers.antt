use Rattle.std.proofs.Common.{length, sym, ap, subst, ◌∙◌, arith}
use Rattle.std.specs.Option.{option_copied}
use Rattle.shared_list.specs.Cuts.{IsCut}
use Rattle.shared_list.specs.Elements.{elements}
use Rattle.shared_list.proofs.Neighbours.{none_behind}
use Rattle.shared_list.proofs.spine.Spine.first.Goals as goal

pub returns-in_err-place : goal.returns-in_err-place
returns-in_err-place g c = (
  length c.args.self.now,
  (λ p h. subst (λ v. IsCut p v (length v)) c.self.view_is (subst (λ v. IsCut p (elements v) (length (elements v))) c.deref.ensures.value (c.in_err-place.ensures.cut p h))),
  ap option_copied c.from_residual.ensures ∙ sym (none_behind c.args.self.now (length c.args.self.now) (omega arith)),
)
