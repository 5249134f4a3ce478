use Rattle.std.proofs.Common.{◌≡◌, ◌-◌, suc, take, ap, ◌∙◌, arith, None}
use Rattle.std.specs.List.{last_or}
use Rattle.file_system.proofs.Stacks.{before_is}
use Rattle.file_system.proofs.splice.before.Goals as goal

pub returns : goal.returns
returns c =
    let other = c.if-place-eq0.false in
    let next : suc (c.args.place - 1) ≡ c.args.place = omega arith in
    c.get.ensures ∙ before_is None c.args.kept.now (c.args.place - 1) (omega arith) ∙ ap (λ n. last_or None (take n c.args.kept.now)) next
