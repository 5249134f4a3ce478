use Rattle.std.proofs.Common.{◌≡◌, ◌+◌, ◌++◌, map, drop, sym, ap, ◌∙◌, arith, append-nil}
use Rattle.std.specs.Arc.{arc_value}
use Rattle.model.specs.Hierarchy.{is_in_family}
use Rattle.snap.proofs.Rests.{next_left, none_left}
use Rattle.snap.proofs.Families.{members_of, with_member, without_member}
use Rattle.snap.proofs.named.add_family.Goals as goal
use Rattle.snap.proofs.named.add_family.Goals.{then-is_in_family+in_ok-push, else-is_in_family}

pub loop-file_system-preserved : goal.loop-file_system-preserved
loop-file_system-preserved c =
    let left = ap (map arc_value) (next_left c.args.file_systems.now c.loop-file_system.file_system-index c.file_system-item.result c.loop-file_system-test.true c.file_system-item.is) in
    let tested : c.is_in_family.result ≡ is_in_family c.args.name.now.file_system (arc_value c.file_system-item.result).name =
    c.is_in_family.ensures ∙ (λ j. is_in_family (c.as_bytes.ensures.value j) ((c.as_bytes-in-loop-file_system.ensures.value ∙ c.name.ensures ∙ ap (λ v. v.name) c.deref.ensures) j)) in
    elim c.if-is_in_family.branch [
      | then-is_in_family+in_ok-push w ↦ with_member c.args.name.now _ _ _ left _ _ c.loop-file_system.invariant (sym tested ∙ w.if-is_in_family.true) c.if-is_in_family.all.items _ (ap (λ v. v.items) w.all-is ∙ w.in_ok-push.ensures.items)
          (λ j. record { file_system = (w.name-then-is_in_family.ensures ∙ ap (λ v. v.name) w.deref-then-is_in_family.ensures) j; component = c.args.name.now.component })
      | else-is_in_family w ↦ ap (λ v. v.items ++ members_of c.args.name.now (map arc_value (drop (c.loop-file_system.file_system-index + 1) c.args.file_systems.now))) w.all-is
          ∙ without_member c.args.name.now _ _ _ left _ _ c.loop-file_system.invariant (sym tested ∙ w.if-is_in_family.false)
    ]

pub returns-clause-ok : goal.returns-clause-ok
returns-clause-ok c =
    sym (append-nil c.loop-file_system.all.items)
    ∙ ap (λ l. c.loop-file_system.all.items ++ members_of c.args.name.now (map arc_value l)) (sym (none_left c.args.file_systems.now c.loop-file_system.file_system-index (omega arith)))
    ∙ c.loop-file_system.invariant
