use Rattle.std.proofs.Common.{◌≡◌, List, [], ◌∷◌, length, sym, ap, ◌∙◌, subst, arith}
use Rattle.base.specs.declared.name.member.Member.{Member}
use Rattle.model.specs.requests.Snapshot.{guid_by}
use Rattle.world.specs.Tables.{world_of}
use Rattle.world.specs.Takings.{AreTakable}
use Rattle.world.proofs.steps.Takings.{takable}
use Rattle.snap.specs.Taking.{all_of, after_taking}
use Rattle.snap.proofs.Taken.{lone, none_refuses, alone}
use Rattle.snap.proofs.snapshot.Goals as goal

pub take_one-requires-clause-takable : goal.take_one-requires-clause-takable
take_one-requires-clause-takable c =
    let none = none_refuses c.args.table.now c.args.guids.next c.args.names.now c.args.recursive _ (c.deref.ensures.value ∙ c.in_ok-all.ensures.ok)
    (sym c.any_missing.ensures ∙ c.if-any_missing.false) c.in_ok-check.ensures.can in
    let is = lone c.args.names.now c.name-item.result (omega arith) (omega arith) c.name-item.is in
    let one : length (all_of c.args.table.now c.args.names.now c.args.recursive) ≡ 1 = ap length (sym c.in_ok-all.ensures.ok) ∙ omega (arith, c.in_ok-all.all.ok) in
    subst (λ (ms : List Member). AreTakable c.args.table.now.file_systems ms)
    (alone c.args.table.now c.args.guids.next c.args.names.now c.args.recursive none c.name-item.result is one ∙ ap (λ m. m ∷ []) (sym c.member.ensures.value))
    (takable (world_of c.args.table.now) c.args.guids.next c.args.names.now c.args.recursive none)

pub returns-clause-ok : goal.returns-clause-ok
returns-clause-ok c =
    let none = none_refuses c.args.table.now c.args.guids.next c.args.names.now c.args.recursive _ (c.deref.ensures.value ∙ c.in_ok-all.ensures.ok)
    (sym c.any_missing.ensures ∙ c.if-any_missing.false) c.in_ok-check.ensures.can in
    let is = lone c.args.names.now c.name-item.result (omega arith) (omega arith) c.name-item.is in
    let one : length (all_of c.args.table.now c.args.names.now c.args.recursive) ≡ 1 = ap length (sym c.in_ok-all.ensures.ok) ∙ omega (arith, c.in_ok-all.all.ok) in
    c.in_ok-take_one.ensures.ok ∙ ap (after_taking c.args.table.now (guid_by c.args.guids.pool c.args.guids.next))
    (sym (alone c.args.table.now c.args.guids.next c.args.names.now c.args.recursive none c.name-item.result is one ∙ ap (λ m. m ∷ []) (sym c.member.ensures.value)))

pub take_all-requires-clause-takable : goal.take_all-requires-clause-takable
take_all-requires-clause-takable c =
    let none = none_refuses c.args.table.now c.args.guids.next c.args.names.now c.args.recursive _ (c.deref.ensures.value ∙ c.in_ok-all.ensures.ok)
    (sym c.any_missing.ensures ∙ c.if-any_missing.false) c.in_ok-check.ensures.can in
    subst (λ (ms : List Member). AreTakable c.args.table.now.file_systems ms) (sym (c.deref-2.ensures.value ∙ c.in_ok-all.ensures.ok))
    (takable (world_of c.args.table.now) c.args.guids.next c.args.names.now c.args.recursive none)
