use Rattle.std.proofs.Common.{◌≡◌, sym, ap, subst, ◌∙◌}
use Rattle.std.specs.Prelude.{OnOk}
use Rattle.base.specs.declared.name.target.Target.{Target}
use Rattle.base.specs.declared.name.target.Target.TheVariants.{Snapshot as OfSnapshot}
use Rattle.snap.specs.Requests.{cloned, clone_refusal}
use Rattle.snap.proofs.Cloned.{can_add, snapshot_there, is_cloned}
use Rattle.snap.proofs.clones.clone.clone_snapshot.Goals as goal

pub add_clone-requires-clause-can : goal.add_clone-requires-clause-can
add_clone-requires-clause-can c =
    let named = c.in-Snapshot.is ∙ ap OfSnapshot (sym c.member.ensures.value) in
    can_add c.args.table.now c.member.result.now c.args.name.now
    (ap (λ (x : Target). clone_refusal c.args.table.now x c.args.name.now) (sym named) ∙ sym c.refusal_of.ensures ∙ c.in_default.is)

pub add_clone-requires-clause-there : goal.add_clone-requires-clause-there
add_clone-requires-clause-there c =
    let named = c.in-Snapshot.is ∙ ap OfSnapshot (sym c.member.ensures.value) in
    snapshot_there c.args.table.now c.member.result.now c.args.name.now
    (ap (λ (x : Target). clone_refusal c.args.table.now x c.args.name.now) (sym named) ∙ sym c.refusal_of.ensures ∙ c.in_default.is)

pub returns-clause-ok : goal.returns-clause-ok
returns-clause-ok c =
    let named = c.in-Snapshot.is ∙ ap OfSnapshot (sym c.member.ensures.value) in
    subst (λ (x : Target). OnOk c.add_clone.result (c.add_clone.new.self ≡ cloned c.args.table.now x c.args.name.now)) (sym named)
    (is_cloned c.args.table.now c.member.result.now c.args.name.now
    (ap (λ (x : Target). clone_refusal c.args.table.now x c.args.name.now) (sym named) ∙ sym c.refusal_of.ensures ∙ c.in_default.is)
    c.add_clone.result c.add_clone.new.self c.add_clone.ensures.ok)
