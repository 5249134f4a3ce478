use Rattle.std.proofs.Common.{sym, ap, ◌∙◌}
use Rattle.std.specs.Option.{option_copied}
use Rattle.base.specs.declared.name.target.Target.{Target}
use Rattle.base.specs.declared.name.target.Target.TheVariants.{Snapshot as OfSnapshot}
use Rattle.snap.specs.Requests.{clone_refusal}
use Rattle.snap.proofs.Cloned.{refused_as_new}
use Rattle.snap.proofs.clones.clone.refusal_of.Goals as goal

pub returns : goal.returns
returns c =
    let named = c.in-Snapshot.is ∙ ap OfSnapshot (sym c.member.ensures.value) in
    c.create_refusal.ensures
    ∙ sym (ap (λ (x : Target). clone_refusal c.args.table.now x c.args.name.now) named
    ∙ refused_as_new c.args.table.now c.member.result.now c.args.name.now c.in-Some.origin.now (sym c.snapshot.ensures ∙ ap (λ x. option_copied x) c.in-Some.is) (sym c.if-is_deferred.ensures))
