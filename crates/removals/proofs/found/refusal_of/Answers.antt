use Rattle.std.proofs.Common.{rules, ◌≡◌, Some, None, sym, ◌∙◌}
use Rattle.base.specs.declared.refusal.Refusal.TheVariants.{NoDataset, Busy, HasClones}
use Rattle.removals.proofs.Destroyed.{refusal_found, refusal_is}
use Rattle.removals.proofs.found.refusal_of.Goals as goal

pub returns-then-is_empty : goal.returns-then-is_empty
returns-then-is_empty c = λ names recursive ids.
    let told : Some NoDataset ≡ refusal_found c.args.table.now c.args.views.now.opened c.args.defer c.args.all.now = search rules in
    told ∙ sym (refusal_is c.args.table.now c.facts.ensures.good c.args.views.now.opened names recursive c.args.defer c.args.all.now ids c.requires.there)

pub returns-then-any_held : goal.returns-then-any_held
returns-then-any_held c = λ names recursive ids.
    let told : Some Busy ≡ refusal_found c.args.table.now c.args.views.now.opened c.args.defer c.args.all.now = search rules in
    told ∙ sym (refusal_is c.args.table.now c.facts.ensures.good c.args.views.now.opened names recursive c.args.defer c.args.all.now ids c.requires.there)

pub returns-then-any_cloned : goal.returns-then-any_cloned
returns-then-any_cloned c = λ names recursive ids.
    let told : Some HasClones ≡ refusal_found c.args.table.now c.args.views.now.opened c.args.defer c.args.all.now = search rules in
    told ∙ sym (refusal_is c.args.table.now c.facts.ensures.good c.args.views.now.opened names recursive c.args.defer c.args.all.now ids c.requires.there)

pub returns : goal.returns
returns c = λ names recursive ids.
    let told : None ≡ refusal_found c.args.table.now c.args.views.now.opened c.args.defer c.args.all.now = search rules in
    told ∙ sym (refusal_is c.args.table.now c.facts.ensures.good c.args.views.now.opened names recursive c.args.defer c.args.all.now ids c.requires.there)
