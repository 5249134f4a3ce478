use Rattle.std.proofs.Common.{◌≡◌, Bool, not, sym, subst, ◌∙◌}
use Rattle.std.specs.Prelude.{OnOk}
use Rattle.std.proofs.lemmas.Bool.{and_parts}
use Rattle.removals.specs.Families.{has_deferred_origin}
use Rattle.removals.specs.Requests.{without_family, swept}
use Rattle.removals.proofs.Refused.{not_root, inside, may_remove}
use Rattle.removals.proofs.Alone.{alone_gone}
use Rattle.removals.proofs.Needed.{not_true}
use Rattle.removals.proofs.destroying.destroy_file_systems.Goals as goal

pub remove_file_system-requires-clause-can : goal.remove_file_system-requires-clause-can
remove_file_system-requires-clause-can c =
    may_remove c.args.table.now c.facts.ensures.good c.args.views.now.opened c.args.name.now c.args.recursive c.args.defer (sym c.in_default.ensures)
    (not_true c.args.recursive (and_parts (not c.args.recursive) (not (has_deferred_origin c.args.table.now c.args.name.now)) (sym c.is_removed_alone.ensures ∙ c.if-is_removed_alone.true)).0)

pub returns-then-is_removed_alone-clause-ok : goal.returns-then-is_removed_alone-clause-ok
returns-then-is_removed_alone-clause-ok c =
    let parts = and_parts (not c.args.recursive) (not (has_deferred_origin c.args.table.now c.args.name.now)) (sym c.is_removed_alone.ensures ∙ c.if-is_removed_alone.true) in
    subst (λ (b : Bool). OnOk c.remove_file_system.result (c.remove_file_system.new.table ≡ swept (without_family c.args.table.now c.args.name.now b) c.args.views.now.opened))
    (sym (not_true c.args.recursive parts.0))
    (alone_gone c.args.table.now c.facts.ensures.good c.args.views.now.opened c.requires.swept c.args.name.now (not_true (has_deferred_origin c.args.table.now c.args.name.now) parts.1)
    c.remove_file_system.result c.remove_file_system.new.table c.remove_file_system.ensures.ok)

pub remove_and_sweep-requires : goal.remove_and_sweep-requires
remove_and_sweep-requires c = record {
  apart = c.requires.apart;
  swept = c.requires.swept;
  not_root = not_root c.args.table.now c.facts.ensures.good c.args.views.now.opened c.args.name.now c.args.recursive c.args.defer (sym c.in_default.ensures);
  inside = inside c.args.table.now c.facts.ensures.good c.args.views.now.opened c.args.name.now c.args.recursive c.args.defer (sym c.in_default.ensures);
  can = may_remove c.args.table.now c.facts.ensures.good c.args.views.now.opened c.args.name.now c.args.recursive c.args.defer (sym c.in_default.ensures);
}
