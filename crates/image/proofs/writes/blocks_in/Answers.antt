use Rattle.std.proofs.Common.{◌≡◌, map, sym, ap, subst, ◌∙◌}
use Rattle.std.specs.Prelude.{IfOk}
use Rattle.std.specs.Option.{option_copied}
use Rattle.datasets.specs.Rows.{live_of}
use Rattle.image.specs.BlockWrites.{writes_of, written_pair}
use Rattle.tree.specs.ChangeParts.{made_pair}
use Rattle.image.specs.Writes.{ArePresent}
use Rattle.image.proofs.LiveTrees.{found_live, absent_live, none_present}
use Rattle.image.proofs.writes.blocks_in.Goals as goal

pub returns-in-Some-clause-ok : goal.returns-in-Some-clause-ok
returns-in-Some-clause-ok c =
    let is = found_live c.args.table.now.file_systems c.args.name.now c.in-Some.file_system.now (ap (λ x. option_copied x) (sym c.in-Some.is) ∙ c.find.ensures) in
    subst (λ m. ArePresent m c.args.made.now → IfOk c.blocks_of.result (λ v. map written_pair v.items ≡ writes_of m (map made_pair c.args.made.now))) (c.live.ensures ∙ sym is) c.blocks_of.ensures.ok

pub returns-in-None-clause-ok : goal.returns-in-None-clause-ok
returns-in-None-clause-ok c =
    let none = absent_live c.args.table.now.file_systems c.args.name.now (ap (λ x. option_copied x) (sym c.in-None.is) ∙ c.find.ensures) in
    λ present. ap (map written_pair) c.new.ensures.items ∙ none_present (live_of c.args.table.now.file_systems c.args.name.now) c.args.made.now none present
