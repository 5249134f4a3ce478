use Rattle.std.proofs.Common.{sym, ap, ◌∙◌}
use Rattle.base.specs.Key.{key_cmp}
use Rattle.tree.specs.Bytes.{root_block}
use Rattle.std.specs.Option.{option_copied, option_map}
use Rattle.std.specs.FinMap.{get, get-empty}
use Rattle.base.specs.Map.{block_of}
use Rattle.tree.specs.Reading.{key_over}
use Rattle.image.proofs.LiveTrees.{found_live, absent_live, no_path}
use Rattle.image.proofs.writes.path_in.Goals as goal

pub returns-in-Some-clause-path : goal.returns-in-Some-clause-path
returns-in-Some-clause-path c l low =
    let is = found_live c.args.table.now.file_systems c.args.name.now c.in-Some.file_system.now (ap (λ x. option_copied x) (sym c.in-Some.is) ∙ c.find.ensures) in
    c.path.ensures.path l low ∙ ap (λ m. option_map block_of (get m (key_over c.args.leaf l))) (c.live.ensures ∙ sym is)

pub returns-in-None-clause-path : goal.returns-in-None-clause-path
returns-in-None-clause-path c l low =
    let none = absent_live c.args.table.now.file_systems c.args.name.now (ap (λ x. option_copied x) (sym c.in-None.is) ∙ c.find.ensures) in
    ap (option_map root_block) (no_path l low)
    ∙ ap (option_map block_of) (sym (ap (λ m. get m (key_over c.args.leaf l)) none ∙ get-empty key_cmp (key_over c.args.leaf l)))
