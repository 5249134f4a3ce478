use Rattle.std.proofs.Common.{◌<◌, refl, sym, subst, ap, ◌∙◌, length, set}
use Rattle.shared_list.specs.Elements.{flattened}
use Rattle.shared_list.proofs.Chunks.{set_within, is_there}
use Rattle.shared_list.proofs.Points.{read_of}
use Rattle.shared_list.proofs.edits.set_item.Goals as goal

pub change-requires-clause-can : goal.change-requires-clause-can
change-requires-clause-can g c = λ v is. subst (λ w. c.args.at < length w) (sym (read_of c.args.chunks.now c.args.k v is v)) (c.requires.within v)

pub returns-clause-ok : goal.returns-clause-ok
returns-clause-ok g c =
    let xs = c.args.chunks.now in
    let k = c.args.k in
    let at = c.args.at in
    let y = c.args.item.value in
    let there = is_there xs k c.requires.chunk in
    let a = there.0 in
    let read = read_of xs k a there.1 a in
    let within = subst (λ v. at < length v) (sym read) (c.requires.within a) in
    ap flattened (c.in_ok-change.ensures.ok a there.1) ∙ set_within (λ v. v) xs k at a (set a at y) y c.requires.chunk read within refl
