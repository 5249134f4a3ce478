use Rattle.std.proofs.Common.{◌≡◌, [], ◌∷◌, Some, sym, ap, subst, ◌∙◌}
use Rattle.std.specs.Option.{option_map}
use Rattle.base.specs.Map.{Cell}
use Rattle.world.proofs.lists.Maps.{same_value}
use Rattle.stream.specs.declared.record.Record.TheVariants.{Write}
use Rattle.laws.specs.Records.{leaf_key}
use Rattle.tree.specs.Branch.{Branch}
use Rattle.lookups.specs.Walk.{AreSent}
use Rattle.lookups.proofs.SentPlaces.{one_write}
use Rattle.lookups.proofs.walk.add_leaf.Goals as goal

pub returns-clause-ok : goal.returns-clause-ok
returns-clause-ok c = λ t young.
    let top : Branch = c.args.top.now in
    let level = ap (λ x. x.level) c.requires.key in
    let bytes : c.in-Some.bytes.now ≡ young.cell.bytes = same_value _ _ (c.in-Some.ensures.leaf level ∙ ap (option_map (λ (c : Cell). c.bytes)) young.there) in
    record {
      sent = Write c.args.leaf c.in_ok-bytes.bytes ∷ [];
      is = c.in_ok-push.ensures.items;
      are = subst (λ x. AreSent t (leaf_key c.args.leaf) (Some top) (Write c.args.leaf x ∷ [])) (sym (c.in_ok-bytes.ensures.ok ∙ bytes))
          (one_write t c.args.top.now young c.args.leaf c.requires.key);
    }
