use Rattle.std.proofs.Common.{◌≡◌, ◌≤◌, length, reverse, map, refl, sym, ap, subst, ◌∙◌}
use Rattle.std.proofs.lemmas.List.{length-reverse}
use Rattle.smallvec.specs.SmallVec.{with_items}
use Rattle.smallvec.proofs.SmallVecLemmas.{items-with_items}
use Rattle.base.specs.Counting.{counted}
use Rattle.base.specs.Surveys.{AreDifferent}
use Rattle.batch.specs.Build.{made_keys, HasKeys, number_of, rebuilt}
use Rattle.batch.specs.Said.{said}
use Rattle.batch.proofs.Filled.{new_key}
use Rattle.batch.proofs.Prepare.{own_kid}
use Rattle.batch.proofs.Words.{batch_in_order}
use Rattle.node.specs.Node.{whole}
use Rattle.tree.specs.ChangeParts.{made_pair}
use Rattle.tree.proofs.Putting.{here, ready, put_keys, put_places, put_counts, put_made, put_sound, put_change, same_sound}
use Rattle.tree.proofs.tree.Tree.put.Goals as goal

pub renew_root-requires : goal.renew_root-requires
renew_root-requires c =
    let r = c.requires in record {
      order = batch_in_order c.args.updates.now r.asks.batch;
      sound = own_kid _ _ _ _ _ (ready c.self.inside.root c.self.inside.count c.self.invariant c.args.self.now c.self.view_is c.args.updates.now c.args.group.0 r.young r.states c.args.draft.now r.asks r.is);
      touched = (here c.self.inside.root c.self.inside.count c.self.invariant c.args.self.now c.self.view_is c.args.updates.now c.args.group.0 r.young r.states c.args.draft.now r.asks r.is).touched;
      keys = subst (λ bs. HasKeys bs 0 (made_keys (said c.args.updates.now) 5 0 (whole c.self.inside.root))) (sym c.as_slice.ensures)
          (put_keys c.self.inside.root c.self.inside.count c.self.invariant c.args.self.now c.self.view_is c.args.updates.now c.args.group.0 r.young r.states c.args.draft.now r.asks r.is);
      once = subst (λ bs. AreDifferent (map new_key bs)) (sym c.as_slice.ensures)
          (put_places c.self.inside.root c.self.inside.count c.self.invariant c.args.self.now c.self.view_is c.args.updates.now c.args.group.0 r.young r.states c.args.draft.now r.asks r.is);
    }

pub invariant_of-self : goal.invariant_of-self
invariant_of-self c = same_sound c.self.inside.root c.renew_root.new.root c.self.inside.count c.in_err-renew_root.ensures.same c.self.invariant

pub invariant_of-self-2 : goal.invariant_of-self-2
invariant_of-self-2 c =
    let r = c.requires in
    let renewed = c.in_ok-renew_root.ensures.part ∙ ap (λ bs. rebuilt (said c.args.updates.now) (number_of bs) c.args.group.0 5 0 (whole c.self.inside.root)) c.as_slice.ensures in
    put_sound c.self.inside.root c.self.inside.count c.self.invariant c.args.self.now c.self.view_is c.args.updates.now c.args.group.0 r.young r.states c.args.draft.now r.asks r.is c.renew_root.new.root renewed

module _ (c : goal.After-draft-1) where
  -- the new blocks, from the first to the last
  backwards : (with_items c.args.draft.now.made c.reverse.new.self).items ≡ reverse c.args.draft.now.made.items
  backwards = items-with_items c.args.draft.now.made c.reverse.new.self (c.reverse.ensures.len ∙ ap length c.as_mut_slice.ensures.value) ∙ c.reverse.ensures.after ∙ ap reverse c.as_mut_slice.ensures.value

pub returns-clause-ok : goal.returns-clause-ok
returns-clause-ok c =
    let renewed = c.in_ok-renew_root.ensures.part ∙ ap (λ bs. rebuilt (said c.args.updates.now) (number_of bs) c.args.group.0 5 0 (whole c.self.inside.root)) c.as_slice.ensures in
    record {
      changed = λ young states asks of.
          put_change c.self.inside.root c.self.inside.count c.self.invariant c.args.self.now c.self.view_is c.args.updates.now c.args.group.0 young states c.args.draft.now asks of c.renew_root.new.root renewed
          _ refl refl refl refl (ap (map made_pair) (backwards c));
      released = refl;
    }

pub returns-clause-metered : goal.returns-clause-metered
returns-clause-metered c =
    let r = c.requires in
    put_counts c.self.inside.root c.self.inside.count c.self.invariant c.args.self.now c.self.view_is c.args.updates.now c.args.group.0 r.young r.states c.args.draft.now r.asks r.is _ _ c.in_ok-renew_root.ensures.metered

pub returns-clause-metered_made : goal.returns-clause-metered_made
returns-clause-metered_made c =
    let r = c.requires in
    let even =
    ap length (backwards c)
    ∙ length-reverse c.args.draft.now.made.items
    ∙ sym (put_made c.self.inside.root c.self.inside.count c.self.invariant c.args.self.now c.self.view_is c.args.updates.now c.args.group.0 r.young r.states c.args.draft.now r.asks r.is) in
    subst (λ n. counted c.args.meter.now n ≤ c.renew_root.new.meter) (sym even) c.in_ok-renew_root.ensures.metered_made
