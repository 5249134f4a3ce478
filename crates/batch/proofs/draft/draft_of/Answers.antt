-- Each step gives what the lemmas of Prepare ask.
use Rattle.std.proofs.Common.{◌≡◌, ℕ, true, List, length, map, Option, inl, sym, ap, subst, ◌∙◌, arith}
use Rattle.std.specs.Prelude.{count_by}
use Rattle.base.specs.declared.number.BlockNo.{BlockNo}
use Rattle.base.specs.declared.number.Dead.{Dead}
use Rattle.base.specs.declared.refusal.Refusal.TheVariants.{NoSpace}
use Rattle.base.specs.Surveys.{IsIn, AreDifferent}
use Rattle.batch.specs.Build.{filled, is_fresh}
use Rattle.node.specs.Kid.{birth_of}
use Rattle.node.specs.Node.{whole}
use Rattle.node.specs.Shape.{Part}
use Rattle.batch.specs.Numbers.{numbers, is_young, IsAtHand}
use Rattle.batch.specs.Said.{Said, said}
use Rattle.batch.specs.Touch.{touched, claims, released}
use Rattle.batch.specs.Way.{way_claims, way_released}
use Rattle.batch.proofs.Numbered.{numbered_few, numbered_free, numbered_once, way_old}
use Rattle.batch.proofs.OneLeaf.{on_touched}
use Rattle.batch.proofs.Words.{batch_in_order}
use Rattle.batch.proofs.Prepare.{IsReady, own_kid, ready_counts, ready_room, ready_no_room, ready_allocated, ready_once, ready_count, few, new_bound, old_bound, handed_on}
use Rattle.batch.proofs.draft.draft_of.Goals as goal
use Rattle.batch.proofs.draft.draft_of.Goals.{After-number_way, After-deref-2}

pub way_of_write-requires-clause-order : goal.way_of_write-requires-clause-order
way_of_write-requires-clause-order c = batch_in_order c.args.updates.now c.requires.batch

-- a write of one leaf
module _ (c : After-number_way) where
  abbrev s : ℕ → Said
  s = said c.args.updates.now

  abbrev y : ℕ
  y = c.args.young.0

  abbrev leaf : ℕ
  leaf = c.in-Some.leaf

  abbrev o : Option Part
  o = whole c.args.root.now

  abbrev blocks : List (Option Dead)
  blocks = c.way_of_write.new.blocks

  ready_way : IsReady c.args.root.now c.args.count c.args.updates.now c.args.young.0 c.args.allocator.now
  ready_way = record { sound = c.requires.sound; batch = c.requires.batch; sized = c.write_count.ensures.sized; allocated = c.requires.allocated }

  is_touched : true ≡ touched s 5 0 o
  is_touched = let w = c.in-Some.ensures.within in sym (on_touched s leaf c.in-Some.ensures.one 5 (birth_of o) 0 o (omega (arith, w)) (own_kid _ _ _ _ _ ready_way))

  claimed : claims s y 5 0 o ≡ way_claims y leaf blocks
  claimed = c.in-Some.ensures.claims y

  way_need : count_by is_fresh (claims s y 5 0 o) ≡ count_by is_fresh (way_claims y leaf blocks)
  way_need = ap (count_by is_fresh) claimed

  way_gone : released s y 5 0 o ≡ way_released y blocks
  way_gone = c.in-Some.ensures.released y

  none_young : count_by (is_young y) (released s y 5 0 o) ≡ 0
  none_young = ap (count_by (is_young y)) way_gone ∙ way_old y blocks

pub counted-requires-clause-few : goal.counted-requires-clause-few
counted-requires-clause-few c =
    let a = (goal.at.counted-requires-clause-few c).After-number_way in
    let f = few _ _ _ _ _ (ready_way a) in let n = ap length (c.in_ok-number_way.ensures.released ∙ sym (way_gone a)) in
    omega (arith, f, n)

pub counted-requires-clause-fits : goal.counted-requires-clause-fits
counted-requires-clause-fits c =
    let a = (goal.at.counted-requires-clause-fits c).After-number_way in
    let b = new_bound _ _ _ _ _ (ready_way a) in let n = ap length (c.in_ok-number_way.ensures.released ∙ sym (way_gone a)) in
    let t = c.in_ok-number_way.ensures.numbered.1.enough ∙ sym (way_need a) in
    omega (arith, b, n, t)

pub counted-requires-clause-low : goal.counted-requires-clause-low
counted-requires-clause-low c = let b = old_bound _ _ _ _ _ (ready_way (goal.at.counted-requires-clause-low c).After-number_way) in omega (arith, b)

pub returns-in-Some-clause-ok : goal.returns-in-Some-clause-ok
returns-in-Some-clause-ok c =
    let a = (goal.at.returns-in-Some-clause-ok c).After-number_way in
    let p = c.in_ok-number_way.ensures.numbered in
    let taken = ap (λ v. v.items) c.counted.ensures.taken in
    let gone = ap (λ v. v.items) c.counted.ensures.released in
    record {
      sized = c.write_count.ensures.sized;
      touched = c.counted.ensures.touched ∙ is_touched a;
      released = gone ∙ c.in_ok-number_way.ensures.released ∙ sym (way_gone a);
      enough = ap length taken ∙ p.1.enough ∙ sym (way_need a);
      at_hand = λ n h. inl (numbered_free _ c.args.allocator.now p.0 c.number_way.new.draft p.1 n (subst (λ (bs : List BlockNo). IsIn (numbers bs) n) taken h));
      once = subst (λ (bs : List BlockNo). AreDifferent (numbers bs)) (sym taken) (numbered_once _ c.args.allocator.now p.0 c.number_way.new.draft p.1);
      made = ap (λ v. v.items) c.counted.ensures.made ∙ p.1.made ∙ (λ i. filled (sym (claimed a) i) (sym taken i));
      counted =
          let k = ready_count _ _ _ _ _ (ready_way a) in let d = c.counted.ensures.count in let t = ap length taken in let g = ap length gone in
          omega (arith, k, d, t, g);
    }

pub returns-in-Some-clause-room : goal.returns-in-Some-clause-room
returns-in-Some-clause-room c =
    let a = (goal.at.returns-in-Some-clause-room c).After-number_way in
    let p = c.in_ok-number_way.ensures.numbered in
    let f = numbered_few _ c.args.allocator.now p.0 c.number_way.new.draft p.1 in
    let n = way_need a in
    ready_room _ _ _ _ _ (ready_way a) (omega (arith, f, n))

pub returns-in-Some-clause-metered : goal.returns-in-Some-clause-metered
returns-in-Some-clause-metered c =
    let a = (goal.at.returns-in-Some-clause-metered c).After-number_way in
    ready_counts _ _ _ _ _ (ready_way a) _ _ (c.in-Some.ensures.metered (y a))

pub returns-in_err-number_way-clause-no_space : goal.returns-in_err-number_way-clause-no_space
returns-in_err-number_way-clause-no_space c = λ e.
    let a = (goal.at.returns-in_err-number_way-clause-no_space c).After-number_way in
    let l = c.in_err-number_way.ensures.no_space (handed_on _ _ NoSpace c.from_residual.ensures.1 e) in
    let n = way_need a in
    let k = none_young a in
    ready_no_room _ _ _ _ _ (ready_way a) (omega (arith, l, n, k))

-- any other batch
module _ (c : After-deref-2) where
  ready : IsReady c.args.root.now c.args.count c.args.updates.now c.args.young.0 c.args.allocator.now
  ready = record { sound = c.requires.sound; batch = c.requires.batch; sized = c.write_count.ensures.sized; allocated = c.requires.allocated }

  gone : c.deref-2.result.now ≡ released (said c.args.updates.now) c.args.young.0 5 0 (whole c.args.root.now)
  gone = c.deref-2.ensures.value ∙ c.in_ok-findings.ensures.released

  need : c.fresh_count-need.result ≡ count_by is_fresh (claims (said c.args.updates.now) c.args.young.0 5 0 (whole c.args.root.now))
  need = c.fresh_count-need.ensures ∙ ap (count_by is_fresh) (c.deref.ensures.value ∙ c.in_ok-findings.ensures.claims)

pub findings_of-requires-clause-order : goal.findings_of-requires-clause-order
findings_of-requires-clause-order c = batch_in_order c.args.updates.now c.requires.batch

pub choose-requires-clause-allocated : goal.choose-requires-clause-allocated
choose-requires-clause-allocated c = λ d h. ready_allocated _ _ _ _ _ (ready c) d (subst (λ ds. IsIn ds d) (gone c) h)

pub choose-requires-clause-once : goal.choose-requires-clause-once
choose-requires-clause-once c = subst (λ ds. AreDifferent (map (λ (d : Dead). d.block.0) ds)) (sym (gone c)) (ready_once _ _ _ _ _ (ready c))

pub returns-in_err-taken-clause-no_space : goal.returns-in_err-taken-clause-no_space
returns-in_err-taken-clause-no_space c = λ e.
    let b = (goal.at.returns-in_err-taken-clause-no_space c).After-deref-2 in
    let n = need b in
    let k = ap (count_by (is_young c.args.young.0)) (gone b) in
    let l = c.in_err-taken.ensures.no_space (handed_on _ _ NoSpace c.from_residual-in_err-taken.ensures.1 e) in
    ready_no_room _ _ _ _ _ (ready b) (omega (arith, n, k, l))

pub counted-requires-2-clause-few : goal.counted-requires-2-clause-few
counted-requires-2-clause-few c =
    let b = (goal.at.counted-requires-2-clause-few c).After-deref-2 in
    let f = few _ _ _ _ _ (ready b) in let n = ap length (c.from_vec.ensures.items ∙ c.in_ok-findings.ensures.released) in
    omega (arith, f, n)

pub counted-requires-2-clause-fits : goal.counted-requires-2-clause-fits
counted-requires-2-clause-fits c =
    let b = (goal.at.counted-requires-2-clause-fits c).After-deref-2 in
    let f = new_bound _ _ _ _ _ (ready b) in let n = ap length (c.from_vec.ensures.items ∙ c.in_ok-findings.ensures.released) in let k = need b in let t = ap length c.from_vec-2.ensures.items ∙ c.in_ok-taken.ensures.len in
    omega (arith, f, n, k, t)

pub counted-requires-2-clause-low : goal.counted-requires-2-clause-low
counted-requires-2-clause-low c =
    let b = (goal.at.counted-requires-2-clause-low c).After-deref-2 in
    let f = old_bound _ _ _ _ _ (ready b) in
    omega (arith, f)

pub returns-clause-room : goal.returns-clause-room
returns-clause-room c =
    let b = (goal.at.returns-clause-room c).After-deref-2 in
    let n = need b in
    let k = ap (count_by (is_young c.args.young.0)) (gone b) in
    let l = c.in_ok-taken.ensures.room in
    ready_room _ _ _ _ _ (ready b) (omega (arith, n, k, l))

pub returns-clause-metered : goal.returns-clause-metered
returns-clause-metered c =
    let b = (goal.at.returns-clause-metered c).After-deref-2 in
    rw (sym c.in_default.ensures.same_meter) (ready_counts _ _ _ _ _ (ready b) _ _ c.in_ok-findings.ensures.metered)

pub returns-clause-ok : goal.returns-clause-ok
returns-clause-ok c =
    let b = (goal.at.returns-clause-ok c).After-deref-2 in
    let taken = ap (λ v. v.items) c.counted-2.ensures.taken ∙ c.from_vec-2.ensures.items in
    let left = ap (λ v. v.items) c.counted-2.ensures.released ∙ c.from_vec.ensures.items in
    record {
      sized = c.write_count.ensures.sized;
      touched = c.counted-2.ensures.touched ∙ c.in_ok-findings.ensures.touched;
      released = left ∙ c.in_ok-findings.ensures.released;
      enough = ap length taken ∙ c.in_ok-taken.ensures.len ∙ need b;
      at_hand = λ n h. subst (λ ds. IsAtHand c.args.allocator.now c.args.young.0 ds n) (c.deref-2.ensures.value ∙ sym left) (c.in_ok-taken.ensures.at_hand n (subst (λ (bs : List BlockNo). IsIn (numbers bs) n) taken h));
      once = subst (λ (bs : List BlockNo). AreDifferent (numbers bs)) (sym taken) c.in_ok-taken.ensures.once;
      made = ap (λ v. v.items) c.counted-2.ensures.made ∙ c.from_vec-3.ensures.items ∙ c.in_ok-made.ensures ∙ (λ i. filled ((c.deref-3.ensures.value ∙ c.in_ok-findings.ensures.claims) i) ((c.deref-4.ensures.value ∙ sym taken) i));
      counted =
          let k = ready_count _ _ _ _ _ (ready b) in let d = c.counted-2.ensures.count in let t = ap length taken in let g = ap length left in
          let v = ap length c.from_vec-2.ensures.items in let w = ap length c.from_vec.ensures.items in
          omega (arith, k, d, t, g, v, w);
    }
