use Rattle.std.proofs.Common.{◌≡◌, Bor, map, drop, length, subst, ◌∙◌, arith}
use Rattle.datasets.specs.Rows.{Row, Entry, entry_of}
use Rattle.removals.proofs.Losses.{lost_none, lost_then}
use Rattle.removals.proofs.Emptying.{IsStage, init_stage, end_stage, turn_as, turn_uncloned, turn_stage}
use Rattle.removals.proofs.emptied.empty_family.Goals as goal

-- the rows' entries
abbrev value : Bor Row → Entry
value x = entry_of x.now

pub loop-left-init : goal.loop-left-init
loop-left-init c =
    let count : c.len-left.result ≡ length c.in_ok-rows.rows.items = c.len-left.ensures ∙ c.in_ok-rows.rows.ok.0 in
    record {
      within = omega (arith, count);
      stage = init_stage value c.args.table.now c.facts.ensures.good c.args.name.now c.requires.inside c.in_ok-rows.rows.items c.in_ok-rows.ensures.ok c.in_ok-rows.ensures.rising
          c.len-left.result count c.args.edit.now.to c.requires.same;
      lost = lost_none c.args.edit.now.to c.args.edit.now.freeing c.requires.apart;
      never_lower = omega arith;
    }

pub empty_one-requires-clause-there : goal.empty_one-requires-clause-there
empty_one-requires-clause-there c =
    turn_as value c.args.table.now c.facts.ensures.good c.args.name.now c.requires.inside c.in_ok-rows.rows.items c.in_ok-rows.ensures.ok c.in_ok-rows.ensures.rising
    c.loop-left.left c.loop-left-test.true c.loop-left.invariant.within c.index.result.now c.index.ensures c.loop-left.edit.to c.loop-left.invariant.stage

pub empty_one-requires-clause-no_clone : goal.empty_one-requires-clause-no_clone
empty_one-requires-clause-no_clone c =
    turn_uncloned value c.args.table.now c.facts.ensures.good c.args.name.now c.requires.inside c.in_ok-rows.rows.items c.in_ok-rows.ensures.ok c.in_ok-rows.ensures.rising
    c.loop-left.left c.loop-left-test.true c.loop-left.invariant.within c.index.result.now c.index.ensures c.loop-left.edit.to c.loop-left.invariant.stage

pub loop-left-preserved : goal.loop-left-preserved
loop-left-preserved c = record {
  within = let l = c.loop-left.invariant.within in omega (arith, l);
  stage = turn_stage value c.args.table.now c.facts.ensures.good c.args.name.now c.requires.inside c.in_ok-rows.rows.items c.in_ok-rows.ensures.ok c.in_ok-rows.ensures.rising
      c.loop-left.left c.loop-left-test.true c.loop-left.invariant.within c.index.result.now c.index.ensures c.loop-left.edit.to c.loop-left.invariant.stage c.empty_one.new.edit.to c.in_ok-empty_one.ensures.ok;
  lost = lost_then c.args.edit.now.to c.loop-left.edit.to c.empty_one.new.edit.to c.args.edit.now.freeing c.loop-left.edit.freeing c.empty_one.new.edit.freeing
      c.loop-left.invariant.lost c.in_ok-empty_one.ensures.lost;
  never_lower = omega (arith, c.loop-left.invariant.never_lower, c.in_ok-empty_one.ensures.never_lower);
}

pub returns-clause-ok : goal.returns-clause-ok
returns-clause-ok c =
    let none : c.loop-left.left ≡ 0 = let l = c.loop-left-test.false in omega (arith, l) in
    end_stage value c.args.table.now c.facts.ensures.good c.args.name.now c.requires.inside c.in_ok-rows.rows.items c.in_ok-rows.ensures.ok c.in_ok-rows.ensures.rising c.loop-left.edit.to
    (subst (λ n. IsStage c.args.table.now c.args.name.now c.loop-left.edit.to (map value (drop n c.in_ok-rows.rows.items))) none c.loop-left.invariant.stage)
