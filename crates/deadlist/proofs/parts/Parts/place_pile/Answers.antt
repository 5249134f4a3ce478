use Rattle.std.proofs.Common.{◌≡◌, ◌++◌, take, arith, refl, ◌∙◌}
use Rattle.std.proofs.lemmas.Result.{on_ok_weaker}
use Rattle.std.specs.List.Sorted.{IsPermutation}
use Rattle.deadlist.specs.Entries.{run_entries, run_items}
use Rattle.deadlist.specs.Segments.{entries_of}
use Rattle.std.proofs.lemmas.List.{take_all}
use Rattle.deadlist.proofs.Merges.{perm_more, perm_none, perm_piece}
use Rattle.deadlist.proofs.parts.Parts.place_pile.Goals as goal

pub loop-run-init : goal.loop-run-init
loop-run-init c = (perm_none (entries_of c.args.self.now), refl, c.requires)

pub loop-run-preserved : goal.loop-run-preserved
loop-run-preserved c =
    let same : c.as_slice.result.now ≡ run_items c.run-item.result = c.as_slice.ensures.same in
    let k : IsPermutation (entries_of c.loop-run.self ++ run_items c.run-item.result) (entries_of c.place_all.new.self) = rw same at c.in_ok-place_all.ensures.entries in
    (perm_piece run_items (entries_of c.args.self.now) (entries_of c.loop-run.self) (entries_of c.place_all.new.self) c.runs.result.0.now c.loop-run.run-index c.run-item.result (omega arith) c.run-item.is c.loop-run.invariant.0 k, c.in_ok-place_all.ensures.cuts ∙ c.loop-run.invariant.1, c.in_ok-place_all.ensures.cut)

pub returns-clause-entries : goal.returns-clause-entries
returns-clause-entries c =
    let all : take c.loop-run.run-index c.runs.result.0.now ≡ c.runs.result.0.now = take_all c.loop-run.run-index c.runs.result.0.now (omega arith) in
    let so : IsPermutation (entries_of c.args.self.now ++ run_entries c.runs.result.0.now) (entries_of c.loop-run.self) = rw all at c.loop-run.invariant.0 in
    on_ok_weaker c.place_all-2.result (λ k. rw (← c.runs.ensures) (perm_more (entries_of c.args.self.now) (run_entries c.runs.result.0.now) (entries_of c.loop-run.self) c.runs.result.1.now (entries_of c.place_all-2.new.self) so k)) c.place_all-2.ensures.entries
