use Rattle.std.proofs.Common.{◌+◌, ◌-◌, ◌≤◌, ◌∙◌, ap, arith, rules}
use Rattle.std.specs.Vec.{vec_items, vec_len, vec_capacity}
use Rattle.script.proofs.RunLemmas.{runs-alone, unserved-alone}
use Rattle.script.proofs.run.answer_line.Goals as goal

pub returns-clause-script : goal.returns-clause-script
returns-clause-script g c none =
    runs-alone g.C.Caller.asks _ _ _ _ _ c.serve_line-told.result (ap vec_items c.replace.ensures.value ∙ c.reserve.ensures.items ∙ c.clear.ensures.items) none c.serve_line-told.ensures.ok

pub returns-clause-err : goal.returns-clause-err
returns-clause-err g c =
    let same = c.replace.ensures.value in
    let room : vec_len c.reserve.new.self + 1025 ≤ vec_capacity c.reserve.new.self = search rules in
    let wide : 1025 ≤ vec_capacity c.replace.result - vec_len c.replace.result = omega (arith, room, ap vec_len same, ap vec_capacity same) in
    unserved-alone g.C.Caller.asks _ _ _ _ _ _ c.serve_line-told.result wide (ap vec_items same ∙ c.reserve.ensures.items ∙ c.clear.ensures.items) c.serve_line-told.ensures.err
