use Rattle.std.proofs.Common.{◌≡◌, ◌+◌, ◌<◌, ◌^◌}
use Rattle.session.specs.Works.{work_request}
use Rattle.session.proofs.Works.{IsSteady}
use Rattle.session.proofs.workers.run_work.Given as goal

-- what ran so far
abbrev pub invariant-turns : goal.invariant-turns
invariant-turns g l = record {
  work : IsSteady g.K.Opening.opening l.fn.seat (work_request l.work) l.ran l.seat;
  spent : g.G.Gate.left l.fn.gate ≡ g.G.Gate.left l.gate + l.ran;
  few : 0 < l.ran → g.G.Gate.left l.fn.gate < 2 ^ 64;
}

abbrev pub decreases-turns : goal.decreases-turns
decreases-turns g l = g.G.Gate.left l.gate
