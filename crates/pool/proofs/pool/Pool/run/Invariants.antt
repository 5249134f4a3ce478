use Rattle.std.proofs.Common.{◌≡◌, ◌≤◌, length, take, vec_len, vec_capacity}
use Rattle.pool.specs.Applied.{IsBetween, AreApplied}
use Rattle.pool.proofs.pool.Pool.run.Given as goal

-- the requests so far are a chain, and there is room for the replies of the rest
abbrev pub invariant-loop-request : goal.invariant-loop-request
invariant-loop-request l =
    AreApplied l.initial.self (take l.request-index l.requests) l.replies.items l.self
    × IsBetween l.self
    × (vec_len l.replies ≡ l.request-index)
    × (length l.requests ≤ vec_capacity l.replies)
