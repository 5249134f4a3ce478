use Rattle.std.proofs.Common.{◌≤◌, ◌∷◌, [], arith, OnOk, Result, Ok, Err}
use Rattle.std.proofs.lemmas.Result.{on_ok_weaker}
use Rattle.deadlist.specs.Spans.{spans}
use Rattle.deadlist.proofs.Splits.{uppers-with_pile}
use Rattle.deadlist.proofs.Puts.{put_entries, put_cut, fits_one}
use Rattle.deadlist.proofs.parts.Parts.place.Goals as goal

-- both facts of what was put, where it was
both : {T E : Type 0} (P Q : Type 0) (r : Result T E) → OnOk r P → OnOk r Q → OnOk r (P × Q)
both P Q (Ok x) p q = (p, q)
both P Q (Err e) p q = tt

pub returns-clause-entries : goal.returns-clause-entries
returns-clause-entries c =
    let s = c.args.self.now in
    on_ok_weaker c.put.result (λ e. rw (e.0, e.1) (put_entries (spans s.closed.items) s.last.entries c.below-at.result (c.args.dead ∷ []))) (both _ _ c.put.result c.put.ensures.closed c.put.ensures.last)

pub returns-clause-cuts : goal.returns-clause-cuts
returns-clause-cuts c =
    let s = c.args.self.now in
    on_ok_weaker c.put.result (λ e. rw e (uppers-with_pile (spans s.closed.items) c.below-at.result _)) c.put.ensures.closed

pub returns-clause-cut : goal.returns-clause-cut
returns-clause-cut c =
    let s = c.args.self.now in
    let b = c.args.dead.birth.0 in
    let own : b ≤ b = omega arith in
    let k = put_cut (spans s.closed.items) 0 b s.last.entries (c.args.dead ∷ []) c.requires (omega arith) (own, tt) (fits_one (spans s.closed.items) c.args.dead) in
    on_ok_weaker c.put.result (λ e. rw (e.0, e.1, c.below-at.ensures) k) (both _ _ c.put.result c.put.ensures.closed c.put.ensures.last)
