-- A legal history grows by a step at its end.
use Rattle.std.proofs.Common.{◌<◌, ◌≤◌, ◌∷◌, ◌++◌, [], ℕ, List, length, map, arith, length-append}
use Rattle.std.proofs.lemmas.List.{map-append}
use Rattle.model.specs.State.{State}
use Rattle.model.specs.Step.{Step}
use Rattle.model.specs.declared.entry.Entry.{Entry}
use Rattle.model.specs.declared.request.Request.{Request}
use Rattle.model.specs.declared.reply.Reply.{Reply}
use Rattle.world.proofs.views.Runs.{run_grows}
use Rattle.session.specs.History.{IsLegal}
use Rattle.session.specs.Books.{IsSound}

abbrev request_in : Entry → Request
request_in e = e.request

abbrev reply_in : Entry → Reply
reply_in e = e.reply

pub legal_more : (s m u : State) (es : List Entry) (e : Entry) → IsLegal s es m → Step m e.request e.reply u → IsLegal s (es ++ e ∷ []) u
legal_more s m u es e h step =
    rw (map-append request_in es (e ∷ []), map-append reply_in es (e ∷ [])) (run_grows s m u (map request_in es) (map reply_in es) e.request e.reply h step)

pub sound_more : (s : State) (calls : ℕ) (es : List Entry) (m u : State) (seats limit capacity : ℕ) (e : Entry) → IsSound s calls es m seats limit capacity
    → Step m e.request e.reply u → length es < limit → IsSound s calls (es ++ e ∷ []) u seats limit capacity
sound_more s calls es m u seats limit capacity e h step room =
    let longer : length (es ++ e ∷ []) ≤ limit = omega (arith, length-append es (e ∷ [])) in
    record { legal = legal_more s m u es e h.legal step; takes = h.takes; within = longer; reserved = h.reserved; bounded = h.bounded; seated = h.seated }
