-- The state at each entry's place in a history.
use Rattle.std.proofs.Common.{◌≡◌, ◌+◌, ◌∷◌, [], ℕ, zero, suc, drop, refl, subst, arith}
use Rattle.base.specs.declared.name.target.Target.{Target}
use Rattle.model.specs.declared.entry.Entry.{Entry}
use Rattle.model.specs.declared.request.Request.{Request}
use Rattle.model.specs.declared.reply.Reply.{Reply}
use Rattle.model.specs.declared.reply.Reply.TheVariants.{Opened}
use Rattle.model.specs.Numbers.{IsNumbered}
use Rattle.model.specs.State.{State}
use Rattle.model.specs.Step.{Step}
use Rattle.laws.proofs.Lasting.{numbers_last}
use Rattle.session.specs.History.{IsLegal}
use Rattle.session.specs.Places.{IsViewOf, EntriesHavePlaces}
use Rattle.session.specs.Views.{Viewed, AnswersAtOpening}

-- what a view of an entry answers, in a state of which the entry is a step
answered : (s u : State) (e : Entry) → IsNumbered s → Step s e.request e.reply u → (v : Viewed) (request : Target → Request) (reply : Reply) → IsViewOf e v
    → AnswersAtOpening v request reply → Step s (request v.target) reply s
answered s u e numbered step v request reply (asked, opened) answers =
    answers s u numbered (subst (λ q. Step s q (Opened v.number v.sight) u) asked (subst (λ r. Step s e.request r u) opened step))

pub entries_have_places : EntriesHavePlaces
entries_have_places s u [] k e numbered run at = absurd (cc at)
entries_have_places s u (x ∷ xs) zero e numbered (t, step, rest) at =
    let same : x ≡ e = cc at in
    let here : Step s e.request e.reply t = subst (λ (y : Entry). Step s y.request y.reply t) same step in
    record { before = s; after = t; led = refl; step = here; rest = rest; viewed = answered s t e numbered here }
entries_have_places s u (x ∷ xs) (suc k) e numbered (t, step, rest) at =
    let p = entries_have_places t u xs k e (numbers_last s t (x.request ∷ []) (x.reply ∷ []) numbered (t, step, refl)) rest at in
    let next : suc (k + 1) ≡ suc k + 1 = omega arith in
    record { before = p.before; after = p.after; led = (t, step, p.led); step = p.step; rest = subst (λ (n : ℕ). IsLegal p.after (drop n (x ∷ xs)) u) next p.rest; viewed = p.viewed }
