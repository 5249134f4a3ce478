-- What is at each entry's place in a history that can be read.
use Rattle.std.specs.Prelude.{◌≡◌, ℕ, ◌+◌, List, take, drop, Some, slice_get}
use Rattle.base.specs.declared.name.target.Target.{Target}
use Rattle.model.specs.declared.entry.Entry.{Entry}
use Rattle.model.specs.declared.request.Request.{Request}
use Rattle.model.specs.declared.request.Request.TheVariants.{OpenView}
use Rattle.model.specs.declared.reply.Reply.{Reply}
use Rattle.model.specs.declared.reply.Reply.TheVariants.{Opened}
use Rattle.model.specs.Numbers.{IsNumbered}
use Rattle.model.specs.State.{State}
use Rattle.model.specs.Step.{Step}
use Rattle.session.specs.History.{IsLegal}
use Rattle.session.specs.Views.{Viewed, AnswersAtOpening}

-- the view is the one that the entry opened (profile)
abbrev pub IsViewOf : Entry → Viewed → Type 0
IsViewOf e v = (e.request ≡ OpenView v.target) × (e.reply ≡ Opened v.number v.sight)

-- The state at an entry's place: those before the entry lead to it, the entry is a step from it, and those behind lead on to the end. What
-- a view that the entry opened is read and sent as is what the pool answers in this state (profile)
pub record IsAtPlace (opening : State) (history : List Entry) (end : State) (number : ℕ) (e : Entry) : Type 0 where
  pub before : State
  pub after : State
  pub led : IsLegal opening (take number history) before
  pub step : Step before e.request e.reply after
  pub rest : IsLegal after (drop (number + 1) history) end
  pub viewed : (v : Viewed) (request : Target → Request) (reply : Reply) → IsViewOf e v → AnswersAtOpening v request reply → Step before (request v.target) reply before

-- In a history that is a run there is a state at the place of each entry; the state at the opening has its numbers in order, as each
-- pool's has (profile)
abbrev pub EntriesHavePlaces : Type 0
EntriesHavePlaces =
    (opening end : State) (history : List Entry) (number : ℕ) (e : Entry) → IsNumbered opening → IsLegal opening history end → slice_get history number ≡ Some e
    → IsAtPlace opening history end number e
