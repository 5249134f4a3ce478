-- The counts after a change whose live map is then kept as a snapshot.
use Rattle.std.proofs.Common.{◌≡◌, ◌+◌, ◌-◌, ℕ, [], ◌∷◌, Some, sym, ap, subst, ◌∙◌, arith}
use Rattle.std.specs.Prelude.{unwrap_or}
use Rattle.std.specs.FinMap.{get}
use Rattle.std.specs.FinSet.{len, difference}
use Rattle.base.specs.Rewrite.{Changes, rewrite}
use Rattle.base.specs.Surveys.{IsIn}
use Rattle.batch.specs.declared.forecast.Forecast.{Forecast}
use Rattle.base.specs.declared.name.member.Member.{Member}
use Rattle.model.specs.World.{World, FileSystem, Live, reach_of}
use Rattle.model.specs.State.{State, waiting_of}
use Rattle.model.specs.Edits.{with_now}
use Rattle.model.specs.Refusals.{fresh_number}
use Rattle.model.specs.Sums.{used_here, written_of}
use Rattle.world.specs.Takings.{AreTakable}
use Rattle.world.specs.Worlds.{AreFileSystems}
use Rattle.world.proofs.lists.Maps.{same_value}
use Rattle.datasets.specs.Rows.{Row}
use Rattle.limits.proofs.Forecasts.{asked_systems, asked_there}
use Rattle.limits.proofs.Taken.{taken_here, taken_referenced, taken_reach}
use Rattle.limits.specs.Outlooks.{IsAhead, IsTallyOf, IsKeptOutlookOf, ahead, kept_ahead}
use Rattle.limits.specs.declared.outlook.outlook.Outlook.{Outlook}
use Rattle.limits.specs.declared.outlook.outlook.Tally.{Tally}

module _ (s : State) (c : Changes) (r : Row) (f : Forecast) (synced : ℕ) (is : IsAhead s c r f synced) (m : Member) (named : m.file_system ≡ r.name)
    (can : AreTakable s.now.file_systems (m ∷ [])) (guid : ℕ) (t : Tally) (told : IsTallyOf s c r t) where
  abbrev w : World
  w = ahead s c r

  abbrev changed : FileSystem
  changed = record r.system { live = rewrite r.system.live c s.now.group (fresh_number s) }

  good : AreFileSystems w.file_systems w.group
  good = asked_systems s is.good r.name r.system is.there c _ is.forecast.made is.forecast.survey

  there : get w.file_systems m.file_system ≡ Some changed
  there = ap (get w.file_systems) named ∙ asked_there s is.good r.name r.system is.there c _ is.forecast.made is.forecast.survey

  same : can.0.0 ≡ r.system
  same = same_value can.0.0 r.system (sym can.0.1 ∙ ap (get s.now.file_systems) named ∙ is.there)

  abbrev can_take : AreTakable w.file_systems (m ∷ [])
  can_take = ((changed, there, λ u i. can.0.2 u (subst (λ (x : FileSystem). IsIn x.snaps u) (sym same) i)), (λ k i. absurd i), tt)

  abbrev after : World
  after = kept_ahead s c r m guid

  waits : waiting_of (with_now s after) ≡ waiting_of (with_now s w)
  unfolding waiting_of
  waits = ap (difference (reach_of s.last)) (taken_reach w good m guid can_take)

  pub kept_outlook : (o : Outlook) → o.here ≡ t.held + t.kept → o.referenced ≡ t.referenced → o.waiting ≡ t.waiting → IsKeptOutlookOf s c r m guid o
  kept_outlook o here referenced waiting =
      let a = taken_here w good m guid can_take in
      let b = subst (λ n. used_here after n + (unwrap_or r.system.limits.refreservation 0 - written_of w (Live n)) ≡ used_here w n + unwrap_or r.system.limits.refreservation 0) named a in
      let h = told.here in
      let k = told.kept in
      let n = told.written in
      record {
        here = omega (arith, here, b, h, k, n);
        referenced = referenced ∙ told.referenced ∙ sym (taken_referenced w good m guid can_take r.name);
        waiting = let l = told.waiting in let e = ap len waits in omega (arith, l, e, waiting);
      }
