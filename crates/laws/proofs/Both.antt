-- What becomes of the snapshots of both worlds in a step and in a run.
use Rattle.std.proofs.Common.{◌≡◌, List, [], ◌∷◌, refl, sym, ap, subst, ◌∙◌, ◌⊎◌, inl, inr, ⊎_elim}
use Rattle.base.specs.declared.refusal.Refusal.{Refusal}
use Rattle.base.specs.declared.refusal.Refusal.TheVariants.{NoMemory}
use Rattle.base.specs.Map.{Map}
use Rattle.model.specs.declared.request.Request.{Request}
use Rattle.model.specs.declared.request.Request.TheVariants.{Abandon as ToAbandon}
use Rattle.model.specs.declared.reply.Reply.{Reply}
use Rattle.model.specs.declared.reply.Reply.TheVariants.{Done, Refused}
use Rattle.model.specs.World.{World, SnapId, Snapped, map_of}
use Rattle.model.specs.Edits.{with_next_group}
use Rattle.model.specs.Outcome.{state_after_sweep, state_after}
use Rattle.model.specs.State.{State, fresh_state, fresh_world}
use Rattle.model.specs.Run.{Run}
use Rattle.model.specs.Step.{Step, Follows, done, refused, out_of_memory}
use Rattle.model.specs.requests.Abandon.{abandon_rule}
use Rattle.world.specs.Dead.{IsThere}
use Rattle.laws.specs.Lineages.{HasLineages}
use Rattle.laws.specs.Runs.{InBoth, given}
use Rattle.laws.proofs.Before.{world_before, either_world, LeavesLast, last_after}
use Rattle.laws.proofs.Leading.{Leads, gives_none, step_leads, sync_leads, HasSnapMap, leads_held}
use Rattle.laws.proofs.Lasting.{run_has, lineages_last}
use Rattle.laws.proofs.Lineages.{there_closed}
use Rattle.laws.proofs.Pools.{lineages_begin}
use Rattle.laws.specs.Both.{AreSnapshotsOne, NeverGoesBefore, SnapshotsBeginOne, SnapshotsLastOne, SnapshotsStay, SnapshotsReturn}
use Rattle.laws.proofs.Lasting.{run_within}

pub begin_one : SnapshotsBeginOne
unfolding fresh_state
begin_one id size = record {
  maps = λ t here there. refl;
  closed = λ t there. there_closed fresh_world (lineages_begin id size).1.order t there;
}

-- ---- what each world holds of a snapshot

-- a snapshot of a world holds its own map
held_there : (w : World) (id : SnapId) → HasLineages w → IsThere w (Snapped id) → HasSnapMap id (map_of w (Snapped id)) w
held_there w id lines there = record { lines = lines; closed = there_closed w lines.order id there; map = λ _. refl }

module _ (s : State) (lines : InBoth HasLineages s) (one : AreSnapshotsOne s) (id : SnapId) (there : IsThere s.last (Snapped id)) where
  -- the present world holds of a snapshot of the last synced one what that does
  held_now : HasSnapMap id (map_of s.last (Snapped id)) s.now
  held_now = record { lines = lines.0; closed = one.closed id there; map = λ here. one.maps id here there }

  -- and the other way round
  held_last : IsThere s.now (Snapped id) → HasSnapMap id (map_of s.now (Snapped id)) s.last
  held_last here = record { lines = lines.1; closed = there_closed s.last lines.1.order id there; map = λ k. sym (one.maps id here k) }

-- ---- a step

not_done : (why : Refusal) → Done ≡ Refused why → ⊥
not_done why e = cc

-- an Abandon leaves the last synced world
abandon_leaves : (s t : State) → Step s ToAbandon Done t → t.last ≡ s.last
unfolding state_after state_after_sweep
abandon_leaves s t step = by_end step.follows
  where
    by_end : Follows s abandon_rule Done t → t.last ≡ s.last
    by_end (done h) = ap (λ (x : State). x.last) h.new_is
    by_end (refused h) = absurd (not_done h.why h.reply_is)
    by_end (out_of_memory h) = absurd (not_done NoMemory h.reply_is)

module _ (q : Request) (r : Reply) (s t : State) (lines : InBoth HasLineages s) (one : AreSnapshotsOne s) (step : Step s q r t) where
  -- the last synced world stays, and the present one goes on from a world that holds what it does of its snapshots
  stays : (w : World) → Leads (given q r) w t.now → ((id : SnapId) → IsThere s.last (Snapped id) → HasSnapMap id (map_of s.last (Snapped id)) w) → t.last ≡ s.last
      → AreSnapshotsOne t
  stays w leads holds same = record {
    maps = λ id here there. (after id (was id there)).map here ∙ ap (λ x. map_of x (Snapped id)) (sym same);
    closed = λ id there. (after id (was id there)).closed;
  }
    where
      was : (id : SnapId) → IsThere t.last (Snapped id) → IsThere s.last (Snapped id)
      was id there = subst (λ x. IsThere x (Snapped id)) same there

      after : (id : SnapId) → IsThere s.last (Snapped id) → HasSnapMap id (map_of s.last (Snapped id)) t.now
      after id there = leads_held id (map_of s.last (Snapped id)) (given q r) w t.now (holds id there) leads

  -- it is the present one, with the next group open, and both go on from that
  synced : Leads (given q r) s.now t.now → t.last ≡ with_next_group s.now → AreSnapshotsOne t
  synced leads is = record {
    maps = λ id here there.
        let h = held_there s.now id lines.0 (was id there) in
        (leads_held id (map_of s.now (Snapped id)) (given q r) s.now t.now h leads).map here
        ∙ sym ((leads_held id (map_of s.now (Snapped id)) gives_none s.now t.last h (subst (Leads gives_none s.now) (sym is) (sync_leads s.now))).map there);
    closed = λ id there. (leads_held id (map_of s.now (Snapped id)) (given q r) s.now t.now (held_there s.now id lines.0 (was id there)) leads).closed;
  }
    where
      was : (id : SnapId) → IsThere t.last (Snapped id) → IsThere s.now (Snapped id)
      was id there = subst (λ x. IsThere x (Snapped id)) is there

  pub one_after : AreSnapshotsOne t
  one_after = by_world (either_world s q r)
    where
      leads : Leads (given q r) (world_before s q r) t.now
      leads = step_leads q r s t step

      from_now : Leads (given q r) s.now t.now → LeavesLast s q r t → AreSnapshotsOne t
      from_now l (inl k) = stays s.now l (held_now s lines one) k.0
      from_now l (inr k) = synced l k

      by_world : (world_before s q r ≡ s.now) ⊎ ((world_before s q r ≡ s.last) × (q ≡ ToAbandon) × (r ≡ Done)) → AreSnapshotsOne t
      by_world (inl e) = from_now (subst (λ w. Leads (given q r) w t.now) e leads) (last_after q r s t step)
      by_world (inr (e, is, reply)) =
          stays s.last (subst (λ w. Leads (given q r) w t.now) e leads) (λ id there. held_there s.last id lines.1 there)
          (abandon_leaves s t (subst (λ x. Step s x Done t) is (subst (λ x. Step s q x t) reply step)))

-- ---- runs

pub last_one : SnapshotsLastOne
last_one s u [] [] lines one run = subst AreSnapshotsOne run one
last_one s u [] (r ∷ rs) lines one run = absurd run
last_one s u (q ∷ qs) [] lines one run = absurd run
last_one s u (q ∷ qs) (r ∷ rs) lines one (t, step, rest) =
    last_one t u qs rs (lineages_last s t (q ∷ []) (r ∷ []) lines (t, step, refl)) (one_after q r s t lines one step) rest

-- a map that the present world holds of a snapshot, it holds after a run too, where the last synced one holds it or no Abandon goes back to that
held_lasts : (s u : State) (qs : List Request) (rs : List Reply) (id : SnapId) (held : Map) → HasSnapMap id held s.now
    → (IsThere s.last (Snapped id) → HasSnapMap id held s.last) → NeverGoesBefore s id qs rs → Run s qs rs u → HasSnapMap id held u.now
held_lasts s u qs rs id held now last never run =
    (run_has (HasSnapMap id held) (λ w. Unit {0}) (λ gives. Unit {0}) tt (λ gives w new _ h leads _. leads_held id held gives w new h leads) (λ w _. tt) s u qs rs (λ i q r e f. tt) now
    (⊎_elim (λ there. inl (last there)) inr never) (run_within s u qs rs run)).0

pub snapshots_stay : SnapshotsStay
snapshots_stay s u qs rs id lines one here never run there =
    (held_lasts s u qs rs id (map_of s.now (Snapped id)) (held_there s.now id lines.0 here) (λ k. held_last s lines one id k here) never run).map there

pub snapshots_return : SnapshotsReturn
snapshots_return s u qs rs id lines one was run there =
    (held_lasts s u qs rs id (map_of s.last (Snapped id)) (held_now s lines one id was) (held_there s.last id lines.1) (inl was) run).map there
