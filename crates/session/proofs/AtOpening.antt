-- A view answers what was answered in the place of the request that opened it.
use Rattle.std.proofs.Common.{◌≡◌, ℕ, true, List, Option, Some, None, Result, refl, ap}
use Rattle.std.specs.Prelude.{is_some}
use Rattle.std.specs.Option.{option_map, option_map_or, option_and_then}
use Rattle.base.specs.declared.refusal.Refusal.{Refusal}
use Rattle.base.specs.declared.name.target.Target.{Target}
use Rattle.base.specs.declared.name.target.Target.TheVariants.{FileSystem as OfFileSystem, Snapshot as OfSnapshot, Bookmark as OfBookmark}
use Rattle.model.specs.declared.request.Request.TheVariants.{OpenView, Read, Send}
use Rattle.model.specs.declared.reply.Reply.TheVariants.{Done, Opened}
use Rattle.model.specs.Sights.{Seen}
use Rattle.model.specs.World.{FileSystem, Snap, Dataset, Snapped, id_of, map_of, snap_named, file_system_at}
use Rattle.model.specs.State.{State}
use Rattle.model.specs.Targets.{has_dataset, dataset_of}
use Rattle.model.specs.Step.{Step, Follows, done, refused, out_of_memory}
use Rattle.model.specs.requests.OpenView.{open_view_rule}
use Rattle.model.specs.requests.Rollback.{placed}
use Rattle.model.specs.requests.Send.{sight_of, sight_named}
use Rattle.session.specs.Views.{Viewed, ReadsAs, SendsAs, AnswersAtOpening, reply_of, sent_reply}

-- a reply that opens a view shows the snapshot of the name
opens : (s u : State) (target : Target) (n : ℕ) (sight : Seen) → Step s (OpenView target) (Opened n sight) u → sight_named s.now target ≡ Some sight
opens s u target n sight step = by_rule step.follows
  where
    by_place : (x : Option (FileSystem × Snap)) → Opened n sight ≡ option_map_or (λ p. Opened s.next_view (sight_of s.now (id_of p.1))) x Done
        → option_map (λ p. sight_of s.now (id_of p.1)) x ≡ Some sight
    by_place (Some p) e = cc e
    by_place None e = absurd (cc e)

    by_rule : Follows s (open_view_rule target) (Opened n sight) u → sight_named s.now target ≡ Some sight
    by_rule (done d) = by_place (placed s.now target) d.reply_is
    by_rule (refused r) = absurd (cc r.reply_is)
    by_rule (out_of_memory m) = absurd (cc m.reply_is)

-- the dataset of a name has what a send of it sees
record IsShown (s : State) (target : Target) (sight : Seen) : Type 0 where
  pub dataset : Dataset
  pub here : has_dataset s target ≡ true
  pub is : dataset_of s target ≡ Some dataset
  pub map_is : map_of s.now dataset ≡ sight.map

shown : (s : State) (target : Target) (sight : Seen) → sight_named s.now target ≡ Some sight → IsShown s target sight
unfolding sight_of
shown s (OfFileSystem name) sight e = absurd (cc e)
shown s (OfBookmark m) sight e = absurd (cc e)
shown s (OfSnapshot m) sight e = of_snap (by_place (file_system_at s.now m.file_system) (snap_named s.now m) e)
  where
    by_place : (x : Option FileSystem) (y : Option Snap) → option_map (λ (p : FileSystem × Snap). sight_of s.now (id_of p.1)) (option_and_then (λ (f : FileSystem). option_map (λ (t : Snap). (f, t)) y) x) ≡ Some sight
        → (t : Snap) × (y ≡ Some t) × (sight_of s.now (id_of t) ≡ sight)
    by_place (Some f) (Some t) e = (t, refl, cc e)
    by_place (Some f) None e = absurd (cc e)
    by_place None y e = absurd (cc e)

    of_snap : ((t : Snap) × (snap_named s.now m ≡ Some t) × (sight_of s.now (id_of t) ≡ sight)) → IsShown s (OfSnapshot m) sight
    of_snap (t, named, seen) = record {
      dataset = Snapped (id_of t);
      here = ap is_some named;
      is = ap (option_map (λ (x : Snap). Snapped (id_of x))) named;
      map_is = ap (λ (x : Seen). x.map) seen;
    }

pub reads_at_opening : (v : Viewed) (object block : ℕ) (r : Result (Option (List ℕ)) Refusal) → ReadsAs v.sight object block r
    → AnswersAtOpening v (λ target. Read target object block) (reply_of r)
reads_at_opening v object block r reads s u numbered step =
    let d : IsShown s v.target v.sight = shown s v.target v.sight (opens s u v.target v.number v.sight step) in
    reads s v.target d.dataset numbered d.here d.is d.map_is

pub sends_at_opening : (v : Viewed) (from : Option Target) (r : Result (List ℕ) Refusal) → SendsAs v.sight from r
    → AnswersAtOpening v (λ target. Send target from) (sent_reply r)
sends_at_opening v from r sends s u numbered step = sends s v.target numbered (opens s u v.target v.number v.sight step)
