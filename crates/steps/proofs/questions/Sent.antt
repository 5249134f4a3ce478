-- Sends: what a pool with some datasets answers is a step.
use Rattle.std.proofs.Common.{◌≡◌, ℕ, List, Option, Some, None, sym, ap, subst, ◌∙◌}
use Rattle.base.specs.declared.refusal.Refusal.{Refusal}
use Rattle.base.specs.declared.name.member.Member.{Member}
use Rattle.base.specs.declared.name.target.Target.{Target}
use Rattle.base.specs.declared.name.target.Target.TheVariants.{Snapshot as OfSnapshot}
use Rattle.stream.specs.Spelling.{spell}
use Rattle.model.specs.declared.request.Request.TheVariants.{Send}
use Rattle.model.specs.declared.reply.Reply.TheVariants.{Refused, Stream as StreamIs}
use Rattle.model.specs.World.{Snap}
use Rattle.model.specs.State.{State}
use Rattle.model.specs.Rule.{first_of}
use Rattle.model.specs.Step.{Step}
use Rattle.model.specs.requests.Send.{Start, start_named, sending_from, send_row}
use Rattle.world.specs.Tables.{Datasets, world_of}
use Rattle.steps.specs.Edits.{datasets_of}
use Rattle.steps.specs.Steady.{IsSteady, snap_in}
use Rattle.steps.proofs.questions.Sends as sending

module _ (s : State) (steady : IsSteady s) (t : Datasets) (is : datasets_of s ≡ t) (target : Target) (from : Option Target) where
  pub refused : (why : Refusal) → first_of (send_row (world_of t) target from) ≡ Some why → Step s (Send target from) (Refused why) s
  refused why e = sending.send_refused s from target why (ap (λ t. first_of (send_row (world_of t) target from)) is ∙ e)

  -- the bytes of its stream
  pub sent : first_of (send_row (world_of t) target from) ≡ None → (m : Member) → target ≡ OfSnapshot m → (u : Snap) → Some u ≡ snap_in t.file_systems m
      → (start : Start) → start_named (world_of t) target from ≡ Some start → (bytes : List ℕ) → bytes ≡ spell (sending_from start u.guid u.map) → Step s (Send target from) (StreamIs bytes) s
  sent can m name u found start started bytes e = subst (λ x. Step s (Send x from) (StreamIs bytes) s) (sym name)
      (sending.send_done s from m
      ((λ i. first_of (send_row (world_of (is i)) (sym name i) from)) ∙ can)
      steady u (ap (λ t. snap_in t.file_systems m) is ∙ sym found) start
      ((λ i. start_named (world_of (is i)) (sym name i) from) ∙ started) bytes e)
