-- What each step leaves of the world that it goes on from, and a sync of the present one.
use Rattle.std.proofs.Common.{◌≡◌, ◌<◌, ◌≤◌, Bool, false, [], refl, ◌∙◌, inl, arith}
use Rattle.base.specs.Map.{Map}
use Rattle.model.specs.declared.request.Request.{Request}
use Rattle.model.specs.declared.reply.Reply.{Reply}
use Rattle.model.specs.World.{World, SnapId, Snapped, map_of}
use Rattle.model.specs.State.{State}
use Rattle.model.specs.Edits.{with_next_group}
use Rattle.model.specs.Step.{Step}
use Rattle.world.specs.Dead.{IsThere}
use Rattle.world.specs.Shapes.{Name}
use Rattle.laws.specs.Lineages.{IsOrdered, HasLineages, HasBirths}
use Rattle.laws.specs.Runs.{given}
use Rattle.laws.proofs.Before.{world_before}
use Rattle.laws.proofs.Edits.{same_later}
use Rattle.laws.proofs.Groups.{step_group}
use Rattle.laws.proofs.Marking.{MarksFrom, step_marks}
use Rattle.laws.proofs.OrderedSteps.{step_ordered}
use Rattle.laws.proofs.Orders.{taken_ordered}
use Rattle.laws.proofs.Stepping.{Became, went, became_lineages, became_births, became_kept, step_became}

-- one world leads to another, with file systems that are given these names
pub record Leads (gives : Name → Bool) (w new : World) : Type 0 where
  pub order : IsOrdered w → IsOrdered new
  pub became : IsOrdered w → Became w new
  pub group : w.group ≤ new.group
  pub marks : MarksFrom gives w new

pub step_leads : (q : Request) (r : Reply) (s new : State) → Step s q r new → Leads (given q r) (world_before s q r) new.now
step_leads q r s new step =
    record { order = step_ordered q r s new step; became = step_became q r s new step; group = step_group q r s new step; marks = step_marks q r s new step }

-- a sync gives none
abbrev pub gives_none : Name → Bool
gives_none name = false

pub sync_leads : (w : World) → Leads gives_none w (with_next_group w)
sync_leads w = record { order = λ o. taken_ordered w o 0 [] refl; became = λ o. went (same_later w); group = omega arith; marks = λ a at b h. inl h }

-- ---- what goes on

pub leads_lineages : (gives : Name → Bool) (w new : World) → HasLineages w → Leads gives w new → HasLineages new
leads_lineages gives w new lines leads = became_lineages w new lines (leads.order lines.order) (leads.became lines.order)

pub leads_births : (gives : Name → Bool) (w new : World) → HasLineages w → HasBirths w → Leads gives w new → HasBirths new
leads_births gives w new lines births leads = became_births w new lines.order births leads.group (leads.became lines.order)

-- lineages, and a snapshot of this identity has this map where it is there, once its group is closed
pub record HasSnapMap (id : SnapId) (held : Map) (w : World) : Type 0 where
  pub lines : HasLineages w
  pub closed : id.group < w.group
  pub map : IsThere w (Snapped id) → map_of w (Snapped id) ≡ held

pub leads_held : (id : SnapId) (held : Map) (gives : Name → Bool) (w new : World) → HasSnapMap id held w → Leads gives w new → HasSnapMap id held new
leads_held id held gives w new h leads = record {
  lines = leads_lineages gives w new h.lines leads;
  closed = let c = h.closed in let g = leads.group in omega arith;
  map = λ there.
      let was = became_kept w new h.lines.order (leads.order h.lines.order) (leads.became h.lines.order) id h.closed there in
      was.1 ∙ h.map was.0;
}
