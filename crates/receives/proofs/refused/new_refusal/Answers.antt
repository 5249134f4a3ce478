use Rattle.std.proofs.Common.{Option, Some, None, cond, not, sym, ap, ◌∙◌}
use Rattle.std.specs.Prelude.{nat_le}
use Rattle.std.specs.FinMap.{contains_key, len}
use Rattle.base.specs.declared.refusal.Refusal.{Refusal}
use Rattle.base.specs.declared.refusal.Refusal.TheVariants.{TooMany}
use Rattle.model.specs.Hierarchy.{file_system_limit, has_parent}
use Rattle.model.specs.requests.Create.{create_refusal}
use Rattle.model.specs.requests.Receive.{has_no_room}
use Rattle.world.specs.Tables.{world_of}
use Rattle.receives.proofs.Refusals.{no_system, can_create}
use Rattle.receives.proofs.refused.new_refusal.Goals as goal

pub returns-in-Some : goal.returns-in-Some
unfolding create_refusal
returns-in-Some c =
    let m = c.args.table.now.file_systems in
    let name = c.args.name.now in
    no_system (contains_key m name) (not (has_parent m name)) (nat_le file_system_limit (len m)) (has_no_room (world_of c.args.table.now) 0) c.in-Some.refusal (sym c.create_refusal.ensures ∙ c.in-Some.is)

pub returns-then-has_no_room : goal.returns-then-has_no_room
unfolding create_refusal
returns-then-has_no_room c =
    let m = c.args.table.now.file_systems in
    let name = c.args.name.now in
    ap (λ b. cond b (Some TooMany) None) (sym c.if-has_no_room.true ∙ c.has_no_room.ensures)
    ∙ can_create (contains_key m name) (not (has_parent m name)) (nat_le file_system_limit (len m)) (has_no_room (world_of c.args.table.now) 0) (sym c.create_refusal.ensures ∙ c.in_default.is)

pub returns : goal.returns
unfolding create_refusal
returns c =
    let m = c.args.table.now.file_systems in
    let name = c.args.name.now in
    ap (λ b. cond {A = Option Refusal} b (Some TooMany) None) (sym c.if-has_no_room.false ∙ c.has_no_room.ensures)
    ∙ can_create (contains_key m name) (not (has_parent m name)) (nat_le file_system_limit (len m)) (has_no_room (world_of c.args.table.now) 0) (sym c.create_refusal.ensures ∙ c.in_default.is)
