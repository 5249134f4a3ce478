use Rattle.std.proofs.Common.{sym, ap, subst, ◌∙◌}
use Rattle.std.specs.Prelude.{is_some}
use Rattle.std.specs.List.{list_any}
use Rattle.std.specs.Option.{option_copied}
use Rattle.std.specs.FinMap.{get}
use Rattle.base.specs.Map.{BlockSet}
use Rattle.model.specs.World.{empty_file_system, union_of}
use Rattle.world.specs.Tables.{Datasets, world_of, with_system}
use Rattle.world.proofs.lineage.Put.{put_here}
use Rattle.removals.specs.Edits.{HasLost}
use Rattle.removals.specs.Needs.{has_clone_and_is_later}
use Rattle.removals.proofs.Losses.{lost_alike}
use Rattle.removals.proofs.Shared.{told_of}
use Rattle.receives.specs.Requests.{with_limits}
use Rattle.receives.proofs.Replaced.{replaced_is, limits_union, replaced_uncloned}
use Rattle.receives.proofs.going.replaced.Goals as goal

pub empty_one-requires-clause-no_clone : goal.empty_one-requires-clause-no_clone
empty_one-requires-clause-no_clone c =
    let t = c.args.table.now in
    let told = told_of t.file_systems c.args.name.now c.in-Some.file_system.now (get t.file_systems c.args.name.now) (ap option_copied (sym c.in-Some.is) ∙ c.find.ensures) in
    let f = c.in-Some.file_system.now.system in
    ap (λ (u : Datasets). list_any (has_clone_and_is_later u 0) f.snaps) c.in_ok-edit.ensures.ok.0
    ∙ replaced_uncloned t c.args.name.now f told.1 c.facts.ensures.good c.requires.no_clone

pub put_limits-requires : goal.put_limits-requires
put_limits-requires c =
    let t = c.args.table.now in
    let told = told_of t.file_systems c.args.name.now c.in-Some.file_system.now (get t.file_systems c.args.name.now) (ap option_copied (sym c.in-Some.is) ∙ c.find.ensures) in
    let emptied = c.in_ok-empty_one.ensures.ok ∙ (λ i. with_system (c.in_ok-edit.ensures.ok.0 i) (told.0 i) empty_file_system) in
    record { there = ap (λ (u : Datasets). is_some (get u.file_systems c.args.name.now)) emptied ∙ ap is_some (put_here t.file_systems c.args.name.now empty_file_system) }

pub returns-clause-ok : goal.returns-clause-ok
returns-clause-ok c =
    let t = c.args.table.now in
    let told = told_of t.file_systems c.args.name.now c.in-Some.file_system.now (get t.file_systems c.args.name.now) (ap option_copied (sym c.in-Some.is) ∙ c.find.ensures) in
    let emptied = c.in_ok-empty_one.ensures.ok ∙ (λ i. with_system (c.in_ok-edit.ensures.ok.0 i) (told.0 i) empty_file_system) in
    c.in_ok-put_limits.ensures.ok
    ∙ (λ i. with_limits (emptied i) c.args.name.now (c.limits.ensures i))
    ∙ replaced_is t c.args.name.now c.in-Some.file_system.now.system told.1

pub returns-clause-lost : goal.returns-clause-lost
returns-clause-lost c =
    let t = c.args.table.now in
    let told = told_of t.file_systems c.args.name.now c.in-Some.file_system.now (get t.file_systems c.args.name.now) (ap option_copied (sym c.in-Some.is) ∙ c.find.ensures) in
    let emptied = c.in_ok-empty_one.ensures.ok ∙ (λ i. with_system (c.in_ok-edit.ensures.ok.0 i) (told.0 i) empty_file_system) in
    let u = c.empty_one.new.edit.to in
    let at = ap (λ (v : Datasets). get v.file_systems c.args.name.now) emptied ∙ put_here t.file_systems c.args.name.now empty_file_system in
    let lost = subst (λ (p : Datasets × BlockSet). HasLost p.0 p.1 u c.empty_one.new.edit.freeing) (λ i. (c.in_ok-edit.ensures.ok.0 i, c.in_ok-edit.ensures.ok.1 i)) c.in_ok-empty_one.ensures.lost in
    lost_alike t u c.put_limits.new.table c.args.freeing.now c.empty_one.new.edit.freeing
    (ap (λ (v : Datasets). union_of (world_of v)) c.in_ok-put_limits.ensures.ok ∙ limits_union u c.args.name.now empty_file_system at c.limits.result) lost
