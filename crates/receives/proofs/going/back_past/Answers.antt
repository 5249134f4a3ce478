use Rattle.std.proofs.Common.{Some, sym, ap, subst, ◌∙◌}
use Rattle.std.specs.List.{find, list_any}
use Rattle.std.specs.Option.{option_map, option_copied}
use Rattle.std.specs.FinMap.{get}
use Rattle.base.specs.Map.{BlockSet}
use Rattle.base.specs.Names.{same_name}
use Rattle.base.specs.declared.name.target.Target.TheVariants.{Snapshot as OfSnapshot}
use Rattle.model.specs.World.{Snap}
use Rattle.world.specs.Tables.{Datasets}
use Rattle.removals.specs.Edits.{HasLost}
use Rattle.removals.specs.Needs.{has_clone_and_is_later}
use Rattle.removals.specs.Requests.{rolled}
use Rattle.removals.proofs.Losses.{lost_none}
use Rattle.removals.proofs.Shared.{told_of}
use Rattle.receives.proofs.Past.{source_is, past_is, past_group, past_uncloned}
use Rattle.receives.proofs.going.back_past.Goals as goal

pub returns-in_default-clause-lost : goal.returns-in_default-clause-lost
returns-in_default-clause-lost c = subst (λ (p : Datasets × BlockSet). HasLost c.args.table.now c.args.freeing.now p.0 p.1) (λ i. (sym c.in_ok-edit.ensures.ok.0 i, sym c.in_ok-edit.ensures.ok.1 i))
    (lost_none c.args.table.now c.args.freeing.now c.requires.apart)

pub returns-in_default-source_of-clause-lost : goal.returns-in_default-source_of-clause-lost
returns-in_default-source_of-clause-lost c = subst (λ (p : Datasets × BlockSet). HasLost c.args.table.now c.args.freeing.now p.0 p.1) (λ i. (sym c.in_ok-edit.ensures.ok.0 i, sym c.in_ok-edit.ensures.ok.1 i))
    (lost_none c.args.table.now c.args.freeing.now c.requires.apart)

pub roll_back-requires-clause-group : goal.roll_back-requires-clause-group
roll_back-requires-clause-group c =
    let t = c.args.table.now in
    let told = told_of t.file_systems c.args.name.now c.in-Some.file_system.now (get t.file_systems c.args.name.now) (ap option_copied (sym c.in-Some.is) ∙ c.find.ensures) in
    let f = c.in-Some.file_system.now.system in
    let s = c.in-Some-source_of.snapshot.now in
    let source = source_is t c.args.name.now c.args.source.0 f told.1 (Some s) (ap option_copied (sym c.in-Some-source_of.is) ∙ c.source_of.ensures) in
    ap (λ n. option_map (λ (v : Snap). v.group) (find (λ (v : Snap). same_name v.name n) f.snaps)) c.name.ensures
    ∙ past_group t c.facts.ensures.good c.args.name.now c.args.source.0 (f, s) source
    ∙ ap Some (sym c.group.ensures)

pub roll_back-requires-clause-no_clone : goal.roll_back-requires-clause-no_clone
roll_back-requires-clause-no_clone c =
    let t = c.args.table.now in
    let told = told_of t.file_systems c.args.name.now c.in-Some.file_system.now (get t.file_systems c.args.name.now) (ap option_copied (sym c.in-Some.is) ∙ c.find.ensures) in
    let f = c.in-Some.file_system.now.system in
    let s = c.in-Some-source_of.snapshot.now in
    let source = source_is t c.args.name.now c.args.source.0 f told.1 (Some s) (ap option_copied (sym c.in-Some-source_of.is) ∙ c.source_of.ensures) in
    (λ i. list_any (has_clone_and_is_later (c.in_ok-edit.ensures.ok.0 i) (c.group.ensures i)) f.snaps)
    ∙ past_uncloned t c.facts.ensures.good c.args.name.now c.args.source.0 (f, s) source c.requires.no_clone

pub returns-clause-ok : goal.returns-clause-ok
returns-clause-ok c =
    let t = c.args.table.now in
    let told = told_of t.file_systems c.args.name.now c.in-Some.file_system.now (get t.file_systems c.args.name.now) (ap option_copied (sym c.in-Some.is) ∙ c.find.ensures) in
    let f = c.in-Some.file_system.now.system in
    let s = c.in-Some-source_of.snapshot.now in
    let source = source_is t c.args.name.now c.args.source.0 f told.1 (Some s) (ap option_copied (sym c.in-Some-source_of.is) ∙ c.source_of.ensures) in
    c.in_ok-roll_back.ensures.ok
    ∙ (λ i. rolled (c.in_ok-edit.ensures.ok.0 i) (OfSnapshot (record { file_system = told.0 i; component = c.name.ensures i })))
    ∙ past_is t c.facts.ensures.good c.args.name.now c.args.source.0 (f, s) source
