use Rattle.std.proofs.Common.{◌≡◌, ℕ, Bool, Option, Some, None, Result, Err, refl, sym, ap, subst, ◌∙◌, inl}
use Rattle.std.specs.Prelude.{IfSome}
use Rattle.std.specs.Option.{option_map}
use Rattle.std.specs.List.{find, list_any}
use Rattle.std.specs.FinMap.{get}
use Rattle.base.specs.declared.refusal.Refusal.{Refusal}
use Rattle.base.specs.Names.{same_name}
use Rattle.base.specs.declared.name.member.Member.{Member}
use Rattle.base.specs.declared.name.target.Target.{Target}
use Rattle.base.specs.declared.name.target.Target.TheVariants.{Snapshot as OfSnapshot}
use Rattle.model.specs.World.{FileSystem, Snap}
use Rattle.model.specs.State.{Views}
use Rattle.model.specs.requests.Rollback.{placed}
use Rattle.world.specs.Worlds.{AreFileSystems}
use Rattle.world.specs.Tables.{Datasets, world_of}
use Rattle.removals.specs.Needs.{has_clone_and_is_later}
use Rattle.removals.specs.Requests.{rolled, rollback_refusal, refusal_at}
use Rattle.world.proofs.lists.Finding.{from_find}
use Rattle.removals.proofs.Losses.{apart_copied, lost_put}
use Rattle.removals.proofs.Rolled.{told_placed, refused_at, none_cloned}
use Rattle.removals.proofs.rolling.rollback.Goals as goal
use Rattle.removals.proofs.rolling.rollback.Goals.{In_default-refusal_of}

-- why it is refused, by what was found
why : (t : Datasets) → AreFileSystems t.file_systems t.group → (views : Views) (later : Bool) (target : Target) (m n : Member) → target ≡ OfSnapshot n → m ≡ n
    → (f : FileSystem) (s : Snap) → ◌≡◌ {A = Option (FileSystem × Snap)} (Some (f, s)) (placed (world_of t) (OfSnapshot m)) → (g : ℕ) → g ≡ s.group
    → rollback_refusal t views target later ≡ refusal_at t f g views later
why t good views later target m n is same f s found g group =
    ap (λ (x : Target). rollback_refusal t views x later) (is ∙ ap OfSnapshot (sym same))
    ∙ (let told = told_placed t m f s (sym found) in
    refused_at t views m later good m.file_system f told.0 s (from_find (λ (v : Snap). same_name v.name m.component) f.snaps s told.1).0 (sym found))
    ∙ ap (λ x. refusal_at t f x views later) (sym group)

pub returns-in-Some-refusal_of-clause-refused : goal.returns-in-Some-refusal_of-clause-refused
returns-in-Some-refusal_of-clause-refused c =
    let it = why c.args.table.now c.facts.ensures.good c.args.views.now.opened c.args.later c.args.target.now c.member-2.result.now c.in-Snapshot.name c.in-Snapshot.is c.member-2.ensures.value
    c.in-Some.file_system.now.system c.in-Some.snapshot.now c.in-Some.ensures.found c.group-group.result.0 c.group-group.ensures in
    subst (λ (x : Option Refusal). IfSome x (λ e. ◌≡◌ {A = Result (Unit {0}) Refusal} (Err c.in-Some-refusal_of.refusal) (Err e))) (c.in-Some-refusal_of.ensures ∙ sym it) refl

pub returns-in-Some-refusal_of-clause-only : goal.returns-in-Some-refusal_of-clause-only
returns-in-Some-refusal_of-clause-only c =
    inl (why c.args.table.now c.facts.ensures.good c.args.views.now.opened c.args.later c.args.target.now c.member-2.result.now c.in-Snapshot.name c.in-Snapshot.is c.member-2.ensures.value
    c.in-Some.file_system.now.system c.in-Some.snapshot.now c.in-Some.ensures.found c.group-group.result.0 c.group-group.ensures ∙ sym c.in-Some-refusal_of.ensures)

-- nothing refuses it
none : (c : In_default-refusal_of) → rollback_refusal c.args.table.now c.args.views.now.opened c.args.target.now c.args.later ≡ None
none c =
    why c.args.table.now c.facts.ensures.good c.args.views.now.opened c.args.later c.args.target.now c.member-2.result.now c.in-Snapshot.name c.in-Snapshot.is c.member-2.ensures.value
    c.in-Some.file_system.now.system c.in-Some.snapshot.now c.in-Some.ensures.found c.group-group.result.0 c.group-group.ensures ∙ sym c.in_default-refusal_of.ensures

unrefused : (x : Option Refusal) (r : Result (Unit {0}) Refusal) → x ≡ None → IfSome x (λ e. r ≡ Err e)
unrefused x r is = subst (λ (y : Option Refusal). IfSome y (λ e. r ≡ Err e)) (sym is) tt

pub roll_back-requires : goal.roll_back-requires
roll_back-requires c =
    let told = told_placed c.args.table.now c.member-2.result.now c.in-Some.file_system.now.system c.in-Some.snapshot.now (sym c.in-Some.ensures.found) in
    record {
      apart = apart_copied c.args.table.now c.in_ok-edit.edit.to c.args.freeing.now c.in_ok-edit.edit.freeing c.in_ok-edit.ensures.ok c.requires.apart;
      there = ap (λ (t : Datasets). get t.file_systems c.in-Some.file_system.now.name) c.in_ok-edit.ensures.ok.0 ∙ ap (get c.args.table.now.file_systems) c.in-Some.ensures.named ∙ told.0;
      group = ap (option_map (λ (s : Snap). s.group)) (ap (λ (m : Member). find (λ (s : Snap). same_name s.name m.component) c.in-Some.file_system.now.system.snaps) (c.member.ensures.value ∙ sym c.member-2.ensures.value) ∙ told.1) ∙ ap Some (sym c.group-group.ensures);
      no_clone = ap (λ (t : Datasets). list_any (has_clone_and_is_later t c.group-group.result.0) c.in-Some.file_system.now.system.snaps) c.in_ok-edit.ensures.ok.0
          ∙ none_cloned c.args.table.now c.in-Some.file_system.now.system c.group-group.result.0 c.args.views.now.opened c.args.later (sym c.in_default-refusal_of.ensures);
    }

pub returns-in_err-edit-clause-refused : goal.returns-in_err-edit-clause-refused
returns-in_err-edit-clause-refused c = unrefused _ _ (none (goal.at.returns-in_err-edit-clause-refused c).In_default-refusal_of)

pub returns-in_err-roll_back-clause-refused : goal.returns-in_err-roll_back-clause-refused
returns-in_err-roll_back-clause-refused c = unrefused _ _ (none (goal.at.returns-in_err-roll_back-clause-refused c).In_default-refusal_of)

pub returns-clause-ok : goal.returns-clause-ok
returns-clause-ok c =
    c.put.ensures.to
    ∙ c.in_ok-roll_back.ensures.ok
    ∙ (λ i. rolled (c.in_ok-edit.ensures.ok.0 i) (OfSnapshot (record { file_system = (c.in-Some.ensures.named ∙ ap (λ (m : Member). m.file_system) c.member-2.ensures.value) i; component = ap (λ (m : Member). m.component) c.member.ensures.value i })))
    ∙ ap (rolled c.args.table.now) (sym c.in-Snapshot.is)

pub returns-clause-lost : goal.returns-clause-lost
returns-clause-lost c =
    lost_put c.args.table.now c.in_ok-edit.edit.to c.roll_back.new.edit.to c.put.new.table c.args.freeing.now c.in_ok-edit.edit.freeing c.roll_back.new.edit.freeing c.put.new.freeing
    c.in_ok-edit.ensures.ok c.in_ok-roll_back.ensures.lost c.put.ensures.to c.put.ensures.freeing

pub returns-clause-can : goal.returns-clause-can
returns-clause-can c = none (goal.at.returns-clause-can c).In_default-refusal_of

pub returns-clause-refused : goal.returns-clause-refused
returns-clause-refused c = unrefused _ _ (none (goal.at.returns-clause-refused c).In_default-refusal_of)
