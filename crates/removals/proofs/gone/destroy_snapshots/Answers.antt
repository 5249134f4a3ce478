use Rattle.std.proofs.Common.{◌≡◌, ◌⊎◌, ◌&&◌, Option, Result, Ok, Err, refl, sym, ap, subst, ◌∙◌, inl, map}
use Rattle.std.specs.Prelude.{IfSome}
use Rattle.base.specs.declared.refusal.Refusal.{Refusal}
use Rattle.base.specs.declared.refusal.Refusal.TheVariants.{NoMemory}
use Rattle.model.specs.Outcome.{is_needed}
use Rattle.model.specs.World.{Snap, id_of}
use Rattle.model.specs.requests.Destroy.{snaps_named}
use Rattle.world.specs.Shapes.{Name}
use Rattle.world.specs.Tables.{world_of}
use Rattle.removals.specs.Found.{AreThere, removed_or_deferred}
use Rattle.removals.proofs.Destroyed.{none_cloned}
use Rattle.removals.proofs.Losses.{lost_put}
use Rattle.removals.proofs.gone.destroy_snapshots.Goals as goal

pub returns-in-Some-clause-only : goal.returns-in-Some-clause-only
returns-in-Some-clause-only c =
    inl (sym (c.refusal_of.ensures c.args.names.now c.args.recursive (ap (map (λ (p : Name × Snap). id_of p.1)) c.deref.ensures.value ∙ c.in_ok-all.ensures.ids ∙ ap (λ l. snaps_named (world_of c.args.table.now) l c.args.recursive) c.as_slice.ensures)) ∙ c.in-Some.is)

pub returns-in-Some-clause-refused : goal.returns-in-Some-clause-refused
returns-in-Some-clause-refused c =
    subst (λ (x : Option Refusal). IfSome x (λ e. (◌≡◌ {A = Result (Unit {0}) Refusal} (Err c.in-Some.refusal) (Err e)) ⊎ (◌≡◌ {A = Result (Unit {0}) Refusal} (Err c.in-Some.refusal) (Err NoMemory))))
    (sym (sym (c.refusal_of.ensures c.args.names.now c.args.recursive (ap (map (λ (p : Name × Snap). id_of p.1)) c.deref.ensures.value ∙ c.in_ok-all.ensures.ids ∙ ap (λ l. snaps_named (world_of c.args.table.now) l c.args.recursive) c.as_slice.ensures)) ∙ c.in-Some.is))
    (inl refl)

pub remove_or_defer-requires-clause-no_clone : goal.remove_or_defer-requires-clause-no_clone
remove_or_defer-requires-clause-no_clone c =
    let ids = ap (map (λ (p : Name × Snap). id_of p.1)) c.deref-2.ensures.value ∙ c.in_ok-all.ensures.ids ∙ ap (λ l. snaps_named (world_of c.args.table.now) l c.args.recursive) c.as_slice.ensures in
    none_cloned c.args.table.now c.facts.ensures.good c.args.views.now.opened c.args.names.now c.args.recursive c.args.defer c.deref-2.result.now ids
    (subst (AreThere c.args.table.now) (sym c.deref-2.ensures.value) c.in_ok-all.ensures.there)
    (sym (c.refusal_of.ensures c.args.names.now c.args.recursive (ap (map (λ (p : Name × Snap). id_of p.1)) c.deref.ensures.value ∙ c.in_ok-all.ensures.ids ∙ ap (λ l. snaps_named (world_of c.args.table.now) l c.args.recursive) c.as_slice.ensures)) ∙ c.in_default.is)

pub returns-clause-ok : goal.returns-clause-ok
returns-clause-ok c =
    c.put.ensures.to
    ∙ c.in_ok-remove_or_defer.ensures.ok
    ∙ ap (removed_or_deferred c.args.table.now (λ u. c.args.defer && is_needed (world_of c.args.table.now) c.args.views.now.opened u))
    (ap (map (λ (p : Name × Snap). id_of p.1)) c.deref-2.ensures.value ∙ c.in_ok-all.ensures.ids ∙ ap (λ l. snaps_named (world_of c.args.table.now) l c.args.recursive) c.as_slice.ensures)

pub returns-clause-lost : goal.returns-clause-lost
returns-clause-lost c =
    lost_put c.args.table.now c.in_ok-edit.edit.to c.remove_or_defer.new.self.to c.put.new.table c.args.freeing.now c.in_ok-edit.edit.freeing c.remove_or_defer.new.self.freeing c.put.new.freeing
    c.in_ok-edit.ensures.ok c.in_ok-remove_or_defer.ensures.lost c.put.ensures.to c.put.ensures.freeing

pub returns-clause-can : goal.returns-clause-can
returns-clause-can c =
    sym (c.refusal_of.ensures c.args.names.now c.args.recursive (ap (map (λ (p : Name × Snap). id_of p.1)) c.deref.ensures.value ∙ c.in_ok-all.ensures.ids ∙ ap (λ l. snaps_named (world_of c.args.table.now) l c.args.recursive) c.as_slice.ensures)) ∙ c.in_default.is

pub returns-clause-refused : goal.returns-clause-refused
returns-clause-refused c =
    subst (λ (x : Option Refusal). IfSome x (λ e. (◌≡◌ {A = Result (Unit {0}) Refusal} (Ok (tt {0})) (Err e)) ⊎ (◌≡◌ {A = Result (Unit {0}) Refusal} (Ok (tt {0})) (Err NoMemory))))
    (sym (sym (c.refusal_of.ensures c.args.names.now c.args.recursive (ap (map (λ (p : Name × Snap). id_of p.1)) c.deref.ensures.value ∙ c.in_ok-all.ensures.ids ∙ ap (λ l. snaps_named (world_of c.args.table.now) l c.args.recursive) c.as_slice.ensures)) ∙ c.in_default.is))
    tt
