use Rattle.std.proofs.Common.{◌≡◌, true, false, is_some, map, refl, ap, sym, subst, ◌∙◌, true≢false}
use Rattle.std.specs.FinMap as finmap
use Rattle.std.specs.FinMap.{contains_key, from_sorted}
use Rattle.base.specs.Names.{name_cmp}
use Rattle.base.specs.declared.refusal.Refusal.TheVariants.{NoDataset}
use Rattle.snapshots.specs.Marks.{Marks, entry_in}
use Rattle.snapshots.specs.Places.{IsAt, IsGapFor}
use Rattle.snapshots.specs.SoundMarks.{AreSound}
use Rattle.snapshots.proofs.Orders.{by_name}
use Rattle.snapshots.proofs.Outcomes.{no_error}
use Rattle.snapshots.proofs.Places.{get_at, get_gap}
use Rattle.snapshots.proofs.Rows.{less_sound, less_is}
use Rattle.snapshots.proofs.bookmarks.list.Bookmarks.remove.Goals as goal

-- it wasn't there
pub returns-in_default-clause-absent : goal.returns-in_default-clause-absent
returns-in_default-clause-absent c =
    let rows = map entry_in c.self.inside.rows.items in
    let name = c.args.name.now in
    let gap : IsGapFor name_cmp rows name c.in_default.field-0 = rw (← c.deref.ensures.value) c.in_default.ensures.absent in
    let absent : contains_key c.args.self.now name ≡ false = ap (λ (m : Marks). contains_key m name) (sym c.self.view_is) ∙ ap is_some (get_gap by_name rows c.self.invariant.sorted name c.in_default.field-0 gap) in
    ((λ _. absent), (λ _. refl))

-- it is gone from its place
pub invariant_of-self : goal.invariant_of-self
invariant_of-self c =
    subst (λ l. AreSound (map entry_in l)) (sym c.remove-gone.ensures.items) (less_sound c.self.inside.rows.items c.self.invariant c.args.name.now c.in-Ok.place)

pub returns-clause-ok : goal.returns-clause-ok
returns-clause-ok c =
    let rows = c.self.inside.rows.items in
    let name = c.args.name.now in
    let at : IsAt (map entry_in rows) name c.in-Ok.place = rw (← c.deref.ensures.value) c.in-Ok.ensures.found in
    ap (λ l. from_sorted {R = name_cmp} (map entry_in l)) c.remove-gone.ensures.items
    ∙ less_is rows c.self.invariant name c.in-Ok.place at c.remove-gone.result
    ∙ ap (λ (m : Marks). finmap.remove m name) c.self.view_is

pub returns-clause-absent : goal.returns-clause-absent
returns-clause-absent c =
    let rows = map entry_in c.self.inside.rows.items in
    let name = c.args.name.now in
    let at : IsAt rows name c.in-Ok.place = rw (← c.deref.ensures.value) c.in-Ok.ensures.found in
    let there : contains_key c.args.self.now name ≡ true =
    ap (λ (m : Marks). contains_key m name) (sym c.self.view_is) ∙ ap is_some (get_at by_name rows c.self.invariant.sorted name c.in-Ok.place at (entry_in c.remove-gone.result)) in
    ((λ e. absurd (no_error tt NoDataset e)), (λ h. absurd (true≢false (sym there ∙ h))))
