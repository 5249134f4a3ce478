use Rattle.std.proofs.Common.{◌≡◌, map, ap, sym, subst, ◌∙◌, rules}
use Rattle.std.proofs.lemmas.Fn.{filter_same}
use Rattle.std.specs.Prelude.{nat_le}
use Rattle.std.specs.FinMap.{from_sorted}
use Rattle.base.specs.Names.{name_cmp}
use Rattle.snapshots.specs.Marks.{Entry, Marks, entry_in, without_newer}
use Rattle.snapshots.specs.SoundMarks.{AreSound}
use Rattle.snapshots.proofs.Filters.{map_filter, up_to, left_sound, left_is}
use Rattle.snapshots.proofs.Ordering.{Owned}
use Rattle.snapshots.proofs.bookmarks.list.Bookmarks.remove_after.Goals as goal

-- those of this group and earlier ones are left
pub invariant_of-self : goal.invariant_of-self
invariant_of-self c =
    let group = c.args.group.0 in
    let old = c.self.inside.rows.items in
    let kept = filter_same _ (λ (a : Owned). nat_le (entry_in a).1.group group) _ (λ v b f called. search rules) _ _ c.retain.ensures.filtered in
    let items : map entry_in c.retain.new.self.items ≡ up_to group (map entry_in old) = ap (map entry_in) kept ∙ map_filter entry_in (λ (e : Entry). nat_le e.1.group group) old in
    subst AreSound (sym items) (left_sound (map entry_in old) c.self.invariant group)

pub returns : goal.returns
returns c =
    let group = c.args.group.0 in
    let old = c.self.inside.rows.items in
    let kept = filter_same _ (λ (a : Owned). nat_le (entry_in a).1.group group) _ (λ v b f called. search rules) _ _ c.retain.ensures.filtered in
    let items : map entry_in c.retain.new.self.items ≡ up_to group (map entry_in old) = ap (map entry_in) kept ∙ map_filter entry_in (λ (e : Entry). nat_le e.1.group group) old in
    ap (from_sorted {R = name_cmp}) items ∙ left_is (map entry_in old) c.self.invariant group ∙ ap (λ (m : Marks). without_newer m group) c.self.view_is
