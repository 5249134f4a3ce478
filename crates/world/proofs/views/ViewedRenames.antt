-- A rename of a file system leaves each snapshot, perhaps in one of another name.
use Rattle.std.proofs.Common.{◌≡◌, Bool, true, false, not, ◌||◌, None, refl, sym, ap, ◌∙◌, true≢false, inl, inr}
use Rattle.std.specs.List.{list_any}
use Rattle.std.specs.FinMap.{entries, keys, contains_key}
use Rattle.base.specs.declared.refusal.Refusal.TheVariants.{NoDataset, BadName, Exists, NoParent, IsRoot}
use Rattle.base.specs.Names.{root_name, same_name, is_descendant}
use Rattle.model.specs.World.{World, FileSystem}
use Rattle.model.specs.State.{State, Views}
use Rattle.model.specs.Hierarchy.{has_parent, is_in_family}
use Rattle.model.specs.Refusals.{refusal_of, state_asked}
use Rattle.model.specs.Rule.{first_of}
use Rattle.model.specs.requests.Change.{limit_row}
use Rattle.model.specs.requests.Rename.{with_renamed, has_long_renamed, renaming_row, rename_rule}
use Rattle.world.specs.Shapes.{Name, name_order}
use Rattle.world.proofs.lists.Finding.{any_none, or_none}
use Rattle.world.proofs.lists.Listed.{map_in}
use Rattle.world.proofs.lists.Maps.{entry_of}
use Rattle.world.proofs.lists.Names.{exchanged}
use Rattle.world.proofs.lineage.Bridge.{in_entries}
use Rattle.world.proofs.changes.Renames.{CanRename, twice, renamed_at, renamed_back}
use Rattle.world.proofs.views.Viewed.{AreOnce, AreClosed, IsSafe}
use Rattle.world.proofs.views.ViewedRequests.{row_false, left_none}

not_false : (b : Bool) → not b ≡ false → b ≡ true
not_false true e = refl
not_false false e = absurd (true≢false e)

-- what a row that refuses nothing says
pub can_rename : (w : World) (from to : Name) → first_of (renaming_row w from to) ≡ None → CanRename w.file_systems from to
can_rename w from to none = record {
  there = not_false (contains_key w.file_systems from) (row_false (renaming_row w from to) none (not (contains_key w.file_systems from), NoDataset) (inl refl));
  not_root = row_false (renaming_row w from to) none (same_name from root_name, IsRoot) (inr (inl refl));
  free = λ n f at. any_none (is_in_family to) (keys w.file_systems)
      (row_false (renaming_row w from to) none (list_any (is_in_family to) (keys w.file_systems), Exists) (inr (inr (inl refl)))) n
      (map_in (λ (e : Name × FileSystem). e.0) (entries w.file_systems) (n, f) (in_entries (entries w.file_systems) n f (entry_of name_order w.file_systems n f at)));
  parent = not_false (has_parent w.file_systems to) (row_false (renaming_row w from to) none (not (has_parent w.file_systems to), NoParent) (inr (inr (inr (inl refl)))));
  not_below = (or_none (is_descendant from to) (has_long_renamed w from to)
      (row_false (renaming_row w from to) none (is_descendant from to || has_long_renamed w from to, BadName) (inr (inr (inr (inr (inl refl))))))).0;
}

pub renamed_safe : (views : Views) (w : World) (from to : Name) → CanRename w.file_systems from to → AreOnce w → AreClosed w → IsSafe views w (with_renamed w from to)
renamed_safe views w from to can once closed =
    let at = renamed_at w.file_systems from to can in
    let same = twice w.file_systems from to can in
    record {
      once = λ n m t u (x, is, i) (y, is', j) e.
          let one = once (exchanged from to n) (exchanged from to m) t u (x, sym (at n) ∙ is, i) (y, sym (at m) ∙ is', j) e in
          (sym (same n) ∙ ap (exchanged from to) one.0 ∙ same m, one.1);
      closed = λ n t (x, is, i). closed (exchanged from to n) t (x, sym (at n) ∙ is, i);
      stands = λ n t (x, is, i) seen. (exchanged from to n, t, (x, renamed_back w.file_systems from to can n ∙ is, i), refl);
    }

pub rename_can : (s : State) (from to : Name) → refusal_of s (rename_rule from to) ≡ None → CanRename s.now.file_systems from to
unfolding refusal_of
rename_can s from to none = can_rename s.now from to (left_none (renaming_row s.now from to) (limit_row (state_asked s (rename_rule from to))) none)

pub rename_asked : (s : State) (from to : Name) → AreOnce s.now → AreClosed s.now → refusal_of s (rename_rule from to) ≡ None → IsSafe s.views s.now (with_renamed s.now from to)
rename_asked s from to once closed none = renamed_safe s.views s.now from to (rename_can s from to none) once closed
