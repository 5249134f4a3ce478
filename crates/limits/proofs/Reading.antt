-- The file system of a table at one name is read anew into the lines of an earlier world.
use Rattle.std.proofs.Common.{◌≡◌, ℕ, ◌≤◌, ◌<◌, ◌^◌, List, [], length, get_or, Option, Some, None, is_some, refl, sym, ap, subst, ◌∙◌, arith}
use Rattle.std.specs.Prelude.{insert, unwrap_or}
use Rattle.std.specs.List.{All}
use Rattle.std.specs.FinMap.{get, entries, keys}
use Rattle.std.proofs.lemmas.List.{get_or_default}
use Rattle.model.specs.World.{World, FileSystem}
use Rattle.model.specs.Hierarchy.{IsHierarchy}
use Rattle.model.specs.Sums.{used_by_children}
use Rattle.world.specs.Tables.{Datasets, world_of}
use Rattle.world.proofs.lists.Maps.{same_value}
use Rattle.limits.specs.Levels.{IsUnder}
use Rattle.limits.proofs.Names.{under_itself}
use Rattle.limits.proofs.Depth.{own_children}
use Rattle.datasets.specs.Places.{IsAt}
use Rattle.datasets.specs.Rows.{Row}
use Rattle.limits.specs.declared.account.Account.{Account}
use Rattle.limits.specs.declared.line.Line.{Line}
use Rattle.limits.specs.Lines.{used_in, charge_in}
use Rattle.limits.specs.Ledgers.{account_in, ledger_of}
use Rattle.limits.specs.Rows.{IsRowOf}
use Rattle.limits.specs.Changes.{IsModest, IsRecounted, CanWalkUp, IsBehind, bare_line, lines_under}
use Rattle.limits.proofs.Changes.{line_at}
use Rattle.limits.proofs.Differing.{children_under, was_long, was_at, was_low, behind, can_begin}
use Rattle.limits.proofs.Order.{no_entry, entry_at}
use Rattle.limits.proofs.Renamed.{at_within, at_key, lines_stay, long_stay, lines_more, long_more}
use Rattle.limits.proofs.Ways.{few_names}

module _ (old : World) (t : Datasets) (name : List ℕ) (ch : IsRecounted old (world_of t) name) (lines : List Line) (own : lines ≡ ledger_of old)
    (i : ℕ) (at : IsAt (entries t.file_systems) name i) where
  there : is_some (get t.file_systems name) ≡ is_some (Some i)
  there = ap is_some (ap (get t.file_systems) (sym (at_key t.file_systems name i at)) ∙ entry_at t.file_systems i (at_within t.file_systems name i at))

  -- where there are fewer lines, it is new
  pub is_new : length lines < length (keys t.file_systems) → get old.file_systems name ≡ None
  is_new less = by (get old.file_systems name) refl
    where
      by : (x : Option FileSystem) → get old.file_systems name ≡ x → get old.file_systems name ≡ None
      by None e = e
      by (Some f) e = let l = long_stay old (world_of t) name ch lines own (there ∙ sym (ap is_some e)) in absurd (omega (arith, l, less))

  pub put_in : length lines < length (keys t.file_systems) → insert lines i bare_line ≡ lines_under old (keys t.file_systems)
  put_in less = lines_more old (world_of t) name ch lines own i at (is_new less)

  pub put_fits : length lines < length (keys t.file_systems) → (i ≤ length lines) × (length lines < 1024)
  put_fits less =
      let l = long_more old (world_of t) name ch lines own i at (is_new less) in
      let w = at_within t.file_systems name i at in
      let f = few_names (world_of t) ch.hierarchy in
      (omega (arith, l, w), omega (arith, l, f))

  -- and else it was there
  pub stays : (length lines < length (keys t.file_systems) → ⊥) → lines ≡ lines_under old (keys t.file_systems)
  stays full = by (get old.file_systems name) refl
    where
      by : (x : Option FileSystem) → get old.file_systems name ≡ x → lines ≡ lines_under old (keys t.file_systems)
      by (Some f) e = lines_stay old (world_of t) name ch lines own (there ∙ sym (ap is_some e))
      by None e = let l = long_more old (world_of t) name ch lines own i at e in absurd (full (omega (arith, l)))

module _ (old : World) (good : IsHierarchy old.file_systems) (t : Datasets) (name : List ℕ) (ch : IsRecounted old (world_of t) name) (lines : List Line)
    (was : lines ≡ lines_under old (keys t.file_systems)) (i : ℕ) (at : IsAt (entries t.file_systems) name i) where
  within : i < length (keys t.file_systems)
  within = at_within t.file_systems name i at

  key_is : get_or (keys t.file_systems) i [] ≡ name
  key_is = at_key t.file_systems name i at

  pub in_lines : i < length lines
  in_lines = let l = was_long old (world_of t) good name ch lines was in let w = within in omega (arith, l, w)

  pub was_little : All IsModest (ledger_of old) → All (λ l. used_in l ≤ 2 ^ 54) lines
  was_little modest j d lt =
      let n = was_long old (world_of t) good name ch lines was in
      let l = was_low old (world_of t) good name ch lines was i within (subst (λ n. IsUnder n name) (sym key_is) (under_itself name))
      (λ j lt u. subst (IsUnder (get_or (keys t.file_systems) j [])) (sym key_is) u) modest j d (omega (arith, n, lt)) in
      omega (arith, l)

  module _ (r : Row) (of : IsRowOf t r) (named : r.name ≡ name) (a : Account) (is : a ≡ account_in (world_of t) r.name r.system) (l : Line) (at_place : l ≡ get_or lines i l) where
    abbrev line : Line
    line = record { account = a; children = l.children }

    abbrev system : FileSystem
    system = (get_or (entries t.file_systems) i no_entry).1

    system_is : system ≡ r.system
    system_is = same_value system r.system (sym (entry_at t.file_systems i within) ∙ ap (get t.file_systems) (key_is ∙ sym named) ∙ of.there)

    children_are : l.children ≡ used_by_children (world_of t) name
    children_are =
        ap (λ (x : Line). x.children) (at_place ∙ was_at old (world_of t) good name ch lines was i l within)
        ∙ children_under old good (get_or (keys t.file_systems) i [])
        ∙ ap (used_by_children old) key_is
        ∙ sym (own_children old (world_of t) good ch.hierarchy name ch.others)

    line_is : record { account = a; children = l.children } ≡ get_or (ledger_of (world_of t)) i (record { account = a; children = l.children })
    line_is =
        (λ j. record {
          account = (is ∙ (λ k. account_in (world_of t) ((named ∙ sym key_is) k) (sym system_is k))) j;
          children = (children_are ∙ ap (used_by_children (world_of t)) (sym key_is)) j;
        })
        ∙ sym (line_at (world_of t) i within (record { account = a; children = l.children }))

    -- the lines are behind the table's world
    pub read_behind : IsBehind (world_of t) (keys t.file_systems) lines i (record { account = a; children = l.children })
    read_behind = behind old (world_of t) good name ch lines was i within (subst (λ n. IsUnder n name) (sym key_is) (under_itself name))
        (λ j lt u. subst (IsUnder (get_or (keys t.file_systems) j [])) (sym key_is) u) (record { account = a; children = l.children }) line_is

    -- and can be brought up to date
    pub can_read : All IsModest (ledger_of old) → a.here < 2 ^ 42 → unwrap_or a.limits.reservation 0 ≤ 2 ^ 40 → CanWalkUp (keys t.file_systems) lines i (record { account = a; children = l.children })
    can_read modest small kept = can_begin old (world_of t) good name ch lines was i within (subst (λ n. IsUnder n name) (sym key_is) (under_itself name))
        (λ j lt u. subst (IsUnder (get_or (keys t.file_systems) j [])) (sym key_is) u) modest (record { account = a; children = l.children })
        (record { here = small; reserved = kept })
        (let e = ap used_in before in omega (arith, e, small))
        (let e = ap charge_in before in omega (arith, e, small, kept))
      where
        before : l ≡ get_or lines i (record { account = a; children = l.children })
        before = at_place ∙ get_or_default lines i l (record { account = a; children = l.children }) in_lines
