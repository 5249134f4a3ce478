-- The lines of an earlier world without that of a file system that a later one hasn't.
use Rattle.std.proofs.Common.{◌≡◌, ℕ, ◌+◌, ◌-◌, ◌≤◌, ◌<◌, ◌^◌, List, [], length, get_or, Option, Some, None, Err, true, false, true≢false, is_some, refl, sym, ap, subst, ◌∙◌, ⊎_elim, arith}
use Rattle.std.specs.Prelude.{remove, IsSome}
use Rattle.std.specs.List.{All}
use Rattle.std.specs.FinMap.{get, entries, keys}
use Rattle.std.proofs.lemmas.List.{get_or_default}
use Rattle.base.specs.Names.{root_name, parent_of}
use Rattle.model.specs.World.{World, FileSystem}
use Rattle.model.specs.Hierarchy.{IsHierarchy}
use Rattle.model.specs.Sums.{used_by_children}
use Rattle.world.proofs.lists.Maps.{no_value, same_value}
use Rattle.world.proofs.lineage.Put.{parent_there}
use Rattle.limits.specs.Levels.{slashes, IsUnder, charge_of}
use Rattle.limits.proofs.Names.{level_up, under_itself, under_child}
use Rattle.limits.proofs.Levels.{no_charge}
use Rattle.limits.proofs.Depth.{children_walk}
use Rattle.datasets.specs.Places.{IsAt, IsGapFor}
use Rattle.limits.specs.declared.line.Line.{Line}
use Rattle.limits.specs.Lines.{used_in, charge_in}
use Rattle.limits.specs.Ledgers.{ledger_of}
use Rattle.limits.specs.Changes.{IsModest, IsRecounted, CanWalkUp, IsBehind, line_under, lines_under}
use Rattle.limits.proofs.Bounds.{charge_low}
use Rattle.limits.proofs.Changes.{under_parent, line_at}
use Rattle.limits.proofs.Differing.{children_under, charge_under, other_line, was_long, was_at, was_low, behind, can_begin}
use Rattle.limits.proofs.Order.{no_entry, entry_at}
use Rattle.limits.proofs.Places.{not_there}
use Rattle.limits.proofs.Renamed.{at_within, at_key, long_stay, lines_fewer, gone_line, long_fewer, gone_within}
use Rattle.limits.proofs.SameLines.{none_changed}

module _ (old new : World) (good : IsHierarchy old.file_systems) (name : List ℕ) (ch : IsRecounted old new name) (lines : List Line) (own : lines ≡ ledger_of old)
    (i : ℕ) (gap : IsGapFor (entries new.file_systems) name i) where
  gone : get new.file_systems name ≡ None
  gone = not_there new.file_systems name (Err i) gap

  -- where there are as many lines, it wasn't there
  pub stays : length lines ≡ length (keys new.file_systems) → lines ≡ ledger_of new
  stays same = by (get old.file_systems name) refl
    where
      by : (x : Option FileSystem) → get old.file_systems name ≡ x → lines ≡ ledger_of new
      by None e = own ∙ sym (none_changed old new good name ch e gone)
      by (Some f) e = let l = long_fewer old new name ch lines own i gap (ap is_some e) in absurd (omega (arith, l, same))

  module _ (other : ¬ (length lines ≡ length (keys new.file_systems))) where
    -- else it was
    was : IsSome (get old.file_systems name)
    was = by (get old.file_systems name) refl
      where
        by : (x : Option FileSystem) → get old.file_systems name ≡ x → IsSome (get old.file_systems name)
        by (Some f) e = ap is_some e
        by None e = absurd (other (long_stay old new name ch lines own (ap is_some gone ∙ sym (ap is_some e))))

    pub within : i < length lines
    within = gone_within old new name ch lines own i gap was

    pub left_are : remove lines i ≡ lines_under old (keys new.file_systems)
    left_are = lines_fewer old new name ch lines own i gap was

    -- a place of the later names is one among what is left
    pub long_left : (q : List ℕ) (p : ℕ) → IsAt (entries new.file_systems) q p → p + 1 < length lines
    long_left q p at = let l = long_fewer old new name ch lines own i gap was in let w = at_within new.file_systems q p at in omega (arith, l, w)

    no_root : name ≡ root_name → ⊥
    no_root is = some_no_root (sym ch.hierarchy.root ∙ ap is_some (ap (get new.file_systems) (sym is) ∙ gone))
      where
        some_no_root : true ≡ false → ⊥
        some_no_root e = true≢false e

    parent_old : (q : List ℕ) × (parent_of name ≡ Some q) × IsSome (get old.file_systems q)
    parent_old = ⊎_elim
        (λ is. absurd (no_root is))
        (λ h. let p = parent_there old.file_systems name h in (p.parent, p.named, p.there))
        (good.parents name was)

    -- its parent is there
    pub has_parent : parent_of name ≡ None → ⊥
    has_parent none = let p = parent_old in no_value p.0 (sym none ∙ p.1)

    not_itself : (q : List ℕ) → parent_of name ≡ Some q → ¬ (q ≡ name)
    not_itself q e is = let l = level_up name q e in let s = ap slashes is in absurd (omega (arith, l, s))

    pub parent_left : (q : List ℕ) → parent_of name ≡ Some q → get new.file_systems q ≡ None → ⊥
    parent_left q e none =
        let p = parent_old in
        let same : p.0 ≡ q = same_value p.0 q (sym p.1 ∙ e) in
        true≢false (sym (ch.names q (not_itself q e) ∙ subst (λ x. IsSome (get old.file_systems x)) same p.2) ∙ ap is_some none)

    module _ (q : List ℕ) (e : parent_of name ≡ Some q) (p : ℕ) (at : IsAt (entries new.file_systems) q p) (rest : List Line) (are : rest ≡ remove lines i)
        (line : Line) (is : line ≡ get_or lines i line) (above : Line) (is_above : above ≡ get_or rest p above) where
      p_within : p < length (keys new.file_systems)
      p_within = at_within new.file_systems q p at

      p_key : get_or (keys new.file_systems) p [] ≡ q
      p_key = at_key new.file_systems q p at

      rest_are : rest ≡ lines_under old (keys new.file_systems)
      rest_are = are ∙ left_are

      pub rest_long : p < length rest
      rest_long = let l = was_long old new good name ch rest rest_are in let w = p_within in omega (arith, l, w)

      above_was : above ≡ line_under old (get_or (keys new.file_systems) p [])
      above_was = is_above ∙ was_at old new good name ch rest rest_are p above p_within

      charge_is : charge_in line ≡ charge_of old name
      charge_is = ap charge_in (is ∙ gone_line old new name ch lines own i gap was line) ∙ charge_under old good name

      above_children : above.children ≡ used_by_children old (get_or (keys new.file_systems) p [])
      above_children = ap (λ (l : Line). l.children) above_was ∙ children_under old good (get_or (keys new.file_systems) p [])

      e_key : parent_of name ≡ Some (get_or (keys new.file_systems) p [])
      e_key = e ∙ ap Some (sym p_key)

      -- what it was charged is among what its parent's children used
      pub charged_low : charge_in line ≤ above.children
      charged_low =
          let a = charge_is in
          let b = above_children in
          let l = charge_low old good name (get_or (keys new.file_systems) p []) was e_key in
          omega (arith, a, b, l)

      module _ (amount : ℕ) (told : amount ≡ charge_in line) where
        abbrev written : Line
        written = record { account = above.account; children = above.children - amount }

        up : IsUnder (get_or (keys new.file_systems) p []) name
        up = under_child (get_or (keys new.file_systems) p []) name name e_key (under_itself name)

        only : (j : ℕ) → j < length (keys new.file_systems) → IsUnder (get_or (keys new.file_systems) j []) name → IsUnder (get_or (keys new.file_systems) j []) (get_or (keys new.file_systems) p [])
        only j lt u = ⊎_elim
            (λ here. absurd (no_value (get_or (entries new.file_systems) j no_entry).1 (sym gone ∙ ap (get new.file_systems) (sym here) ∙ entry_at new.file_systems j lt)))
            (λ k. k)
            (under_parent (get_or (keys new.file_systems) j []) name (get_or (keys new.file_systems) p []) e_key u)

        pub rest_little : All IsModest (ledger_of old) → All (λ l. used_in l ≤ 2 ^ 54) rest
        rest_little modest j d lt =
            let n = was_long old new good name ch rest rest_are in
            let l = was_low old new good name ch rest rest_are p p_within up only modest j d (omega (arith, n, lt)) in
            omega (arith, l)

        children_are : used_by_children new (get_or (keys new.file_systems) p []) ≡ above.children - amount
        children_are =
            let a = above_children in
            let b = children_walk old new good ch.hierarchy name ch.others (get_or (keys new.file_systems) p []) name e_key (under_itself name) in
            let z = no_charge new ch.hierarchy name gone in
            let k = charge_is in
            let l = charged_low in
            omega (arith, a, b, z, k, l, told)

        written_is : record { account = above.account; children = above.children - amount } ≡ get_or (ledger_of new) p (record { account = above.account; children = above.children - amount })
        written_is =
            (λ j. record { account = (above_was j).account; children = above.children - amount })
            ∙ sym (line_at new p p_within (record { account = above.account; children = above.children - amount })
            ∙ other_line old new good name ch (get_or (keys new.file_systems) p []) (get_or (entries new.file_systems) p no_entry).1
            (λ here. not_itself (get_or (keys new.file_systems) p []) e_key here) (entry_at new.file_systems p p_within) (above.children - amount) children_are)

        -- the rest is behind the later world
        pub leave_behind : IsBehind new (keys new.file_systems) rest p (record { account = above.account; children = above.children - amount })
        leave_behind = behind old new good name ch rest rest_are p p_within up only (record { account = above.account; children = above.children - amount }) written_is

        -- and can be brought up to date
        pub can_leave : All IsModest (ledger_of old) → IsModest above → CanWalkUp (keys new.file_systems) rest p (record { account = above.account; children = above.children - amount })
        can_leave modest m = can_begin old new good name ch rest rest_are p p_within up only modest (record { account = above.account; children = above.children - amount })
            (record { here = m.here; reserved = m.reserved })
            (let a = ap used_in before in omega (arith, a))
            (let a = ap charge_in before in omega (arith, a))
          where
            before : above ≡ get_or rest p (record { account = above.account; children = above.children - amount })
            before = is_above ∙ get_or_default rest p above (record { account = above.account; children = above.children - amount }) rest_long
