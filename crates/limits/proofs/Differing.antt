-- Lines of an earlier world beside a world that differs from it at one name.
use Rattle.std.proofs.Common.{◌≡◌, ℕ, zero, ◌+◌, ◌-◌, ◌≤◌, ◌<◌, ◌^◌, List, [], ◌∷◌, length, get_or, map, Option, Some, None, is_some, refl, sym, ap, subst, ◌∙◌, inl, inr, ⊎_elim, arith}
use Rattle.std.specs.Prelude.{max}
use Rattle.std.specs.List.{All}
use Rattle.std.specs.Option.{option_map_or}
use Rattle.std.specs.FinMap.{get, entries, keys}
use Rattle.std.proofs.lemmas.List.{length-map, get_or-map}
use Rattle.base.specs.Names.{parent_of}
use Rattle.model.specs.World.{World, FileSystem}
use Rattle.model.specs.Hierarchy.{IsHierarchy}
use Rattle.model.specs.Sums.{used_of, used_by_children}
use Rattle.world.specs.Shapes.{name_order}
use Rattle.world.specs.Usage.{IsEntry}
use Rattle.world.proofs.lists.Maps.{at_entry}
use Rattle.limits.specs.Levels.{slashes, IsUnder, charge_of}
use Rattle.limits.proofs.Names.{level_up, above_is, in_keys, under_or_not}
use Rattle.limits.proofs.Levels.{reserved_is, no_charge, nothing_used, used-split}
use Rattle.limits.proofs.Depth.{used_away, children_walk}
use Rattle.limits.specs.declared.line.Line.{Line}
use Rattle.limits.specs.Lines.{used_in, charge_in}
use Rattle.limits.specs.Ledgers.{line_in, ledger_of}
use Rattle.limits.specs.Changes.{IsModest, IsRecounted, CanWalkUp, IsBehind, bare_line, line_under, recharged}
use Rattle.limits.proofs.Bounds.{charge_low}
use Rattle.limits.proofs.Changes.{under_trans, line_at, used_at}
use Rattle.limits.proofs.Order.{no_entry, entry_at, place_in}
use Rattle.limits.proofs.Ways.{little}

-- a ledger has the lines under its names
pub ledger_named : (w : World) → ledger_of w ≡ map (line_under w) (keys w.file_systems)
unfolding ledger_of
ledger_named w = by_entries (entries w.file_systems) (at_entry name_order w.file_systems)
  where
    by_entries : (es : List (List ℕ × FileSystem)) → ((name : List ℕ) (f : FileSystem) → IsEntry es name f → get w.file_systems name ≡ Some f)
        → map (line_in w) es ≡ map (line_under w) (map (λ (e : List ℕ × FileSystem). e.0) es)
    by_entries [] all = refl
    by_entries (e ∷ es) all = λ i. ap (λ x. option_map_or (λ f. line_in w (e.0, f)) x bare_line) (sym (all e.0 e.1 (inl (refl, refl)))) i ∷ by_entries es (λ name f k. all name f (inr k)) i

-- ---- what a world has under a name

module _ (w : World) (good : IsHierarchy w.file_systems) (x : List ℕ) where
  pub children_under : (line_under w x).children ≡ used_by_children w x
  children_under = by (get w.file_systems x) refl
    where
      by : (o : Option FileSystem) → get w.file_systems x ≡ o → (option_map_or (λ f. line_in w (x, f)) o bare_line).children ≡ used_by_children w x
      by (Some f) e = refl
      by None e = let u = nothing_used w good x e in let s = used-split w good x in omega (arith, u, s)

  pub used_under : used_in (line_under w x) ≡ used_of w x
  used_under = by (get w.file_systems x) refl
    where
      by : (o : Option FileSystem) → get w.file_systems x ≡ o → used_in (option_map_or (λ f. line_in w (x, f)) o bare_line) ≡ used_of w x
      by (Some f) e = sym (used-split w good x)
      by None e = sym (nothing_used w good x e)

  pub charge_under : charge_in (line_under w x) ≡ charge_of w x
  charge_under = by (get w.file_systems x) refl
    where
      by : (o : Option FileSystem) → get w.file_systems x ≡ o → charge_in (option_map_or (λ f. line_in w (x, f)) o bare_line) ≡ charge_of w x
      by (Some f) e = λ i. max (sym (used-split w good x) i) (sym (reserved_is w x f e) i)
      by None e = sym (no_charge w good x e)

-- where own accounts are small, each uses little
pub old_low : (w : World) (good : IsHierarchy w.file_systems) → All IsModest (ledger_of w) → (x : List ℕ) → used_of w x ≤ 2 ^ 53
old_low w good modest x = by (get w.file_systems x) refl
  where
    by : (o : Option FileSystem) → get w.file_systems x ≡ o → used_of w x ≤ 2 ^ 53
    by None e = let z = nothing_used w good x e in omega (arith, z)
    by (Some f) e =
        let p = place_in (keys w.file_systems) x (in_keys w.file_systems x (ap is_some e)) in
        let l = little w good modest p.0 bare_line p.1 in
        let u = used_at w p.0 p.1 bare_line in
        let n = ap (used_of w) p.2 in
        omega (arith, l, u, n)

-- ---- what two worlds have that differ at one name

module _ (old new : World) (good : IsHierarchy old.file_systems) (name : List ℕ) (ch : IsRecounted old new name) where
  abbrev key : ℕ → List ℕ
  key i = get_or (keys new.file_systems) i []

  -- the parent of a name on the way is another
  other_up : (x c : List ℕ) → parent_of c ≡ Some x → IsUnder c name → ¬ (x ≡ name)
  other_up x c e u is =
      let l = level_up c x e in
      let a = above_is u.0 name c u.1 in
      let s = ap slashes is in
      absurd (omega (arith, l, a, s))

  -- under another name they have one account
  pub other_line : (x : List ℕ) (g : FileSystem) → ¬ (x ≡ name) → get new.file_systems x ≡ Some g → (n : ℕ) → used_by_children new x ≡ n
      → line_in new (x, g) ≡ record { account = (line_under old x).account; children = n }
  other_line x g ne at n e = by (get old.file_systems x) refl
    where
      by : (o : Option FileSystem) → get old.file_systems x ≡ o → line_in new (x, g) ≡ record { account = (option_map_or (λ f. line_in old (x, f)) o bare_line).account; children = n }
      by None none = let k = sym (ap is_some at) ∙ ch.names x ne ∙ ap is_some none in cc
      by (Some f) was =
          let h = ch.others x (λ i. ⊎_elim ne (λ k. k) i) in
          λ i. record { account = record { here = h.here i; referenced = ch.referenced x ne i; limits = ch.limits x f g ne was at i }; children = e i }

  -- off the way children use the same
  pub away : (x : List ℕ) → ¬ (IsUnder x name) → used_by_children new x ≡ used_by_children old x
  away x out =
      let u = used_away old new good ch.hierarchy (name ∷ []) ch.others x (λ m i v. out (subst (IsUnder x) (⊎_elim (λ is. is) (λ k. absurd k) i) v)) in
      let h = (ch.others x (λ i. out (zero, ap Some (sym (⊎_elim (λ is. is) (λ k. absurd k) i))))).here in
      let a = used-split old good x in
      let b = used-split new ch.hierarchy x in
      omega (arith, u, h, a, b)

  -- the line at a place
  module _ (j : ℕ) (lt : j < length (keys new.file_systems)) where
    abbrev system : FileSystem
    system = (get_or (entries new.file_systems) j no_entry).1

    pub there : get new.file_systems (key j) ≡ Some system
    there = entry_at new.file_systems j lt

    pub new_at : (d : Line) → get_or (ledger_of new) j d ≡ line_in new (key j, system)
    new_at d = line_at new j lt d

    -- is that from before where it stands off the way
    settled_at : (d : Line) → ¬ (IsUnder (key j) name) → line_under old (key j) ≡ get_or (ledger_of new) j d
    settled_at d out =
        sym (new_at d ∙ other_line (key j) system (λ is. out (zero, ap Some (sym is))) there (line_under old (key j)).children
        (away (key j) out ∙ sym (children_under old good (key j))))

    -- and on the way it has what its child was charged
    above_at : (c : List ℕ) (d : Line) (f : FileSystem) → get new.file_systems c ≡ Some f → parent_of c ≡ Some (key j) → IsUnder c name
        → line_under old (key j) ≡ recharged (get_or (ledger_of new) j d) (charge_of new c) (charge_of old c)
    above_at c d f at e u =
        (λ i. record { account = (line_under old (key j)).account; children = children i })
        ∙ ap (λ (l : Line). recharged l (charge_of new c) (charge_of old c)) (sym (new_at d ∙ other_line (key j) system (other_up (key j) c e u) there (used_by_children new (key j)) refl))
      where
        children : (line_under old (key j)).children ≡ used_by_children new (key j) - charge_of new c + charge_of old c
        children =
            let a = children_under old good (key j) in
            let b = children_walk old new good ch.hierarchy name ch.others (key j) c e u in
            let l = charge_low new ch.hierarchy c (key j) (ap is_some at) e in
            omega (arith, a, b, l)

  -- ---- the lines from before, under the names of now

  module _ (lines : List Line) (was : lines ≡ map (line_under old) (keys new.file_systems)) where
    pub was_long : length lines ≡ length (keys new.file_systems)
    was_long = ap length was ∙ length-map (keys new.file_systems) (line_under old)

    pub was_at : (j : ℕ) (d : Line) → j < length (keys new.file_systems) → get_or lines j d ≡ line_under old (key j)
    was_at j d lt = ap (λ ls. get_or ls j d) was ∙ get_or-map (line_under old) (keys new.file_systems) j [] d lt

    module _ (place : ℕ) (within : place < length (keys new.file_systems)) (up : IsUnder (key place) name)
        (only : (j : ℕ) → j < length (keys new.file_systems) → IsUnder (key j) name → IsUnder (key j) (key place)) where
      pub behind : (line : Line) → line ≡ get_or (ledger_of new) place line → IsBehind new (keys new.file_systems) lines place line
      behind line is = record {
        hierarchy = ch.hierarchy;
        named = refl;
        is = is;
        settled = λ j d lt. ⊎_elim
            (λ u. inl (only j lt u))
            (λ out. inr (was_at j d lt ∙ settled_at j lt d out))
            (under_or_not (key j) name);
        above = λ j p d lt u parent.
            was_at p d parent.within
            ∙ above_at p parent.within (key j) d (system j lt) (there j lt) parent.named (under_trans u.0 (key j) (key place) name u.1 up)
            ∙ (λ i. recharged (get_or (ledger_of new) p d) (new_charge j d lt i) (old_charge j d lt i));
      }
        where
          new_charge : (j : ℕ) (d : Line) → j < length (keys new.file_systems) → charge_of new (key j) ≡ charge_in (get_or (ledger_of new) j d)
          new_charge j d lt =
              sym (charge_under new ch.hierarchy (key j))
              ∙ ap (λ x. charge_in (option_map_or (λ f. line_in new (key j, f)) x bare_line)) (there j lt)
              ∙ sym (ap charge_in (new_at j lt d))

          old_charge : (j : ℕ) (d : Line) → j < length (keys new.file_systems) → charge_of old (key j) ≡ charge_in (get_or lines j d)
          old_charge j d lt = sym (ap charge_in (was_at j d lt) ∙ charge_under old good (key j))

      -- ---- what is so little that it can be told

      module _ (modest : All IsModest (ledger_of old)) where
        pub was_low : (j : ℕ) (d : Line) → j < length (keys new.file_systems) → used_in (get_or lines j d) ≤ 2 ^ 53
        was_low j d lt = let e = ap used_in (was_at j d lt) in let u = used_under old good (key j) in let l = old_low old good modest (key j) in omega (arith, e, u, l)

        -- the walk can begin at a line that isn't charged much more
        pub can_begin : (line : Line) → IsModest line → used_in line ≤ used_in (get_or lines place line) + 2 ^ 43 → charge_in line ≤ charge_in (get_or lines place line) + 2 ^ 43
            → CanWalkUp (keys new.file_systems) lines place line
        can_begin line m used charged = record {
          long = was_long;
          within = let l = was_long in omega (arith, l, within);
          modest = m;
          used = used;
          charged = charged;
          low = λ j d lt u. was_low j d (let l = was_long in omega (arith, l, lt));
          counted = λ j p d lt u parent.
              let l = was_long in
              let here : j < length (keys new.file_systems) = omega (arith, l, lt) in
              let a = ap charge_in (was_at j d here) in
              let b = charge_under old good (key j) in
              let e = ap (λ (x : Line). x.children) (was_at p d parent.within) in
              let f = children_under old good (key p) in
              let k = charged_before (key j) (key p) parent.named in
              omega (arith, a, b, e, f, k);
        }
          where
            charged_before : (x q : List ℕ) → parent_of x ≡ Some q → charge_of old x ≤ used_by_children old q
            charged_before x q e = by (get old.file_systems x) refl
              where
                by : (o : Option FileSystem) → get old.file_systems x ≡ o → charge_of old x ≤ used_by_children old q
                by None none = let z = no_charge old good x none in omega (arith, z)
                by (Some f) at = charge_low old good x q (ap is_some at) e
