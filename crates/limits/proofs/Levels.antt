-- What file systems use, up the hierarchy.
use Rattle.std.proofs.Common.{◌≡◌, ℕ, zero, suc, ◌+◌, ◌-◌, ◌≤◌, ◌<◌, true, List, [], Option, Some, None, refl, sym, ap, ◌∙◌, inl, inr, ⊎_elim, ◌⊎◌, arith}
use Rattle.std.specs.Prelude.{max, is_some, unwrap_or}
use Rattle.std.specs.Option.{option_map_or}
use Rattle.std.specs.FinMap.{get}
use Rattle.std.specs.FinMap as finmap
use Rattle.base.specs.Surveys.{IsIn, AreDifferent}
use Rattle.base.specs.Names.{same_name, parent_of}
use Rattle.model.specs.World.{World, FileSystem, Live, children_of}
use Rattle.model.specs.Sums.{used_of, used_here, used_by_children, children_within, reservation_of, used_by_dataset, used_by_snapshots, used_by_refreservation, written_of}
use Rattle.world.specs.Trees.{total}
use Rattle.model.specs.Hierarchy.{IsHierarchy}
use Rattle.world.proofs.lists.Maps.{no_value}
use Rattle.world.proofs.lists.Finding.{name_itself, one_name}
use Rattle.limits.specs.Levels.{slashes, IsUnder, charge_of, IsNoMore}
use Rattle.limits.proofs.Totals.{sum-total, total_same, total_more, set_all_apart, but_all, among_but, others_but}
use Rattle.limits.proofs.Names.{level_up, level_low, under_itself, under_child, in_keys, from_keys, parent_in, children_once, in_children, from_children, in_or_out}

-- from the lowest names up, where only names of few slashes are asked for
pub from_below : (P : List ℕ → Type 0) (n : ℕ)
    → ((name : List ℕ) → ((child : List ℕ) → parent_of child ≡ Some name → slashes child < n → P child) → P name) → (name : List ℕ) → P name
from_below P n step name = go n name (omega arith)
  where
    go : (k : ℕ) (name : List ℕ) → n ≤ slashes name + k → P name
    go zero name l = step name (λ child e low. let u = level_up child name e in absurd (omega (arith, u, low, l)))
    go (suc k) name l = step name (λ child e low. let u = level_up child name e in go k child (omega (arith, u, l)))

-- the numbers of a file system that is there
module _ (w : World) (name : List ℕ) (s : FileSystem) (at : get w.file_systems name ≡ Some s) where
  pub here_is : used_here w name ≡ used_by_dataset w s + used_by_snapshots w s + (unwrap_or s.limits.refreservation 0 - written_of w (Live name))
  here_is = ap (λ x. option_map_or (λ s. used_by_dataset w s + used_by_snapshots w s + used_by_refreservation w name s) x 0) at

  pub reserved_is : reservation_of w name ≡ unwrap_or s.limits.reservation 0
  reserved_is = ap (λ x. option_map_or (λ (s : FileSystem). unwrap_or s.limits.reservation 0) x 0) at

module _ (w : World) (good : IsHierarchy w.file_systems) where
  low_child : (name child : List ℕ) → IsIn (children_of w name) child → slashes child ≡ slashes name + 1
  low_child name child i = level_up child name (from_children w name child i).1

  abbrev charge_within : ℕ → List ℕ → ℕ
  charge_within d c = max (used_here w c + children_within w d c) (reservation_of w c)

  within-total : (d : ℕ) (name : List ℕ) → children_within w (suc d) name ≡ total (charge_within d) (children_of w name)
  within-total d name = sum-total (charge_within d) (children_of w name)

  no_deeper : (e : ℕ) (name : List ℕ) → finmap.len w.file_systems ≤ slashes name + 0 → children_within w (suc e) name ≡ 0
  no_deeper e name l =
      let t = total_more (charge_within e) (λ _. 0) (children_of w name) [] (children_once w name)
      (λ x i. let h = level_low w.file_systems good x (from_children w name x i).0 in let s = low_child name x i in absurd (omega (arith, h, s, l))) in
      let s = within-total e name in
      omega (arith, t, s)

  -- below the lowest level nothing more is counted
  deep_enough : (d e : ℕ) (name : List ℕ) → finmap.len w.file_systems ≤ slashes name + d → finmap.len w.file_systems ≤ slashes name + e
      → children_within w d name ≡ children_within w e name
  deep_enough zero zero name l k = refl
  deep_enough zero (suc e) name l k = sym (no_deeper e name l)
  deep_enough (suc d) zero name l k = no_deeper d name k
  deep_enough (suc d) (suc e) name l k =
      within-total d name
      ∙ total_same (charge_within d) (charge_within e) (children_of w name)
      (λ x i. let s = low_child name x i in ap (λ n. max (used_here w x + n) (reservation_of w x)) (deep_enough d e x (omega (arith, s, l)) (omega (arith, s, k))))
      ∙ sym (within-total e name)

  -- usedbychildren: the sum of what the children are charged
  pub used_by_children_is : (name : List ℕ) → used_by_children w name ≡ total (charge_of w) (children_of w name)
  unfolding used_by_children used_of
  used_by_children_is name =
      deep_enough (finmap.len w.file_systems) (suc (finmap.len w.file_systems)) name (omega arith) (omega arith)
      ∙ within-total (finmap.len w.file_systems) name

  pub used_is : (name : List ℕ) → used_of w name ≡ used_here w name + total (charge_of w) (children_of w name)
  unfolding used_of
  used_is name = ap (λ n. used_here w name + n) (used_by_children_is name)

  pub used-split : (name : List ℕ) → used_of w name ≡ used_here w name + used_by_children w name
  unfolding used_of
  used-split name = refl

  -- ---- a file system that isn't there uses nothing

  module _ (name : List ℕ) (gone : get w.file_systems name ≡ None) where
    pub no_reservation : reservation_of w name ≡ 0
    no_reservation = ap (λ x. option_map_or (λ (s : FileSystem). unwrap_or s.limits.reservation 0) x 0) gone

    pub nothing_here : used_here w name ≡ 0
    nothing_here = ap (λ x. option_map_or (λ s. used_by_dataset w s + used_by_snapshots w s + used_by_refreservation w name s) x 0) gone

    pub childless : (child : List ℕ) → IsIn (children_of w name) child → ⊥
    childless child i =
        let c = from_children w name child i in
        let k = from_keys w.file_systems name (parent_in w.file_systems good child name c.0 c.1) in
        no_value k.0 (sym gone ∙ k.1)

    pub nothing_used : used_of w name ≡ 0
    nothing_used =
        let t = total_more (charge_of w) (λ _. 0) (children_of w name) [] (children_once w name) (λ x i. absurd (childless x i)) in
        let u = used_is name in
        let h = nothing_here in
        omega (arith, t, u, h)

    pub no_charge : charge_of w name ≡ 0
    no_charge = let u = nothing_used in let r = no_reservation in omega (arith, u, r)

  -- a child is among the children, or is charged nothing
  child_or_none : (name child : List ℕ) → parent_of child ≡ Some name → (charge_of w child ≡ 0) ⊎ IsIn (children_of w name) child
  child_or_none name child e = at (get w.file_systems child) refl
    where
      at : (x : Option FileSystem) → get w.file_systems child ≡ x → (charge_of w child ≡ 0) ⊎ IsIn (children_of w name) child
      at None k = inl (no_charge child k)
      at (Some s) k = inr (in_children w name child e (in_keys w.file_systems child (ap is_some k)))

-- ---- one world and a later one

module _ (old new : World) (good : IsHierarchy old.file_systems) (good' : IsHierarchy new.file_systems) where
  -- children that are charged no more
  children_more : (f g : List ℕ → ℕ) (name : List ℕ) → ((child : List ℕ) → parent_of child ≡ Some name → IsIn (children_of new name) child → (f child ≤ g child) × ((g child ≡ 0) ⊎ IsIn (children_of old name) child))
      → total f (children_of new name) ≤ total g (children_of old name)
  children_more f g name each = total_more f g (children_of new name) (children_of old name) (children_once new name)
      (λ x i. let c = from_children new name x i in let e = each x c.1 i in
      ⊎_elim (λ z. let l = e.0 in inl (omega (arith, l, z))) (λ k. inr (e.0, k)) e.1)

  -- where nothing at or below a name is more, it uses no more
  pub used_no_more : (name : List ℕ) → ((lower : List ℕ) → IsUnder name lower → IsNoMore old new lower) → used_of new name ≤ used_of old name
  used_no_more = from_below (λ name. ((lower : List ℕ) → IsUnder name lower → IsNoMore old new lower) → used_of new name ≤ used_of old name) (finmap.len new.file_systems)
      (λ name below all.
      let t = children_more (charge_of new) (charge_of old) name
      (λ child e i.
      let l = below child e (level_low new.file_systems good' child (from_children new name child i).0) (λ lower u. all lower (under_child name child lower e u)) in
      let r = (all child (under_child name child child e (under_itself child))).reserved in
      (omega (arith, l, r), child_or_none old good name child e)) in
      let h = (all name (under_itself name)).here in
      let u = used_is old good name in
      let v = used_is new good' name in
      omega (arith, t, h, u, v))

  pub charge_no_more : (name : List ℕ) → ((lower : List ℕ) → IsUnder name lower → IsNoMore old new lower) → charge_of new name ≤ charge_of old name
  charge_no_more name all = let u = used_no_more name all in let r = (all name (under_itself name)).reserved in omega (arith, u, r)

  -- no more but for some children, whatever these are charged
  pub but_some : (name : List ℕ) (cs : List (List ℕ)) → AreDifferent cs → ((c : List ℕ) → IsIn cs c → parent_of c ≡ Some name)
      → ((child : List ℕ) → parent_of child ≡ Some name → ¬ (IsIn cs child) → (lower : List ℕ) → IsUnder child lower → IsNoMore old new lower)
      → used_by_children new name + total (charge_of old) cs ≤ used_by_children old name + total (charge_of new) cs
  but_some name cs d named all =
      let t = children_more (but_all same_name right name_itself cs (charge_of new)) (but_all same_name right name_itself cs (charge_of old)) name
      (λ child f i. each child f (in_or_out cs child)) in
      let x = set_all_apart same_name right name_itself cs (charge_of new) (children_of new name) (children_once new name) d (λ c i. child_or_none new good' name c (named c i)) in
      let y = set_all_apart same_name right name_itself cs (charge_of old) (children_of old name) (children_once old name) d (λ c i. child_or_none old good name c (named c i)) in
      let u = used_by_children_is old good name in
      let v = used_by_children_is new good' name in
      omega (arith, t, x, y, u, v)
    where
      right : (c x : List ℕ) → same_name c x ≡ true → x ≡ c
      right c x h = sym (one_name c x h)

      each : (child : List ℕ) → parent_of child ≡ Some name → IsIn cs child ⊎ ¬ (IsIn cs child)
          → (but_all same_name right name_itself cs (charge_of new) child ≤ but_all same_name right name_itself cs (charge_of old) child)
          × ((but_all same_name right name_itself cs (charge_of old) child ≡ 0) ⊎ IsIn (children_of old name) child)
      each child f (inl i) =
          let a = among_but same_name right name_itself cs (charge_of new) child i in
          let b = among_but same_name right name_itself cs (charge_of old) child i in
          (omega (arith, a, b), inl b)
      each child f (inr n) =
          let a = others_but same_name right name_itself cs (charge_of new) child n in
          let b = others_but same_name right name_itself cs (charge_of old) child n in
          let l = charge_no_more child (all child f n) in
          (omega (arith, a, b, l), ⊎_elim (λ z. inl (b ∙ z)) inr (child_or_none old good name child f))
