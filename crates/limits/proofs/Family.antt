-- Where no file system has a limit, a file system uses what those of its family have of their own.
use Rattle.std.proofs.Common.{◌≡◌, ℕ, zero, suc, ◌+◌, ◌-◌, ◌≤◌, Bool, true, false, cond, List, [], ◌∷◌, Some, map, refl, sym, ap, ◌∙◌, inl, inr, arith}
use Rattle.std.specs.Prelude.{IsSome, unwrap_or}
use Rattle.std.specs.Option.{option_map_or}
use Rattle.std.specs.FinMap.{get, entries, keys}
use Rattle.std.specs.FinMap as finmap
use Rattle.base.specs.Surveys.{IsIn}
use Rattle.base.specs.Names.{same_name, is_descendant}
use Rattle.model.specs.World.{World, FileSystem, Live}
use Rattle.model.specs.Sums.{used_of, used_by_children, used_by_refreservation, written_of}
use Rattle.world.specs.Shapes.{name_order}
use Rattle.world.specs.Usage.{IsEntry}
use Rattle.world.specs.Trees.{total, used_within}
use Rattle.world.specs.Worlds.{AreFileSystems}
use Rattle.world.proofs.lists.Finding.{name_itself, one_name}
use Rattle.world.proofs.lists.Maps.{at_entry}
use Rattle.limits.specs.Levels.{slashes}
use Rattle.limits.specs.Limits.{IsUnlimited}
use Rattle.limits.specs.Space.{own_of, own_where, is_in_family}
use Rattle.limits.proofs.Totals.{sum-total, total_same, total_plus, total_swap, cond_total}
use Rattle.limits.proofs.Names.{is_child, child_is, level_up, level_low, in_keys, keys_once}
use Rattle.limits.proofs.Descendants.{family_parts, of_one_child}
use Rattle.limits.proofs.Root.{own, within_same, total_one}

-- ---- sums over all file systems

-- the same sum over names
names_sum : (w : World) (p : List ℕ → Bool) → total (λ q. cond (p q) (own w q) 0) (keys w.file_systems) ≡ own_where w p
unfolding own
names_sum w p =
    each (entries w.file_systems) (λ q s i. at_entry name_order w.file_systems q s i)
    ∙ sym (sum-total (λ (e : List ℕ × FileSystem). cond (p e.0) (own_of w e.1) 0) (entries w.file_systems))
  where
    each : (es : List (List ℕ × FileSystem)) → ((q : List ℕ) (s : FileSystem) → IsEntry es q s → get w.file_systems q ≡ Some s)
        → total (λ q. cond (p q) (option_map_or (own_of w) (get w.file_systems q) 0) 0) (map (λ e. e.0) es) ≡ total (λ e. cond (p e.0) (own_of w e.1) 0) es
    each [] h = refl
    each (e ∷ es) h =
        let a : cond (p e.0) (option_map_or (own_of w) (get w.file_systems e.0) 0) 0 ≡ cond (p e.0) (own_of w e.1) 0 =
        ap (λ x. cond (p e.0) (option_map_or (own_of w) x 0) 0) (h e.0 e.1 (inl (refl, refl))) in
        let r = each es (λ q s i. h q s (inr i)) in
        omega (arith, a, r)

-- ---- up the hierarchy

module _ (w : World) (good : AreFileSystems w.file_systems w.group) where
  -- what a family has of its own
  family_has : List ℕ → ℕ
  family_has name = total (λ x. cond (is_in_family name x) (own w x) 0) (keys w.file_systems)

  below_has : List ℕ → ℕ
  below_has name = total (λ x. cond (is_descendant name x) (own w x) 0) (keys w.file_systems)

  -- the family is the file system itself and what is below it
  family_is : (name : List ℕ) → IsIn (keys w.file_systems) name → family_has name ≡ own w name + below_has name
  unfolding family_has below_has
  family_is name i =
      total_same _ _ (keys w.file_systems) (λ x k. family_parts name x (own w x))
      ∙ total_plus (λ x. cond (same_name x name) (own w x) 0) (λ x. cond (is_descendant name x) (own w x) 0) (keys w.file_systems)
      ∙ ap (λ n. n + total (λ x. cond (is_descendant name x) (own w x) 0) (keys w.file_systems))
      (total_one (λ x. same_name x name) (own w) (keys w.file_systems) name (keys_once w.file_systems) i (name_itself name) (λ x k t. one_name x name t))

  -- what is below it is what its children's families have
  children_have : (name : List ℕ) → total (λ c. cond (is_child name c) (family_has c) 0) (keys w.file_systems) ≡ below_has name
  unfolding family_has below_has
  children_have name =
      total_same _ _ (keys w.file_systems) (λ c k. cond_total (is_child name c) (λ x. cond (is_in_family c x) (own w x) 0) (keys w.file_systems))
      ∙ total_swap (λ c x. cond (is_child name c) (cond (is_in_family c x) (own w x) 0) 0) (keys w.file_systems) (keys w.file_systems)
      ∙ total_same _ _ (keys w.file_systems) (λ x i. of_one_child w.file_systems good.hierarchy name (own w x) x i)

  -- so a sum that is deep enough is what the family has
  deep_sum : (k : ℕ) (name : List ℕ) → IsIn (keys w.file_systems) name → finmap.len w.file_systems ≤ slashes name + k
      → used_within (own w) is_child (keys w.file_systems) k name ≡ family_has name
  deep_sum zero name i l = let h = level_low w.file_systems good.hierarchy name i in absurd (omega (arith, h, l))
  deep_sum (suc k) name i l =
      let a = total_same (λ c. cond (is_child name c) (used_within (own w) is_child (keys w.file_systems) k c) 0) (λ c. cond (is_child name c) (family_has c) 0) (keys w.file_systems)
      (λ c j. of_child (is_child name c) (λ t. let u = level_up c name (child_is name c t) in deep_sum k c j (omega (arith, u, l)))) in
      let b = children_have name in
      let f = family_is name i in
      omega (arith, a, b, f)
    where
      of_child : {x y : ℕ} (t : Bool) → (t ≡ true → x ≡ y) → cond t x 0 ≡ cond t y 0
      of_child true h = h refl
      of_child false h = refl

  module _ (unlimited : IsUnlimited w.file_systems) where
    -- used: what the file system and its descendants have of their own
    pub used_unlimited : (name : List ℕ) → IsSome (get w.file_systems name) → used_of w name ≡ own_where w (is_in_family name)
    unfolding used_of used_by_children family_has
    used_unlimited name there =
        within_same w unlimited (finmap.len w.file_systems) name
        ∙ deep_sum (finmap.len w.file_systems) name (in_keys w.file_systems name there) (omega arith)
        ∙ names_sum w (is_in_family name)

-- usedbyrefreservation: nothing
pub used_by_refreservation_unlimited : (w : World) → IsUnlimited w.file_systems → (name : List ℕ) (s : FileSystem) → get w.file_systems name ≡ Some s
    → used_by_refreservation w name s ≡ 0
used_by_refreservation_unlimited w unlimited name s at = ap (λ l. unwrap_or l.refreservation 0 - written_of w (Live name)) (unlimited name s at) ∙ nothing (written_of w (Live name))
  where
    nothing : (n : ℕ) → 0 - n ≡ 0
    nothing n = omega arith
