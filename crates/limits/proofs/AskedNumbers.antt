-- In the pool's worlds each number of a live map is one key's, and so it is once a change gives the numbers that limits are asked with.
use Rattle.std.proofs.Common.{◌≡◌, ℕ, ◌≤◌, ◌<◌, ◌/◌, ◌^◌, Bool, true, false, cond, List, [], ◌∷◌, ◌++◌, Some, None, refl, sym, ap, subst, ◌∙◌, true≢false, inl, inr, ⊎_elim, arith}
use Rattle.std.specs.Prelude.{IfSome, is_some}
use Rattle.std.specs.List.{list_any, flat_map}
use Rattle.std.specs.Ordering.{eq_by_cmp}
use Rattle.std.specs.FinMap.{get, keys}
use Rattle.std.proofs.lemmas.Bool.{or_cases}
use Rattle.base.specs.declared.number.Key.{Key}
use Rattle.base.specs.Key.{key_cmp, path}
use Rattle.base.specs.Map.{Map, Cell, IsTree, HasBytes, contents}
use Rattle.base.specs.Rewrite.{Changes, rewrite, is_touched, cell_after, changed_contents}
use Rattle.base.specs.Surveys.{IsIn}
use Rattle.base.proofs.RewriteLaw.{get-rewrite_any}
use Rattle.model.specs.World.{World, FileSystem, Live}
use Rattle.model.specs.State.{State}
use Rattle.model.specs.Refusals.{fresh_number}
use Rattle.world.specs.Shapes.{Name, key_order}
use Rattle.world.specs.Numbering.{ChangesKeys}
use Rattle.world.specs.Worlds.{ArePaired, InNow}
use Rattle.world.proofs.lists.SetCounts.{equal_keys}
use Rattle.world.proofs.lineage.Bridge.{map_of_live}
use Rattle.world.proofs.lists.Finding.{in_either, from_flat}
use Rattle.world.proofs.lists.Listed.{in_map}
use Rattle.world.proofs.maps.Rewrites.{rewrite_is_change}
use Rattle.limits.specs.Asked.{IsNumberedOnce}
use Rattle.limits.proofs.Keys.{from_keys}

pub once_of_pair : (size : ℕ) (now last : World) → ArePaired size now last → (name : Name) (s : FileSystem) → get now.file_systems name ≡ Some s → IsNumberedOnce s.live
once_of_pair size now last pair name s at j k x y e f n =
    (pair.cells (InNow (Live name)) (InNow (Live name)) j k x y (ap (λ m. get m j) (map_of_live now name s at) ∙ e) (ap (λ m. get m k) (map_of_live now name s at) ∙ f) n).0

-- ---- the levels of the keys of a changed tree

path_low : (leaf : ℕ) (k : Key) → IsIn (path leaf) k → k.level ≤ 5
path_low leaf k i =
    let l = in_map {A = ℕ} {B = Key} (λ l. record { level = l; index = leaf / 16 ^ l }) (0 ∷ 1 ∷ 2 ∷ 3 ∷ 4 ∷ 5 ∷ []) k i in
    let h = low l.0 l.1 in
    let e = ap (λ (q : Key). q.level) l.2 in
    omega (arith, h, e)
  where
    low : (l : ℕ) → IsIn (0 ∷ 1 ∷ 2 ∷ 3 ∷ 4 ∷ 5 ∷ []) l → l ≤ 5
    low l (inl e) = omega (arith, e)
    low l (inr (inl e)) = omega (arith, e)
    low l (inr (inr (inl e))) = omega (arith, e)
    low l (inr (inr (inr (inl e)))) = omega (arith, e)
    low l (inr (inr (inr (inr (inl e))))) = omega (arith, e)
    low l (inr (inr (inr (inr (inr (inl e)))))) = omega (arith, e)
    low l (inr (inr (inr (inr (inr (inr h)))))) = absurd h

any_key : (ks : List Key) (k : Key) → list_any (eq_by_cmp key_cmp k) ks ≡ true → IsIn ks k
any_key [] k e = absurd (true≢false (sym e))
any_key (x ∷ xs) k e = ⊎_elim (λ t. inl (equal_keys key_order k x t)) (λ r. inr (any_key xs k r)) (or_cases _ _ e)

key_low : (size : ℕ) (m : Map) (c : Changes) (g : ℕ) (number : Key → ℕ) → IsTree size m → (k : Key) (x : Cell) → get (rewrite m c g number) k ≡ Some x → k.level ≤ 5
key_low size m c g number tree k x e = by_listed (list_any (eq_by_cmp key_cmp k) (keys m ++ flat_map path (keys (changed_contents (contents m) c)))) refl (sym (get-rewrite_any m c g number k) ∙ e)
  where
    by_listed : (b : Bool) → list_any (eq_by_cmp key_cmp k) (keys m ++ flat_map path (keys (changed_contents (contents m) c))) ≡ b
        → cond b (cell_after m c g number k) None ≡ Some x → k.level ≤ 5
    by_listed true l f = ⊎_elim
        (λ i. let y = from_keys key_order m k i in (tree.keys k (ap is_some y.1)).level)
        (λ i. let y = from_flat path (keys (changed_contents (contents m) c)) k i in path_low y.0 k y.2)
        (in_either (keys m) (flat_map path (keys (changed_contents (contents m) c))) k (any_key _ k l))
    by_listed false l f = absurd (true≢false (sym (ap is_some f)))

-- ---- the numbers

-- each key of those levels has a number of its own
fresh_once : (s : State) (a b : Key) → a.level ≤ 5 → b.level ≤ 5 → fresh_number s a ≡ fresh_number s b → a ≡ b
fresh_once s a b l k e =
    let level : a.level ≡ b.level = omega (arith, l, k, e) in
    let index : a.index ≡ b.index = omega (arith, l, k, e) in
    λ i. record { level = level i; index = index i }

-- so a change with these numbers has each but once
pub fresh_rewrite_once : (s : State) (m : Map) (c : Changes) (g : ℕ) → IsTree s.size m → IsNumberedOnce m → IsNumberedOnce (rewrite m c g (fresh_number s))
fresh_rewrite_once s m c g tree once j k x y e f n = by_touch (is_touched m c j) refl (is_touched m c k) refl
  where
    change : ChangesKeys m (rewrite m c g (fresh_number s)) (is_touched m c) g (fresh_number s)
    change = rewrite_is_change m c g (fresh_number s)

    low : (q : Key) (z : Cell) → get (rewrite m c g (fresh_number s)) q ≡ Some z → q.level ≤ 5
    low = key_low s.size m c g (fresh_number s) tree

    small : (q : Key) (z : Cell) → get m q ≡ Some z → z.number < s.size
    small q z h = (subst (λ u. IfSome u (λ d. (d.number < s.size) × HasBytes q d)) h (tree.cells q)).0

    by_touch : (t : Bool) → is_touched m c j ≡ t → (u : Bool) → is_touched m c k ≡ u → j ≡ k
    by_touch true t true u = fresh_once s j k (low j x e) (low k y f) (sym (change.made j x t e).0 ∙ n ∙ (change.made k y u f).0)
    by_touch true t false u =
        let a = (change.made j x t e).0 in
        let b = small k y (sym (change.kept k u) ∙ f) in
        absurd (omega (arith, a, b, n))
    by_touch false t true u =
        let a = small j x (sym (change.kept j t) ∙ e) in
        let b = (change.made k y u f).0 in
        absurd (omega (arith, a, b, n))
    by_touch false t false u = once j k x y (sym (change.kept j t) ∙ e) (sym (change.kept k u) ∙ f) n
