-- Each line's charge added to its parent's, from the last to the first.
use Rattle.std.proofs.Common.{◌≡◌, ℕ, zero, suc, ◌+◌, ◌*◌, ◌<◌, ◌≤◌, ◌^◌, Bool, true, false, cond, List, [], ◌∷◌, length, get_or, set, map, take, Some, None, refl, sym, ap, subst, ◌∙◌, ⊎_elim, arith, add-one}
use Rattle.std.specs.Prelude.{max, unwrap_or}
use Rattle.std.specs.List.{All, filter}
use Rattle.std.specs.FinMap.{get, entries, keys}
use Rattle.std.proofs.lemmas.Bool.{cases_eq}
use Rattle.std.proofs.lemmas.List.{length-map, length-set, get_or-map, get_or_default, get_or-set_same, get_or-set_other, map-set, set-get_or, drop_more, drop_all, same_lists}
use Rattle.std.proofs.lemmas.List.Elements.{All-set, All-map}
use Rattle.base.specs.Names.{parent_of}
use Rattle.model.specs.World.{World, FileSystem, no_limits}
use Rattle.model.specs.Hierarchy.{FileSystems, IsHierarchy}
use Rattle.model.specs.Sums.{used_here, used_by_children, reservation_of}
use Rattle.world.specs.Trees.{total}
use Rattle.world.proofs.lists.Maps.{same_value, no_value}
use Rattle.limits.specs.Levels.{charge_of}
use Rattle.limits.proofs.Levels.{reserved_is, used_by_children_is, used-split}
use Rattle.limits.proofs.Names.{is_child, child_is, is_child_of}
use Rattle.limits.specs.declared.account.Account.{Account}
use Rattle.limits.specs.declared.line.Line.{Line}
use Rattle.limits.specs.Lines.{used_in, reserved_in, charge_in, IsSmall}
use Rattle.limits.specs.Ledgers.{account_in, accounts_in, line_in, ledger_of}
use Rattle.limits.specs.Charges.{fresh, children_from, HasCharges, IsCharged}
use Rattle.limits.specs.Places.{IsParentAt}
use Rattle.limits.proofs.Order.{no_entry, keys_long, key_is, one_place, child_later, children_behind, entry_at}

-- ---- sums over the first of a list

module _ {A : Type 0} (f : A → ℕ) where
  total_next : (xs : List A) (i : ℕ) (d : A) → i < length xs → total f (take (suc i) xs) ≡ total f (take i xs) + f (get_or xs i d)
  total_next [] i d lt = absurd (omega (arith, lt))
  total_next (x ∷ xs) zero d lt = omega arith
  total_next (x ∷ xs) (suc i) d lt = let r = total_next xs i d (omega (arith, lt)) in omega (arith, r)

  total_more : (xs : List A) (i : ℕ) (d : A) → i < length xs → total f (take (i + 1) xs) ≡ total f (take i xs) + f (get_or xs i d)
  total_more xs i d lt = rw add-one (total_next xs i d lt)

  total_set : (xs : List A) (k p : ℕ) (y d : A) → p < k → p < length xs → total f (take k (set xs p y)) + f (get_or xs p d) ≡ total f (take k xs) + f y
  total_set [] k p y d lt within = absurd (omega (arith, within))
  total_set (x ∷ xs) zero p y d lt within = absurd (omega (arith, lt))
  total_set (x ∷ xs) (suc k) zero y d lt within = omega arith
  total_set (x ∷ xs) (suc k) (suc p) y d lt within = let r = total_set xs k p y d (omega (arith, lt)) (omega (arith, within)) in omega (arith, r)

  total_item : (xs : List A) (k p : ℕ) (d : A) → p < k → p < length xs → f (get_or xs p d) ≤ total f (take k xs)
  total_item [] k p d lt within = absurd (omega (arith, within))
  total_item (x ∷ xs) zero p d lt within = absurd (omega (arith, lt))
  total_item (x ∷ xs) (suc k) zero d lt within = omega arith
  total_item (x ∷ xs) (suc k) (suc p) d lt within = let r = total_item xs k p d (omega (arith, lt)) (omega (arith, within)) in omega (arith, r)

-- ---- the accounts of a world, by places

-- accounts of a world are as many as its file systems
pub accounts_long : (m : FileSystems) (bs : List Account) (w : World) → keys w.file_systems ≡ keys m → accounts_in w ≡ bs → length bs ≡ length (keys m)
unfolding accounts_in
accounts_long m bs w named has =
    let a = ap length has in
    let c = length-map (entries w.file_systems) (λ (e : List ℕ × FileSystem). account_in w e.0 e.1) in
    let d = keys_long w.file_systems in
    let e = ap length named in
    omega (arith, a, c, d, e)

abbrev pub account_is : Line → Account
account_is l = l.account

module _ (m : FileSystems) (ls : List Line) (w : World) (good : IsHierarchy w.file_systems) (named : keys w.file_systems ≡ keys m)
    (has : accounts_in w ≡ map account_is ls) where
  long : length ls ≡ length (keys m)
  long = sym (length-map ls account_is) ∙ accounts_long m (map account_is ls) w named has

  module _ (k : ℕ) (lt : k < length ls) (d : Line) where
    in_world : k < length (keys w.file_systems)
    in_world = let l = long in let e = ap length named in omega (arith, l, e, lt)

    abbrev entry : List ℕ × FileSystem
    entry = get_or (entries w.file_systems) k no_entry

    name_is : get_or (keys m) k [] ≡ entry.0
    name_is = sym (ap (λ l. get_or l k []) named) ∙ key_is w.file_systems k in_world

    account_at : account_in w entry.0 entry.1 ≡ (get_or ls k d).account
    unfolding accounts_in
    account_at =
        let l = keys_long w.file_systems in
        let i = in_world in
        sym (get_or-map (λ (e : List ℕ × FileSystem). account_in w e.0 e.1) (entries w.file_systems) k no_entry d.account (omega (arith, l, i)))
        ∙ ap (λ l. get_or l k d.account) has
        ∙ get_or-map account_is ls k d d.account lt

    there : get w.file_systems (get_or (keys m) k []) ≡ Some entry.1
    there = ap (get w.file_systems) (sym (ap (λ l. get_or l k []) named)) ∙ entry_at w.file_systems k in_world

    here_is : used_here w (get_or (keys m) k []) ≡ (get_or ls k d).account.here
    here_is = ap (used_here w) name_is ∙ ap (λ (a : Account). a.here) account_at

    reserved_at : reservation_of w (get_or (keys m) k []) ≡ reserved_in (get_or ls k d)
    reserved_at = reserved_is w (get_or (keys m) k []) entry.1 there ∙ ap (λ (a : Account). unwrap_or a.limits.reservation 0) account_at

    -- where a line has all its children's charges, its own is that of the world
    module _ (i : ℕ) (le : i ≤ k + 1) (sum : (get_or ls k d).children ≡ total (charge_of w) (children_from (keys m) i (get_or (keys m) k []))) where
      children_are : used_by_children w (get_or (keys m) k []) ≡ (get_or ls k d).children
      children_are =
          let l = long in
          used_by_children_is w good (get_or (keys m) k [])
          ∙ ap (λ ns. total (charge_of w) (filter (is_child (get_or (keys m) k [])) ns)) named
          ∙ sym (ap (total (charge_of w)) (children_behind m i k le (omega (arith, l, lt))))
          ∙ sym sum

      charge_is : charge_of w (get_or (keys m) k []) ≡ charge_in (get_or ls k d)
      charge_is =
          (λ i. max (used-split w good (get_or (keys m) k []) i) (reserved_at i))
          ∙ (λ i. max (here_is i + children_are i) (reserved_in (get_or ls k d)))

      -- and it is the line of the world
      line_is : get_or ls k d ≡ line_in w entry
      line_is = λ i. record { account = sym account_at i; children = (sym children_are ∙ ap (used_by_children w) name_is) i }

abbrev children_in : Line → ℕ
children_in l = l.children

-- ---- one line charged

module _ (m : FileSystems) (k : ℕ) (ls : List Line) (as_long : length ls ≡ length (keys m)) (lt : k < length ls) (was : IsCharged m (k + 1) ls) where
  next : (name : List ℕ) → children_from (keys m) k name
      ≡ cond (is_child name (get_or (keys m) k [])) (get_or (keys m) k [] ∷ children_from (keys m) (k + 1) name) (children_from (keys m) (k + 1) name)
  next name = ap (filter (is_child name)) (drop_more (keys m) k [] (omega (arith, as_long, lt)))

  its_parent : (name : List ℕ) → parent_of (get_or (keys m) k []) ≡ Some name → children_from (keys m) k name ≡ get_or (keys m) k [] ∷ children_from (keys m) (k + 1) name
  its_parent name e =
      next name ∙ ap (λ b. cond b (get_or (keys m) k [] ∷ children_from (keys m) (k + 1) name) (children_from (keys m) (k + 1) name)) (is_child_of name (get_or (keys m) k []) e)

  no_parent : (name : List ℕ) → (parent_of (get_or (keys m) k []) ≡ Some name → ⊥) → children_from (keys m) k name ≡ children_from (keys m) (k + 1) name
  no_parent name ne = next name ∙ at (is_child name (get_or (keys m) k [])) refl
    where
      at : (b : Bool) → is_child name (get_or (keys m) k []) ≡ b
          → cond b (get_or (keys m) k [] ∷ children_from (keys m) (k + 1) name) (children_from (keys m) (k + 1) name) ≡ children_from (keys m) (k + 1) name
      at true e = absurd (ne (child_is name (get_or (keys m) k []) e))
      at false e = refl

  -- a file system with no parent
  pub charged_alone : parent_of (get_or (keys m) k []) ≡ None → IsCharged m k ls
  charged_alone none = record {
    charges = λ w good named has j d lj. was.charges w good named has j d lj
        ∙ sym (ap (total (charge_of w)) (no_parent (get_or (keys m) j []) (λ e. no_value (get_or (keys m) j []) (sym none ∙ e))));
    left = let l = was.left in let t = total_more children_in ls k (get_or ls k (no_line k)) lt in omega (arith, l, t);
    most = was.most;
    here = was.here;
    few = was.few;
  }
    where
      no_line : ℕ → Line
      no_line n = record { account = record { here = 0; referenced = 0; limits = no_limits }; children = 0 }

  -- and one with a parent
  module _ (p : ℕ) (lp : p < length (keys m)) (parent : parent_of (get_or (keys m) k []) ≡ Some (get_or (keys m) p [])) (line old new : Line)
      (line_at : line ≡ get_or ls k line) (old_at : old ≡ get_or ls p old) (charge : ℕ) (charged : charge ≡ charge_in line) (low : charge ≤ used_in line + 2 ^ 40)
      (same : new.account ≡ old.account) (more : new.children ≡ old.children + charge) where
    within : p < length ls
    within = omega (arith, lp, as_long)

    before : p < k
    before = child_later m k p (omega (arith, lt, as_long)) lp parent

    accounts_same : map account_is (set ls p new) ≡ map account_is ls
    accounts_same =
        map-set account_is ls p new
        ∙ ap (set (map account_is ls) p) (same ∙ ap account_is old_at ∙ sym (get_or-map account_is ls p old old.account within))
        ∙ set-get_or (map account_is ls) p old.account

    long_set : length (set ls p new) ≡ length ls
    long_set = length-set ls p new

    up_charges : HasCharges m k (set ls p new)
    up_charges w good named has j d lj = ⊎_elim
        (λ is. subst (λ n. (get_or (set ls p new) n d).children ≡ total (charge_of w) (children_from (keys m) k (get_or (keys m) n []))) (sym is) here)
        (λ ne.
        ap children_in (get_or-set_other ls p j new d ne)
        ∙ was.charges w good named has' j d (omega (arith, lj, long_set))
        ∙ sym (ap (total (charge_of w)) (no_parent (get_or (keys m) j [])
        (λ e. ne (one_place m j p (omega (arith, lj, long_set, as_long)) lp (same_value (get_or (keys m) j []) (get_or (keys m) p []) (sym e ∙ parent)))))))
        (cases_eq j p)
      where
        has' : accounts_in w ≡ map account_is ls
        has' = has ∙ accounts_same

        here : (get_or (set ls p new) p d).children ≡ total (charge_of w) (children_from (keys m) k (get_or (keys m) p []))
        here =
            let a = was.charges w good named has' p old within in
            let b = ap children_in old_at in
            let c = charge_is m ls w good named has' k lt line (k + 1) (omega arith) (was.charges w good named has' k line lt) in
            let e = ap charge_in line_at in
            let f = ap (total (charge_of w)) (its_parent (get_or (keys m) p []) parent) in
            let g = ap children_in (get_or-set_same ls p new d within) in
            omega (arith, a, b, c, e, f, g, charged, more)

    up_left : total children_in (take k (set ls p new)) + k * 2 ^ 43 ≤ length (set ls p new) * 2 ^ 43
    up_left =
        let a = total_set children_in ls k p new old before within in
        let b = total_more children_in ls k line lt in
        let c = ap children_in old_at in
        let d = ap children_in line_at in
        let e = was.here k line lt in
        let f = ap (λ (l : Line). l.account.here) line_at in
        let l = was.left in
        omega (arith, a, b, c, d, e, f, l, low, more, long_set)

    up_most : new.children ≤ 2 ^ 53
    up_most =
        let a = total_item children_in ls k p old before within in
        let b = total_more children_in ls k line lt in
        let c = ap children_in old_at in
        let d = ap children_in line_at in
        let e = was.here k line lt in
        let f = ap (λ (l : Line). l.account.here) line_at in
        let l = was.left in
        let n = was.few in
        omega (arith, a, b, c, d, e, f, l, low, more, n)

    pub charged_up : IsCharged m k (set ls p new)
    charged_up = record {
      charges = up_charges;
      left = up_left;
      most = All-set (λ (l : Line). l.children ≤ 2 ^ 53) ls p new up_most was.most;
      here = All-set (λ (l : Line). l.account.here < 2 ^ 42) ls p new
          (let h = was.here p old within in let a = ap (λ (l : Line). l.account.here) old_at in let b = ap (λ (a : Account). a.here) same in omega (arith, h, a, b)) was.here;
      few = let f = was.few in omega (arith, f, long_set);
    }

  -- as it is written
  module _ (p : ℕ) (at : IsParentAt (keys m) k p) where
    pub parent_within : p < length ls
    parent_within = let w = at.within in omega (arith, w, as_long)

    module _ (d old : Line) (old_at : old ≡ get_or ls p old) (charge : ℕ) (charged : charge ≡ charge_in (get_or ls k d)) (low : charge ≤ used_in (get_or ls k d) + 2 ^ 40) where
      abbrev written : Line
      written = record { account = (get_or ls p old).account; children = (get_or ls p old).children + charge }

      same_account : (get_or ls p old).account ≡ old.account
      same_account = sym (ap account_is old_at)

      pub sum_low : (get_or ls p old).children + charge < 2 ^ 64
      sum_low =
          let a = was.most p old parent_within in
          let b = was.most k d lt in
          let c = was.here k d lt in
          omega (arith, a, b, c, low)

      pub written_charged : IsCharged m k (set ls p (record { account = (get_or ls p old).account; children = (get_or ls p old).children + charge }))
      written_charged = charged_up p at.within at.named (get_or ls k d) old written (get_or_default ls k d (get_or ls k d) lt) old_at charge charged low same_account
          (ap (λ (l : Line). l.children + charge) (sym old_at))

      pub written_accounts : map account_is (set ls p (record { account = (get_or ls p old).account; children = (get_or ls p old).children + charge })) ≡ map account_is ls
      written_accounts = accounts_same p at.within at.named (get_or ls k d) old written (get_or_default ls k d (get_or ls k d) lt) old_at charge charged low same_account
          (ap (λ (l : Line). l.children + charge) (sym old_at))

-- ---- at first

total_fresh : (bs : List Account) (i : ℕ) → total children_in (take i (map fresh bs)) ≡ 0
total_fresh [] zero = refl
total_fresh [] (suc i) = refl
total_fresh (a ∷ bs) zero = refl
total_fresh (a ∷ bs) (suc i) = let t = total_fresh bs i in omega (arith, t)

-- no line is charged
pub none_charged : (m : FileSystems) (bs : List Account) (n : ℕ) → n ≡ length bs → n ≡ length (keys m) → n ≤ 1024 → All (λ a. a.here < 2 ^ 42) bs → IsCharged m n (map fresh bs)
none_charged m bs n long as_long few here = record {
  charges = λ w good named has j d lj.
      let l = length-map bs fresh in
      let a : Account = d.account in
      ap children_in (get_or-map fresh bs j a d (omega (arith, lj, l)))
      ∙ sym (ap (λ ns. total (charge_of w) (filter (is_child (get_or (keys m) j [])) ns)) (drop_all n (keys m) (omega (arith, as_long))));
  left = let t = total_fresh bs n in let l = length-map bs fresh in omega (arith, t, l, long);
  most = All-map (λ (l : Line). l.children ≤ 2 ^ 53) fresh bs (λ k d lt. omega arith);
  here = All-map (λ (l : Line). l.account.here < 2 ^ 42) fresh bs here;
  few = let l = length-map bs fresh in omega (arith, l, long, few);
}

pub fresh_accounts : (bs : List Account) → map account_is (map fresh bs) ≡ bs
fresh_accounts [] = refl
fresh_accounts (a ∷ bs) = ap (λ l. a ∷ l) (fresh_accounts bs)

-- ---- at last

module _ (m : FileSystems) (ls : List Line) (all : IsCharged m 0 ls) where
  -- the lines are those of the world
  pub charged_is : (w : World) → IsHierarchy w.file_systems → keys w.file_systems ≡ keys m → accounts_in w ≡ map account_is ls → ls ≡ ledger_of w
  unfolding ledger_of
  charged_is w good named has = same_lists ls (map (line_in w) (entries w.file_systems))
      (let l = long m ls w good named has in
      let a = ap length named in
      let b = keys_long w.file_systems in
      let c = length-map (entries w.file_systems) (line_in w) in
      omega (arith, l, a, b, c))
      (λ k d lt.
      let l = long m ls w good named has in
      let a = ap length named in
      let b = keys_long w.file_systems in
      line_is m ls w good named has k lt d 0 (omega arith) (all.charges w good named has k d lt)
      ∙ sym (get_or-map (line_in w) (entries w.file_systems) k no_entry d (omega (arith, l, a, b, lt))))

  pub charged_small : All IsSmall ls
  charged_small k d lt = let a = all.here k d lt in let b = all.most k d lt in omega (arith, a, b)
