-- The file systems of a family go, those that come later by name first.
use Rattle.std.proofs.Common.{◌≡◌, ℕ, Bool, true, false, cond, Option, not, ◌&&◌, ◌||◌, T, List, [], ◌∷◌, ◌++◌, Some, None, is_lt, refl, sym, ap, subst, ◌∙◌, true≢false, inl, inr, ⊎_elim, map}
use Rattle.std.specs.Cmp.{tied_itself}
use Rattle.std.specs.List.{list_any, filter}
use Rattle.std.specs.FinMap.{get, remove, entries, entries_sorted, keys, retain_keys, same_map}
use Rattle.std.specs.FinMap.Entries.{is_sorted, below_all}
use Rattle.std.specs.declared.cmp.Ordering.TheVariants.{Equal, Greater}
use Rattle.base.specs.Surveys.{IsIn}
use Rattle.base.specs.Names.{name_cmp, same_name, root_name, parent_of}
use Rattle.model.specs.World.{FileSystem, family_of}
use Rattle.datasets.specs.Rows.{Entry}
use Rattle.world.specs.Shapes.{Name, name_order}
use Rattle.world.specs.Tables.{Datasets, CanRemoveFileSystem, world_of}
use Rattle.world.proofs.lists.Maps.{some_of, key_cases, entry_of, at_entry, get-remove_same, get-remove_other}
use Rattle.world.proofs.lists.Finding.{one_name, name_itself, in_either}
use Rattle.world.specs.Usage.{IsEntry}
use Rattle.world.proofs.lineage.Bridge.{from_entries}
use Rattle.world.proofs.removals.Families.{retained, from_retained}
use Rattle.model.specs.Hierarchy.{is_in_family}
use Rattle.removals.specs.Requests.{without_family}
use Rattle.removals.proofs.Families.{child_in_family, child_after, before_there, below_there}

pub in_entries : (es : List Entry) (name : Name) (f : FileSystem) → IsEntry es name f → IsIn es (name, f)
in_entries [] name f h = absurd h
in_entries (e ∷ es) name f h = ⊎_elim (λ k. inl (λ i. (k.0 i, k.1 i))) (λ k. inr (in_entries es name f k)) h

-- whether one of these rows has the name
abbrev pub is_among : List Entry → List ℕ → Bool
is_among rows n = list_any (λ (e : Entry). same_name n e.0) rows

-- the datasets without the file systems of the family that are among these
abbrev pub left_by : Datasets → List ℕ → List Entry → Datasets
left_by t name rows = record t { file_systems = retain_keys t.file_systems (λ n. not (is_in_family name n && is_among rows n)) }

and_false : (b : Bool) → (b && false) ≡ false
and_false true = refl
and_false false = refl

pub none_left_by : (t : Datasets) (name : List ℕ) → left_by t name [] ≡ t
none_left_by t name = ap (λ ss. record t { file_systems = ss }) (same_map name_order.total name_order.exact _ _ (λ n.
    retained t.file_systems (λ n. not (is_in_family name n && false)) n ∙ ap (λ b. cond (not b) (get t.file_systems n) None) (and_false (is_in_family name n))))

not_same : (n m : List ℕ) → ¬ (n ≡ m) → same_name n m ≡ false
not_same n m ne = by_test (same_name n m) refl
  where
    by_test : (b : Bool) → same_name n m ≡ b → same_name n m ≡ false
    by_test true e = absurd (ne (one_name n m e))
    by_test false e = e

any_row : (rows : List Entry) (e : Entry) → IsIn rows e → is_among rows e.0 ≡ true
any_row [] e i = absurd i
any_row (x ∷ xs) e i = ⊎_elim
    (λ (k : e ≡ x). ap (λ b. b || is_among xs e.0) (ap (λ (y : Entry). same_name e.0 y.0) (sym k) ∙ name_itself e.0))
    (λ k. ap (λ b. same_name e.0 x.0 || b) (any_row xs e k) ∙ or_true (same_name e.0 x.0))
    i
  where
    or_true : (b : Bool) → (b || true) ≡ true
    or_true true = refl
    or_true false = refl

none_row : (rows : List Entry) (n : List ℕ) → ((e : Entry) → IsIn rows e → e.0 ≡ n → ⊥) → is_among rows n ≡ false
none_row [] n each = refl
none_row (x ∷ xs) n each = ap (λ b. b || is_among xs n) (not_same n x.0 (λ e. each x (inl refl) (sym e))) ∙ none_row xs n (λ e i. each e (inr i))

-- a row that isn't of the family stays
pub other_row : (t : Datasets) (name : List ℕ) (r : Entry) (rows : List Entry) → is_in_family name r.0 ≡ false → left_by t name (r ∷ rows) ≡ left_by t name rows
other_row t name r rows out = λ i. record t { file_systems = retain_keys t.file_systems (λ n. not (same n i)) }
  where
    by_test : (n : List ℕ) (b : Bool) → same_name n r.0 ≡ b → (is_in_family name n && (b || is_among rows n)) ≡ (is_in_family name n && is_among rows n)
    by_test n true e =
        let no : is_in_family name n ≡ false = ap (is_in_family name) (one_name n r.0 e) ∙ out in
        ap (λ b. b && true) no ∙ sym (ap (λ b. b && is_among rows n) no)
    by_test n false e = refl

    same : (n : List ℕ) → (is_in_family name n && is_among (r ∷ rows) n) ≡ (is_in_family name n && is_among rows n)
    same n = by_test n (same_name n r.0) refl

module _ (t : Datasets) (name : List ℕ) (front : List Entry) (r : Entry) (rows : List Entry) (is : entries t.file_systems ≡ front ++ r ∷ rows) (within : is_in_family name r.0 ≡ true) where
  abbrev left : Datasets
  left = left_by t name rows

  sorted : T (is_sorted name_cmp (front ++ r ∷ rows))
  sorted = subst (λ l. T (is_sorted name_cmp l)) is (entries_sorted t.file_systems)

  row_in : IsIn (front ++ r ∷ rows) r
  row_in = last_in front
    where
      last_in : (ys : List Entry) → IsIn (ys ++ r ∷ rows) r
      last_in [] = inl refl
      last_in (y ∷ ys) = inr (last_in ys)

  pub row_at : get t.file_systems r.0 ≡ Some r.1
  row_at = at_entry name_order t.file_systems r.0 r.1 (from_entries (entries t.file_systems) r (subst (λ l. IsIn l r) (sym is) row_in))

  below : (ys : List Entry) → T (is_sorted name_cmp (ys ++ r ∷ rows)) → T (below_all name_cmp r.0 rows)
  below [] h = and_left (below_all name_cmp r.0 rows) (is_sorted name_cmp rows) h
    where
      and_left : (a b : Bool) → T (a && b) → T a
      and_left true b h = tt
      and_left false b h = absurd h
  below (y ∷ ys) h = below ys (and_right (below_all name_cmp y.0 (ys ++ r ∷ rows)) (is_sorted name_cmp (ys ++ r ∷ rows)) h)
    where
      and_right : (a b : Bool) → T (a && b) → T b
      and_right true b h = h
      and_right false b h = absurd h

  not_later : is_among rows r.0 ≡ false
  not_later = none_row rows r.0 (λ e i k. let l = below_there r.0 rows e (below front sorted) i in
      absurd (subst (λ o. T (is_lt o)) (ap (name_cmp r.0) k ∙ tied_itself name_order.total r.0) l))

  -- it is there as long as it isn't its turn
  pub row_left : get (left_by t name rows).file_systems r.0 ≡ Some r.1
  row_left =
      retained t.file_systems (λ n. not (is_in_family name n && is_among rows n)) r.0
      ∙ ap (λ b. cond (not (is_in_family name r.0 && b)) (get t.file_systems r.0) None) not_later
      ∙ ap (λ b. cond (not b) (get t.file_systems r.0) None) (and_false (is_in_family name r.0))
      ∙ row_at

  -- then it goes
  pub row_goes : remove (left_by t name rows).file_systems r.0 ≡ (left_by t name (r ∷ rows)).file_systems
  row_goes = same_map name_order.total name_order.exact _ _ (λ n. ⊎_elim
      (λ (same : n ≡ r.0).
      ap (get (remove left.file_systems r.0)) same ∙ get-remove_same name_order left.file_systems r.0
      ∙ sym (retained t.file_systems (λ n. not (is_in_family name n && is_among (r ∷ rows) n)) n
      ∙ (λ i. cond (not (is_in_family name (same i) && (same_name (same i) r.0 || is_among rows (same i)))) (get t.file_systems (same i)) None)
      ∙ (λ i. cond (not (within i && (name_itself r.0 i || is_among rows r.0))) (get t.file_systems r.0) None)))
      (λ (ne : ¬ (n ≡ r.0)).
      get-remove_other name_order left.file_systems r.0 n ne
      ∙ retained t.file_systems (λ n. not (is_in_family name n && is_among rows n)) n
      ∙ ap (λ b. cond (not (is_in_family name n && (b || is_among rows n))) (get t.file_systems n) None) (sym (not_same n r.0 ne))
      ∙ sym (retained t.file_systems (λ n. not (is_in_family name n && is_among (r ∷ rows) n)) n))
      (key_cases name_order n r.0))

  -- no child is left
  no_child : (q : List ℕ) (f : FileSystem) → get (left_by t name rows).file_systems q ≡ Some f → parent_of q ≡ Some r.0 → ⊥
  no_child q f at e =
      let k = from_retained t.file_systems (λ n. not (is_in_family name n && is_among rows n)) q f at in
      let in_rows : IsIn (front ++ r ∷ rows) (q, f) = subst (λ l. IsIn l (q, f)) is (in_entries (entries t.file_systems) q f (entry_of name_order t.file_systems q f k.1)) in
      let later = child_after r.0 q e in
      ⊎_elim
      (λ i. absurd (subst (λ o. T (is_lt o)) later (before_there front r rows sorted (q, f) i)))
      (λ i. ⊎_elim
      (λ (j : (q, f) ≡ r). not_tied (sym (sym (ap (λ (x : Entry). name_cmp x.0 r.0) j ∙ tied_itself name_order.total r.0) ∙ later)))
      (λ j. true≢false (sym k.0 ∙ (λ i. not (child_in_family name r.0 q within e i && any_row rows (q, f) j i))))
      i)
      (in_either front (r ∷ rows) (q, f) in_rows)
    where
      not_tied : Greater ≡ Equal → ⊥
      not_tied e = cc

  pub can_go : (not_root : ¬ (root_name ≡ r.0)) → r.1.snaps ≡ [] → CanRemoveFileSystem (left_by t name rows) r.0
  can_go not_root bare = record {
    system = r.1;
    there = row_left;
    bare = bare;
    not_root = not_root;
    childless = λ q p some parent. let s = some_of (get left.file_systems q) some in no_child q s.0 s.1 (p.named ∙ ap Some parent);
  }

-- the whole family
family_any : (name n : List ℕ) (ks : List (List ℕ)) → list_any (same_name n) (filter (is_in_family name) ks) ≡ (is_in_family name n && list_any (same_name n) ks)
family_any name n [] = sym (and_false (is_in_family name n))
family_any name n (k ∷ ks) = by_test (family_any name n ks) (is_in_family name k) refl
  where
    by_same : (list_any (same_name n) (filter (is_in_family name) ks) ≡ (is_in_family name n && list_any (same_name n) ks)) → (b : Bool) → same_name n k ≡ b → (c : Bool) → is_in_family name k ≡ c
        → list_any (same_name n) (cond c (k ∷ filter (is_in_family name) ks) (filter (is_in_family name) ks)) ≡ (is_in_family name n && (b || list_any (same_name n) ks))
    by_same ih true e true t = ap (λ x. x || list_any (same_name n) (filter (is_in_family name) ks)) e ∙ sym (ap (λ x. x && true) (ap (is_in_family name) (one_name n k e) ∙ t))
    by_same ih true e false t =
        let no : is_in_family name n ≡ false = ap (is_in_family name) (one_name n k e) ∙ t in
        ih ∙ ap (λ x. x && list_any (same_name n) ks) no ∙ sym (ap (λ x. x && true) no)
    by_same ih false e true t = ap (λ x. x || list_any (same_name n) (filter (is_in_family name) ks)) e ∙ ih
    by_same ih false e false t = ih

    by_test : (list_any (same_name n) (filter (is_in_family name) ks) ≡ (is_in_family name n && list_any (same_name n) ks)) → (c : Bool) → is_in_family name k ≡ c
        → list_any (same_name n) (cond c (k ∷ filter (is_in_family name) ks) (filter (is_in_family name) ks)) ≡ (is_in_family name n && (same_name n k || list_any (same_name n) ks))
    by_test ih c t = by_same ih (same_name n k) refl c t

among_keys : (rows : List Entry) (n : List ℕ) → is_among rows n ≡ list_any (same_name n) (map (λ (e : Entry). e.0) rows)
among_keys [] n = refl
among_keys (x ∷ xs) n = ap (λ b. same_name n x.0 || b) (among_keys xs n)

pub family_gone : (t : Datasets) (name : List ℕ) → left_by t name (entries t.file_systems) ≡ without_family t name true
family_gone t name = λ i. record t { file_systems = retain_keys t.file_systems (λ n. not (same n i)) }
  where
    same : (n : List ℕ) → (is_in_family name n && is_among (entries t.file_systems) n) ≡ list_any (same_name n) (family_of (world_of t) name)
    same n = ap (λ b. is_in_family name n && b) (among_keys (entries t.file_systems) n) ∙ sym (family_any name n (keys t.file_systems))

-- what is at a name then
pub get-family : (t : Datasets) (name n : List ℕ) → get (without_family t name true).file_systems n ≡ cond (is_in_family name n) None (get t.file_systems n)
get-family t name n =
    ap (λ (v : Datasets). get v.file_systems n) (sym (family_gone t name))
    ∙ retained t.file_systems (λ n. not (is_in_family name n && is_among (entries t.file_systems) n)) n
    ∙ by_tests (is_in_family name n) (is_among (entries t.file_systems) n) refl (get t.file_systems n) refl
  where
    by_tests : (b c : Bool) → is_among (entries t.file_systems) n ≡ c → (x : Option FileSystem) → get t.file_systems n ≡ x → cond (not (b && c)) x None ≡ cond b None x
    by_tests false c e x at = refl
    by_tests true true e x at = refl
    by_tests true false e None at = refl
    by_tests true false e (Some f) at =
        absurd (true≢false (sym (any_row (entries t.file_systems) (n, f) (in_entries (entries t.file_systems) n f (entry_of name_order t.file_systems n f at))) ∙ e))

-- one alone
pub one_gone : (t : Datasets) (name : List ℕ) → record t { file_systems = remove t.file_systems name } ≡ without_family t name false
one_gone t name = ap (λ ss. record t { file_systems = ss }) (same_map name_order.total name_order.exact _ _ (λ n. ⊎_elim
    (λ (same : n ≡ name).
    ap (get (remove t.file_systems name)) same ∙ get-remove_same name_order t.file_systems name
    ∙ sym (retained t.file_systems (λ n. not (same_name n name || false)) n ∙ ap (λ b. cond (not (b || false)) (get t.file_systems n) None) (ap (λ m. same_name m name) same ∙ name_itself name)))
    (λ (ne : ¬ (n ≡ name)).
    get-remove_other name_order t.file_systems name n ne
    ∙ sym (retained t.file_systems (λ n. not (same_name n name || false)) n ∙ ap (λ b. cond (not (b || false)) (get t.file_systems n) None) (not_same n name ne)))
    (key_cases name_order n name)))
