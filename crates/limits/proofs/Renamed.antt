-- The lines of an earlier world under the names of one that has a file system more, or one fewer, or the same.
use Rattle.std.proofs.Common.{◌≡◌, ℕ, zero, suc, ◌+◌, ◌<◌, ◌≤◌, cond, T, List, [], ◌∷◌, length, get_or, map, Some, None, is_some, refl, sym, ap, subst, ◌∙◌, ⊎_elim, arith, add-one}
use Rattle.std.specs.Prelude.{insert, remove}
use Rattle.std.specs.declared.cmp.Ordering.{Ordering}
use Rattle.std.specs.declared.cmp.Ordering.TheVariants.{Less, Equal, Greater}
use Rattle.std.specs.Ordering.{is_eq}
use Rattle.std.specs.Cmp.{tied_itself}
use Rattle.std.specs.List.{All}
use Rattle.std.specs.Option.{option_map_or}
use Rattle.std.specs.FinMap.{get, entries, keys, find, is_sorted, from_sorted, entries_sorted, entries-from_sorted, entries-insert, get-from_sorted, get-entries}
use Rattle.std.specs.FinMap as finmap
use Rattle.std.proofs.lemmas.Bool.{cases_lt}
use Rattle.std.proofs.lemmas.List.{length-map, get_or-map}
use Rattle.std.proofs.lemmas.List.Edits.{length-insert, length-remove, get_or-insert_below, get_or-insert_at, get_or-insert_above}
use Rattle.base.specs.Names.{name_cmp}
use Rattle.model.specs.World.{World, FileSystem, empty_file_system}
use Rattle.model.specs.Hierarchy.{FileSystems}
use Rattle.world.specs.Shapes.{name_order}
use Rattle.world.proofs.lineage.Put.{put_here, put_other}
use Rattle.world.proofs.lists.Maps.{key_cases}
use Rattle.datasets.specs.Places.{IsAt, IsGapFor}
use Rattle.datasets.proofs.RowGone.{left_sorted, find_left, map_removed}
use Rattle.snapshots.proofs.Sorted.{put_gap}
use Rattle.limits.specs.declared.line.Line.{Line}
use Rattle.limits.specs.Changes.{IsRecounted, bare_line, line_under}
use Rattle.limits.specs.Ledgers.{line_in, ledger_of}
use Rattle.limits.proofs.Differing.{ledger_named}
use Rattle.limits.proofs.Order.{no_entry, keys_long, key_is}
use Rattle.limits.proofs.SameKeys.{same_keys}

-- ---- an element taken out, and one put in

put_back : {X : Type 0} (xs : List X) (i : ℕ) (d : X) → i < length xs → insert (remove xs i) i (get_or xs i d) ≡ xs
put_back [] i d lt = absurd (omega (arith, lt))
put_back (x ∷ xs) zero d lt = refl
put_back (x ∷ xs) (suc i) d lt = ap (λ l. x ∷ l) (put_back xs i d (omega (arith, lt)))

taken_back : {X : Type 0} (xs : List X) (i : ℕ) (y : X) → i ≤ length xs → remove (insert xs i y) i ≡ xs
taken_back [] zero y le = refl
taken_back [] (suc i) y le = absurd (omega (arith, le))
taken_back (x ∷ xs) zero y le = refl
taken_back (x ∷ xs) (suc i) y le = ap (λ l. x ∷ l) (taken_back xs i y (omega (arith, le)))

map_put : {A B : Type 0} (f : A → B) (xs : List A) (i : ℕ) (y : A) → i ≤ length xs → map f (insert xs i y) ≡ insert (map f xs) i (f y)
map_put f [] zero y le = refl
map_put f [] (suc i) y le = absurd (omega (arith, le))
map_put f (x ∷ xs) zero y le = refl
map_put f (x ∷ xs) (suc i) y le = ap (λ l. f x ∷ l) (map_put f xs i y (omega (arith, le)))

pub all_put : {X : Type 0} (P : X → Type 0) (xs : List X) (i : ℕ) (y : X) → i ≤ length xs → All P xs → P y → All P (insert xs i y)
all_put {X = X} P xs i y le all own k d lt = ⊎_elim
    (λ l. ⊎_elim
    (λ below. subst P (sym (get_or-insert_below xs i y d k below le)) (all k d (omega (arith, below, le))))
    (λ ge. let is : k ≡ i = omega (arith, l, ge) in subst P (sym (ap (λ n. get_or (insert xs i y) n d) is ∙ get_or-insert_at xs i y d le)) own)
    (cases_lt k i))
    (λ above. later k d lt above)
    (cases_lt k (i + 1))
  where
    later : (k : ℕ) (d : X) → k < length (insert xs i y) → i + 1 ≤ k → P (get_or (insert xs i y) k d)
    later zero d lt above = absurd (omega (arith, above))
    later (suc n) d lt above =
        let long = length-insert xs i y le in
        subst P (sym (rw (← add-one) (get_or-insert_above xs i y d n (omega (arith, above)) le))) (all n d (omega (arith, lt, long)))

pub all_left : {X : Type 0} (P : X → Type 0) (xs : List X) (i : ℕ) → All P xs → All P (remove xs i)
all_left P [] zero all k d lt = absurd (omega (arith, lt))
all_left P [] (suc i) all k d lt = absurd (omega (arith, lt))
all_left P (x ∷ xs) zero all k d lt = all (suc k) d (omega (arith, lt))
all_left P (x ∷ xs) (suc i) all zero d lt = all zero d (omega arith)
all_left P (x ∷ xs) (suc i) all (suc k) d lt = all_left P xs i (λ n e l. all (suc n) e (omega (arith, l))) k d (omega (arith, lt))

-- ---- names without one of them

abbrev name_of : List ℕ × FileSystem → List ℕ
name_of e = e.0

module _ (m : FileSystems) (name : List ℕ) (i : ℕ) (at : IsAt (entries m) name i) where
  abbrev left : FileSystems
  left = from_sorted {R = name_cmp} (remove (entries m) i)

  in_order : T (is_sorted name_cmp (remove (entries m) i))
  in_order = left_sorted name_order.total (entries m) i (entries_sorted m)

  left_keys : keys left ≡ remove (keys m) i
  left_keys = map_removed name_of (entries m) (entries left) i (entries-from_sorted name_cmp (remove (entries m) i) in_order)

  at_left : (q : List ℕ) → get left q ≡ cond (is_eq (name_cmp q name)) None (get m q)
  at_left q =
      get-from_sorted name_cmp (remove (entries m) i) q in_order
      ∙ find_left name_order.total (entries m) i no_entry (entries_sorted m) at.within q
      ∙ ap (λ n. cond (is_eq (name_cmp q n)) None (find name_cmp q (entries m))) (at.named no_entry)
      ∙ ap (cond (is_eq (name_cmp q name)) None) (sym (get-entries m q))

  left_other : (q : List ℕ) → ¬ (q ≡ name) → get left q ≡ get m q
  left_other q ne = at_left q ∙ by_order (name_cmp q name) refl
    where
      by_order : (r : Ordering) → name_cmp q name ≡ r → cond (is_eq (name_cmp q name)) None (get m q) ≡ get m q
      by_order Less e = ap (λ r. cond (is_eq r) None (get m q)) e
      by_order Greater e = ap (λ r. cond (is_eq r) None (get m q)) e
      by_order Equal e = absurd (ne (name_order.exact q name e))

  left_name : get left name ≡ None
  left_name = at_left name ∙ ap (λ r. cond (is_eq r) None (get m name)) (tied_itself name_order.total name)

  -- the names of file systems that lack this one alone
  pub keys_without : (n : FileSystems) → get n name ≡ None → ((q : List ℕ) → ¬ (q ≡ name) → is_some (get m q) ≡ is_some (get n q)) → keys n ≡ remove (keys m) i
  keys_without n gone same = same_keys left n (λ q. ⊎_elim
      (λ (is : q ≡ name). ap is_some (ap (get n) is ∙ gone) ∙ sym (ap is_some (ap (get left) is ∙ left_name)))
      (λ (ne : ¬ (q ≡ name)). sym (same q ne) ∙ sym (ap is_some (left_other q ne)))
      (key_cases name_order q name))
      ∙ left_keys

  pub at_within : i < length (keys m)
  at_within = let l = keys_long m in let w = at.within in omega (arith, l, w)

  pub at_key : get_or (keys m) i [] ≡ name
  at_key = key_is m i at_within ∙ at.named no_entry

-- the names of file systems that have another name beside these
pub keys_with : (m n : FileSystems) (name : List ℕ) (i : ℕ) → IsGapFor (entries m) name i → is_some (get n name) ≡ is_some (Some empty_file_system)
    → ((q : List ℕ) → ¬ (q ≡ name) → is_some (get m q) ≡ is_some (get n q)) → keys n ≡ insert (keys m) i name
keys_with m n name i gap there same =
    same_keys (finmap.insert m name empty_file_system) n (λ q. ⊎_elim
    (λ (is : q ≡ name). ap (λ x. is_some (get n x)) is ∙ there ∙ sym (ap is_some (ap (get (finmap.insert m name empty_file_system)) is ∙ put_here m name empty_file_system)))
    (λ (ne : ¬ (q ≡ name)). sym (same q ne) ∙ sym (ap is_some (put_other m name empty_file_system q ne)))
    (key_cases name_order q name))
    ∙ ap (map name_of) (entries-insert name_order.total m name empty_file_system ∙ put_gap name_order.total (entries m) name empty_file_system i gap.within gap.below gap.above)
    ∙ map_put name_of (entries m) i (name, empty_file_system) gap.within

-- ---- the lines

module _ (old new : World) (name : List ℕ) (ch : IsRecounted old new name) (lines : List Line) (own : lines ≡ ledger_of old) where
  same_other : (q : List ℕ) → ¬ (q ≡ name) → is_some (get new.file_systems q) ≡ is_some (get old.file_systems q)
  same_other = ch.names

  lines_named : lines ≡ map (line_under old) (keys old.file_systems)
  lines_named = own ∙ ledger_named old

  pub lines_long : length lines ≡ length (keys old.file_systems)
  lines_long = ap length lines_named ∙ length-map (keys old.file_systems) (line_under old)

  -- both have it, or neither
  module _ (both : is_some (get new.file_systems name) ≡ is_some (get old.file_systems name)) where
    keys_stay : keys new.file_systems ≡ keys old.file_systems
    keys_stay = same_keys old.file_systems new.file_systems (λ q. ⊎_elim
        (λ (is : q ≡ name). ap (λ n. is_some (get new.file_systems n)) is ∙ both ∙ ap (λ n. is_some (get old.file_systems n)) (sym is))
        (same_other q)
        (key_cases name_order q name))

    pub lines_stay : lines ≡ map (line_under old) (keys new.file_systems)
    lines_stay = lines_named ∙ ap (map (line_under old)) (sym keys_stay)

    pub long_stay : length lines ≡ length (keys new.file_systems)
    long_stay = lines_long ∙ ap length (sym keys_stay)

  -- it is new
  module _ (i : ℕ) (at : IsAt (entries new.file_systems) name i) (gone : get old.file_systems name ≡ None) where
    fewer : keys old.file_systems ≡ remove (keys new.file_systems) i
    fewer = keys_without new.file_systems name i at old.file_systems gone same_other

    pub long_more : length lines + 1 ≡ length (keys new.file_systems)
    long_more =
        let a = lines_long in
        let b = ap length fewer in
        let w = at_within new.file_systems name i at in
        let r = length-remove (keys new.file_systems) i w in
        omega (arith, a, b, r)

    pub lines_more : insert lines i bare_line ≡ map (line_under old) (keys new.file_systems)
    lines_more =
        ap (λ ls. insert ls i bare_line) (lines_named ∙ ap (map (line_under old)) fewer ∙ map_removed (line_under old) (keys new.file_systems) (remove (keys new.file_systems) i) i refl)
        ∙ ap (insert (remove (map (line_under old) (keys new.file_systems)) i) i) (sym bare)
        ∙ put_back (map (line_under old) (keys new.file_systems)) i bare_line
        (let l = length-map (keys new.file_systems) (line_under old) in let w = at_within new.file_systems name i at in omega (arith, l, w))
      where
        bare : get_or (map (line_under old) (keys new.file_systems)) i bare_line ≡ bare_line
        bare =
            get_or-map (line_under old) (keys new.file_systems) i [] bare_line (at_within new.file_systems name i at)
            ∙ ap (line_under old) (at_key new.file_systems name i at)
            ∙ ap (λ x. option_map_or (λ f. line_in old (name, f)) x bare_line) gone

  -- it is gone
  module _ (i : ℕ) (gap : IsGapFor (entries new.file_systems) name i) (was : is_some (get old.file_systems name) ≡ is_some (Some empty_file_system)) where
    more : keys old.file_systems ≡ insert (keys new.file_systems) i name
    more = keys_with new.file_systems old.file_systems name i gap was same_other

    fits : i ≤ length (keys new.file_systems)
    fits = let l = keys_long new.file_systems in let w = gap.within in omega (arith, l, w)

    put : lines ≡ insert (map (line_under old) (keys new.file_systems)) i (line_under old name)
    put = lines_named ∙ ap (map (line_under old)) more ∙ map_put (line_under old) (keys new.file_systems) i name fits

    fits_lines : i ≤ length (map (line_under old) (keys new.file_systems))
    fits_lines = let l = length-map (keys new.file_systems) (line_under old) in let f = fits in omega (arith, l, f)

    pub lines_fewer : remove lines i ≡ map (line_under old) (keys new.file_systems)
    lines_fewer = ap (λ ls. remove ls i) put ∙ taken_back (map (line_under old) (keys new.file_systems)) i (line_under old name) fits_lines

    pub gone_line : (d : Line) → get_or lines i d ≡ line_under old name
    gone_line d = ap (λ ls. get_or ls i d) put ∙ get_or-insert_at (map (line_under old) (keys new.file_systems)) i (line_under old name) d fits_lines

    pub long_fewer : length lines ≡ length (keys new.file_systems) + 1
    long_fewer =
        let a = ap length put in
        let b = length-insert (map (line_under old) (keys new.file_systems)) i (line_under old name) fits_lines in
        let c = length-map (keys new.file_systems) (line_under old) in
        omega (arith, a, b, c)

    pub gone_within : i < length lines
    gone_within = let l = long_fewer in let f = fits in omega (arith, l, f)
