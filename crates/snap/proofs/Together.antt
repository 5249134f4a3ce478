-- Lists of different blocks, and the sets that they are of.
use Rattle.std.proofs.Common.{◌≡◌, ℕ, List, [], ◌∷◌, ◌++◌, length, map, refl, sym, ap, subst, ◌∙◌, inl, inr, ⊎_elim, append-nil}
use Rattle.std.specs.FinMap as finmap
use Rattle.std.specs.FinMap.{values, entries}
use Rattle.std.specs.FinSet as set
use Rattle.std.specs.FinSet.{union, difference, from_list, len}
use Rattle.base.specs.declared.number.Key.{Key}
use Rattle.base.specs.Map.{Map, Cell, Block, BlockSet, block_of, blocks}
use Rattle.base.specs.Surveys.{IsIn, AreDifferent}
use Rattle.node.specs.Unique.{IsUnique}
use Rattle.tree.specs.Branch.{Branch, branch_blocks}
use Rattle.world.specs.Blocks.{block_order as o, after}
use Rattle.world.specs.Deadlists.{Lists, entries_after}
use Rattle.world.specs.Sets.{Has, IsSubset, AreDisjoint}
use Rattle.world.specs.Shapes.{key_order}
use Rattle.world.specs.Usage.{IsEntry, AreApart}
use Rattle.world.proofs.lineage.Bridge.{no_block}
use Rattle.world.proofs.lineage.Deadlists.{dead_counts}
use Rattle.world.proofs.lists.Lists.{in_listed, from_listed, from_list-append, once_append, stands_left, stands_right, stands_either, len-from_list}
use Rattle.world.proofs.lists.Maps.{at_entry, entries_apart}
use Rattle.world.proofs.lists.SetCounts.{no-empty, same_members, in_union_left, in_union_right, from_union, in_difference, from_difference, from_retain}
use Rattle.snap.specs.Members.{born_after, tops_after}

-- the blocks of a map of different numbers are different
in_values : (es : List (Key × Cell)) (b : Block) → IsIn (map block_of (map (λ e. e.1) es)) b → (k : Key) × (x : Cell) × IsEntry es k x × (block_of x ≡ b)
in_values [] b h = absurd h
in_values (e ∷ es) b h = ⊎_elim (λ is. (e.0, e.1, inl (refl, refl), sym is)) (λ r. let i = in_values es b r in (i.0, i.1, inr i.2, i.3)) h

values_different : (es : List (Key × Cell)) → AreApart es → ((j k : Key) (x y : Cell) → IsEntry es j x → IsEntry es k y → block_of x ≡ block_of y → j ≡ k) → AreDifferent (map block_of (map (λ e. e.1) es))
values_different [] a inj = tt
values_different (e ∷ es) a inj = (
  λ h. let i = in_values es (block_of e.1) h in a.0 i.0 i.1 i.2 (inj i.0 e.0 i.1 e.1 (inr i.2) (inl (refl, refl)) i.3),
  values_different es a.1 (λ j k x y h g n. inj j k x y (inr h) (inr g) n),
)

-- the blocks of a tree that were born after a cut
pub tree_lists : (m : Map) (top : Branch) (cut : ℕ) → IsUnique m → top.map ≡ m → Lists (born_after cut top) (after cut (blocks m)) × (length (born_after cut top) ≡ len (after cut (blocks m)))
unfolding branch_blocks blocks
tree_lists m top cut unique is =
    let once = values_different (entries m) (entries_apart key_order m) (λ j k x y h g e. unique.one j k x y (at_entry key_order m j x h) (at_entry key_order m k y g) (ap (λ (z : Block). z.number) e)) in
    let all = dead_counts (map block_of (values m)) (blocks m) cut (record { once = once; is = refl }) in
    subst (λ (n : Map). Lists (entries_after cut (map block_of (values n))) (after cut (blocks m)) × (length (entries_after cut (map block_of (values n))) ≡ len (after cut (blocks m)))) (sym is) (all.3, all.1)

-- those of the tree's top, as the only one of several
pub top_lists : (m : Map) (top : Branch) (tops : List Branch) (cut : ℕ) → tops ≡ top ∷ [] → IsUnique m → top.map ≡ m
    → Lists (tops_after cut tops) (after cut (blocks m)) × (length (tops_after cut tops) ≡ len (after cut (blocks m)))
top_lists m top tops cut one unique is =
    subst (λ bs. Lists bs (after cut (blocks m)) × (length bs ≡ len (after cut (blocks m)))) (sym (ap (tops_after cut) one ∙ append-nil (born_after cut top))) (tree_lists m top cut unique is)

-- an empty tree has none
pub none_added : (s : BlockSet) (m : Map) (cut : ℕ) → m ≡ finmap.empty → s ≡ union s (after cut (blocks m))
none_added s m cut is = same_members o s (union s (after cut (blocks m)))
    (λ b h. in_union_left o s (after cut (blocks m)) b h)
    (λ b h. ⊎_elim
    (λ i. i)
    (λ i. absurd (no_block b (subst (λ n. Has (blocks n) b) is (from_retain o (blocks m) _ b i).0)))
    (from_union o s (after cut (blocks m)) b h))

-- nothing is added where there is none
pub nothing_added : (s t : BlockSet) → t ≡ set.empty → s ≡ union s t
nothing_added s t none = same_members o s (union s t)
    (λ b h. in_union_left o s t b h)
    (λ b h. ⊎_elim
    (λ i. i)
    (λ i. absurd (no-empty o b (subst (λ (u : BlockSet). Has u b) none i)))
    (from_union o s t b h))

-- different blocks before others
pub added : (new old : List Block) (s : BlockSet) → Lists new s → AreDifferent old → AreDisjoint (from_list old) s → AreDifferent (new ++ old) × (from_list (new ++ old) ≡ union (from_list old) s)
added new old s own once apart = (
  once_append o new old own.once once (λ b i j. apart b (in_listed o old b j) (subst (λ t. Has t b) own.is (in_listed o new b i))),
  from_list-append o new old
      ∙ ap (λ t. union t (from_list old)) own.is
      ∙ same_members o (union s (from_list old)) (union (from_list old) s)
      (λ b h. ⊎_elim (λ i. in_union_right o (from_list old) s b i) (λ i. in_union_left o (from_list old) s b i) (from_union o s (from_list old) b h))
      (λ b h. ⊎_elim (λ i. in_union_right o s (from_list old) b i) (λ i. in_union_left o s (from_list old) b i) (from_union o (from_list old) s b h)),
)

-- a list of different blocks in two parts
once_parts : (xs ys : List Block) → AreDifferent (xs ++ ys) → AreDifferent xs × AreDifferent ys × ((b : Block) → IsIn xs b → IsIn ys b → ⊥)
once_parts [] ys h = (tt, h, λ b i j. i)
once_parts (x ∷ xs) ys h =
    let rest = once_parts xs ys h.1 in (
      ((λ i. h.0 (stands_left o xs ys x i)), rest.0),
      rest.1,
      λ b i j. ⊎_elim (λ (e : b ≡ x). h.0 (stands_right o xs ys x (subst (IsIn ys) e j))) (λ k. rest.2 b k j) i,
    )

-- what is taken of different blocks, and what is left
pub record AreParted (taken rest : List Block) (s : BlockSet) : Type 0 where
  pub once : AreDifferent taken
  pub once_left : AreDifferent rest
  pub within : IsSubset (from_list taken) s
  pub left : from_list rest ≡ difference s (from_list taken)

pub parted : (taken rest all : List Block) → taken ++ rest ≡ all → AreDifferent all → AreParted taken rest (from_list all)
parted taken rest all is once =
    let parts = once_parts taken rest (subst AreDifferent (sym is) once) in
    record {
      once = parts.0;
      once_left = parts.1;
      within = λ b h. in_listed o all b (subst (λ bs. IsIn bs b) is (stands_left o taken rest b (from_listed o taken b h)));
      left = same_members o (from_list rest) (difference (from_list all) (from_list taken))
          (λ b h.
          let i = from_listed o rest b h in
          in_difference o (from_list all) (from_list taken) b (in_listed o all b (subst (λ bs. IsIn bs b) is (stands_right o taken rest b i))) (λ t. parts.2 b (from_listed o taken b t) i))
          (λ b h.
          let d = from_difference o (from_list all) (from_list taken) b h in
          ⊎_elim (λ i. absurd (d.1 (in_listed o taken b i))) (λ i. in_listed o rest b i) (stands_either o taken rest b (subst (λ bs. IsIn bs b) (sym is) (from_listed o all b d.0))));
    }

-- how many blocks a set of different ones has
pub len_is : (all : List Block) (s : BlockSet) (n : ℕ) → n ≡ length all → AreDifferent all → from_list all ≡ s → n ≡ len s
len_is all s n long once is = long ∙ sym (len-from_list o all once) ∙ ap len is
