-- What one snapshot has alone, by the next dead list.
use Rattle.std.proofs.Common.{◌≡◌, ◌≤◌, ◌+◌, ℕ, zero, suc, Bool, true, false, cond, List, [], ◌∷◌, ◌++◌, map, length, take, slice_get, Option, Some, None, true≢false, refl, sym, ap, subst, ◌∙◌, inl, inr, ⊎_elim, add-one, arith}
use Rattle.std.specs.BTreeMap.{is_at}
use Rattle.std.specs.BTreeSet.{BTreeSet, contains}
use Rattle.std.specs.Cmp.{tied_itself, Equal-is}
use Rattle.std.specs.Iterator.{Yields, YieldsFirst}
use Rattle.std.specs.List.{filter, list_any}
use Rattle.std.specs.Ordering.{is_eq}
use Rattle.std.specs.Arc.{arc_value}
use Rattle.std.specs.FinSet.{difference, from_list}
use Rattle.std.specs.Option.{option_map, option_map_or}
use Rattle.std.proofs.lemmas.List.Sorted.{IsPermutation-refl}
use Rattle.base.specs.Map.{Map, Block, BlockSet, block_cmp-IsAntisymmetric, blocks}
use Rattle.base.specs.Surveys.{IsIn, AreDifferent, dead_block}
use Rattle.base.specs.declared.number.Dead.{Dead}
use Rattle.deadlist.specs.Entries.{is_after, is_upto}
use Rattle.snapshots.specs.declared.kept.Kept.{Kept}
use Rattle.world.specs.Sets.{Has}
use Rattle.world.specs.Blocks.{block_order as o}
use Rattle.world.specs.Deadlists.{Lists}
use Rattle.world.specs.Worlds.{AreRising}
use Rattle.world.proofs.lists.Finding.{in_filter, from_filter, in_either, in_left, in_right, append_none}
use Rattle.world.proofs.lists.Lists.{in_listed, from_listed}
use Rattle.world.proofs.lists.SetCounts.{same_members, in_difference, from_difference}
use Rattle.file_system.specs.Alone.{entries_at, dead_cmp, HasJust}
use Rattle.file_system.specs.Dead.{snaps_in, newest_blocks, IsAbove, AreAccounted}
use Rattle.file_system.specs.Splices.{AreStacked, AreJoined, CanJoin, lost_from, oldest_blocks, blocks_before}
use Rattle.file_system.specs.Writes.{newest_group}
use Rattle.file_system.proofs.Stacks.{some_group, inside_at, last_lost, between_lost, lost_at, oldest_next}

-- ---- what is lost with a snapshot

none_past : (ks : List Kept) (i : ℕ) → slice_get ks i ≡ None → length ks ≤ i
none_past [] i e = omega arith
none_past (k ∷ ks) zero e = absurd (cc)
none_past (k ∷ ks) (suc i) e = let l = none_past ks i e in omega arith

module _ (bs : BlockSet) (base : ℕ) (ks : List Kept) (i g : ℕ) (live : Map) (es : List Dead) (accounted : AreAccounted bs ks)
    (own : Lists (map dead_block es) (difference (newest_blocks bs (snaps_in ks)) (blocks live))) (rising : AreRising base (snaps_in ks)) (each : AreStacked bs base (snaps_in ks))
    (above : IsAbove bs base live (snaps_in ks)) (at : option_map (λ (k : Kept). k.snapshot.group) (slice_get ks i) ≡ Some g) where
  abbrev it : (k : Kept) × (slice_get ks i ≡ Some k) × (k.snapshot.group ≡ g)
  it = some_group (slice_get ks i) g at

  -- as if it were joined to the next one
  abbrev joining : (next : List Dead) → AreJoined base ks i next ((arc_value it.0.dead).entries ++ filter (is_upto (newest_group base (snaps_in (take i ks)))) next) (filter (is_after (newest_group base (snaps_in (take i ks)))) next)
  joining next = record { gone = it.0; there = it.1; joined = IsPermutation-refl _; rest = refl }

  -- the younger entries of the next dead list
  pub alone_listed : Lists (map dead_block (filter (is_after (newest_group base (snaps_in (take i ks)))) (entries_at ks (i + 1) es))) (lost_from bs (snaps_in ks) live g)
  alone_listed = by (slice_get ks (i + 1)) refl
    where
      by : (o : Option Kept) → slice_get ks (i + 1) ≡ o
          → Lists (map dead_block (filter (is_after (newest_group base (snaps_in (take i ks)))) (option_map_or (λ (k : Kept). (arc_value k.dead).entries) o es))) (lost_from bs (snaps_in ks) live g)
      by None e =
          let within = inside_at ks i it.0 it.1 in
          let past = none_past ks (i + 1) e in
          last_lost bs base ks i g live es _ _ (joining es) accounted own rising each above at (omega arith)
      by (Some n) e =
          let next = (arc_value n.dead).entries in
          let within = inside_at ks (i + 1) n e in
          let can : CanJoin bs base ks i = record { accounted = accounted; rising = rising; each = each; next = within } in
          subst (Lists (map dead_block (filter (is_after (newest_group base (snaps_in (take i ks)))) next)))
          (sym (lost_at base g bs ks i it.0 live rising it.1 it.2
          ∙ ap (difference (difference (blocks it.0.snapshot.map) (blocks_before bs ks i))) (oldest_next live ks i n (ap (slice_get ks) (sym (add-one i)) ∙ e))))
          (between_lost bs base ks i can n e next _ _ refl (joining next))

-- ---- what the oldest dataset hasn't

pub oldest_listed : (bs : BlockSet) (ks : List Kept) (live : Map) (es : List Dead) → AreAccounted bs ks → Lists (map dead_block es) (difference (newest_blocks bs (snaps_in ks)) (blocks live))
    → Lists (map dead_block (entries_at ks 0 es)) (difference bs (oldest_blocks live (snaps_in ks)))
oldest_listed bs [] live es each own = own
oldest_listed bs (k ∷ ks) live es each own = each.0.dead

-- an element of what a list stands for
from_mapped : (ds : List Dead) (b : Block) → IsIn (map dead_block ds) b → (d : Dead) × IsIn ds d × (dead_block d ≡ b)
from_mapped [] b h = absurd h
from_mapped (d ∷ ds) b h = ⊎_elim (λ e. (d, inl refl, sym e)) (λ i. let m = from_mapped ds b i in (m.0, inr m.1, m.2)) h

in_mapped : (ds : List Dead) (d : Dead) → IsIn ds d → IsIn (map dead_block ds) (dead_block d)
in_mapped [] d h = absurd h
in_mapped (x ∷ ds) d h = ⊎_elim (λ e. inl (ap dead_block e)) (λ i. inr (in_mapped ds d i)) h

same_dead : (d e : Dead) → dead_block d ≡ dead_block e → d ≡ e
same_dead d e same = λ i. record { block = record { 0 = (same i).number }; birth = record { 0 = (same i).birth } }

-- entries stay apart
pub apart_still : (p : Dead → Bool) (ds : List Dead) → AreDifferent (map dead_block ds) → AreDifferent (map dead_block (filter p ds))
apart_still p [] h = tt
apart_still p (d ∷ ds) h = by (p d) (apart_still p ds h.1)
  where
    by : (b : Bool) → AreDifferent (map dead_block (filter p ds)) → AreDifferent (map dead_block (cond b (d ∷ filter p ds) (filter p ds)))
    by true rest = (
      (λ i.
          let m = from_mapped (filter p ds) (dead_block d) i in
          h.0 (subst (IsIn (map dead_block ds)) m.2 (in_mapped ds m.0 (from_filter p ds m.0 m.1).0))),
      rest,
    )
    by false rest = rest

-- what entries stand for
abbrev set_of : List Dead → BlockSet
set_of ds = from_list (map dead_block ds)

-- those of some blocks that a list has, which is of what these have and others haven't
pub left_over : (p : Dead → Bool) (ds es : List Dead) (bs oldest : BlockSet) → ((d : Dead) → p d ≡ true → IsIn es d) → ((d : Dead) → IsIn es d → p d ≡ true)
    → Lists (map dead_block es) (difference bs oldest) → ((b : Block) → Has (set_of ds) b → Has bs b)
    → set_of (filter p ds) ≡ difference (set_of ds) oldest
left_over p ds es bs oldest to from own within = same_members o (set_of (filter p ds)) (difference (set_of ds) oldest)
    (λ b h.
    let m = from_mapped (filter p ds) b (from_listed o (map dead_block (filter p ds)) b h) in
    let k = from_filter p ds m.0 m.1 in
    let gone = subst (λ s. Has s (dead_block m.0)) own.is (in_listed o (map dead_block es) (dead_block m.0) (in_mapped es m.0 (to m.0 k.1))) in
    subst (Has (difference (set_of ds) oldest)) m.2
    (in_difference o (set_of ds) oldest (dead_block m.0) (in_listed o (map dead_block ds) (dead_block m.0) (in_mapped ds m.0 k.0)) (from_difference o bs oldest (dead_block m.0) gone).1))
    (λ b h.
    let d = from_difference o (set_of ds) oldest b h in
    let m = from_mapped ds b (from_listed o (map dead_block ds) b d.0) in
    let gone = subst (λ s. Has s b) (sym own.is) (in_difference o bs oldest b (within b d.0) d.1) in
    let e = from_mapped es b (from_listed o (map dead_block es) b gone) in
    let same = same_dead e.0 m.0 (e.2 ∙ sym m.2) in
    subst (Has (set_of (filter p ds))) m.2
    (in_listed o (map dead_block (filter p ds)) (dead_block m.0) (in_mapped (filter p ds) m.0 (in_filter p ds m.0 m.1 (from m.0 (subst (IsIn es) same e.1))))))

-- ---- a set of entries

equal_dead : (d e : Dead) → is_eq (dead_cmp d e) ≡ true → d ≡ e
equal_dead d e h = same_dead d e (block_cmp-IsAntisymmetric (dead_block d) (dead_block e) ((Equal-is (dead_cmp d e)).0 h))

-- a set has one element more
pub one_more_just : (s n : BTreeSet Dead) (xs : List Dead) (e : Dead) → HasJust s xs → ((d : Dead) → contains dead_cmp n d ≡ cond (is_eq (dead_cmp e d)) true (contains dead_cmp s d)) → HasJust n (xs ++ e ∷ [])
one_more_just s n xs e just more = λ d. (
  (λ h. by d (is_eq (dead_cmp e d)) refl (sym (more d) ∙ h)),
  (λ i. more d ∙ ⊎_elim
      (λ j. ap (cond (is_eq (dead_cmp e d)) true) ((just d).1 j) ∙ either (is_eq (dead_cmp e d)))
      (λ j. ⊎_elim (λ same. ap (λ b. cond b true (contains dead_cmp s d)) (ap (λ x. is_eq (dead_cmp e x)) same ∙ ap is_eq (tied_itself o.total (dead_block e)))) (λ k. absurd k) j)
      (in_either xs (e ∷ []) d i)),
)
  where
    either : (b : Bool) → cond b true true ≡ true
    either true = refl
    either false = refl

    by : (d : Dead) (b : Bool) → is_eq (dead_cmp e d) ≡ b → cond b true (contains dead_cmp s d) ≡ true → IsIn (xs ++ e ∷ []) d
    by d true same h = in_right xs (e ∷ []) d (inl (sym (equal_dead e d same)))
    by d false same h = in_left xs (e ∷ []) d ((just d).0 h)

-- a set of nothing
pub none_just : (s : BTreeSet Dead) → s.keys ≡ [] → HasJust s []
none_just s none = λ d. ((λ h. absurd (true≢false (sym h ∙ ap (list_any (is_at (dead_cmp d))) none))), (λ i. absurd i))

-- ---- a walk

-- those that were yielded, and then those that are left
pub entries_front : {S A : Type 0} (rest : S → List A) (s : S) (xs : List A) (t : S) → Yields (YieldsFirst rest) s xs t → rest s ≡ xs ++ rest t
entries_front rest s [] t y = ap rest y
entries_front rest s (x ∷ xs) t y = y.1 ∙ ap (λ ys. x ∷ ys) (entries_front rest y.0 xs t y.2)

-- all of it, where nothing is left
pub entries_all : {S A : Type 0} (rest : S → List A) (s : S) (xs : List A) (t : S) → Yields (YieldsFirst rest) s xs t → rest t ≡ [] → rest s ≡ xs
entries_all rest s xs t y none = entries_front rest s xs t y ∙ ap (λ ys. xs ++ ys) none ∙ append_none xs
