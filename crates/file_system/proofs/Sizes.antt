-- What has gone, by the entries of the dead lists.
use Rattle.std.proofs.Common.{◌≡◌, ◌+◌, ℕ, Bool, true, false, cond, List, [], ◌∷◌, ◌++◌, Bor, Some, None, map, length, refl, sym, ap, ◌∙◌, leb, ltb, arith}
use Rattle.std.proofs.lemmas.List.{length-map}
use Rattle.std.proofs.lemmas.List.Sums.{sum_by-cons}
use Rattle.std.specs.Arc.{arc_value}
use Rattle.std.specs.Iterator.{Yields, YieldsFirstRef}
use Rattle.std.specs.List.{filter, sum_by}
use Rattle.std.specs.FinSet.{difference}
use Rattle.base.specs.Map.{Map, BlockSet, blocks}
use Rattle.base.specs.Surveys.{dead_block}
use Rattle.base.specs.declared.number.Dead.{Dead}
use Rattle.snapshots.specs.declared.kept.Kept.{Kept}
use Rattle.world.specs.Deadlists.{Lists}
use Rattle.world.proofs.lineage.Deadlists.{dead_counts}
use Rattle.world.proofs.lists.Finding.{append_none}
use Rattle.file_system.specs.Dead.{snaps_in, newest_blocks, AreAccounted}
use Rattle.file_system.specs.Gone.{Gone, gone_in, is_asked, count_on, size_on, asked_count, kept_count, entry_count, gone_size}
use Rattle.file_system.specs.declared.gone.Asked.{Asked}
use Rattle.file_system.specs.declared.gone.Side.{Side}
use Rattle.file_system.specs.declared.gone.Side.TheVariants.{Upto, After}
use Rattle.file_system.proofs.Releases.{map_filter}

-- ---- a walk

-- those that were yielded, and then those that are left
pub yielded_front : {S A : Type 0} (rest : S → List A) (s : S) (xs : List (Bor A)) (t : S) → Yields (YieldsFirstRef rest) s xs t → rest s ≡ map (λ x. x.now) xs ++ rest t
yielded_front rest s [] t y = ap rest y
yielded_front rest s (x ∷ xs) t y = y.1 ∙ ap (λ ys. x.now ∷ ys) (yielded_front rest y.0 xs t y.2)

-- all of it, where nothing is left
pub yielded_all : {S A : Type 0} (rest : S → List A) (s : S) (xs : List (Bor A)) (t : S) → Yields (YieldsFirstRef rest) s xs t → rest t ≡ [] → rest s ≡ map (λ x. x.now) xs
yielded_all rest s xs t y none = yielded_front rest s xs t y ∙ ap (λ ys. map (λ x. x.now) xs ++ ys) none ∙ append_none _

-- ---- the sizes of what has gone

-- of one dead list
size_is : (side : Side) (cut : ℕ) (es : List Dead) (s : BlockSet) → Lists (map dead_block es) s → count_on side cut es ≡ size_on side cut s
size_is Upto cut es s own =
    sym (length-map (filter (λ (d : Dead). leb d.birth.0 cut) es) dead_block) ∙ ap length (map_filter dead_block (λ b. leb b.birth cut) es) ∙ (dead_counts (map dead_block es) s cut own).2
size_is After cut es s own =
    sym (length-map (filter (λ (d : Dead). ltb cut d.birth.0) es) dead_block) ∙ ap length (map_filter dead_block (λ b. ltb cut b.birth) es) ∙ (dead_counts (map dead_block es) s cut own).1

-- of one where it is asked for
one_more : (a : Asked) (g : Gone) (gs : List Gone) (es : List Dead) → Lists (map dead_block es) g.blocks → asked_count a g.group es + gone_size a gs ≡ gone_size a (g ∷ gs)
one_more a g gs es own = by (is_asked a g.group) (size_is a.side a.cut.0 es g.blocks own)
  where
    by : (b : Bool) → count_on a.side a.cut.0 es ≡ size_on a.side a.cut.0 g.blocks
        → cond b (count_on a.side a.cut.0 es) 0 + gone_size a gs ≡ sum_by (λ (x : Gone). size_on a.side a.cut.0 x.blocks) (cond b (g ∷ filter (λ (x : Gone). is_asked a x.group) gs) (filter (λ (x : Gone). is_asked a x.group) gs))
    by true e = let first = sum_by-cons (λ (x : Gone). size_on a.side a.cut.0 x.blocks) g (filter (λ (x : Gone). is_asked a x.group) gs) in omega arith
    by false e = omega arith

-- of them all
pub gone_counted : (a : Asked) (bs : BlockSet) (ks : List Kept) (es : List Dead) (live : Map) → AreAccounted bs ks → Lists (map dead_block es) (difference (newest_blocks bs (snaps_in ks)) (blocks live))
    → entry_count a ks es ≡ gone_size a (gone_in bs (snaps_in ks) live)
gone_counted a bs [] es live each own =
    let one = one_more a (record { group = None; blocks = difference bs (blocks live) }) [] es own in
    omega arith
gone_counted a bs (k ∷ ks) es live each own =
    let first = one_more a (record { group = Some k.snapshot.group; blocks = difference bs (blocks k.snapshot.map) }) (gone_in (blocks k.snapshot.map) (snaps_in ks) live) (arc_value k.dead).entries each.0.dead in
    let apart = sum_by-cons (kept_count a) k ks in
    let rest = gone_counted a (blocks k.snapshot.map) ks es live each.1 own in
    omega arith

-- all that has gone, where all is asked for
pub all_gone : (a : Asked) (gs : List Gone) → a.from ≡ None → a.until ≡ None → gone_size a gs ≡ sum_by (λ (g : Gone). size_on a.side a.cut.0 g.blocks) gs
all_gone a gs none none' = ap (λ (f : Asked). sum_by (λ (g : Gone). size_on a.side a.cut.0 g.blocks) (filter (λ (g : Gone). is_asked f g.group) gs)) same ∙ all gs
  where
    same : a ≡ record a { from = None; until = None }
    same = λ i. record a { from = none i; until = none' i }

    all : (gs : List Gone) → sum_by (λ (g : Gone). size_on a.side a.cut.0 g.blocks) (filter (λ (g : Gone). is_asked (record a { from = None; until = None }) g.group) gs) ≡ sum_by (λ (g : Gone). size_on a.side a.cut.0 g.blocks) gs
    all [] = refl
    all (g ∷ gs) =
        sum_by-cons (λ (x : Gone). size_on a.side a.cut.0 x.blocks) g (filter (λ (x : Gone). is_asked (record a { from = None; until = None }) x.group) gs)
        ∙ ap (λ n. size_on a.side a.cut.0 g.blocks + n) (all gs)
        ∙ sym (sum_by-cons (λ (x : Gone). size_on a.side a.cut.0 x.blocks) g gs)
