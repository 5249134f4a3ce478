-- The other steps on worlds: a live map becomes another, a snapshot is taken, the open group goes up, a file system is made or goes.
use Rattle.std.proofs.Common.{◌≡◌, ℕ, ◌<◌, ◌≤◌, Option, Some, None, refl, sym, subst, ◌∙◌, ◌⊎◌, ◌↔◌, inl, inr, ⊎_elim, arith}
use Rattle.std.specs.FinSet.{difference}
use Rattle.world.specs.Blocks.{BlockSet, Block, after}
use Rattle.world.specs.Sets.{Has}
use Rattle.world.specs.Lineage.{Row, IsSound, IsPrior, IsLeaf, IsUnion, Puts}
use Rattle.world.specs.Shapes.{Name, SnapId, Dataset, Shape, Shapes, Before, before_live, row, Starts, IsTail, lineages, IsGood, WriteKeeps}
use Rattle.model.specs.World.{Live}
use Rattle.world.proofs.lineage.Lineage.{below_born}
use Rattle.world.proofs.lineage.Steps.{prior_kept, put_keeps, put_loses, own_of_leaf}
use Rattle.world.proofs.lineage.Replace.{live_or_snap, one_to_an_id, one_start, Elsewhere, from_old, to_old, rows_apart, from_new, to_new, to_new_else, dataset_cases, tail_live, snap_in, live_in, snap_row_id, prev_is_snap, has_there, has_back, closed_new, placed_new}

module _ (m m' : Shapes) (g : ℕ) (good : IsGood m g) (name : Name) (f : Shape) (at : m name ≡ Some f) (live : BlockSet) (here : m' name ≡ Some (record f { live = live })) (others : (other : Name) → ¬ (other ≡ name) → m' other ≡ m other) (q : Before) (st : Starts m f.origin q)
    (each : (b : Block) → Has live b → Has f.live b ⊎ Has (before_live q f.snapshots).below b ⊎ ((b.birth ≡ g) × ((d : Dataset) (n : Row Dataset) → lineages m g d n → ¬ (Has n.blocks b)))) where
  abbrev f' : Shape
  f' = record f { live = live }

  abbrev pub qL : Before
  qL = before_live q f.snapshots

  abbrev pub rowL : Row Dataset
  rowL = row g qL f.live

  starts : (other : Name) (e : Shape) (r : Before) → m other ≡ Some e → Starts m e.origin r ↔ Starts m' e.origin r
  starts other e r is = go e.origin
    where
      go : (origin : Option SnapId) → Starts m origin r ↔ Starts m' origin r
      go None = (λ k. k, λ k. k)
      go (Some id) = (λ k. (k.0, has_there m m' name f f' at here others (λ t a. a) id k.0 k.1, k.2), λ k. (k.0, has_back m m' name f f' at here others id k.0 (λ t i a. a) k.1, k.2))

  pub in_old : lineages m g (Live name) rowL
  in_old = (name, f, q, at, st, live_in g name f.live q f.snapshots)

  sound_old : IsSound Dataset rowL
  sound_old = good.facts.sound (Live name) rowL in_old

  pub leaf : IsLeaf Dataset (lineages m g) (Live name)
  leaf d n h = prev_is_snap m g d n name h

  born_below : (b : Block) → Has qL.below b → b.birth ≤ qL.base
  born_below b = below_born (lineages m g) good.facts (Live name) rowL b in_old

  sound_new : IsSound Dataset (row g qL live)
  sound_new = record {
    born = λ b h. ⊎_elim (λ k. sound_old.born b k) (⊎_elim (λ k. let l = born_below b k in let x = sound_old.falls in omega arith) (λ k. let e = k.0 in omega arith)) (each b h);
    falls = sound_old.falls;
    kept = λ b h l. ⊎_elim (λ k. sound_old.kept b k l) (⊎_elim (λ k. k) (λ k. let e = k.0 in let x = sound_old.falls in absurd (omega arith))) (each b h);
    gone = refl;
  }

  pub puts : Puts Dataset (lineages m g) (lineages m' g) (Live name) (row g qL live)
  puts = record {
    new = λ d n h. ⊎_elim
        (λ (r, rs, k).
        let r_is = one_start m (one_to_an_id m g good) f.origin r q rs st in
        ⊎_elim
        (λ l. let i = snap_row_id q f.snapshots d n l in inr ((λ e. live_or_snap name i.0.id (sym e ∙ i.2)), (name, f, q, at, st, snap_in g name f.live q f.snapshots d n l)))
        inl
        (tail_live g name live q f.snapshots d n (subst (λ x. IsTail g name live x f.snapshots d n) r_is k)))
        (λ k. inr ((λ e. rows_apart m name f at g good.placed q (Live name) rowL n (live_in g name f.live q f.snapshots) (subst (λ x. Elsewhere m name g x n) e k)), to_old m name f at g d n k))
        (from_new m name f at g f' m' here others refl starts d n h);
    here = to_new m name f at g f' m' here others refl starts q st (Live name) (row g qL live) (live_in g name live q f.snapshots);
    rest = λ d n ne h. ⊎_elim
        (λ (r, rs, k).
        let r_is = one_start m (one_to_an_id m g good) f.origin r q rs st in
        ⊎_elim
        (λ l. to_new m name f at g f' m' here others refl starts q st d n (snap_in g name live q f.snapshots d n l))
        (λ l. absurd (ne l.0))
        (tail_live g name f.live q f.snapshots d n (subst (λ x. IsTail g name f.live x f.snapshots d n) r_is k)))
        (λ k. to_new_else m name f at g f' m' here others refl starts d n k)
        (from_old m name f at g d n h);
  }

  ready : IsPrior Dataset (lineages m' g) qL.prev qL.base qL.below
  ready = prior_kept dataset_cases (lineages m g) (lineages m' g) good.facts (Live name) (row g qL live) puts qL.prev qL.base qL.below (leaf (Live name) rowL in_old) (good.facts.prior (Live name) rowL in_old)

  brings : (b : Block) → Has live b → qL.base < b.birth → (d : Dataset) (n : Row Dataset) → ¬ (d ≡ Live name) → lineages m g d n → ¬ (Has n.blocks b)
  brings b h lt d n ne k = ⊎_elim
      (λ x. own_of_leaf dataset_cases (lineages m g) (lineages m g) good.facts (Live name) rowL in_old leaf b x lt d n ne k)
      (⊎_elim (λ x. let l = born_below b x in absurd (omega arith)) (λ x. x.1 d n k))
      (each b h)

  good' : IsGood m' g
  good' = record {
    facts = put_keeps dataset_cases (lineages m g) (lineages m' g) good.facts (Live name) (row g qL live) puts leaf sound_new ready brings;
    closed = closed_new m m' name f f' at here others good.closed refl starts;
    placed = placed_new m m' name f f' at here others good.placed (λ t a. inl a);
  }

  loses : (u u' : BlockSet) → IsUnion Dataset (lineages m g) u → IsUnion Dataset (lineages m' g) u' → difference (after qL.base f.live) live ≡ difference u u'
  loses = put_loses dataset_cases (lineages m g) (lineages m' g) good.facts (Live name) (row g qL live) puts leaf sound_new ready brings rowL in_old refl refl

pub write_keeps : WriteKeeps
write_keeps old new g name live q good p st each = (
  good' old new g good name p.system p.at live p.here p.others q st each,
  loses old new g good name p.system p.at live p.here p.others q st each,
)
