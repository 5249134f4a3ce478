-- The counts of a file system, by the entries of its dead lists.
use Rattle.std.proofs.Common.{◌≡◌, ◌+◌, ℕ, List, map, None, sym, ap, ◌∙◌}
use Rattle.std.specs.List.{sum_by}
use Rattle.std.specs.FinSet.{len, difference}
use Rattle.base.specs.Map.{Map, blocks}
use Rattle.base.specs.Surveys.{dead_block}
use Rattle.base.specs.declared.number.Dead.{Dead}
use Rattle.snapshots.specs.declared.kept.Kept.{Kept}
use Rattle.world.specs.Deadlists.{Lists}
use Rattle.file_system.specs.Counts.{AreLined, dataset_count, snapshots_count}
use Rattle.file_system.specs.Dead.{snaps_in, newest_blocks, AreAccounted}
use Rattle.file_system.specs.Gone.{Gone, gone_in, entry_count, size_on}
use Rattle.file_system.specs.declared.gone.Asked.{Asked}
use Rattle.file_system.specs.declared.gone.Side.{Side}
use Rattle.file_system.specs.declared.gone.Side.TheVariants.{Upto, After}
use Rattle.file_system.proofs.Lines.{dataset_is, snapshots_are}
use Rattle.file_system.proofs.Sizes.{gone_counted, all_gone}

module _ (below : Map) (ks : List Kept) (es : List Dead) (live : Map) (each : AreAccounted (blocks below) ks)
    (own : Lists (map dead_block es) (difference (newest_blocks (blocks below) (snaps_in ks)) (blocks live)))
    (base : ℕ) (lined : AreLined below base (snaps_in ks) live) (a : Asked) (first : a.from ≡ None) (last : a.until ≡ None) (cut : a.cut.0 ≡ base) where
  counted : (side : Side) → a.side ≡ side → entry_count a ks es ≡ sum_by (λ (g : Gone). size_on side base g.blocks) (gone_in (blocks below) (snaps_in ks) live)
  counted side is =
      gone_counted a (blocks below) ks es live each own
      ∙ all_gone a (gone_in (blocks below) (snaps_in ks) live) first last
      ∙ λ i. sum_by (λ (g : Gone). size_on (is i) (cut i) g.blocks) (gone_in (blocks below) (snaps_in ks) live)

  -- what the snapshots have alone
  pub alone_counted : a.side ≡ After → entry_count a ks es ≡ snapshots_count below (snaps_in ks) live
  alone_counted is = counted After is ∙ sym (snapshots_are below base (snaps_in ks) live lined)

  -- what the live map has of its own
  pub own_counted : a.side ≡ Upto → dataset_count below live + len (blocks below) ≡ len (blocks live) + entry_count a ks es
  own_counted is = dataset_is below base (snaps_in ks) live lined ∙ ap (λ n. len (blocks live) + n) (sym (counted Upto is))
