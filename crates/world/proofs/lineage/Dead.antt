-- The facts on lineages in the definitions' words, and deadlists from rows.
use Rattle.std.proofs.Common.{◌≡◌, ℕ, ◌<◌, refl, sym, subst, ◌∙◌, arith}
use Rattle.std.specs.FinSet.{difference}
use Rattle.base.specs.Map.{Block, blocks}
use Rattle.model.specs.World.{World, Dataset, Live, Snapped, map_of}
use Rattle.world.specs.Sets.{Has}
use Rattle.world.specs.Lineage.{Row}
use Rattle.world.specs.Shapes.{IsGood, lineages}
use Rattle.world.specs.Worlds.{shapes}
use Rattle.world.specs.Dead.{base_of, below_of, dead_of, IsThere, group_of, IsInLine}
use Rattle.world.proofs.lineage.Moves.{group_is}
use Rattle.world.proofs.lineage.Moves.{group_of as group_in}
use Rattle.world.proofs.lineage.Lineage.{birthplace}
use Rattle.world.proofs.lineage.Requests.{lineage_facts}
use Rattle.world.proofs.lineage.Bridge.{row_blocks, row_prev, kept_there, live_there, live_row, has_row}

module _ (w : World) (g : ℕ) (good : IsGood (shapes w.file_systems) g) where
  pub there_row : (d : Dataset) → IsThere w d → (n : Row Dataset) × lineages (shapes w.file_systems) g d n
  there_row (Live name) h = (live_row w.file_systems g good name h.0 h.1, live_there w.file_systems g good name h.0 h.1)
  there_row (Snapped id) h =
      let r = kept_there w g good h.0 h.1 h.2 h.3 h.4 in
      (r.0, subst (λ i. lineages (shapes w.file_systems) g (Snapped i) r.0) h.5 r.1)

  module _ (d : Dataset) (n : Row Dataset) (h : lineages (shapes w.file_systems) g d n) where
    pub row_base : n.base ≡ base_of w d
    unfolding base_of
    row_base = (row_prev w g good d n h).1

    pub row_below : n.below ≡ below_of w d
    unfolding below_of
    row_below = (row_prev w g good d n h).2

    pub row_dead : n.dead ≡ dead_of w d
    unfolding dead_of
    row_dead = (good.facts.sound d n h).gone ∙ (λ i. difference (row_below i) (row_blocks w g good d n h i))

  -- what holds of each dataset that is there
  module _ (same : g ≡ w.group) where
    pub in_line : (d : Dataset) → IsThere w d → IsInLine w d
    in_line d there =
        let r = there_row d there in
        let n = r.0 in
        let h = r.1 in
        let f = (lineage_facts (shapes w.file_systems) g good).0 d n h in
        let s = good.facts.sound d n h in
        let blocks_is = row_blocks w g good d n h in
        let base_is = row_base d n h in
        let group_is' : n.group ≡ group_of w d = group_is (shapes w.file_systems) g g good (omega arith) g d n h ∙ by_case d in
        record {
          born = λ b k. let l = s.born b (subst (λ x. Has x b) (sym blocks_is) k) in omega arith;
          falls = let l = s.falls in omega arith;
          kept = λ b k.
              let e = f.1 b (subst (λ x. Has x b) (sym blocks_is) k) in (
                λ i. let l = e.0 (subst (λ x. Has x b) (sym (row_below d n h)) i) in omega arith,
                λ l. subst (λ x. Has x b) (row_below d n h) (e.1 (omega arith)),
              );
          open_group = λ b k. let l = f.2 b (subst (λ x. Has x b) (sym blocks_is) k) in omega arith;
        }
      where
        by_case : (d : Dataset) → group_in g d ≡ group_of w d
        by_case (Live name) = same
        by_case (Snapped id) = refl

  -- a block's birth is after 0
  pub born_late : (d : Dataset) (b : Block) → Has (blocks (map_of w d)) b → 0 < b.birth
  born_late d b h =
      let x = has_row w g good d b h in
      let p = birthplace (lineages (shapes w.file_systems) g) good.facts d x.0 b x.1 x.2 in
      let l = p.4 in omega arith

-- the same row in two worlds: the same deadlist, base and blocks
