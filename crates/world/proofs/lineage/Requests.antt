use Rattle.std.proofs.Common.{◌≡◌, ℕ, ◌<◌, ◌≤◌, inr, ⊎_elim, List, [], ◌∷◌, ap, arith}
use Rattle.world.specs.Blocks.{BlockSet}
use Rattle.world.specs.Lineage.{Row, IsSound}
use Rattle.world.specs.Shapes.{Name, SnapId, Dataset, SnapShape, Shapes, Before, before_next, before_live, row, IsAmong, HasSnapshot, IsTail, lineages, IsGood}
use Rattle.model.specs.World.{Live, Snapped}
use Rattle.world.specs.Requests.{LineageFacts}
use Rattle.world.proofs.lineage.Lineage.{below_born}
use Rattle.world.proofs.lineage.Replace.{live_in}
use Rattle.world.proofs.lineage.Drops.{base_of_row}
use Rattle.world.proofs.lineage.Moves.{group_is, snapshot_of_row}

-- the groups of a file system's snapshots are below the open group
groups_below : (g : ℕ) (name : Name) (live : BlockSet) (q : Before) (ss : List SnapShape) → ((d : Dataset) (n : Row Dataset) → IsTail g name live q ss d n → IsSound Dataset n) → (s : SnapShape) → IsAmong ss s → s.id.group < g
groups_below g name live q [] sound s h = absurd h
groups_below g name live q (x ∷ xs) sound s h = ⊎_elim
    (λ (e : s ≡ x).
    let r = live_in g name live (before_next x) xs in
    let l = base_of_row g name live (before_next x) xs (λ d n k. sound d n (inr k)) (Live name) (row g (before_live (before_next x) xs) live) r in
    let f = (sound (Live name) (row g (before_live (before_next x) xs) live) (inr r)).falls in
    let i : s.id.group ≡ x.id.group = ap (λ y. y.id.group) e in
    omega arith)
    (λ k. groups_below g name live (before_next x) xs (λ d n k. sound d n (inr k)) s k)
    h

snapshot_below : (m : Shapes) (g : ℕ) → IsGood m g → (id : SnapId) (s : SnapShape) → HasSnapshot m id s → id.group < g
snapshot_below m g good id s (name, f, at, a, is) =
    let q = good.closed name f at in
    let l = groups_below g name f.live q.0 f.snapshots (λ d n k. good.facts.sound d n (name, f, q.0, at, q.1, k)) s a in
    let i : s.id.group ≡ id.group = ap (λ y. y.group) is in
    omega arith

group_low : (m : Shapes) (g : ℕ) → IsGood m g → (d : Dataset) (n : Row Dataset) → lineages m g d n → n.group ≤ g
group_low m g good (Live name) n h = let e = group_is m g g good (omega arith) g (Live name) n h in omega arith
group_low m g good (Snapped id) n h =
    let e = group_is m g g good (omega arith) g (Snapped id) n h in
    let s = snapshot_of_row m g id n h in
    let l = snapshot_below m g good id s.0 s.1 in
    omega arith

pub lineage_facts : LineageFacts
lineage_facts m g good = (
  λ d n h.
      let s = good.facts.sound d n h in (
        s.gone,
        λ b has. (λ k. below_born (lineages m g) good.facts d n b h k, λ l. s.kept b has l),
        λ b has. (let l = s.born b has in let k = group_low m g good d n h in omega arith),
        s.falls,
      ),
  snapshot_below m g good,
)
