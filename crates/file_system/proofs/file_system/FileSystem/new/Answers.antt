use Rattle.std.proofs.Common.{◌≡◌, [], None, sym, ap, subst, ◌∙◌}
use Rattle.std.specs.FinMap as finmap
use Rattle.std.specs.FinSet.{difference}
use Rattle.base.specs.Map.{BlockSet, blocks}
use Rattle.deadlist.specs.Held.{Held}
use Rattle.world.specs.Deadlists.{Lists}
use Rattle.world.proofs.lineage.Bridge.{blocks_none}
use Rattle.file_system.specs.Dead.{snaps_in, AreAccounted, IsPlain}
use Rattle.file_system.specs.Rows.{system_of}
use Rattle.file_system.proofs.Counted.{fresh_counted}
use Rattle.file_system.proofs.Plain.{fresh_plain}
use Rattle.file_system.proofs.Accounts.{fresh_dead, nothing_before}
use Rattle.file_system.proofs.file_system.FileSystem.new.Goals as goal

-- there is no snapshot, and nothing is dead
pub invariant_of-result : goal.invariant_of-result
invariant_of-result c =
    let bare = c.in_ok-snapshots.ensures.ok ∙ c.new-3.ensures in
    record {
      accounted = subst (AreAccounted (blocks finmap.empty)) (sym bare) tt;
      dead = fresh_dead (blocks finmap.empty) _ _ (blocks c.new-5.result) (ap (λ (h : Held). h.entries) c.in_ok-dead.ensures.ok ∙ c.new.ensures.entries) bare
          (subst (λ (s : BlockSet). Lists [] (difference s (blocks c.new-5.result))) (sym blocks_none) (nothing_before (blocks c.new-5.result)));
      plain = subst IsPlain (sym c.in_ok-dead.ensures.ok) (fresh_plain c.new.result c.new.ensures.cuts c.new.ensures.waiting c.new.ensures.steps);
      counted = fresh_counted finmap.empty _ c.new-5.result _ bare (sym c.new-5.ensures) c.no_counts.ensures.by_dataset c.no_counts.ensures.by_snapshots;
    }

pub returns-clause-ok : goal.returns-clause-ok
returns-clause-ok c =
    let name : c.in_ok-name.name.value ≡ c.args.name.now = c.in_ok-name.ensures.ok in
    let bare = c.in_ok-snapshots.ensures.ok ∙ c.new-3.ensures in
    λ i. record { name = name i; system = system_of (c.new-5.ensures i) (snaps_in (bare i)) None (c.none.ensures i) (c.in_ok-bookmarks.ensures.ok i); below = finmap.empty }
