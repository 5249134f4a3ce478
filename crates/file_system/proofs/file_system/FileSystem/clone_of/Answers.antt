use Rattle.std.proofs.Common.{◌≡◌, [], sym, ap, subst, ◌∙◌}
use Rattle.std.specs.Arc.{arc_value}
use Rattle.std.specs.FinSet.{difference}
use Rattle.base.specs.Map.{Map, blocks}
use Rattle.deadlist.specs.Held.{Held}
use Rattle.world.specs.Deadlists.{Lists}
use Rattle.file_system.specs.Dead.{AreAccounted, IsPlain}
use Rattle.file_system.proofs.Counted.{fresh_counted}
use Rattle.file_system.proofs.Plain.{fresh_plain}
use Rattle.file_system.proofs.Accounts.{fresh_dead, nothing_dead}
use Rattle.file_system.proofs.file_system.FileSystem.clone_of.Goals as goal

-- there is no snapshot, and the live map has what the origin has
pub invariant_of-result : goal.invariant_of-result
invariant_of-result c =
    let none = c.in_ok-snapshots.ensures.ok ∙ c.new-3.ensures in
    let below = (arc_value c.in_ok-origin.origin).tree in
    let same : below ≡ c.in_ok-live.live = c.in_ok-origin.ensures.tree ∙ sym (c.in_ok-live.ensures.ok ∙ c.tree.ensures) in
    record {
      accounted = subst (AreAccounted (blocks below)) (sym none) tt;
      dead = fresh_dead (blocks below) _ _ (blocks c.in_ok-live.live) (ap (λ (h : Held). h.entries) c.in_ok-dead.ensures.ok ∙ c.new.ensures.entries) none
          (subst (λ (m : Map). Lists [] (difference (blocks m) (blocks c.in_ok-live.live))) (sym same) (nothing_dead (blocks c.in_ok-live.live)));
      plain = subst IsPlain (sym c.in_ok-dead.ensures.ok) (fresh_plain c.new.result c.new.ensures.cuts c.new.ensures.waiting c.new.ensures.steps);
      counted = fresh_counted below _ c.in_ok-live.live _ none same c.no_counts.ensures.by_dataset c.no_counts.ensures.by_snapshots;
    }
