use Rattle.std.proofs.Common.{◌≡◌, sym, subst}
use Rattle.std.specs.Prelude.{IsSome, IfSome, OnOk}
use Rattle.world.specs.Outcomes.{promotion_of}
use Rattle.world.specs.Tables.{Datasets, world_of, CanPromote}
use Rattle.datasets.specs.Clones.{with_promoted}
use Rattle.datasets.proofs.Promoted.{can_promote, promoted_table, promoted_is}
use Rattle.datasets.proofs.table.Table.promote.Goals as goal

pub promote-requires : goal.promote-requires
promote-requires c =
    can_promote (record { file_systems = c.self.inside.systems; group = c.self.inside.group.0 }) c.self.invariant c.args.name.now
    (subst (λ (t : Datasets). IsSome (promotion_of (world_of t) c.args.name.now)) (sym c.self.view_is) c.requires.there)
    (subst (λ (t : Datasets). IfSome (promotion_of (world_of t) c.args.name.now) (CanPromote t c.args.name.now)) (sym c.self.view_is) c.requires.can)

pub invariant_of-self : goal.invariant_of-self
invariant_of-self c =
    promoted_table (record { file_systems = c.self.inside.systems; group = c.self.inside.group.0 }) c.self.invariant c.args.name.now
    (subst (λ (t : Datasets). IsSome (promotion_of (world_of t) c.args.name.now)) (sym c.self.view_is) c.requires.there)
    (subst (λ (t : Datasets). IfSome (promotion_of (world_of t) c.args.name.now) (CanPromote t c.args.name.now)) (sym c.self.view_is) c.requires.can)
    c.promote.result c.promote.new.self c.promote.ensures.ok c.promote.ensures.err

pub returns-clause-ok : goal.returns-clause-ok
returns-clause-ok c =
    subst (λ (t : Datasets). IfSome (promotion_of (world_of t) c.args.name.now)
    (λ p. OnOk c.promote.result (record { file_systems = c.promote.new.self; group = c.self.inside.group.0 } ≡ with_promoted t c.args.name.now p))) c.self.view_is
    (promoted_is (record { file_systems = c.self.inside.systems; group = c.self.inside.group.0 }) c.self.invariant c.args.name.now
    (subst (λ (t : Datasets). IsSome (promotion_of (world_of t) c.args.name.now)) (sym c.self.view_is) c.requires.there)
    (subst (λ (t : Datasets). IfSome (promotion_of (world_of t) c.args.name.now) (CanPromote t c.args.name.now)) (sym c.self.view_is) c.requires.can)
    c.promote.result c.promote.new.self c.promote.ensures.ok)
