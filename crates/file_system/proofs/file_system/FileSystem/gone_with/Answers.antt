use Rattle.std.proofs.Common.{◌≡◌, ◌-◌, ◌^◌, min, ap, ◌∙◌, arith}
use Rattle.std.specs.List.{filter}
use Rattle.std.specs.Arc.{arc_value}
use Rattle.std.specs.Option.{option_map}
use Rattle.deadlist.specs.Held.{Held}
use Rattle.file_system.specs.Gone.{Gone, gone_in, dead_between, is_asked, entry_count, gone_size, whole_reach, lists_reach}
use Rattle.file_system.specs.Origins.{blocks_below}
use Rattle.file_system.specs.Rows.{Row}
use Rattle.file_system.specs.declared.gone.Asked.{Asked}
use Rattle.base.specs.Map.{blocks}
use Rattle.base.specs.declared.number.Group.{Group}
use Rattle.file_system.specs.Dead.{snaps_in}
use Rattle.file_system.proofs.Sizes.{gone_counted}
use Rattle.file_system.proofs.Segments.{reach_counted}
use Rattle.file_system.proofs.file_system.FileSystem.gone_with.Goals as goal

-- what the dead lists count is what has gone
pub returns-clause-count : goal.returns-clause-count
returns-clause-count c =
    let ks = arc_value c.self.inside.snapshots in
    let es = (arc_value c.self.inside.dead).entries in
    let a : Asked = c.args.asked in
    let kept : c.list.result.now ≡ ks = c.list.ensures ∙ c.deref.ensures in
    let dead : c.deref-2.result.now.entries ≡ es = ap (λ (h : Held). h.entries) c.deref-2.ensures in
    c.count_gone.ensures.count
    ∙ (λ i. min (2 ^ 64 - 1) (entry_count a (kept i) (dead i)))
    ∙ ap (λ n. min (2 ^ 64 - 1) n) (gone_counted a (blocks_below (option_map arc_value c.self.inside.origin)) ks es c.self.inside.live c.self.invariant.accounted c.self.invariant.dead)
    ∙ ap (λ (r : Row). min (2 ^ 64 - 1) (gone_size a (gone_in (blocks r.below) r.system.snaps r.system.live))) c.self.view_is

-- each of the lists is in order
pub returns-clause-meter : goal.returns-clause-meter
returns-clause-meter c =
    let ks = arc_value c.self.inside.snapshots in
    let h : Held = arc_value c.self.inside.dead in
    let a : Asked = c.args.asked in
    let kept : c.list.result.now ≡ ks = c.list.ensures ∙ c.deref.ensures in
    let few = reach_counted a (blocks_below (option_map arc_value c.self.inside.origin)) ks h c.self.inside.live c.self.invariant.accounted c.self.invariant.plain c.self.invariant.dead in
    let named : lists_reach (filter (λ (g : Gone). is_asked a g.group) (gone_in (blocks_below (option_map arc_value c.self.inside.origin)) (snaps_in ks) c.self.inside.live)) ≡ lists_reach (dead_between (option_map (λ (g : Group). g.0) c.args.asked.from) (option_map (λ (g : Group). g.0) c.args.asked.until) c.args.self.now) =
    ap (λ (r : Row). lists_reach (dead_between (option_map (λ (g : Group). g.0) c.args.asked.from) (option_map (λ (g : Group). g.0) c.args.asked.until) r)) c.self.view_is in
    let reached : whole_reach a c.list.result.now c.deref-2.result.now ≡ whole_reach a ks h = λ i. whole_reach a (kept i) (c.deref-2.ensures i) in
    let went = c.count_gone.ensures.meter in
    omega (arith, few, named, reached, went)
