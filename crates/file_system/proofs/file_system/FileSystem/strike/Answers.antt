use Rattle.std.proofs.Common.{◌≡◌, Bool, map, sym, ap, subst, ◌∙◌, rules}
use Rattle.std.specs.Arc.{arc_value}
use Rattle.std.specs.BTreeSet.{contains}
use Rattle.std.specs.FinSet.{difference, from_list}
use Rattle.std.specs.List.{filter}
use Rattle.std.specs.Option.{option_map}
use Rattle.base.specs.Map.{Block, BlockSet, blocks}
use Rattle.base.specs.Surveys.{AreDifferent, dead_block}
use Rattle.base.specs.declared.number.Dead.{Dead}
use Rattle.world.specs.Sets.{Has}
use Rattle.file_system.specs.Alone.{entries_of, entries_at, dead_cmp, HasJust}
use Rattle.file_system.specs.Dead.{snaps_in}
use Rattle.file_system.specs.Origins.{blocks_below}
use Rattle.file_system.specs.Rows.{Row}
use Rattle.file_system.specs.Splices.{oldest_blocks}
use Rattle.file_system.proofs.Alones.{apart_still, left_over, oldest_listed}
use Rattle.std.proofs.lemmas.Fn.{filter_same}
use Rattle.file_system.proofs.file_system.FileSystem.strike.Goals as goal

pub invariant_of-alone : goal.invariant_of-alone
invariant_of-alone c =
    let p : Dead → Bool = λ d. contains dead_cmp c.in_ok-gone.gone d in
    let kept : c.retain.new.self.items ≡ filter p c.alone.inside.blocks.items = filter_same _ p _ (λ x b g k. search rules) _ _ c.retain.ensures.filtered in
    subst (λ l. AreDifferent (map dead_block l)) (sym kept) (apart_still p c.alone.inside.blocks.items c.alone.invariant)

pub returns-clause-ok : goal.returns-clause-ok
returns-clause-ok c =
    let p : Dead → Bool = λ d. contains dead_cmp c.in_ok-gone.gone d in
    let kept : c.retain.new.self.items ≡ filter p c.alone.inside.blocks.items = filter_same _ p _ (λ x b g k. search rules) _ _ c.retain.ensures.filtered in
    let ks = arc_value c.self.inside.snapshots in
    let es = (arc_value c.self.inside.dead).entries in
    let live = c.self.inside.live in
    let bs = blocks_below (option_map arc_value c.self.inside.origin) in
    let list : c.list.result.now ≡ ks = c.list.ensures ∙ c.deref.ensures in
    let first : c.dead_of-dead.result.now.entries ≡ entries_at ks 0 es = c.dead_of-dead.ensures ∙ (λ j. entries_of (c.get.ensures j) ((c.deref-2.ensures j).entries)) ∙ ap (λ l. entries_at l 0 es) list in
    let just : HasJust c.in_ok-gone.gone (entries_at ks 0 es) = subst (HasJust c.in_ok-gone.gone) first c.in_ok-gone.ensures.ok in
    let within : (b : Block) → Has (from_list (map dead_block c.alone.inside.blocks.items)) b → Has bs b =
    λ b h. subst (λ (r : Row). Has (blocks r.below) b) (sym c.self.view_is) (c.requires b (subst (λ (s : BlockSet). Has s b) c.alone.view_is h)) in
    ap (λ l. from_list (map dead_block l)) kept
    ∙ left_over p c.alone.inside.blocks.items (entries_at ks 0 es) bs (oldest_blocks live (snaps_in ks)) (λ d. (just d).0) (λ d. (just d).1) (oldest_listed bs ks live es c.self.invariant.accounted c.self.invariant.dead) within
    ∙ (λ j. difference (c.alone.view_is j) ((ap (λ (r : Row). oldest_blocks r.system.live r.system.snaps) c.self.view_is) j))
