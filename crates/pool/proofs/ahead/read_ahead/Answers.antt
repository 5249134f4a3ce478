-- One more block has its leaf or none; and the nodes read are those of the live map.
use Rattle.std.proofs.Common.{◌≡◌, ◌↔◌, ℕ, ◌+◌, ◌<◌, ◌≤◌, cond, List, [], ◌∷◌, ◌++◌, Option, Some, None, length, get_or, take, min, refl, sym, ap, subst, ◌∙◌, true≢false, arith}
use Rattle.std.specs.Prelude.{IfSome, IsNone}
use Rattle.std.specs.List.{filter_map, cons_option}
use Rattle.std.specs.Option.{option_copied}
use Rattle.std.specs.FinMap.{len, len-empty}
use Rattle.std.proofs.lemmas.List.{append-nil, length-set, take_more, take_more_set, take_min}
use Rattle.std.proofs.lemmas.List.Elements.{filter_map-append}
use Rattle.base.specs.Key.{key_cmp, leaf_index}
use Rattle.base.specs.Map.{Cell}
use Rattle.tree.specs.Ahead.{many_blocks, present_on_paths}
use Rattle.tree.specs.Blocks.{IsNoBlock}
use Rattle.tree.proofs.Paths.{none_there}
use Rattle.model.specs.Targets.{is_block}
use Rattle.model.specs.declared.request.ObjectBlock.{ObjectBlock}
use Rattle.model.proofs.Blocks.{block_tells, not_false}
use Rattle.datasets.specs.Rows.{live_of}
use Rattle.image.proofs.LiveTrees.{found_live, absent_live}
use Rattle.pool.specs.Ahead.{leaves_in}
use Rattle.pool.proofs.ahead.read_ahead.Goals as goal
use Rattle.pool.proofs.ahead.read_ahead.Goals.{in-Some-leaf_of, in_default-leaf_of}

abbrev leaf_at : ObjectBlock → Option ℕ
leaf_at b = cond (is_block b.object b.block) (Some (leaf_index b.object b.block)) None

abbrev no_block : ObjectBlock
no_block = record { object = 0; block = 0 }

-- what is told of a block's leaf is what the test gives
told : (b : ObjectBlock) (r : Option ℕ) → IfSome r (λ l. l ≡ leaf_index b.object b.block) → IsNone r ↔ IsNoBlock b.object b.block → leaf_at b ≡ r
told b None is none = ap (λ t. cond t (Some (leaf_index b.object b.block)) None) ((block_tells b.object b.block none).0 refl)
told b (Some l) is none =
    ap (λ t. cond t (Some (leaf_index b.object b.block)) None) (not_false (is_block b.object b.block) (λ f. true≢false ((block_tells b.object b.block none).1 f)))
    ∙ ap Some (sym is)

-- the leaves with one block more
one_more : (n : ℕ) (blocks : List ObjectBlock) (r : Option ℕ) → n < length blocks → leaf_at (get_or blocks n no_block) ≡ r → leaves_in (n + 1) blocks ≡ leaves_in n blocks ++ cons_option r []
one_more n blocks r h is =
    ap (filter_map leaf_at) (take_more blocks n no_block h)
    ∙ filter_map-append leaf_at (take n blocks) (get_or blocks n no_block ∷ [])
    ∙ ap (λ x. leaves_in n blocks ++ cons_option x []) is

pub loop-at-preserved : goal.loop-at-preserved
loop-at-preserved c =
    let blocks = c.args.blocks.now in
    let n = c.loop-at.at in
    let small : n < length blocks = omega (arith, c.min-at-end.ensures, c.loop-at-test.true) in
    let room : c.loop-at.count < length c.loop-at.leaves = omega (arith, c.min-at-end.ensures, c.loop-at-test.true, c.loop-at.invariant.few, c.loop-at.invariant.sixteen) in
    let more = one_more n blocks c.leaf_of.result small (told (get_or blocks n no_block) c.leaf_of.result c.leaf_of.ensures.leaf c.leaf_of.ensures.none) in
    elim c.match-leaf_of.branch [
      | in-Some-leaf_of w ↦ record {
        sixteen = ap length w.leaves-is ∙ length-set c.loop-at.leaves c.loop-at.count w.in-Some-leaf_of.leaf ∙ c.loop-at.invariant.sixteen;
        few = omega (arith, w.count-is);
        leaves =
            (λ i. take (w.count-is i) (w.leaves-is i))
            ∙ take_more_set c.loop-at.leaves c.loop-at.count w.in-Some-leaf_of.leaf room
            ∙ ap (λ xs. xs ++ w.in-Some-leaf_of.leaf ∷ []) c.loop-at.invariant.leaves
            ∙ ap (λ r. leaves_in n blocks ++ cons_option r []) (sym w.in-Some-leaf_of.is)
            ∙ sym more;
      }
      | in_default-leaf_of w ↦ record {
        sixteen = ap length w.leaves-is ∙ c.loop-at.invariant.sixteen;
        few = omega (arith, w.count-is);
        leaves =
            (λ i. take (w.count-is i) (w.leaves-is i))
            ∙ c.loop-at.invariant.leaves
            ∙ sym (append-nil (leaves_in n blocks))
            ∙ ap (λ r. leaves_in n blocks ++ cons_option r []) (sym (none_there c.leaf_of.result w.in_default-leaf_of.not-Some))
            ∙ sym more;
      }
    ]

pub returns-in_default-clause-all : goal.returns-in_default-clause-all
returns-in_default-clause-all c = λ h.
    let none = absent_live c.args.table.now.file_systems c.args.name.now (ap (λ x. option_copied x) (sym (none_there _ c.in_default.not-Some)) ∙ c.find.ensures) in
    let zero = ap len none ∙ len-empty key_cmp Cell in
    absurd (omega (arith, h, zero))

pub returns-clause-small : goal.returns-clause-small
returns-clause-small c = λ h.
    let is = found_live c.args.table.now.file_systems c.args.name.now c.in-Some.file_system.now (ap (λ x. option_copied x) (sym c.in-Some.is) ∙ c.find.ensures) in
    c.read_ahead.ensures.small (subst (λ m. len m < many_blocks) (is ∙ sym c.live.ensures) h)

pub returns-clause-all : goal.returns-clause-all
returns-clause-all c = λ h.
    let blocks = c.args.blocks.now in
    let m = live_of c.args.table.now.file_systems c.args.name.now in
    let is = found_live c.args.table.now.file_systems c.args.name.now c.in-Some.file_system.now (ap (λ x. option_copied x) (sym c.in-Some.is) ∙ c.find.ensures) in
    let same : m ≡ c.live.result.now = is ∙ sym c.live.ensures in
    let end : c.loop-at.at ≡ min 16 (length blocks) = omega (arith, c.min-at-end.ensures, c.loop-at.auto.at-end, c.loop-at-test.false) in
    let leaves : take c.loop-at.count c.loop-at.leaves ≡ leaves_in 16 blocks =
    c.loop-at.invariant.leaves ∙ ap (λ n. leaves_in n blocks) end ∙ ap (filter_map leaf_at) (take_min 16 blocks) in
    c.read_ahead.ensures.all (subst (λ x. many_blocks ≤ len x) same h)
    ∙ ap (λ x. present_on_paths x (take c.loop-at.count c.loop-at.leaves)) (sym same)
    ∙ ap (present_on_paths m) leaves
