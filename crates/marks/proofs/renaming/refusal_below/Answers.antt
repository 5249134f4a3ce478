use Rattle.std.proofs.Common.{◌≡◌, true, false, sym, ◌∙◌, refl}
use Rattle.std.specs.Prelude.{is_some}
use Rattle.std.specs.List.{list_any}
use Rattle.std.specs.FinMap.{entries}
use Rattle.model.specs.World.{snap_named}
use Rattle.world.specs.Tables.{world_of}
use Rattle.marks.specs.Naming.{is_long_at, is_taken_at, is_viewed_at}
use Rattle.marks.proofs.Naming.{refusal_is, row_any}
use Rattle.marks.proofs.renaming.refusal_below.Goals as goal

pub returns-then-any_long : goal.returns-then-any_long
returns-then-any_long c =
    let t = c.args.table.now in
    let m = c.args.name.now in
    let there : is_some (snap_named (world_of t) m) ≡ true = c.requires.there in
    let long : list_any (is_long_at m c.args.to.now true) (entries t.file_systems) ≡ true =
    row_any t (is_long_at m c.args.to.now true) c.file_systems-rows.result.now c.file_systems-rows.ensures c.any_long.result c.any_long.ensures ∙ c.if-any_long.true in
    sym (refusal_is t (record { systems = c.facts.ensures.good; numbers = c.facts.ensures.numbers }) m c.args.to.now true c.args.views.now.opened true true _ _ there long refl refl)

pub returns-then-any_taken : goal.returns-then-any_taken
returns-then-any_taken c =
    let t = c.args.table.now in
    let m = c.args.name.now in
    let there : is_some (snap_named (world_of t) m) ≡ true = c.requires.there in
    let long : list_any (is_long_at m c.args.to.now true) (entries t.file_systems) ≡ false =
    row_any t (is_long_at m c.args.to.now true) c.file_systems-rows.result.now c.file_systems-rows.ensures c.any_long.result c.any_long.ensures ∙ c.if-any_long.false in
    let taken : list_any (is_taken_at m c.args.to.now true) (entries t.file_systems) ≡ true =
    row_any t (is_taken_at m c.args.to.now true) c.file_systems-rows.result.now c.file_systems-rows.ensures c.any_taken.result c.any_taken.ensures ∙ c.if-any_taken.true in
    sym (refusal_is t (record { systems = c.facts.ensures.good; numbers = c.facts.ensures.numbers }) m c.args.to.now true c.args.views.now.opened true false true _ there long taken refl)

pub returns-then-any_viewed : goal.returns-then-any_viewed
returns-then-any_viewed c =
    let t = c.args.table.now in
    let m = c.args.name.now in
    let there : is_some (snap_named (world_of t) m) ≡ true = c.requires.there in
    let long : list_any (is_long_at m c.args.to.now true) (entries t.file_systems) ≡ false =
    row_any t (is_long_at m c.args.to.now true) c.file_systems-rows.result.now c.file_systems-rows.ensures c.any_long.result c.any_long.ensures ∙ c.if-any_long.false in
    let taken : list_any (is_taken_at m c.args.to.now true) (entries t.file_systems) ≡ false =
    row_any t (is_taken_at m c.args.to.now true) c.file_systems-rows.result.now c.file_systems-rows.ensures c.any_taken.result c.any_taken.ensures ∙ c.if-any_taken.false in
    let seen : list_any (is_viewed_at c.args.views.now.opened m true) (entries t.file_systems) ≡ true =
    row_any t (is_viewed_at c.args.views.now.opened m true) c.file_systems-rows.result.now c.file_systems-rows.ensures c.any_viewed.result c.any_viewed.ensures ∙ c.if-any_viewed.true in
    sym (refusal_is t (record { systems = c.facts.ensures.good; numbers = c.facts.ensures.numbers }) m c.args.to.now true c.args.views.now.opened true false false true there long taken seen)

pub returns : goal.returns
returns c =
    let t = c.args.table.now in
    let m = c.args.name.now in
    let there : is_some (snap_named (world_of t) m) ≡ true = c.requires.there in
    let long : list_any (is_long_at m c.args.to.now true) (entries t.file_systems) ≡ false =
    row_any t (is_long_at m c.args.to.now true) c.file_systems-rows.result.now c.file_systems-rows.ensures c.any_long.result c.any_long.ensures ∙ c.if-any_long.false in
    let taken : list_any (is_taken_at m c.args.to.now true) (entries t.file_systems) ≡ false =
    row_any t (is_taken_at m c.args.to.now true) c.file_systems-rows.result.now c.file_systems-rows.ensures c.any_taken.result c.any_taken.ensures ∙ c.if-any_taken.false in
    let seen : list_any (is_viewed_at c.args.views.now.opened m true) (entries t.file_systems) ≡ false =
    row_any t (is_viewed_at c.args.views.now.opened m true) c.file_systems-rows.result.now c.file_systems-rows.ensures c.any_viewed.result c.any_viewed.ensures ∙ c.if-any_viewed.false in
    sym (refusal_is t (record { systems = c.facts.ensures.good; numbers = c.facts.ensures.numbers }) m c.args.to.now true c.args.views.now.opened true false false false there long taken seen)
