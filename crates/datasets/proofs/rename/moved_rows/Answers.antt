use Rattle.std.proofs.Common.{◌≡◌, ◌++◌, ◌∷◌, [], suc, drop, take, map, sym, ap, subst, ◌∙◌}
use Rattle.std.proofs.lemmas.List.{take_more}
use Rattle.std.proofs.Math.Seq.{split_at}
use Rattle.std.specs.Arc.{arc_value}
use Rattle.std.specs.declared.sync.Arc.{Arc}
use Rattle.std.specs.declared.alloc.Global.{Global}
use Rattle.std.specs.List.{insert}
use Rattle.std.specs.FinMap as finmap
use Rattle.std.specs.FinMap.{get, from_sorted}
use Rattle.base.specs.Names.{name_cmp}
use Rattle.file_system.specs.Rows.{Row, entry_in}
use Rattle.datasets.specs.CloneNames.{with_origin}
use Rattle.datasets.specs.Places.{IsGapFor}
use Rattle.datasets.specs.Renames.{moved_row, AreMoved}
use Rattle.datasets.proofs.Moves.{key_absent, row_moved, none_moved, row_short}
use Rattle.datasets.proofs.Ties.{map_inserted}
use Rattle.datasets.proofs.rename.moved_rows.Goals as goal

pub loop-row-init : goal.loop-row-init
loop-row-init c =
    subst (AreMoved c.args.from.now c.args.to.now [] c.in_ok-moves.moves.items) (sym c.new-clones.ensures)
    (subst (λ l. AreMoved c.args.from.now c.args.to.now [] l finmap.empty) (sym c.in_ok-moves.ensures.items) (none_moved c.args.from.now c.args.to.now))

pub moved-requires : goal.moved-requires
moved-requires c = record {
  short = row_short c.args.from.now c.args.to.now c.args.rows.now c.requires.sorted c.requires.can c.loop-row.row-index c.row-item.result c.loop-row-test.true c.row-item.is;
}

pub gap-place-requires-clause-absent : goal.gap-place-requires-clause-absent
gap-place-requires-clause-absent c =
    let i = c.loop-row.row-index in
    let rows = c.args.rows.now in
    let x = c.row-item.result in
    let parts : rows ≡ take i rows ++ x ∷ drop (suc i) rows = split_at rows i x c.loop-row-test.true ∙ ap (λ z. take i rows ++ z ∷ drop (suc i) rows) (sym c.row-item.is) in
    let named = c.as_bytes.ensures.value ∙ c.name.ensures ∙ ap (λ (r : Row). r.name) (c.deref-in-loop-row.ensures ∙ c.in_ok-row.ensures.ok) in
    (λ j. get (from_sorted {R = name_cmp} (map entry_in (c.deref.ensures.value j))) (named j))
    ∙ key_absent c.args.from.now c.args.to.now rows c.requires.sorted c.requires.can (take i rows) (drop (suc i) rows) x parts c.loop-row.moves.items c.loop-row.clones c.loop-row.invariant c.in_ok-row.row c.in_ok-row.ensures.ok

pub loop-row-preserved : goal.loop-row-preserved
loop-row-preserved c =
    let i = c.loop-row.row-index in
    let rows = c.args.rows.now in
    let x : Arc Row Global = c.row-item.result in
    let from = c.args.from.now in
    let to = c.args.to.now in
    let parts : rows ≡ take i rows ++ x ∷ drop (suc i) rows = split_at rows i x c.loop-row-test.true ∙ ap (λ z. take i rows ++ z ∷ drop (suc i) rows) (sym c.row-item.is) in
    let made = c.in_ok-row.ensures.ok in
    let named = c.as_bytes.ensures.value ∙ c.name.ensures ∙ ap (λ (r : Row). r.name) (c.deref-in-loop-row.ensures ∙ made) in
    let gap : IsGapFor (map entry_in c.loop-row.moves.items) (moved_row from to (arc_value x)).name c.gap-place.result =
    subst (λ l. IsGapFor (map entry_in l) (moved_row from to (arc_value x)).name c.gap-place.result) c.deref.ensures.value
    (subst (λ n. IsGapFor (map entry_in c.deref.result.now) n c.gap-place.result) named c.gap-place.ensures) in
    let rows_are : map arc_value c.insert.new.self.items ≡ insert (map arc_value c.loop-row.moves.items) c.gap-place.result (arc_value c.in_ok-row.row) =
    ap (map arc_value) c.in_ok-insert.ensures.items ∙ map_inserted arc_value c.loop-row.moves.items c.gap-place.result c.in_ok-row.row in
    let owned = c.owned_name.ensures ∙ ap (λ (r : Row). r.name) (c.deref-in-loop-row-3.ensures ∙ made) in
    let origin = c.origin.ensures ∙ ap (λ (r : Row). r.system.origin) (c.deref-in-loop-row-2.ensures ∙ made) in
    let listing = c.in_ok-enter.ensures.ok ∙ (λ j. with_origin c.loop-row.clones (owned j) (origin j)) in
    subst (λ l. AreMoved from to l c.insert.new.self.items c.enter.new.self)
    (sym (take_more rows i x c.loop-row-test.true ∙ ap (λ z. take i rows ++ z ∷ []) (sym c.row-item.is)))
    (row_moved from to rows c.requires.sorted c.requires.can (take i rows) (drop (suc i) rows) x parts c.loop-row.moves.items c.loop-row.clones c.loop-row.invariant c.in_ok-row.row made
    c.gap-place.result gap c.insert.new.self.items rows_are c.enter.new.self listing)
