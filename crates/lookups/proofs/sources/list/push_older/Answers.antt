use Rattle.std.proofs.Common.{◌++◌, ◌∷◌, [], map, sym, ap, ◌∙◌}
use Rattle.std.specs.Prelude.{nat_lt, reverse}
use Rattle.std.specs.List.{filter}
use Rattle.std.proofs.lemmas.Bool.{lt-ltb, le-ltb}
use Rattle.shared_list.specs.Left.{left}
use Rattle.datasets.specs.Dead.{snaps_in}
use Rattle.lookups.proofs.Walks.{passed, passed_more, walked_all}
use Rattle.lookups.specs.Sources.{snapshot_in}
use Rattle.lookups.proofs.SourcesOf.{kept_one, kept_none, map_reverse}
use Rattle.lookups.proofs.sources.list.push_older.Goals as goal

pub loop-kept-init : goal.loop-kept-init
loop-kept-init c = c.new-older.ensures.items

pub loop-kept-preserved-in_ok-push : goal.loop-kept-preserved-in_ok-push
loop-kept-preserved-in_ok-push c =
    c.in_ok-push.ensures.items ∙ (λ i. c.loop-kept.invariant i ++ c.in_ok-snapshot_source.ensures.ok i ∷ [])
    ∙ sym (ap (λ l. map (snapshot_in c.args.file_system.now.name) (filter (λ u. nat_lt u.group c.args.group.0) l)) (passed_more c.loop-kept.yielded c.in-Some.kept)
    ∙ kept_one c.args.file_system.now.name c.args.group.0 (passed c.loop-kept.yielded) c.in-Some.kept.now.snapshot
    (ap (λ n. nat_lt n c.args.group.0) (sym c.group.ensures) ∙ lt-ltb c.group.result.0 c.args.group.0 c.if-group.true))

pub loop-kept-preserved : goal.loop-kept-preserved
loop-kept-preserved c =
    c.loop-kept.invariant
    ∙ sym (ap (λ l. map (snapshot_in c.args.file_system.now.name) (filter (λ u. nat_lt u.group c.args.group.0) l)) (passed_more c.loop-kept.yielded c.in-Some.kept)
    ∙ kept_none c.args.file_system.now.name c.args.group.0 (passed c.loop-kept.yielded) c.in-Some.kept.now.snapshot
    (ap (λ n. nat_lt n c.args.group.0) (sym c.group.ensures) ∙ le-ltb c.group.result.0 c.args.group.0 c.if-group.false))

pub returns-clause-ok : goal.returns-clause-ok
returns-clause-ok c =
    let all = sym c.snapshots.ensures ∙ ap snaps_in (sym c.iter-kept-items.ensures ∙ ap left (sym c.into_iter-kept-iterator.ensures.into_iter_gives)) in
    let whole = walked_all left c.into_iter-kept-iterator.result c.loop-kept.yielded c.loop-kept.kept-iterator c.args.file_system.now.system.snaps c.loop-kept.yielded_by all c.in-None.ensures.steps.0 in
    c.in_ok-append.ensures.items
    ∙ ap (λ l. c.args.sources.now.items ++ l) (c.reverse.ensures.items ∙ ap reverse c.loop-kept.invariant
    ∙ map_reverse (snapshot_in c.args.file_system.now.name) (filter (λ u. nat_lt u.group c.args.group.0) (passed c.loop-kept.yielded))
    ∙ ap (λ l. map (snapshot_in c.args.file_system.now.name) (reverse (filter (λ u. nat_lt u.group c.args.group.0) l))) (sym whole))
