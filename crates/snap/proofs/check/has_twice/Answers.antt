use Rattle.std.proofs.Common.{◌≡◌, ◌+◌, drop, sym, ap, ◌∙◌, arith}
use Rattle.std.proofs.lemmas.Bool.{not-false, not-true}
use Rattle.base.specs.declared.name.member.Member.{Member}
use Rattle.snap.proofs.Rests.{next_left, none_left}
use Rattle.snap.proofs.Taken.{few_apart}
use Rattle.snap.proofs.Twice.{twice_after, twice_first, twice_here, twice_later, has_name}
use Rattle.snap.proofs.check.has_twice.Goals as goal

pub returns-then-all-lt2-clause-ok : goal.returns-then-all-lt2-clause-ok
returns-then-all-lt2-clause-ok c = sym (few_apart c.args.all.now c.if-all-lt2.true)

pub loop-name-init : goal.loop-name-init
loop-name-init c = sym (twice_first c.args.all.now) ∙ ap (λ ks. twice_after ks c.args.all.now) (sym c.new-seen.ensures.empty)

pub returns-then-not-branch-clause-ok : goal.returns-then-not-branch-clause-ok
returns-then-not-branch-clause-ok c =
    let key_is : c.as_bytes.result.now ≡ c.name-item.result.file_system = c.as_bytes.ensures.value ∙ ap (λ (m : Member). m.file_system) c.name.view_is in
    let seen = not-false (has_name c.loop-name.seen.keys c.as_bytes.result.now) (sym c.in_ok-insert.ensures.added ∙ c.if-not-branch.true) in
    sym (c.loop-name.invariant ∙ ap (twice_after c.loop-name.seen.keys) (next_left c.args.all.now c.loop-name.name-index c.name-item.result c.loop-name-test.true c.name-item.is)
    ∙ twice_here c.loop-name.seen.keys c.name-item.result (drop (c.loop-name.name-index + 1) c.args.all.now) (ap (has_name c.loop-name.seen.keys) (sym key_is) ∙ seen))

pub loop-name-preserved : goal.loop-name-preserved
loop-name-preserved c =
    let key_is : c.as_bytes.result.now ≡ c.name-item.result.file_system = c.as_bytes.ensures.value ∙ ap (λ (m : Member). m.file_system) c.name.view_is in
    let unseen = not-true (has_name c.loop-name.seen.keys c.as_bytes.result.now) (sym c.in_ok-insert.ensures.added ∙ c.if-not-branch.false) in
    c.loop-name.invariant ∙ ap (twice_after c.loop-name.seen.keys) (next_left c.args.all.now c.loop-name.name-index c.name-item.result c.loop-name-test.true c.name-item.is)
    ∙ twice_later c.loop-name.seen.keys c.as_bytes.result c.name-item.result (drop (c.loop-name.name-index + 1) c.args.all.now) key_is (ap (has_name c.loop-name.seen.keys) (sym key_is) ∙ unseen)
    ∙ ap (λ ks. twice_after ks (drop (c.loop-name.name-index + 1) c.args.all.now)) (sym c.in_ok-insert.ensures.keys)

pub returns-clause-ok : goal.returns-clause-ok
returns-clause-ok c = sym (c.loop-name.invariant ∙ ap (twice_after c.loop-name.seen.keys) (none_left c.args.all.now c.loop-name.name-index (omega arith)))
