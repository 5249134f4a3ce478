use Rattle.std.proofs.Common.{◌+◌, List, ◌++◌, map, drop, sym, ap, ◌∙◌, append-nil, arith}
use Rattle.std.specs.List.{join_with_byte}
use Rattle.datasets.specs.Clones.{CloneName}
use Rattle.datasets.specs.CloneNames.{name_of}
use Rattle.lookups.proofs.Rests.{next_left, none_left}
use Rattle.lookups.proofs.Joined.{each_after, joined_first, joined_next}
use Rattle.lookups.proofs.values.joined_names.Goals as goal

pub loop-clone-init : goal.loop-clone-init
loop-clone-init c =
    let text = c.in_ok-extend_from_slice.ensures.items ∙ (λ i. c.new-text.ensures.items i ++ (c.as_bytes.ensures.value ∙ c.name.ensures) i) in
    ap (λ xs. xs ++ each_after 44 (map name_of c.in-Some.others.now)) text
    ∙ joined_first 44 (name_of c.in-Some.first.now) (map name_of c.in-Some.others.now)
    ∙ ap (λ (xs : List CloneName). join_with_byte 44 (map name_of xs)) (sym c.in-Some.ensures.cases.0)

pub returns-clause-ok : goal.returns-clause-ok
returns-clause-ok c =
    c.from-2.ensures ∙ sym (append-nil c.loop-clone.text.items)
    ∙ ap (λ (xs : List CloneName). c.loop-clone.text.items ++ each_after 44 (map name_of xs)) (sym (none_left c.in-Some.others.now c.loop-clone.clone-index (omega arith)))
    ∙ c.loop-clone.invariant

pub loop-clone-preserved : goal.loop-clone-preserved
loop-clone-preserved c =
    let left = next_left c.in-Some.others.now c.loop-clone.clone-index c.clone-item.result c.loop-clone-test.true c.clone-item.is in
    joined_next 44 c.loop-clone.text.items (name_of c.clone-item.result) c.extend_from_slice-in-loop-clone.new.self.items (join_with_byte 44 (map name_of c.args.clones.now))
    (map name_of (drop c.loop-clone.clone-index c.in-Some.others.now)) (map name_of (drop (c.loop-clone.clone-index + 1) c.in-Some.others.now))
    c.loop-clone.invariant (ap (map name_of) left)
    (c.in_ok-extend_from_slice-2.ensures.items ∙ (λ i. c.in_ok-push.ensures.items i ++ (c.as_bytes-in-loop-clone.ensures.value ∙ c.name-in-loop-clone.ensures) i))
