use Rattle.std.proofs.Common.{◌≡◌, ◌++◌, length, ap, sym, subst, ◌∙◌, List, arith}
use Rattle.std.specs.Prelude.{filter}
use Rattle.std.specs.List.Sorted.{IsPermutation}
use Rattle.std.proofs.lemmas.List.Sorted.{IsPermutation-append_left}
use Rattle.base.specs.declared.number.Dead.{Dead}
use Rattle.deadlist.specs.Entries.{is_upto}
use Rattle.file_system.proofs.Plain.{reserved_plain, pushed_plain}
use Rattle.file_system.proofs.dead.put_onto.Goals as goal

-- where the nodes have no memory, room was made
pub returns-in_err-put-2-clause-plain : goal.returns-in_err-put-2-clause-plain
returns-in_err-put-2-clause-plain c =
    (reserved_plain c.args.list.now c.reserve.new.self c.requires.plain.uncut c.requires.plain.searched c.reserve.ensures.entries c.reserve.ensures.cuts
    c.in_ok-reserve.ensures.waiting c.in_ok-reserve.ensures.steps).0

-- what is born by the group stands behind the list's own entries
pub returns-clause-dead : goal.returns-clause-dead
returns-clause-dead c =
    let old = c.args.list.now.entries in
    let more = filter (is_upto c.args.newest.0) c.args.draft.now.released.items in
    let roomy = c.reserve.new.self.entries in
    let both : IsPermutation (old ++ more) (roomy ++ more) = IsPermutation-append_left more old roomy c.reserve.ensures.entries in
    let same : filter (is_upto c.args.newest.0) c.as_slice-2.result.now ≡ more = ap (filter (is_upto c.args.newest.0)) (c.as_slice-2.ensures ∙ c.in_ok-put-2.ensures.ok.released) in
    subst (IsPermutation (old ++ more)) (sym (c.push_upto.ensures.entries ∙ ap (λ (l : List Dead). roomy ++ l) same)) both

pub returns-clause-plain : goal.returns-clause-plain
returns-clause-plain c =
    let more = filter (is_upto c.args.newest.0) c.args.draft.now.released.items in
    let same : filter (is_upto c.args.newest.0) c.as_slice-2.result.now ≡ more = ap (filter (is_upto c.args.newest.0)) (c.as_slice-2.ensures ∙ c.in_ok-put-2.ensures.ok.released) in
    let long : length (filter (is_upto c.args.newest.0) c.as_slice-2.result.now) ≡ length more = ap (λ (l : List Dead). length l) same in
    let roomy = reserved_plain c.args.list.now c.reserve.new.self c.requires.plain.uncut c.requires.plain.searched c.reserve.ensures.entries c.reserve.ensures.cuts c.in_ok-reserve.ensures.waiting c.in_ok-reserve.ensures.steps in
    let waits = roomy.1 in
    let counted : c.count_upto-few.result ≡ length more = c.count_upto-few.ensures ∙ ap (λ (l : List Dead). length (filter (is_upto c.args.newest.0) l)) c.as_slice.ensures in
    let fewer = c.if-few-ge-FEW.false in
    pushed_plain c.reserve.new.self c.push_upto.new.self (filter (is_upto c.args.newest.0) c.as_slice-2.result.now) roomy.0 (omega (arith, long, waits, counted, fewer)) c.push_upto.ensures.entries c.push_upto.ensures.cuts c.push_upto.ensures.waiting c.push_upto.ensures.steps
