use Rattle.std.proofs.Common.{◌≡◌, ◌≤◌, ◌++◌, [], length, ap, sym, subst, ◌∙◌, List, arith}
use Rattle.std.specs.Prelude.{filter}
use Rattle.std.specs.List.Sorted.{IsPermutation}
use Rattle.std.proofs.lemmas.List.Sorted.{IsPermutation-append_left, IsPermutation-trans}
use Rattle.base.specs.declared.number.Dead.{Dead}
use Rattle.deadlist.specs.Bits.{search_steps}
use Rattle.deadlist.specs.Entries.{is_upto}
use Rattle.file_system.proofs.Plain.{reserved_plain, pushed_searched}
use Rattle.file_system.proofs.dead.longer.Goals as goal

-- what is born by the group has joined a copy of the list's own entries
pub returns-clause-ok : goal.returns-clause-ok
returns-clause-ok c =
    let old = c.args.dead.now.entries in
    let more = filter (is_upto c.args.newest.0) c.args.released.now in
    let roomy = c.reserve.new.self.entries in
    let sorted : IsPermutation old roomy = subst (λ (es : List Dead). IsPermutation es roomy) c.in_ok-list.ensures.entries c.reserve.ensures.entries in
    let both : IsPermutation (old ++ more) (roomy ++ more) = IsPermutation-append_left more old roomy sorted in
    let pushed : IsPermutation (old ++ more) c.push_upto.new.self.entries = subst (IsPermutation (old ++ more)) (sym c.push_upto.ensures.entries) both in
    IsPermutation-trans (old ++ more) c.push_upto.new.self.entries c.reserve-2.new.self.entries pushed c.reserve-2.ensures.entries

-- and few of them wait
pub returns-clause-plain : goal.returns-clause-plain
returns-clause-plain c =
    let copied : search_steps (length c.in_ok-list.list.entries) ≡ search_steps (length c.args.dead.now.entries) = ap (λ (es : List Dead). search_steps (length es)) c.in_ok-list.ensures.entries in
    let uncut : c.in_ok-list.list.cuts ≡ [] = c.in_ok-list.ensures.cuts ∙ c.requires.uncut in
    let searched : c.in_ok-list.list.steps ≤ search_steps (length c.in_ok-list.list.entries) = omega (arith, copied, c.in_ok-list.ensures.steps, c.requires.searched) in
    let roomy = reserved_plain c.in_ok-list.list c.reserve.new.self uncut searched c.reserve.ensures.entries c.reserve.ensures.cuts c.in_ok-reserve.ensures.waiting c.in_ok-reserve.ensures.steps in
    let more = pushed_searched c.reserve.new.self c.push_upto.new.self (filter (is_upto c.args.newest.0) c.args.released.now) roomy.0.searched c.push_upto.ensures.entries c.push_upto.ensures.steps in
    (reserved_plain c.push_upto.new.self c.reserve-2.new.self (c.push_upto.ensures.cuts ∙ roomy.0.uncut) more c.reserve-2.ensures.entries c.reserve-2.ensures.cuts c.in_ok-reserve-2.ensures.waiting c.in_ok-reserve-2.ensures.steps).0
