use Rattle.std.proofs.Common.{◌≡◌, ◌*◌, ◌/◌, ◌≤◌, ℕ, false, subst}
use Rattle.zalloc.specs.Sets.{bit_in, IsFirst}
use Rattle.zalloc.proofs.Finding.{if_none}
use Rattle.zalloc.proofs.Sets.{first_through, none_through}
use Rattle.zalloc.proofs.set.NumberSet.next_bit.Goals as goal

pub returns-in_err-window-clause-none : goal.returns-in_err-window-clause-none
returns-in_err-window-clause-none c =
    let s = c.args.self.now in
    let a = c.args.from in
    let none = subst (λ xs. (i : ℕ) → a ≤ i → i / 64 ≡ a / 64 → bit_in s.fill xs i ≡ false) c.deref.ensures.value c.in_default.ensures.none in
    if_none c.from_residual.result (none_through s.fill s.groups.items s.words.items a c.requires.kept.groups none c.in_err-window.ensures.none)

pub returns-clause-found : goal.returns-clause-found
returns-clause-found c =
    let s = c.args.self.now in
    let a = c.args.from in
    let w = c.in_ok-window.window in
    let k = c.first_of_word.result in
    let none = subst (λ xs. (i : ℕ) → a ≤ i → i / 64 ≡ a / 64 → bit_in s.fill xs i ≡ false) c.deref.ensures.value c.in_default.ensures.none in
    first_through s.fill s.groups.items s.words.items a c.requires.kept.groups none w k c.in_ok-window.ensures.found
    (subst (λ xs. IsFirst s.fill xs (w * 64) k) c.deref-2.ensures.value c.first_of_word.ensures.first)
    c.first_of_word.ensures.same
