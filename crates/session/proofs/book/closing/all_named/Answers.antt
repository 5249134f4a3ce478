use Rattle.std.proofs.Common.{◌≡◌, ◌<◌, ◌≤◌, ℕ, length, arith, sym, ap, ◌∙◌, subst}
use Rattle.std.specs.Arc.{arc_value}
use Rattle.std.proofs.lemmas.List.{get_or-map, length-map}
use Rattle.std.proofs.lemmas.List.Elements.{All-map}
use Rattle.model.specs.declared.entry.Entry.{Entry}
use Rattle.session.proofs.Decides.{says_no, says_yes}
use Rattle.session.proofs.book.closing.all_named.Goals as goal
use Rattle.session.proofs.book.closing.all_named.Goals.{then-deref-eq0-via-then-deref-eq0, then-deref-eq0-via-else-deref-eq0+then-deref-given}

abbrev IsNamed : ℕ → Entry → Type 0
IsNamed given e = (0 < e.seat) × (e.seat ≤ given)

pub returns-then-deref-eq0 : goal.returns-then-deref-eq0
returns-then-deref-eq0 c =
    let xs = c.args.history.now in
    let i : ℕ = c.loop-entry.entry-index in
    let lt : i < length xs = c.loop-entry-test.true in
    says_no (λ all.
    let here : IsNamed c.args.given (arc_value c.entry-item.result) =
    subst (λ (e : Entry). IsNamed c.args.given e) (get_or-map arc_value xs i c.entry-item.result (arc_value c.entry-item.result) lt ∙ ap arc_value (sym c.entry-item.is))
    (all i (arc_value c.entry-item.result) (subst (λ (n : ℕ). i < n) (sym (length-map xs arc_value)) lt)) in
    elim c.then-deref-eq0.branch [ then-deref-eq0-via-then-deref-eq0 w ↦ (let seat : c.deref.result.now.seat ≡ (arc_value c.entry-item.result).seat = ap (λ e. e.seat) c.deref.ensures in omega (arith, here.0, w.if-deref-eq0.true)) | then-deref-eq0-via-else-deref-eq0+then-deref-given w ↦ (let seat : w.deref-else-deref-eq0.result.now.seat ≡ (arc_value c.entry-item.result).seat = ap (λ e. e.seat) w.deref-else-deref-eq0.ensures in omega (arith, here.1, w.if-deref-given.true)) ])

pub returns : goal.returns
returns c = says_yes (All-map (IsNamed c.args.given) arc_value c.args.history.now (λ k d h. c.loop-entry.invariant k d (let t = c.loop-entry-test.false in omega arith)))
