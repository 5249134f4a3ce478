use Rattle.std.proofs.Common.{◌≡◌, ℕ, zero, suc, ◌≤◌, ◌<◌, ◌∷◌, [], List, length, get_or, arith, ap}
use Rattle.base.specs.declared.number.Dead.{Dead}
use Rattle.deadlist.specs.Spans.{spans}
use Rattle.deadlist.specs.declared.parts.Segment.{Segment}
use Rattle.deadlist.specs.Segments.{AreBornBy, FitsAt}
use Rattle.deadlist.proofs.Places.{closed_upper}
use Rattle.std.proofs.lemmas.Bool.{leb-true}
use Rattle.deadlist.proofs.Births.{born_by_weaker}
use Rattle.deadlist.proofs.parts.Parts.ends_late.Goals as goal

-- past the others it is the last segment
fits_past : (xs : List Segment) (i : ℕ) (q : List Dead) → length xs ≤ i → FitsAt (spans xs) i q
fits_past [] i q le = tt
fits_past (s ∷ ss) zero q le = absurd (omega arith)
fits_past (s ∷ ss) (suc i) q le = fits_past ss i q (omega arith)

fits_in : (xs : List Segment) (i : ℕ) (x : Segment) (to : ℕ) (q : List Dead) → i < length xs → x ≡ get_or xs i x → to ≤ closed_upper x → AreBornBy to q → FitsAt (spans xs) i q
fits_in [] i x to q lt e le b = absurd (omega arith)
fits_in (s ∷ ss) zero x to q lt e le b = born_by_weaker to (closed_upper s) q b (let k = ap closed_upper e in omega (arith, k, le))
fits_in (s ∷ ss) (suc i) x to q lt e le b = fits_in ss i x to q (omega arith) e le b

pub returns-then-at-len : goal.returns-then-at-len
returns-then-at-len c = λ t q b. fits_past c.args.self.now.closed.items c.args.at q (omega arith)

pub returns-in-Some : goal.returns-in-Some
returns-in-Some c = λ t q. rw c.in-Some.is (λ b. fits_in c.args.self.now.closed.items c.args.at c.index.result.now c.in-Some.to q (omega arith) c.index.ensures (leb-true c.in-Some.to c.index.result.now.upper.0 t) b)
