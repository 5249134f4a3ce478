use Rattle.std.proofs.Common.{◌*◌, refl, sym, ap, ◌∙◌, arith, true≢false}
use Rattle.std.specs.Option.{option_map}
use borrow.Author.Count.{below_none, below_more}
use Rattle.node.specs.Node.{shared_part}
use Rattle.node.specs.Pairs.{places_in}
use Rattle.node.proofs.Options.{twice}
use Rattle.node.proofs.Pairs.{length-places_in}
use Rattle.node.proofs.Sameness.{same_forest, same_place}
use Rattle.node.proofs.same.same_kids.Goals as goal

pub loop-place-init : goal.loop-place-init
loop-place-init g c = below_none _

pub returns-then-not-same_kid : goal.returns-then-not-same_kid
returns-then-not-same_kid g c =
    let f = shared_part g.C.Level.part in
    let i = c.loop-place.place in
    let one = twice (λ a. a.now) f c.kid_at.result ∙ ap (option_map f) c.kid_at.ensures in
    let other = twice (λ a. a.now) f c.kid_at-in-loop-place.result ∙ ap (option_map f) c.kid_at-in-loop-place.ensures in (
      λ t. absurd (true≢false (sym t)),
      λ e. sym c.if-not-same_kid.true ∙ c.same_kid.ensures.1 (one ∙ same_place f (places_in c.args.one.now) (places_in c.args.other.now) i e ∙ sym other),
    )

pub loop-place-preserved : goal.loop-place-preserved
loop-place-preserved g c =
    let f = shared_part g.C.Level.part in
    let i = c.loop-place.place in
    let one = twice (λ a. a.now) f c.kid_at.result ∙ ap (option_map f) c.kid_at.ensures in
    let other = twice (λ a. a.now) f c.kid_at-in-loop-place.result ∙ ap (option_map f) c.kid_at-in-loop-place.ensures in
    below_more _ _ c.loop-place.invariant (sym one ∙ c.same_kid.ensures.0 c.if-not-same_kid.false ∙ other)

pub returns : goal.returns
returns g c = (
  λ t. same_forest (shared_part g.C.Level.part) (places_in c.args.one.now) (places_in c.args.other.now)
      (length-places_in c.args.one.now ∙ ap (λ n. 2 * n) (c.type_inv.one ∙ sym c.type_inv.other) ∙ sym (length-places_in c.args.other.now))
      (λ i n. c.loop-place.invariant i (omega (arith, n))),
  λ e. refl,
)
