use Rattle.std.proofs.Common.{◌≡◌, ◌++◌, ◌∷◌, List, Some, sym, ap, subst, ◌∙◌}
use Rattle.shared_list.specs.Left.{left}
use Rattle.snapshots.specs.declared.kept.Kept.{Kept}
use Rattle.snapshots.specs.Index.{IsIndex, AreNamesOnce}
use Rattle.snapshots.proofs.Moving.{in_index, first_named}
use Rattle.snapshots.proofs.parts.without.Goals as goal

pub forget-requires : goal.forget-requires
forget-requires c =
    let k : Kept = c.in-Some.kept.now in
    let more : List Kept = left c.next.new.self ++ c.args.others.now in
    let all : left c.kept.kept-iterator ≡ k ∷ left c.next.new.self = c.in-Some.ensures.steps in
    let name : c.as_bytes.result.now ≡ k.snapshot.name = c.as_bytes.ensures.value ∙ c.name.ensures in
    in_index c.kept.by_name (k ∷ more) c.as_bytes.result.now (subst (λ ks. IsIndex c.kept.by_name (ks ++ c.args.others.now)) all c.kept.invariant.index) (first_named k more c.as_bytes.result.now name)

pub kept-preserved : goal.kept-preserved
kept-preserved c =
    let k : Kept = c.in-Some.kept.now in
    let more : List Kept = left c.next.new.self ++ c.args.others.now in
    let all : left c.kept.kept-iterator ≡ k ∷ left c.next.new.self = c.in-Some.ensures.steps in
    let name : c.as_bytes.result.now ≡ k.snapshot.name = c.as_bytes.ensures.value ∙ c.name.ensures in
    let once : AreNamesOnce (k ∷ more) = subst (λ ks. AreNamesOnce (ks ++ c.args.others.now)) all c.kept.invariant.once in
    let index : IsIndex c.kept.by_name (k ∷ more) = subst (λ ks. IsIndex c.kept.by_name (ks ++ c.args.others.now)) all c.kept.invariant.index in
    record { can = tt; finite = tt; once = once.1; index = c.forget.ensures (k ∷ more) 0 (ap Some (sym name)) once index }
