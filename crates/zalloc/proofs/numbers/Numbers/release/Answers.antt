use Rattle.std.proofs.Common.{◌≡◌, ◌/◌, ◌<◌, ◌∙◌, true, Bool, List, Some, length, length-set, sym, ap, arith, subst}
use Rattle.std.specs.Prelude.{slice_get, slice_set, if◌then◌else◌}
use Rattle.std.proofs.lemmas.Option.{slice_get_within}
use Rattle.zalloc.specs.declared.BlockState.{BlockState}
use Rattle.zalloc.specs.declared.BlockState.TheVariants.{Free, Allocated, Waiting}
use Rattle.zalloc.specs.Numbers.{NumberStates}
use Rattle.zalloc.specs.Paired.{AreSameBut}
use Rattle.zalloc.proofs.Pairing.{noted_step}
use Rattle.zalloc.proofs.numbers.Numbers.release.Goals as goal

pub note-requires : goal.note-requires
note-requires c =
    let p = c.self.inside.present in
    let at : slice_get p c.args.b.0 ≡ Some Allocated = ap (λ (s : NumberStates). slice_get s.present c.args.b.0) c.self.view_is ∙ c.requires in
    omega (arith, slice_get_within p c.args.b.0 Allocated at, c.self.invariant.flags)

pub release-requires : goal.release-requires
release-requires c = ap (λ (s : NumberStates). slice_get s.present c.args.b.0) c.self.view_is ∙ c.requires

pub invariant_of-self : goal.invariant_of-self
invariant_of-self c =
    let m = c.self.inside in
    let i = c.self.invariant in
    let b = c.args.b.0 in
    let at : slice_get m.present b ≡ Some Allocated = ap (λ (s : NumberStates). slice_get s.present b) c.self.view_is ∙ c.requires in
    let small : b / 64 < length m.touched = omega (arith, slice_get_within m.present b Allocated at, i.flags) in
    let to : BlockState = if c.args.wait then Waiting else Free in
    let n = ap length c.release.ensures ∙ length-set m.present b to in
    let f = ap length c.note.ensures ∙ length-set m.touched (b / 64) true in
    record {
      len = i.len ∙ sym n;
      flags = omega (arith, n, f, i.flags);
      same = subst (λ (z : List Bool × List BlockState). AreSameBut z.0 z.1 m.synced) (λ j. (sym c.note.ensures j, sym c.release.ensures j)) (noted_step m.touched m.present m.synced b to small i.same);
      none_waits = i.none_waits;
    }

pub returns-clause-present : goal.returns-clause-present
returns-clause-present c = c.release.ensures ∙ ap (λ (s : NumberStates). slice_set s.present c.args.b.0 (if c.args.wait then Waiting else Free)) c.self.view_is

pub returns-clause-synced : goal.returns-clause-synced
returns-clause-synced c = ap (λ (s : NumberStates). s.synced) c.self.view_is
