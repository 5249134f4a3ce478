use Rattle.std.proofs.Common.{◌≡◌, length, Some, ap, refl, sym, ◌∙◌}
use Rattle.std.proofs.lemmas.Option.{slice_get_read}
use Rattle.std.specs.Prelude.{slice_get}
use Rattle.deadlist.specs.Held.{Held}
use Rattle.deadlist.proofs.Places.{cut_read}
use Rattle.deadlist.proofs.deadlist.Deadlist.cut_at.Goals as goal

pub returns : goal.returns
returns c =
    let xs = c.self.inside.parts.closed.items in
    let ys = c.deref.result.now in
    let x = c.in_ok-segment.segment.now in
    let found = c.in_ok-segment.ensures.lookup in
    let get : Some x ≡ slice_get xs c.args.index = sym (slice_get_read ys (length ys) c.args.index x refl found.3.0 found.1) ∙ ap (λ zs. slice_get zs c.args.index) c.deref.ensures.value in
    cut_read xs c.args.index x get ∙ ap (λ (h : Held). slice_get h.cuts c.args.index) c.self.view_is
