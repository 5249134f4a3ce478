use Rattle.std.proofs.Common.{List, ◌++◌, ap, ◌∙◌}
use Rattle.base.specs.Counting.{counted}
use Rattle.base.specs.declared.number.Dead.{Dead}
use Rattle.deadlist.specs.Held.{Held}
use Rattle.deadlist.specs.Segments.{entries_of}
use Rattle.deadlist.proofs.deadlist.Deadlist.iter.Goals as goal

pub returns-clause-entries : goal.returns-clause-entries
returns-clause-entries c =
    c.new.ensures ∙ ap (λ (ds : List Dead). entries_of c.self.inside.parts ++ ds) c.as_slice.ensures.value ∙ ap (λ (h : Held). h.entries) c.self.view_is

pub returns-clause-meter : goal.returns-clause-meter
returns-clause-meter c = c.reach.ensures.metered ∙ ap (counted c.args.meter.now) c.segments.ensures.count
