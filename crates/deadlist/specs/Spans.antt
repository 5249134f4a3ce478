-- Segments of a dead list, as their cuts and their entries alone tell them (profile).
use Rattle.std.specs.Prelude.{List, map}
use Rattle.base.specs.declared.number.Dead.{Dead}
use Rattle.base.specs.declared.number.Group.{Group}
use Rattle.deadlist.specs.declared.parts.Segment.{Segment}

-- the upper cut and the entries of a segment
pub record Span : Type 0 where
  pub upper : Group
  pub pile : List Dead

abbrev pub span_of : Segment → Span
span_of s = record { upper = s.upper; pile = s.pile.entries }

abbrev pub spans : List Segment → List Span
spans = map span_of
