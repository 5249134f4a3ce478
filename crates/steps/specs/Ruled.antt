-- The rule of a request.
use Rattle.std.specs.Prelude.{◌≡◌, Option}
use Rattle.stream.specs.Spelling.{Sending}
use Rattle.model.specs.declared.request.Request.{Request}
use Rattle.model.specs.Rule.{Rule}
use Rattle.model.specs.requests.{rule_of, IsReadingOf}

-- a request has this rule, by what its bytes say (profile)
abbrev pub HasRule : Request → Rule → Type 0
HasRule q rule = (reading : Option Sending) × IsReadingOf q reading × (rule_of q reading ≡ rule)
