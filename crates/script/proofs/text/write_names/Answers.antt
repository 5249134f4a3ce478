use Rattle.std.proofs.Common.{rules}
use Rattle.std.proofs.KnownBytes.{Appends-nil}
use Rattle.script.proofs.NamesLemmas.{names-written}
use Rattle.script.proofs.text.write_names.Goals as goal

pub loop-name-init : goal.loop-name-init
loop-name-init g c = Appends-nil _

pub returns : goal.returns
returns g c = search (rules, names-written)
