use Rattle.std.proofs.Common.{◌++◌, take}
use Rattle.std.specs.List.{flat_map}
use Rattle.std.specs.Prelude.{codes}
use Rattle.std.specs.Io.KnownBytes.{Appends}
use Rattle.script.proofs.text.write_names.Given as goal

-- so many of the other names, each after a space
abbrev pub invariant-loop-name : goal.invariant-loop-name
invariant-loop-name g l = Appends (g.W.Sink.contents l.initial.writer) (g.W.Sink.contents l.writer) (flat_map (λ n. codes " " ++ n) (take l.name-index l.others))
