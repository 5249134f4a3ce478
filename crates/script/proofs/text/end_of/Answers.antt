use Rattle.std.proofs.Common.{arith}
use Rattle.std.proofs.lemmas.List.{drop_all}
use Rattle.script.proofs.text.end_of.Goals as goal

pub end_by-end-requires-clause-zeros : goal.end_by-end-requires-clause-zeros
end_by-end-requires-clause-zeros c = drop_all 512 c.args.bytes.now (omega arith)
