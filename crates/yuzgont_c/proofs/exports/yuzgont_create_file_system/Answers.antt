use Rattle.std.proofs.Common.{rules}
use Rattle.yuzgont_c.proofs.exports.yuzgont_create_file_system.Goals as goal

pub returns : goal.returns
returns c = (c.create_file_system.result, search rules, c.create_file_system.ensures)
