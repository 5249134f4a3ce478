use Rattle.std.proofs.Common.{rules, ◌≡◌, true, length}
use Rattle.std.specs.Prelude.{◌==◌}
use Rattle.c_api.proofs.Handles.{writes}
use Rattle.c_api.proofs.host.Host.write.Goals as goal

pub returns : goal.returns
returns c =
    let is : (length c.args.bytes.now == 512) ≡ true = search rules in
    writes _ _ _ _ _ _ _ _ is c.copy_from_slice.ensures.after (c.tell.ensures _ c.ask_write-request.ensures)
