use Rattle.std.proofs.Common.{refl, rules}
use Rattle.c_api.proofs.host.Host.line.Goals as goal

pub returns-in-Err : goal.returns-in-Err
returns-in-Err c =
    let fault = c.in-Err.field-0 in
    let unserved = c.in-Err.ensures.err in
    ((refl, refl, c.unserved_laws.ensures.same _ _ _ _ _ fault unserved, fault, unserved), refl, refl, search rules)
