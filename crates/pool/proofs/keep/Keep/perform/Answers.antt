use Rattle.pool.proofs.Asking.{asks_write, asks_punch, asks_free}
use Rattle.pool.proofs.keep.Keep.perform.Goals as goal

pub returns-in-Write-clause-performed : goal.returns-in-Write-clause-performed
returns-in-Write-clause-performed c =
    let e = c.write_of-update.ensures in
    rw (c.in-Write.is, ← c.as_array.ensures) (c.change.ensures.performed _ (asks_write c.in-Write.target c.in-Write.object c.write_of-update.result e.only c.in-Write.block c.as_array.result.now e.changes e.bad_key))

pub returns-in-Punch-clause-performed : goal.returns-in-Punch-clause-performed
returns-in-Punch-clause-performed c =
    let e = c.punch_of.ensures in
    rw c.in-Punch.is (c.change-in-Punch.ensures.performed _ (asks_punch c.in-Punch.target c.in-Punch.object c.punch_of.result e.only c.in-Punch.block e.changes e.bad_key))

pub returns-in-FreeObject-clause-performed : goal.returns-in-FreeObject-clause-performed
returns-in-FreeObject-clause-performed c =
    let e = c.free_of.ensures in
    rw c.in-FreeObject.is (c.change-in-FreeObject.ensures.performed _ (asks_free c.in-FreeObject.target c.in-FreeObject.object c.free_of.result e.only e.changes e.bad_key))
