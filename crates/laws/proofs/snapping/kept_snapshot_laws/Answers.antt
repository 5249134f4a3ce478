use Rattle.laws.proofs.Both.{begin_one, last_one, snapshots_stay, snapshots_return}
use Rattle.laws.proofs.snapping.kept_snapshot_laws.Goals as goal

pub returns-clause-begin : goal.returns-clause-begin
returns-clause-begin c = begin_one

pub returns-clause-last : goal.returns-clause-last
returns-clause-last c = last_one

pub returns-clause-stay : goal.returns-clause-stay
returns-clause-stay c = snapshots_stay

pub returns-clause-come_back : goal.returns-clause-come_back
returns-clause-come_back c = snapshots_return
