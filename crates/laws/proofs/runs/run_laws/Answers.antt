use Rattle.world.proofs.views.Runs.{run_grows, views_begin, views_last, views_stand}
use Rattle.laws.proofs.Lasting.{run_splits, snapshots_keep}
use Rattle.laws.proofs.Marks.{bookmark_made, bookmark_stands, bookmark_lasts, renames_carry}
use Rattle.laws.proofs.Pools.{pools_are_viewing}
use Rattle.laws.proofs.runs.run_laws.Goals as goal

pub returns-clause-grows : goal.returns-clause-grows
returns-clause-grows c = run_grows

pub returns-clause-splits : goal.returns-clause-splits
returns-clause-splits c = run_splits

pub returns-clause-views_begin : goal.returns-clause-views_begin
returns-clause-views_begin c = views_begin

pub returns-clause-views_last : goal.returns-clause-views_last
returns-clause-views_last c = views_last

pub returns-clause-views_stand : goal.returns-clause-views_stand
returns-clause-views_stand c = views_stand

pub returns-clause-pools_are_viewing : goal.returns-clause-pools_are_viewing
returns-clause-pools_are_viewing c = pools_are_viewing

pub returns-clause-snapshots_keep : goal.returns-clause-snapshots_keep
returns-clause-snapshots_keep c = snapshots_keep

pub returns-clause-bookmark_made : goal.returns-clause-bookmark_made
returns-clause-bookmark_made c = bookmark_made

pub returns-clause-bookmark_stands : goal.returns-clause-bookmark_stands
returns-clause-bookmark_stands c = bookmark_stands

pub returns-clause-bookmark_lasts : goal.returns-clause-bookmark_lasts
returns-clause-bookmark_lasts c = bookmark_lasts

pub returns-clause-renames_carry : goal.returns-clause-renames_carry
returns-clause-renames_carry c = renames_carry
