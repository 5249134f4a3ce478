use Rattle.session.proofs.Places.{entries_have_places}
use Rattle.session.proofs.histories.history_laws.Goals as goal

pub returns : goal.returns
returns c = record { places = entries_have_places }
