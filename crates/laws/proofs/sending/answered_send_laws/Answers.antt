use Rattle.laws.proofs.Answered.{sends_are_answered, bookmark_sends_are_answered}
use Rattle.laws.proofs.sending.answered_send_laws.Goals as goal

pub returns-clause-answered : goal.returns-clause-answered
returns-clause-answered c = sends_are_answered

pub returns-clause-bookmarks : goal.returns-clause-bookmarks
returns-clause-bookmarks c = bookmark_sends_are_answered
