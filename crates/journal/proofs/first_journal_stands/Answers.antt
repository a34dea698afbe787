use Rattle.journal.proofs.Recovery.{first_accepted, first_has_room}
use Rattle.journal.proofs.first_journal_stands.Goals as goal

pub returns-clause-recovered : goal.returns-clause-recovered
returns-clause-recovered c = λ l a d ts h. first_accepted l a d ts h

pub returns-clause-room : goal.returns-clause-room
returns-clause-room c = first_has_room
