use Rattle.text.specs.Words.{words_on}
use Rattle.text.proofs.line.InWordsDisplay.fmt.Goals as goal

pub returns-in-Move-clause-writes : goal.returns-in-Move-clause-writes
unfolding words_on
returns-in-Move-clause-writes g c = rw c.in-Move.is c.write-in-Move.ensures.writes
