use Rattle.bank.proofs.Example.{worked_book}
use Rattle.bank.proofs.worked_book_stands.Goals as goal

pub returns : goal.returns
returns c = worked_book
