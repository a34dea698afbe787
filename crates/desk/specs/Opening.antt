-- The ledger of a book that was opened. Assumes nothing: these are definitions.
use Rattle.std.specs.Prelude.{Ok, Err, Result}
use Rattle.ledger.specs.declared.Ledger.{Ledger}
use Rattle.ledger.specs.declared.opening.Refused.{Refused}
use Rattle.desk.specs.declared.Book.{Book}

-- what opening gave, with the ledger in place of the book
abbrev pub ledger_of : Result Book Refused → Result Ledger Refused
ledger_of (Ok b) = Ok b.ledger
ledger_of (Err e) = Err e
