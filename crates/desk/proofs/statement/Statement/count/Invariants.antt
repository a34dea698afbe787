use Rattle.std.proofs.Common.{◌≡◌, ◌+◌, length}
use Rattle.ledger.specs.Meaning.{bank}
use Rattle.desk.specs.Statements.{lines_left}
use Rattle.desk.proofs.statement.Statement.count.Given as goal

abbrev pub invariant-loop-count : goal.invariant-loop-count
invariant-loop-count l = l.count + length (lines_left (bank l.ledger) l.rest) ≡ length (lines_left (bank l.ledger) l.initial.rest)

abbrev pub decreases-loop-count : goal.decreases-loop-count
decreases-loop-count l = length (lines_left (bank l.ledger) l.rest)
