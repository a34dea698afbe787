use Rattle.std.proofs.Common.{◌≡◌, ◌-◌, length}
use Rattle.ledger.specs.Meaning.{bank}
use Rattle.desk.specs.Statements.{lines_left}
use Rattle.desk.proofs.statement.Statement.next_line.Given as goal

abbrev pub invariant-loop-booking : goal.invariant-loop-booking
invariant-loop-booking l = lines_left (bank l.ledger) l.self ≡ lines_left (bank l.ledger) l.initial.self

abbrev pub decreases-loop-booking : goal.decreases-loop-booking
decreases-loop-booking l = length (bank l.ledger).bookings - l.self.next
