use Rattle.desk.specs.Desk.{Kept, Onward}
use Rattle.desk_tests.proofs.rows.take_all.Given as goal

abbrev pub invariant-loop-row : goal.invariant-loop-row
invariant-loop-row g l = Kept l.ledger × Onward l.initial.ledger l.ledger
