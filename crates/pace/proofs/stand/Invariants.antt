use Rattle.std.proofs.Common.{◌-◌}
use Rattle.session.specs.Opening.{Opens}
use Rattle.pace.proofs.stand.Given as goal

abbrev pub invariant-loop-opening : goal.invariant-loop-opening
invariant-loop-opening l = Opens l.fn.opening → Opens l.opening

-- the blocks that were not read yet
abbrev pub decreases-loop-opening : goal.decreases-loop-opening
decreases-loop-opening l = l.opening.session.journal.blocks - l.opening.session.journal.read
