use Rattle.std.proofs.Common.{◌-◌}
use Rattle.store.proofs.Standing.{ReadSoFar}
use Rattle.store.proofs.stand.Given as goal

-- the blocks so far were taken again
abbrev pub invariant-loop-k : goal.invariant-loop-k
invariant-loop-k g l = goal.F-IsAlwaysCallable g l.read × ReadSoFar g.F.FnMut l.fn.read l.read l.fn.opening l.opening

-- the blocks that were not read yet
abbrev pub decreases-loop-k : goal.decreases-loop-k
decreases-loop-k g l = l.opening.session.journal.blocks - l.opening.session.journal.read
