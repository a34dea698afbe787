use Rattle.std.proofs.Common.{◌-◌}
use Rattle.session.specs.Opening.{Opens, Through}
use Rattle.session.proofs.opening.Opening.take_image.Given as goal

-- the blocks so far were taken again
abbrev pub invariant-loop-k : goal.invariant-loop-k
invariant-loop-k l = (Opens l.initial.self → Opens l.self) × Through l.initial.self l.self l.image

abbrev pub decreases-loop-k : goal.decreases-loop-k
decreases-loop-k l = l.self.session.journal.blocks - l.self.session.journal.read
