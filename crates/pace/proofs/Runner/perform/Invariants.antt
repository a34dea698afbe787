use Rattle.std.proofs.Common.{length}
use Rattle.session.specs.Session.{left}
use Rattle.pace.proofs.Runner.perform.Given as goal

-- each act is one less to do
abbrev pub decreases-loop-self : goal.decreases-loop-self
decreases-loop-self l = length (left l.self.session)
