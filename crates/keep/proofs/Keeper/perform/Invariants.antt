use Rattle.std.proofs.Common.{length}
use Rattle.session.specs.Session.{left}
use Rattle.keep.proofs.Keeper.perform.Given as goal

-- each act is one less to do
abbrev pub decreases-loop-k : goal.decreases-loop-k
decreases-loop-k l = length (left l.self.session)
