use Rattle.std.proofs.Common.{sym, subst}
use mathlib.Core.Path.{fun_ext}
use Rattle.device.specs.Device.{Device, LeftBy}
use Rattle.bank.specs.Calls.{Answer}
use Rattle.sim.specs.Unflushed.{holds}
use Rattle.sim.proofs.Held.{cut_left}
use Rattle.sim.proofs.Unflushed.cut.Goals as goal

pub returns-clause-left : goal.returns-clause-left
returns-clause-left c =
    λ d xs s. subst (λ (e : Device). LeftBy d xs e) (sym (fun_ext c.put_left.ensures)) (cut_left Answer d xs (holds c.args.image.now c.args.self.now) _ s)
