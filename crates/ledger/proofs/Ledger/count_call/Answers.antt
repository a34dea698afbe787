use Rattle.std.proofs.Common.{arith}
use Rattle.ledger.proofs.Effect.{done_small}
use Rattle.ledger.proofs.Ledger.count_call.Goals as goal

pub overflow_add-self : goal.overflow_add-self
overflow_add-self c = omega (arith, done_small c.args.self.now)
