use Rattle.std.proofs.Common.{refl}
use Rattle.bank.specs.Calls.{sums, told}
use Rattle.bank.specs.Checks.{own_checks}
use Rattle.bank.specs.Promise.{asks}
use Rattle.bank.specs.Room.{has_room}
use Rattle.desk.proofs.Serving.{asked_taken}
use Rattle.desk.proofs.question.sums.Goals as goal

pub returns : goal.returns
unfolding own_checks has_room asks told
returns c = asked_taken c.args.ledger.now c.requires sums _ (refl, tt) refl (cc (c.sums-came.ensures.came, c.sums-came.ensures.left))
