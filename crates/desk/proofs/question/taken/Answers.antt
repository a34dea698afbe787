use Rattle.std.proofs.Common.{refl, ap}
use Rattle.bank.specs.Calls.{taken_so_far, number, told}
use Rattle.bank.specs.Checks.{own_checks}
use Rattle.bank.specs.Promise.{asks}
use Rattle.bank.specs.Room.{has_room}
use Rattle.desk.proofs.Serving.{asked_taken}
use Rattle.desk.proofs.question.taken.Goals as goal

pub returns : goal.returns
unfolding own_checks has_room asks told
returns c = asked_taken c.args.ledger.now c.requires taken_so_far _ (refl, tt) refl (ap number c.done.ensures)
