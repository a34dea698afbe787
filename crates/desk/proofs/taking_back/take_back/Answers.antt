-- Each exit is one check of the list.
use Rattle.std.proofs.Common.{true, refl}
use Rattle.bank.specs.Calls.{take_back, number, told}
use Rattle.bank.specs.Checks.{own_checks}
use Rattle.bank.specs.Effects.{effects}
use Rattle.bank.specs.Promise.{asks}
use Rattle.bank.specs.Room.{has_room}
use Rattle.model.specs.Register.{sets}
use Rattle.desk.specs.Desk.{Served}
use Rattle.desk.proofs.Serving.{served_turned, served_made}
use Rattle.desk.proofs.taking_back.take_back.Goals as goal
use Rattle.desk.proofs.taking_back.take_back.Goals.{After-count_call}

pub returns-in_default : goal.returns-in_default
unfolding own_checks has_room
returns-in_default c = served_turned c.args.ledger.now c.requires (take_back c.args.booking) 0 tt c.in_default.ensures

-- the booking is marked, and the call is counted
served : (c : After-count_call) → Served c.args.ledger.now c.count_call.new.self (take_back c.args.booking) (number c.args.booking) true
unfolding own_checks has_room asks told effects sets
served c =
    let p = c.in-Some.ensures in
    served_made c.args.ledger.now c.requires (take_back c.args.booking) _ _ _ _ (p.1, (refl, tt)) refl refl refl (rw p.0 at c.take_back.ensures) c.count_call.ensures refl

pub returns : goal.returns
returns c = served (goal.at.returns c).After-count_call
