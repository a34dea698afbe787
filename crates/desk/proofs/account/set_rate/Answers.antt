-- Each exit is one check of the list.
use Rattle.std.proofs.Common.{true, sym, refl, ◌∙◌}
use Rattle.std.proofs.lemmas.Bool.{lt-ltb, le-ltb}
use Rattle.bank.specs.Calls.{rated, number, told}
use Rattle.bank.specs.Checks.{own_checks}
use Rattle.bank.specs.Effects.{effects}
use Rattle.bank.specs.Promise.{asks}
use Rattle.bank.specs.Room.{has_room}
use Rattle.model.specs.Register.{sets}
use Rattle.desk.specs.Desk.{Served}
use Rattle.desk.proofs.Serving.{handed_on, served_turned, served_made}
use Rattle.desk.proofs.account.set_rate.Goals as goal
use Rattle.desk.proofs.account.set_rate.Goals.{After-count_call}

pub returns-in_default : goal.returns-in_default
unfolding own_checks has_room
returns-in_default c = served_turned c.args.ledger.now c.requires (rated c.args.account c.args.rate) 0 tt c.in_default.ensures

pub returns-in_default-account : goal.returns-in_default-account
unfolding own_checks has_room
returns-in_default-account c =
    served_turned c.args.ledger.now c.requires (rated c.args.account c.args.rate) 1 (c.in-Some.ensures.1, tt) (le-ltb _ _ c.in_default-account.ensures)

pub returns-in_default-then_some : goal.returns-in_default-then_some
unfolding own_checks has_room
returns-in_default-then_some c =
    served_turned c.args.ledger.now c.requires (rated c.args.account c.args.rate) 2 (c.in-Some.ensures.1, (lt-ltb _ _ c.in-Some-account.ensures.1, tt))
    (sym c.has_room_for_rate.ensures ∙ handed_on _ _ _ c.in_default-then_some.ensures)

-- the rate is added, and the call is counted
served : (c : After-count_call) → Served c.args.ledger.now c.count_call.new.self (rated c.args.account c.args.rate) (number 0) true
unfolding own_checks has_room asks told effects sets
served c =
    let r = c.in-Some.ensures in
    let a = c.in-Some-account.ensures in
    let room = handed_on _ _ _ c.in-Some-then_some.ensures in
    served_made c.args.ledger.now c.requires (rated c.args.account c.args.rate) _ _ _ _ (r.1, (lt-ltb _ _ a.1, (sym c.has_room_for_rate.ensures ∙ room.1, tt))) refl refl refl
    (rw (a.0, c.today-since.ensures, room.0 ∙ r.0) at c.add_rate.ensures) c.count_call.ensures refl

pub returns : goal.returns
returns c = served (goal.at.returns c).After-count_call
