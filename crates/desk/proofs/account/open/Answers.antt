-- Each exit is one check of the list.
use Rattle.std.proofs.Common.{true, length, sym, refl, ◌∙◌}
use Rattle.bank.specs.Calls.{opens, number, told}
use Rattle.bank.specs.Checks.{own_checks}
use Rattle.bank.specs.Effects.{effects}
use Rattle.bank.specs.Promise.{asks}
use Rattle.bank.specs.Room.{has_room}
use Rattle.model.specs.Register.{sets}
use Rattle.ledger.specs.Meaning.{bank}
use Rattle.desk.specs.Desk.{Served}
use Rattle.desk.proofs.Serving.{handed_on, served_turned, served_made}
use Rattle.desk.proofs.account.open.Goals as goal
use Rattle.desk.proofs.account.open.Goals.{After-count_call}

pub returns-in_default : goal.returns-in_default
unfolding own_checks has_room
returns-in_default c = served_turned c.args.ledger.now c.requires (opens c.args.limit c.args.rate) 0 tt c.in_default.ensures

pub returns-in_default-rate_of : goal.returns-in_default-rate_of
unfolding own_checks has_room
returns-in_default-rate_of c = served_turned c.args.ledger.now c.requires (opens c.args.limit c.args.rate) 1 (c.in-Some.ensures.1, tt) c.in_default-rate_of.ensures

pub returns-in_default-then_some : goal.returns-in_default-then_some
unfolding own_checks has_room
returns-in_default-then_some c =
    served_turned c.args.ledger.now c.requires (opens c.args.limit c.args.rate) 2 (c.in-Some.ensures.1, (c.in-Some-rate_of.ensures.1, tt))
    (sym c.has_room_for_account.ensures ∙ handed_on _ _ _ c.in_default-then_some.ensures)

-- the account is added, and the call is counted
served : (c : After-count_call) → Served c.args.ledger.now c.count_call.new.self (opens c.args.limit c.args.rate) (number (length (bank c.args.ledger.now).accounts)) true
unfolding own_checks has_room asks told effects sets
served c =
    let m = c.in-Some.ensures in
    let r = c.in-Some-rate_of.ensures in
    let room = handed_on _ _ _ c.in-Some-then_some.ensures in
    served_made c.args.ledger.now c.requires (opens c.args.limit c.args.rate) _ _ _ _ (m.1, (r.1, (sym c.has_room_for_account.ensures ∙ room.1, tt))) refl refl refl
    (rw (m.0, room.0 ∙ r.0) at c.add_account-number.ensures.made) c.count_call.ensures refl

pub returns : goal.returns
returns c = rw c.add_account-number.ensures.number (served (goal.at.returns c).After-count_call)
