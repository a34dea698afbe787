-- Each exit is one check of the list.
use Rattle.std.proofs.Common.{refl}
use Rattle.std.proofs.lemmas.Bool.{lt-ltb, le-ltb, le-leb, lt-leb}
use Rattle.bank.specs.Calls.{balance, told}
use Rattle.bank.specs.Checks.{own_checks}
use Rattle.bank.specs.Promise.{asks}
use Rattle.bank.specs.Room.{has_room}
use Rattle.desk.proofs.Serving.{asked_turned, asked_taken}
use Rattle.desk.proofs.question.balance.Goals as goal

pub returns-in_default : goal.returns-in_default
unfolding own_checks has_room
returns-in_default c = asked_turned c.args.ledger.now c.requires (balance c.args.account c.args.value c.args.known) 0 tt (le-ltb _ _ c.in_default.ensures)

pub returns-in_default-known_day : goal.returns-in_default-known_day
unfolding own_checks has_room
returns-in_default-known_day c =
    asked_turned c.args.ledger.now c.requires (balance c.args.account c.args.value c.args.known) 1 (lt-ltb _ _ c.in-Some.ensures.1, tt) (lt-leb _ _ c.in_default-known_day.ensures)

pub returns : goal.returns
unfolding own_checks has_room asks told
returns c =
    let a = c.in-Some.ensures in
    let k = c.in-Some-known_day.ensures in
    let v = c.last_value-value.ensures in
    asked_taken c.args.ledger.now c.requires (balance c.args.account c.args.value c.args.known) _ (lt-ltb _ _ a.1, (le-leb _ _ k.1, (refl, tt))) refl
    (cc (a.0, k.0, c.came.ensures, c.left.ensures, v.came c.in-Some-known_day.known c.in-Some.account, v.left c.in-Some-known_day.known c.in-Some.account))
