-- Each exit is one check of the list.
use Rattle.std.proofs.Common.{◌≡◌, ◌+◌, leb, take, sym, refl, ap, ◌∙◌}
use Rattle.std.proofs.lemmas.Bool.{lt-ltb, le-ltb, and_left, and_right, and_from}
use Rattle.bank.specs.Calls.{move, enough, ordered, number, told}
use Rattle.bank.specs.Checks.{Passed, own_checks}
use Rattle.bank.specs.Effects.{effects}
use Rattle.bank.specs.Promise.{asks}
use Rattle.bank.specs.Room.{has_room}
use Rattle.model.specs.Register.{sets}
use Rattle.ledger.specs.Meaning.{bank}
use Rattle.desk.proofs.Serving.{handed_on, all_checks, passed_more, served_turned, served_made}
use Rattle.desk.proofs.order.order.Goals as goal
use Rattle.desk.proofs.order.order.Goals.{In-Some-another, After-enough, In-Some-then_some, In-Some-then_some-2, After-has_room_for_order}

pub returns-in_default : goal.returns-in_default
unfolding own_checks has_room
returns-in_default c = served_turned c.args.ledger.now c.requires (move c.args.value c.args.from c.args.to c.args.amount) 0 tt c.in_default.ensures

pub returns-in_default-account : goal.returns-in_default-account
unfolding own_checks has_room
returns-in_default-account c =
    served_turned c.args.ledger.now c.requires (move c.args.value c.args.from c.args.to c.args.amount) 1 (c.in-Some.ensures.1, tt) (le-ltb _ _ c.in_default-account.ensures)

pub returns-in_default-account-2 : goal.returns-in_default-account-2
unfolding own_checks has_room
returns-in_default-account-2 c =
    served_turned c.args.ledger.now c.requires (move c.args.value c.args.from c.args.to c.args.amount) 2 (c.in-Some.ensures.1, (lt-ltb _ _ c.in-Some-account.ensures.1, tt))
    (le-ltb _ _ c.in_default-account-2.ensures)

pub returns-in_default-another : goal.returns-in_default-another
unfolding own_checks has_room
returns-in_default-another c =
    let p = c.in-Some-account.ensures in
    let q = c.in-Some-account-2.ensures in
    let e = c.in_default-another.ensures in
    served_turned c.args.ledger.now c.requires (move c.args.value c.args.from c.args.to c.args.amount) 3 (c.in-Some.ensures.1, (lt-ltb _ _ p.1, (lt-ltb _ _ q.1, tt))) (cc (p.0, q.0, e))

-- an amount that can be ordered, between two accounts that are there
four : (c : In-Some-another) → Passed (take 4 (all_checks c.args.ledger.now (move c.args.value c.args.from c.args.to c.args.amount)))
unfolding own_checks has_room
four c =
    let p = c.in-Some-account.ensures in
    let q = c.in-Some-account-2.ensures in
    (c.in-Some.ensures.1, (lt-ltb _ _ p.1, (lt-ltb _ _ q.1, (cc (p.0, q.0, c.in-Some-another.ensures.1), tt))))

pub returns-in_default-value_day : goal.returns-in_default-value_day
unfolding own_checks has_room
returns-in_default-value_day c =
    served_turned c.args.ledger.now c.requires (move c.args.value c.args.from c.args.to c.args.amount) 4 (four (goal.at.returns-in_default-value_day c).In-Some-another) c.in_default-value_day.ensures

-- whether there is enough, of the amount and the account of the call
covered : (c : After-enough) → enough (bank c.args.ledger.now) c.args.from c.args.amount ≡ c.enough.result
covered c = cc (c.in-Some.ensures.0, c.in-Some-account.ensures.0, c.enough.ensures)

pub returns-in_default-then_some : goal.returns-in_default-then_some
unfolding own_checks has_room
returns-in_default-then_some c =
    let at = goal.at.returns-in_default-then_some c in
    let order = move c.args.value c.args.from c.args.to c.args.amount in
    served_turned c.args.ledger.now c.requires order 5 (passed_more (all_checks c.args.ledger.now order) 4 (four at.In-Some-another) c.in-Some-value_day.ensures.1)
    (covered at.After-enough ∙ handed_on _ _ _ c.in_default-then_some.ensures)

-- of a value day that is early enough, and enough on the account
six : (c : In-Some-then_some) → Passed (take 4 (all_checks c.args.ledger.now (move c.args.value c.args.from c.args.to c.args.amount))) → enough (bank c.args.ledger.now) c.args.from c.args.amount ≡ c.enough.result →
    Passed (take 6 (all_checks c.args.ledger.now (move c.args.value c.args.from c.args.to c.args.amount)))
unfolding own_checks has_room
six c f e =
    let xs = all_checks c.args.ledger.now (move c.args.value c.args.from c.args.to c.args.amount) in
    passed_more xs 5 (passed_more xs 4 f c.in-Some-value_day.ensures.1) (e ∙ (handed_on _ _ _ c.in-Some-then_some.ensures).1)

pub returns-in_default-then_some-2 : goal.returns-in_default-then_some-2
unfolding own_checks has_room
returns-in_default-then_some-2 c =
    let at = goal.at.returns-in_default-then_some-2 c in
    served_turned c.args.ledger.now c.requires (move c.args.value c.args.from c.args.to c.args.amount) 6 (six at.In-Some-then_some (four at.In-Some-another) (covered at.After-enough))
    (and_left _ _ (sym c.has_room_for_booking.ensures ∙ handed_on _ _ _ c.in_default-then_some-2.ensures))

-- the amount is the one that was ordered
same_amount : (c : In-Some-then_some-2) → c.in-Some-then_some-2.amount ≡ c.args.amount
same_amount c = (handed_on _ _ _ c.in-Some-then_some-2.ensures).0 ∙ (handed_on _ _ _ c.in-Some-then_some.ensures).0 ∙ c.in-Some.ensures.0

-- whether it is too much for the payee, of the amount and the account of the call
fitting : (c : After-has_room_for_order) → c.in-Some-then_some-2.amount ≡ c.args.amount → leb (ordered c.args.to (bank c.args.ledger.now).bookings + c.args.amount) 100000000000 ≡ c.has_room_for_order.result
fitting c x = cc (x, c.in-Some-another.ensures.0, c.in-Some-account-2.ensures.0, c.has_room_for_order.ensures)

pub returns-in_default-then_some-3 : goal.returns-in_default-then_some-3
unfolding own_checks has_room
returns-in_default-then_some-3 c =
    let at = goal.at.returns-in_default-then_some-3 c in
    served_turned c.args.ledger.now c.requires (move c.args.value c.args.from c.args.to c.args.amount) 6 (six at.In-Some-then_some (four at.In-Some-another) (covered at.After-enough))
    (and_right _ _ (fitting at.After-has_room_for_order (same_amount at.In-Some-then_some-2) ∙ handed_on _ _ _ c.in_default-then_some-3.ensures))

-- the booking is added, and the call is counted
pub returns : goal.returns
unfolding own_checks has_room asks told effects sets
returns c =
    let at = goal.at.returns c in
    let order = move c.args.value c.args.from c.args.to c.args.amount in
    let x = same_amount at.In-Some-then_some-2 in
    let room = handed_on _ _ _ c.in-Some-then_some-2.ensures in
    let fits = handed_on _ _ _ c.in-Some-then_some-3.ensures in
    served_made c.args.ledger.now c.requires order _ _ _ _
    (passed_more (all_checks c.args.ledger.now order) 6 (six at.In-Some-then_some (four at.In-Some-another) (covered at.After-enough))
    (and_from _ _ (sym c.has_room_for_booking.ensures ∙ room.1) (fitting at.After-has_room_for_order x ∙ fits.1)))
    refl refl refl
    (rw (c.today-on.ensures, c.in-Some-value_day.ensures.0, c.in-Some-account.ensures.0, c.in-Some-another.ensures.0 ∙ c.in-Some-account-2.ensures.0, fits.0 ∙ x) at c.append.ensures)
    c.count_call.ensures (ap number c.booking_count-number.ensures)
