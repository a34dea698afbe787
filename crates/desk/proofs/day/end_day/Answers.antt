-- Each exit is one check of the list, where no month ends.
use Rattle.std.proofs.Common.{true, false, sym, refl, ap, ◌∙◌, arith, ltb}
use Rattle.std.proofs.lemmas.Bool.{and_left, and_from}
use Rattle.bank.specs.Calls.{day_ends, number, refused}
use Rattle.bank.specs.Checks.{own_checks}
use Rattle.bank.specs.Effects.{turns}
use Rattle.bank.specs.Promise.{asks}
use Rattle.bank.specs.Room.{has_room}
use Rattle.model.specs.Register.{sets}
use Rattle.ledger.specs.Meaning.{bank, limits}
use Rattle.ledger.proofs.Bank.{bank_count}
use Rattle.desk.specs.Desk.{Served}
use Rattle.desk.proofs.Serving.{handed_on, served_turned, served_made}
use Rattle.desk.proofs.Endings.{quiet_told, quiet_effects, quiet_few, within_month}
use Rattle.desk.proofs.day.end_day.Goals as goal
use Rattle.desk.proofs.day.end_day.Goals.{In_default, After-count_call}

turned : (c : In_default) → Served c.args.ledger.now c.args.ledger.now day_ends (refused 10 0) false
unfolding own_checks has_room
turned c =
    let t = c.today.ensures in
    let e = handed_on _ _ _ c.in_default.ensures in
    served_turned c.args.ledger.now c.requires day_ends 0 tt (and_left (ltb (bank c.args.ledger.now).today 3650) _ (cc (t, e)))

pub returns-in_default : goal.returns-in_default
returns-in_default c = within_month _ _ _ _ (sym c.ends_month.ensures ∙ c.if-ends_month.false) (turned c)

-- the day turns, and the call is counted
served : (c : After-count_call) → Served c.args.ledger.now c.count_call.new.self day_ends (number c.in-Some.bookings) true
unfolding own_checks has_room asks sets
served c =
    let g = c.args.ledger.now in
    let q = sym c.ends_month.ensures ∙ c.if-ends_month.false in
    let room = handed_on _ _ _ c.in-Some.ensures in
    let e = room.1 in
    let t = c.today.ensures in
    served_made g c.requires day_ends c.begin_day.new.self _ turns _
    (and_from (ltb (bank g).today 3650) _ (cc (t, e)) (quiet_few (bank g) q (limits g).bookings (omega (arith, bank_count g, g.bookings.within))), tt) refl
    (quiet_effects (bank g) q) refl c.begin_day.ensures c.count_call.ensures (ap number (room.0 ∙ c.booking_count-bookings.ensures) ∙ sym (quiet_told (bank g) q))

pub returns : goal.returns
returns c = within_month _ _ _ _ (sym c.ends_month.ensures ∙ c.if-ends_month.false) (served (goal.at.returns c).After-count_call)
