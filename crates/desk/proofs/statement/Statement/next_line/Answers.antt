use Rattle.std.proofs.Common.{sym, ◌∙◌, arith}
use Rattle.ledger.specs.Meaning.{bank}
use Rattle.desk.proofs.Lines.{booked_in_order, line_is, line_is_not, line_late, lines_end}
use Rattle.desk.proofs.statement.Statement.next_line.Goals as goal

pub returns-then-self-booking : goal.returns-then-self-booking
returns-then-self-booking c =
    let g = c.args.ledger.now in
    let s = c.in-Some.ensures in
    let late = line_late (bank g) c.loop-booking.self _ s.1 s.0 (booked_in_order g c.requires) (omega arith) in (sym c.loop-booking.invariant ∙ late, late)

pub returns-then-lists : goal.returns-then-lists
returns-then-lists c =
    let s = c.in-Some.ensures in
    sym c.loop-booking.invariant ∙ line_is (bank c.args.ledger.now) c.loop-booking.self _ s.1 s.0 c.lists.result c.lists.ensures c.if-lists.true

pub loop-booking-preserved : goal.loop-booking-preserved
loop-booking-preserved c =
    let s = c.in-Some.ensures in
    sym (line_is_not (bank c.args.ledger.now) c.loop-booking.self _ s.1 s.0 c.lists.result c.lists.ensures c.if-lists.false) ∙ c.loop-booking.invariant

pub returns : goal.returns
returns c =
    let s = c.loop-booking.self in
    let none = lines_end s.account s.first s.last (bank c.args.ledger.now).bookings s.next c.in_default.ensures in
    (sym c.loop-booking.invariant ∙ none, none)
