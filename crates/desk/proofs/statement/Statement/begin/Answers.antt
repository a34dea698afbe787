-- Each exit is one check of the list.
use Rattle.std.proofs.Common.{ℕ, drop, sym, refl, ap, ◌∙◌}
use Rattle.std.proofs.lemmas.Bool.{lt-ltb, le-ltb}
use Rattle.bank.specs.Calls.{statement, lines, lines_of}
use Rattle.bank.specs.Checks.{own_checks}
use Rattle.bank.specs.Promise.{asks}
use Rattle.bank.specs.Room.{has_room}
use Rattle.ledger.specs.Meaning.{bank}
use Rattle.desk.proofs.Serving.{asked_turned, asked_taken}
use Rattle.desk.proofs.Lines.{lines_begin}
use Rattle.desk.proofs.statement.Statement.begin.Goals as goal

pub returns-in_default : goal.returns-in_default
unfolding own_checks has_room
returns-in_default c = asked_turned c.args.ledger.now c.requires (statement c.args.account c.args.first c.args.last) 0 tt (le-ltb _ _ c.in_default.ensures)

pub returns : goal.returns
unfolding own_checks has_room asks
returns c =
    let n = bank c.args.ledger.now in
    let f = c.first_booked.ensures in
    asked_taken c.args.ledger.now c.requires (statement c.args.account c.args.first c.args.last) _ (lt-ltb _ _ c.in-Some.ensures.1, (refl, tt)) refl
    (ap (λ (a : ℕ). lines (lines_of a c.args.first c.args.last (drop c.first_booked.result n.bookings))) c.in-Some.ensures.0
    ∙ sym (lines_begin n c.args.account c.args.first c.args.last _ f.within f.before))
