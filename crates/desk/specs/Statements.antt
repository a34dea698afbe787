-- What a statement has yet to hand out. Assumes nothing: these are definitions.
use Rattle.std.specs.Prelude.{◌≡◌, ℕ, List, [], ◌∷◌, drop, Some, None, Ok, Err, Option, Result}
use Rattle.bank.specs.Book.{Booking, Bank}
use Rattle.bank.specs.Calls.{statement, lines, lines_of}
use Rattle.wire.specs.Booked.{booked}
use Rattle.wire.specs.declared.booking.Booking.{Booking as Entry}
use Rattle.ledger.specs.Meaning.{bank}
use Rattle.ledger.specs.declared.Ledger.{Ledger}
use Rattle.desk.specs.Desk.{Asked}
use Rattle.desk.specs.Refusals.{turned_away}
use Rattle.desk.specs.declared.refusal.Refusal.{Refusal}
use Rattle.desk.specs.declared.statement.Statement.{Statement}

-- the lines that a statement has yet to hand out: those of its account and its days, from a booking on
abbrev pub lines_left : Bank → Statement → List Booking
lines_left n s = lines_of s.account s.first s.last (drop s.next n.bookings)

-- a statement is begun, with all its lines to be handed out, or turned away
abbrev pub Stated : Ledger → ℕ → ℕ → ℕ → Result Statement Refusal → Type 0
Stated g a d e (Ok s) = Asked g (statement a d e) (lines (lines_left (bank g) s))
Stated g a d e (Err x) = Asked g (statement a d e) (turned_away x)

-- a line is handed out, and those behind it are left; or there is none
abbrev pub Handed : Bank → Statement → Statement → Option Entry → Type 0
Handed n s t (Some b) = lines_left n s ≡ booked b ∷ lines_left n t
Handed n s t None = (lines_left n s ≡ []) × (lines_left n t ≡ [])
