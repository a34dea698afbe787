-- The number and the place of each refusal. Assumes nothing: these are definitions.
use Rattle.std.specs.Prelude.{ℕ}
use Rattle.bank.specs.Calls.{Answer, refused}
use Rattle.desk.specs.declared.refusal.Refusal.{Refusal}
use Rattle.desk.specs.declared.refusal.Refusal.TheVariants.{NotYet, Amount, Limit, Rate, Account, SameAccount, ValueDay, NotEnough, Booking, NotYetKnown, NoRoom}

-- the number of the list
abbrev pub reason_of : Refusal → ℕ
reason_of NotYet = 1
reason_of Amount = 2
reason_of Limit = 2
reason_of Rate = 2
reason_of (Account field) = 4
reason_of SameAccount = 5
reason_of ValueDay = 6
reason_of NotEnough = 7
reason_of Booking = 8
reason_of NotYetKnown = 9
reason_of NoRoom = 10

-- the place
abbrev pub place_of : Refusal → ℕ
place_of NotYet = 0
place_of Amount = 3
place_of Limit = 0
place_of Rate = 1
place_of (Account field) = field
place_of SameAccount = 2
place_of ValueDay = 0
place_of NotEnough = 1
place_of Booking = 0
place_of NotYetKnown = 2
place_of NoRoom = 0

-- the answer that names it
abbrev pub turned_away : Refusal → Answer
turned_away x = refused (reason_of x) (place_of x)
