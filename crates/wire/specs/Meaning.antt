-- What the code's calls stand for: for each case the call of the book, with its values. Assumes nothing: these are definitions.
use Rattle.std.specs.Prelude.{ℕ, Ok, Err, Result}
use Rattle.bank.specs.Calls.{opens, rated, move, take_back, day_ends, balance, statement, sums, taken_so_far, garbled}
use Rattle.bank.specs.Calls.{Call as Meant}
use Rattle.wire.specs.declared.call.Call.{Call}
use Rattle.wire.specs.declared.call.Call.TheVariants.{Open, Rate, Move, TakeBack, DayEnds, Balance, Statement, Sums, Taken}

-- the call of the book that a call of the code is
abbrev pub meant : Call → Meant
meant (Open limit rate) = opens limit rate
meant (Rate account rate) = rated account rate
meant (Move value from to amount) = move value from to amount
meant (TakeBack booking) = take_back booking
meant DayEnds = day_ends
meant (Balance account value known) = balance account value known
meant (Statement account first last) = statement account first last
meant Sums = sums
meant Taken = taken_so_far

-- what was read: a call, or bytes that are none and where they cease to be one
abbrev pub received : Result Call ℕ → Meant
received (Ok c) = meant c
received (Err k) = garbled k
