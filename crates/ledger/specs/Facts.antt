-- What holds of the parts of a ledger. Assumes nothing: these are definitions.
use Rattle.std.specs.Prelude.{ℕ, suc, ◌+◌, ◌<◌, ◌≤◌, List, [], ◌∷◌, ◌==◌}
use Rattle.bank.specs.Book.{pick, Booking}

-- a booking that is not dated after day t, between two of the first m accounts
pub record Fit (t m : ℕ) (b : Booking) : Type 0 where
  pub on : b.on ≤ t
  pub value : b.value ≤ t
  pub back : b.back ≤ suc t
  pub from : b.from < m
  pub to : b.to < m

-- how many bookings were taken back
unfoldable pub backs : List Booking → ℕ
backs [] = 0
backs (b ∷ bs) = pick (b.back == 0) 0 1 + backs bs

-- the most calls that can have been counted: as many as four bytes tell, and one for each rate, booking, mark and day that was used up
abbrev pub most_calls : ℕ → ℕ → ℕ → ℕ → ℕ
most_calls rates bookings marks days = 4294967296 + rates + bookings + marks + days
