-- How many calls can be taken: each uses up an account, a rate, a booking, a taking back or a day. Assumes nothing: these are definitions.
use Rattle.std.specs.Prelude.{◌≡◌, ℕ, suc, ◌+◌, ◌*◌, ◌≤◌, Bool, true, false, not, ◌&&◌, List, [], ◌∷◌, length, ◌==◌}
use Rattle.bank.specs.Book.{pick, Booking, Bank}
use Rattle.bank.specs.Calls.{Call, Limits, rates_in, turned, after, ran, new_bank}
use Rattle.bank.specs.Promise.{asks}

-- a call that is taken and is no question changes the book
abbrev pub changes : Limits → Bank → Call → Bool
changes l n c = not (asks c) && turned l n c == 0

-- how many bookings were taken back
unfoldable pub marks : List Booking → ℕ
marks [] = 0
marks (b ∷ bs) = pick (b.back == 0) 0 1 + marks bs

-- what a book has used up: accounts, rates, bookings, takings back and days
abbrev pub used : Bank → ℕ
used n = (length n.accounts + rates_in n.accounts) + ((length n.bookings + marks n.bookings) + n.today)

-- how many calls can be taken under some limits
abbrev pub most_calls : Limits → ℕ
most_calls l = ((l.accounts + l.rates) + 2 * l.bookings) + 3650

-- A CALL THAT CHANGES THE BOOK IS COUNTED AND USES SOMETHING UP, any other changes nothing; so the calls ever taken are bounded by the limits
pub record CallsBounded : Type 0 where
  pub counts : (l : Limits) (n : Bank) (c : Call) → changes l n c ≡ true → (after l n c).done ≡ suc n.done
  pub uses_up : (l : Limits) (n : Bank) (c : Call) → changes l n c ≡ true → suc (used n) ≤ used (after l n c)
  pub idle : (l : Limits) (n : Bank) (c : Call) → changes l n c ≡ false → after l n c ≡ n
  pub few : (l : Limits) (cs : List Call) → 2 ≤ l.accounts → (ran l new_bank cs).done ≤ most_calls l
