-- The end of a day on which no month ends.
use Rattle.std.proofs.Common.{◌≡◌, ℕ, suc, ◌≤◌, Bool, true, false, leb, List, [], ◌∷◌, length, sym, refl, ap, ◌∙◌, arith}
use Rattle.std.proofs.lemmas.Bool.{true≢false, le-leb}
use Rattle.bank.specs.Book.{Booking, Bank}
use Rattle.bank.specs.Builders.{month_starts}
use Rattle.bank.specs.Calls.{Answer, day_ends, ended, number, told}
use Rattle.bank.specs.Effects.{turns, effects}
use Rattle.ledger.specs.Meaning.{bank}
use Rattle.ledger.specs.declared.Ledger.{Ledger}
use Rattle.desk.specs.Desk.{Served, DayServed}

module _ (n : Bank) (q : month_starts (suc n.today) ≡ false) where
  -- no interest is booked
  quiet_bookings : (ended n).bookings ≡ n.bookings
  unfolding ended
  quiet_bookings = rw q refl

  pub quiet_told : told n day_ends ≡ number (length n.bookings)
  unfolding told
  quiet_told = ap (λ (bs : List Booking). number (length bs)) quiet_bookings

  pub quiet_effects : effects n day_ends ≡ turns ∷ []
  unfolding effects
  quiet_effects = rw q refl

  pub quiet_few : (m : ℕ) → length n.bookings ≤ m → leb (length (ended n).bookings) m ≡ true
  quiet_few m h = le-leb _ _ (omega (arith, h, ap (λ (bs : List Booking). length bs) quiet_bookings))

-- what was served where no month ends
pub within_month : (g h : Ledger) (a : Answer) (did : Bool) → month_starts (suc (bank g).today) ≡ false → Served g h day_ends a did → DayServed g h a did
within_month g h a did q s = record { within = λ _. s; month = λ e. absurd (true≢false (sym e ∙ q)); kept = s.kept; onward = s.onward }
