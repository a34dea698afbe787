-- What one booking counts for. Assumes nothing: these are definitions.
use Rattle.std.specs.Prelude.{ℕ, Bool, ◌&&◌, ◌==◌, nat_le}
use Rattle.bank.specs.Book.{pick, Booking, known}
use Rattle.bank.specs.Builders.{is_order}

-- does it count for account a on a side, whose account p gives, by a value day, as known at the end of day k
abbrev pub counts : (Booking → ℕ) → ℕ → ℕ → ℕ → Booking → Bool
counts p k a d b = known k b && (p b == a && nat_le b.value d)

-- what it moves there
abbrev pub share : (Booking → ℕ) → ℕ → ℕ → ℕ → Booking → ℕ
share p k a d b = pick (counts p k a d b) b.amount 0

-- its amount, if it was not taken back
abbrev pub live : Booking → ℕ
live b = pick (b.back == 0) b.amount 0

-- its amount, if it is an order that was not taken back
abbrev pub live_order : Booking → ℕ
live_order b = pick (is_order b.kind && b.back == 0) b.amount 0

-- does it come to an account, or leave it, and was not taken back
abbrev pub live_to : ℕ → Booking → Bool
live_to a b = b.to == a && b.back == 0

abbrev pub live_from : ℕ → Booking → Bool
live_from a b = b.from == a && b.back == 0
