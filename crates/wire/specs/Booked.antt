-- What a booking of the code stands for. Assumes nothing: these are definitions.
use Rattle.std.specs.Prelude.{◌≡◌, ℕ, suc, ◌<◌, Some, None, Option, Result, MatchResult}
use Rattle.bank.specs.Book.{Booking as Entry}
use Rattle.wire.specs.declared.booking.Booking.{Booking}
use Rattle.wire.specs.declared.booking.Kind.{Kind}
use Rattle.wire.specs.declared.booking.Kind.TheVariants.{Order, Interest}
use Rattle.wire.specs.declared.booking.UnknownKind.{UnknownKind}

-- the number of a kind
abbrev pub kind_number : Kind → ℕ
kind_number Order = 0
kind_number Interest = 1

-- the kind that has a number, or a number that no kind has
abbrev pub HasNumber : ℕ → Result Kind UnknownKind → Type 0
HasNumber n r = MatchResult r (λ kind. kind_number kind ≡ n) (λ e. (e.0 ≡ n) × (1 < n))

-- the number of a mark: 0, or the day after the one on which a booking was taken back
abbrev pub mark : Option ℕ → ℕ
mark None = 0
mark (Some day) = suc day

-- the booking of the book
abbrev pub booked : Booking → Entry
booked b =
    record { on = b.on; value = b.value; from = b.from; to = b.to; amount = b.amount; kind = kind_number b.kind; back = mark b.back }
