-- What a header of the code stands for. Assumes nothing: these are definitions.
use Rattle.std.specs.Prelude.{◌≡◌, ℕ, Bool, ◌&&◌, ◌||◌, List, length, Some, None, Option, ◌==◌, ◌≢◌, nat_le, nat_lt}
use Rattle.device.specs.Device.{pick}
use Rattle.bank.specs.Calls.{Limits}
use Rattle.model.specs.JournalBlock.{Head, head_in}
use Rattle.journal.specs.declared.header.Header.{Header}

abbrev pub head_of : Header → Head
head_of h =
    record { format = h.format; rows = h.rows; options = h.options; accounts = h.accounts; epoch = h.epoch; bookings = h.bookings; rates = h.rates }

-- the header that a whole block begins with; or none
abbrev pub Reads : List ℕ → Option Header → Type 0
Reads bs (Some h) = (length bs ≡ 512) × (head_of h ≡ head_in bs)
Reads bs None = length bs ≢ 512

-- the limits that a header says
abbrev pub limits_said : Head → Limits
limits_said h = record { accounts = h.accounts; rates = h.rates; bookings = h.bookings }

-- how many rows the block of a header of this book has for a journal of an epoch, which it can join or not; or none where it cannot be of the journal
abbrev pub rows_found : Head → ℕ → Bool → Option ℕ
rows_found h epoch joins = pick (h.rows == 0 || nat_lt h.epoch epoch) (Some 0) (pick (nat_le h.epoch epoch && (nat_le h.rows 24 && joins)) (Some h.rows) None)
