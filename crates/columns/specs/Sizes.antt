-- How much memory a book needs, by its limits. Assumes nothing: these are definitions.
use Rattle.std.specs.Prelude.{ℕ, ◌+◌, ◌*◌}
use Rattle.bank.specs.Calls.{Limits as Bounds}
use Rattle.columns.specs.declared.limits.Limits.{Limits}

-- the limits of the book
abbrev pub limits_of : Limits → Bounds
limits_of l = record { accounts = l.accounts; rates = l.rates; bookings = l.bookings }

-- cells of 8 bytes: per account limit, came, left, ordered and two of scratch; per booking its amount
abbrev pub cents_for : Bounds → ℕ
cents_for l = 6 * l.accounts + l.bookings

-- cells of 4 bytes: per account two heads of chains and one of scratch; per rate account, since and rate; per booking on, value, from, to, kind, back and two links
abbrev pub numbers_for : Bounds → ℕ
numbers_for l = 3 * l.accounts + 3 * l.rates + 8 * l.bookings

-- all bytes: the cells, the block that is written next, and 3,584 for what a session holds besides
abbrev pub bytes_for : Bounds → ℕ
bytes_for l = 8 * cents_for l + 4 * numbers_for l + 512 + 3584
