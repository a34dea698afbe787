-- How bookings lie in lent memory: a column for each field, booking i in cell i of each. Assumes nothing: these are definitions.
use Rattle.std.specs.Prelude.{◌≡◌, ℕ, ◌+◌, List, [], ◌∷◌, ◌++◌, map, ◌==◌, slice_index, slice_index_or, slice_set}
use Rattle.bank.specs.Book.{pick, Booking}
use Rattle.bank.specs.Calls.{marked, none_there}
use Rattle.columns.specs.Firsts.{first_of}
use Rattle.columns.specs.declared.bookings.Bookings.{Bookings}

-- the booking that lies in cell i; a kind other than 0 is interest
abbrev pub row : Bookings → ℕ → Booking
row c i =
    record {
      on = slice_index c.on.now i;
      value = slice_index c.value.now i;
      from = slice_index c.from.now i;
      to = slice_index c.to.now i;
      amount = slice_index c.amount.now i;
      kind = pick (slice_index c.kind.now i == 0) 0 1;
      back = slice_index c.back.now i;
    }

-- all bookings
abbrev pub rows : Bookings → List Booking
rows c = first_of (row c) c.count

-- the days on which bookings were booked
abbrev pub booked_days : List Booking → List ℕ
booked_days bs = map (λ b. b.on) bs

-- no booking yet, and room for n
pub record NewBookings (c : Bookings) (n : ℕ) : Type 0 where
  pub count : c.count ≡ 0
  pub capacity : c.capacity ≡ n

-- one more booking, the same room
pub record Appended (c d : Bookings) (b : Booking) : Type 0 where
  pub rows : rows d ≡ rows c ++ (b ∷ [])
  pub count : d.count ≡ c.count + 1
  pub capacity : d.capacity ≡ c.capacity

-- booking i marked as taken back on a day, the others and the room as they were
pub record Marked (c d : Bookings) (i day : ℕ) : Type 0 where
  pub rows : rows d ≡ slice_set (rows c) i (marked day (slice_index_or (rows c) i none_there))
  pub count : d.count ≡ c.count
  pub capacity : d.capacity ≡ c.capacity
