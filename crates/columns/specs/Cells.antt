-- How accounts lie in lent memory: limits, and the running sums of the bookings that are not taken back. Assumes nothing: these are definitions.
use Rattle.std.specs.Prelude.{◌≡◌, ℕ, ◌+◌, ◌-◌, ◌<◌, List, slice_index, slice_set}
use Rattle.bank.specs.Book.{Booking}
use Rattle.bank.specs.Sums.{tally, orders}
use Rattle.columns.specs.Firsts.{first_of}
use Rattle.columns.specs.Parts.{live, live_order, live_to, live_from}
use Rattle.columns.specs.declared.accounts.Accounts.{Accounts}
use Rattle.columns.specs.declared.accounts.Account.{Account}

-- the cells of account a
abbrev pub cells : Accounts → ℕ → Account
cells c a = record { limit = slice_index c.limit.now a; came = slice_index c.came.now a; left = slice_index c.left.now a; ordered = slice_index c.ordered.now a }

-- the limits of all accounts
abbrev pub limits_in_lem : Accounts → List ℕ
limits_in_lem c = first_of (λ a. slice_index c.limit.now a) c.count

-- the running sums are those of the bookings that are not taken back
pub record Sums (c : Accounts) (bs : List Booking) : Type 0 where
  pub came : (a : ℕ) → a < c.count → slice_index c.came.now a ≡ tally (live_to a) bs
  pub left : (a : ℕ) → a < c.count → slice_index c.left.now a ≡ tally (live_from a) bs
  pub ordered : (a : ℕ) → a < c.count → slice_index c.ordered.now a ≡ tally (orders a) bs

-- the first two accounts, and room for n
pub record NewAccounts (c : Accounts) (n : ℕ) : Type 0 where
  pub count : c.count ≡ 2
  pub capacity : c.capacity ≡ n
  pub limit : (a : ℕ) → a < 2 → slice_index c.limit.now a ≡ 0
  pub came : (a : ℕ) → a < 2 → slice_index c.came.now a ≡ 0
  pub left : (a : ℕ) → a < 2 → slice_index c.left.now a ≡ 0
  pub ordered : (a : ℕ) → a < 2 → slice_index c.ordered.now a ≡ 0

-- one more account, with a limit and nothing booked
pub record AccountAdded (c d : Accounts) (l : ℕ) : Type 0 where
  pub limit : d.limit.now ≡ slice_set c.limit.now c.count l
  pub came : d.came.now ≡ slice_set c.came.now c.count 0
  pub left : d.left.now ≡ slice_set c.left.now c.count 0
  pub ordered : d.ordered.now ≡ slice_set c.ordered.now c.count 0
  pub count : d.count ≡ c.count + 1
  pub capacity : d.capacity ≡ c.capacity

-- the running sums of two accounts written: what left the one, and what came to the other, in all and by orders
pub record Summed (c d : Accounts) (f t gone come order : ℕ) : Type 0 where
  pub limit : d.limit.now ≡ c.limit.now
  pub came : d.came.now ≡ slice_set c.came.now t come
  pub left : d.left.now ≡ slice_set c.left.now f gone
  pub ordered : d.ordered.now ≡ slice_set c.ordered.now t order
  pub count : d.count ≡ c.count
  pub capacity : d.capacity ≡ c.capacity

-- a booking added to the running sums
abbrev pub Credited : Accounts → Accounts → Booking → Type 0
Credited c d b =
    Summed c d b.from b.to (slice_index c.left.now b.from + live b) (slice_index c.came.now b.to + live b) (slice_index c.ordered.now b.to + live_order b)

-- a booking taken again from the running sums
abbrev pub Debited : Accounts → Accounts → Booking → Type 0
Debited c d b =
    Summed c d b.from b.to (slice_index c.left.now b.from - live b) (slice_index c.came.now b.to - live b) (slice_index c.ordered.now b.to - live_order b)
