-- A snapshot of the book, in tables of rows of 32 bytes, 16 to a block, at offsets that follow from the limits: a first block with the day and the counts, accounts, rates, bookings.
-- Only blocks that hold rows are written, and only so many rows are read. Assumes nothing: these are definitions.
use Rattle.std.specs.Prelude.{ℕ, suc, ◌+◌, ◌-◌, ◌/◌, Bool, true, List, [], ◌∷◌, length, ◌==◌, nat_lt, slice_index}
use Rattle.bank.specs.Book.{pick, Rate, Account, Booking}
use Rattle.bank.specs.Calls.{Call, Limits}
use Rattle.bank.specs.Promise.{room}
use Rattle.model.specs.Register.{Dated, Register}
use Rattle.model.specs.JournalBlock.{own, journal_block, epoch_in, calls_in}
use Rattle.device.specs.Rows.{Row, thing_in, block_of, table, in_table, table_in}
use Rattle.device.specs.Checkpoint.{Layout}

-- what stands in the first block
pub record Counts : Type 0 where
  pub today : ℕ
  pub done : ℕ
  pub accounts : ℕ
  pub rates : ℕ
  pub bookings : ℕ

-- a row of 32 bytes with numbers of such widths
abbrev pub plain_row : {X : Type 0} → List ℕ → (X → List ℕ) → (List ℕ → X) → Row X
plain_row widths to from = record { size = 32; kind_width = 0; widths = λ k. widths; kind = λ x. 0; to = to; from = λ k xs. from xs }

-- today 2 bytes, calls taken 4, accounts 2, rates 2, bookings 4
abbrev pub counts_row : Row Counts
counts_row =
    plain_row (2 ∷ (4 ∷ (2 ∷ (2 ∷ (4 ∷ []))))) (λ x. x.today ∷ (x.done ∷ (x.accounts ∷ (x.rates ∷ (x.bookings ∷ [])))))
    (λ xs. record { today = slice_index xs 0; done = slice_index xs 1; accounts = slice_index xs 2; rates = slice_index xs 3; bookings = slice_index xs 4 })

-- an account: its limit 8 bytes
abbrev pub limit_row : Row ℕ
limit_row = plain_row (8 ∷ []) (λ x. x ∷ []) (λ xs. slice_index xs 0)

-- a rate: account, since and rate 2 bytes each
abbrev pub rate_row : Row Dated
rate_row =
    plain_row (2 ∷ (2 ∷ (2 ∷ []))) (λ x. x.account ∷ (x.since ∷ (x.rate ∷ [])))
    (λ xs. record { account = slice_index xs 0; since = slice_index xs 1; rate = slice_index xs 2 })

-- a booking: on, value, from and to 2 bytes each, amount 8, kind and back 2 each
abbrev pub booking_row : Row Booking
booking_row =
    plain_row (2 ∷ (2 ∷ (2 ∷ (2 ∷ (8 ∷ (2 ∷ (2 ∷ []))))))) (λ x. x.on ∷ (x.value ∷ (x.from ∷ (x.to ∷ (x.amount ∷ (x.kind ∷ (x.back ∷ [])))))))
    (λ xs. record { on = slice_index xs 0; value = slice_index xs 1; from = slice_index xs 2; to = slice_index xs 3; amount = slice_index xs 4; kind = slice_index xs 5; back = slice_index xs 6 })

-- accounts taken apart: their limits
unfoldable pub limits_of : List Account → List ℕ
limits_of [] = []
limits_of (x ∷ xs) = x.limit ∷ limits_of xs

-- the rates that were set for account a, in their order
unfoldable pub rates_of : ℕ → List Dated → List Rate
rates_of a [] = []
rates_of a (x ∷ xs) = pick (x.account == a) (record { since = x.since; rate = x.rate } ∷ rates_of a xs) (rates_of a xs)

-- accounts put together from their limits and the rates, from number a on
unfoldable pub accounts_of : ℕ → List ℕ → List Dated → List Account
accounts_of a [] rs = []
accounts_of a (m ∷ ms) rs = record { limit = m; rates = rates_of a rs } ∷ accounts_of (suc a) ms rs

-- how many blocks a table may have
abbrev pub blocks_for : ℕ → ℕ
blocks_for n = (n + 15) / 16

-- how many blocks an area has
abbrev pub area_blocks : Limits → ℕ
area_blocks l = (room l - 42) / 2

-- of some things in a row: the first n are of f, and what is behind them is of g
abbrev pub behind : {X : Type 0} → ℕ → (ℕ → X) → (ℕ → X) → ℕ → X
behind n f g i = pick (nat_lt i n) (f i) (g (i - n))

-- the counts of a book
abbrev pub counts_of : Register → Counts
counts_of k =
    record { today = k.bank.today; done = k.bank.done; accounts = length k.bank.accounts; rates = length k.rates; bookings = length k.bank.bookings }

-- does a snapshot use block i: the first, and those that have rows
unfoldable pub snapshot_uses : Limits → Register → ℕ → Bool
snapshot_uses l k =
    behind 1 (λ i. true)
    (behind (blocks_for l.accounts) (in_table 16 (length k.bank.accounts))
    (behind (blocks_for l.rates) (in_table 16 (length k.rates)) (in_table 16 (length k.bank.bookings))))

-- block i of the snapshot
unfoldable pub snapshot : Limits → Register → ℕ → List ℕ
snapshot l k =
    behind 1 (λ i. block_of counts_row [] (counts_of k ∷ []))
    (behind (blocks_for l.accounts) (table limit_row 16 (limits_of k.bank.accounts))
    (behind (blocks_for l.rates) (table rate_row 16 k.rates) (table booking_row 16 k.bank.bookings)))

-- the bank that some blocks are a snapshot of
unfoldable pub restore : Limits → (ℕ → List ℕ) → Register
restore l g =
    let a : ℕ = blocks_for l.accounts in
    let r : ℕ = blocks_for l.rates in
    let c : Counts = thing_in counts_row (g 0) in
    let rates : List Dated = table_in rate_row 16 c.rates (λ i. g (1 + (a + i))) r in
    record {
      bank =
          record {
            today = c.today;
            done = c.done;
            accounts = accounts_of 0 (table_in limit_row 16 c.accounts (λ i. g (1 + i)) a) rates;
            bookings = table_in booking_row 16 c.bookings (λ i. g (1 + (a + (r + i)))) (blocks_for l.bookings);
          };
      rates = rates;
    }

-- the layout of the device: format 2
abbrev pub layout : Limits → Layout Call Register
layout l = record { encode = journal_block 2 l; tag = epoch_in 2 l; calls = calls_in 2 l; own = own 2 l; uses = snapshot_uses l; snapshot = snapshot l; restore = restore l }
