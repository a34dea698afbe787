-- What a ledger means: the bank that lies in its columns, its rates in the order in which they were set, and what it was opened with. Assumes nothing: these are definitions.
use Rattle.std.specs.Prelude.{ℕ, List, [], ◌∷◌, length, slice_index_or}
use Rattle.bank.specs.Book.{Rate, Account, Bank}
use Rattle.bank.specs.Calls.{Limits}
use Rattle.bank.specs.Effects.{Effect, books, marks, adds, rates, turns}
use Rattle.model.specs.Register.{Dated, Register}
use Rattle.model.specs.Snapshot.{accounts_of}
use Rattle.columns.specs.Cells.{limits_in_lem}
use Rattle.columns.specs.RateRows.{rate_rows}
use Rattle.columns.specs.Rows.{rows}
use Rattle.ledger.specs.Facts.{backs, most_calls}
use Rattle.ledger.specs.declared.Ledger.{Ledger}

-- the bank that a ledger holds
unfoldable pub bank : Ledger → Bank
bank g =
    record { today = g.today; done = g.done; accounts = accounts_of 0 (limits_in_lem g.accounts) (rate_rows g.rates); bookings = rows g.bookings }

-- all its rates, in the order in which they were set
unfoldable pub rates_set : Ledger → List Dated
rates_set g = rate_rows g.rates

-- rate i of these
abbrev pub rate_at : Ledger → ℕ → Dated
rate_at g i = slice_index_or (rates_set g) i (record { account = 0; since = 0; rate = 0 })

-- both
abbrev pub register : Ledger → Register
register g = record { bank = bank g; rates = rates_set g }

-- what it was opened with
abbrev pub limits : Ledger → Limits
limits g = record { accounts = g.accounts.capacity; rates = g.rates.capacity; bookings = g.bookings.capacity }

-- the rates of an account, each with its number
abbrev pub dated_all : ℕ → List Rate → List Dated
dated_all a [] = []
dated_all a (x ∷ xs) = record { account = a; since = x.since; rate = x.rate } ∷ dated_all a xs

-- the rates that an effect sets
abbrev pub sets_by : Bank → Effect → List Dated
sets_by n (books b) = []
sets_by n (marks k) = []
sets_by n (adds x) = dated_all (length n.accounts) x.rates
sets_by n (rates a r) = dated_all a (r ∷ [])
sets_by n turns = []

-- the most calls that it can have counted
abbrev pub most_done : Ledger → ℕ
most_done g = most_calls g.rates.count g.bookings.count (backs (rows g.bookings)) g.today

-- a bank by which another number of calls was counted
abbrev pub with_done : Bank → ℕ → Bank
with_done n k = record { today = n.today; done = k; accounts = n.accounts; bookings = n.bookings }

-- an account that has no rate yet
abbrev pub bare_account : ℕ → Account
bare_account l = record { limit = l; rates = [] }
