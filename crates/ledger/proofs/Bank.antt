-- Laws of the bank that a ledger holds: how many accounts, rates and bookings it has, and what lies at a number.
use Rattle.std.proofs.Common.{◌≡◌, ℕ, zero, suc, ◌<◌, List, [], ◌∷◌, length, get_or, sym, refl, ap, ◌∙◌, add-one, arith, length-append}
use Rattle.bank.specs.Book.{Account}
use Rattle.bank.specs.Builders.{no_account, booking_at}
use Rattle.bank.specs.Calls.{limit_of, none_there, rates_in}
use Rattle.model.specs.Register.{Dated}
use Rattle.model.specs.Snapshot.{rates_of, accounts_of}
use Rattle.bank.proofs.Count.{rates_set as rates-one-more}
use Rattle.model.proofs.Register.{accounts_put, with_rate, rate_of_lem}
use Rattle.columns.specs.Cells.{limits_in_lem}
use Rattle.columns.specs.Firsts.{first_of}
use Rattle.columns.specs.RateRows.{rate_row, rate_rows}
use Rattle.columns.specs.Rows.{row, rows}
use Rattle.columns.proofs.First.{length_first, get_or_first, first_more, first_none}
use Rattle.ledger.specs.Meaning.{bank, rates_set, rate_at}
use Rattle.ledger.specs.declared.Ledger.{Ledger}

pub accounts_length : (a : ℕ) (ms : List ℕ) (rs : List Dated) → length (accounts_of a ms rs) ≡ length ms
unfolding accounts_of
accounts_length a [] rs = refl
accounts_length a (m ∷ ms) rs = ap suc (accounts_length (suc a) ms rs)

accounts_limit : (a : ℕ) (ms : List ℕ) (rs : List Dated) (i : ℕ) → (get_or (accounts_of a ms rs) i no_account).limit ≡ get_or ms i 0
unfolding accounts_of
accounts_limit a [] rs i = refl
accounts_limit a (m ∷ ms) rs zero = refl
accounts_limit a (m ∷ ms) rs (suc i) = accounts_limit (suc a) ms rs i

pub bank_accounts : (g : Ledger) → length (bank g).accounts ≡ g.accounts.count
unfolding bank
bank_accounts g = accounts_length 0 (limits_in_lem g.accounts) (rate_rows g.rates) ∙ length_first (λ a. get_or g.accounts.limit.now a 0) g.accounts.count

pub bank_limit : (g : Ledger) (a : ℕ) → a < g.accounts.count → limit_of (bank g) a ≡ get_or g.accounts.limit.now a 0
unfolding bank
bank_limit g a h = accounts_limit 0 (limits_in_lem g.accounts) (rate_rows g.rates) a ∙ get_or_first (λ a. get_or g.accounts.limit.now a 0) g.accounts.count a 0 h

pub bank_bookings : (g : Ledger) → (bank g).bookings ≡ rows g.bookings
unfolding bank
bank_bookings g = refl

pub bank_count : (g : Ledger) → length (bank g).bookings ≡ g.bookings.count
unfolding bank
bank_count g = length_first (row g.bookings) g.bookings.count

pub bank_row : (g : Ledger) (i : ℕ) → i < g.bookings.count → booking_at (bank g) i ≡ row g.bookings i
unfolding bank
bank_row g i h = get_or_first (row g.bookings) g.bookings.count i none_there h

pub bank_today : (g : Ledger) → (bank g).today ≡ g.today
unfolding bank
bank_today g = refl

pub bank_done : (g : Ledger) → (bank g).done ≡ g.done
unfolding bank
bank_done g = refl

pub bank_set : (g : Ledger) → length (rates_set g) ≡ g.rates.count
unfolding rates_set
bank_set g = length_first (rate_row g.rates) g.rates.count

pub bank_rate : (g : Ledger) (i : ℕ) → i < g.rates.count → rate_at g i ≡ rate_row g.rates i
unfolding rates_set
bank_rate g i h = get_or_first (rate_row g.rates) g.rates.count i _ h

-- every rate belongs to one account, so the rates of all accounts are those in the columns
none_rated : (a : ℕ) (ms : List ℕ) → rates_in (accounts_of a ms []) ≡ 0
unfolding accounts_of rates_of rates_in
none_rated a [] = refl
none_rated a (m ∷ ms) = omega (arith, none_rated (suc a) ms)

rates_upto : (ms : List ℕ) (f : ℕ → Dated) (n : ℕ) → ((i : ℕ) → i < n → (f i).account < length ms) → rates_in (accounts_of 0 ms (first_of f n)) ≡ n
rates_upto ms f zero h = ap (λ rs. rates_in (accounts_of 0 ms rs)) (first_none f) ∙ none_rated 0 ms
rates_upto ms f (suc n) h =
    let rs : List Dated = first_of f n in
    let xs : List Account = accounts_of 0 ms rs in
    let a : ℕ = (f n).account in
    let u : a < length ms = h n (omega arith) in
    let y : Account = with_rate (get_or xs a no_account) (rate_of_lem (f n)) in
    let l : length y.rates ≡ suc (length (get_or xs a no_account).rates) = simp length-append (omega arith) in
    ap (λ m. rates_in (accounts_of 0 ms (first_of f m))) (sym (add-one n)) ∙ ap (λ r. rates_in (accounts_of 0 ms r)) (first_more f n)
    ∙ ap rates_in (accounts_put 0 ms rs (f n) no_account a (omega arith) u) ∙ rates-one-more xs a no_account y (omega (arith, accounts_length 0 ms rs)) l
    ∙ ap suc (rates_upto ms f n (λ i v. h i (omega arith)))

pub bank_rates : (g : Ledger) → rates_in (bank g).accounts ≡ g.rates.count
unfolding bank
bank_rates g =
    rates_upto (limits_in_lem g.accounts) (rate_row g.rates) g.rates.count (λ i u. omega (arith, g.owners.owners i u, length_first (λ a. get_or g.accounts.limit.now a 0) g.accounts.count))

-- what the bank says of the cells
pub ruleset bank_cells = (bank_accounts, bank_limit, bank_bookings, bank_count, bank_row, bank_today, bank_done, bank_set, bank_rate, bank_rates)
