-- How rates lie in lent memory, in the order in which they were set. Assumes nothing: these are definitions.
use Rattle.std.specs.Prelude.{◌≡◌, ℕ, ◌+◌, ◌<◌, List, [], ◌∷◌, ◌++◌, slice_index}
use Rattle.model.specs.Register.{Dated}
use Rattle.columns.specs.Firsts.{first_of}
use Rattle.columns.specs.declared.rates.Rates.{Rates}
use Rattle.columns.specs.declared.rates.Rate.{Rate}

-- the rate of the book
abbrev pub dated : Rate → Dated
dated x = record { account = x.account; since = x.since; rate = x.rate }

-- the rate that lies in cell i
abbrev pub rate_row : Rates → ℕ → Dated
rate_row r i = record { account = slice_index r.account.now i; since = slice_index r.since.now i; rate = slice_index r.rate.now i }

-- all rates
abbrev pub rate_rows : Rates → List Dated
rate_rows r = first_of (rate_row r) r.count

-- each rate is of one of the first n accounts
pub record Rated (r : Rates) (n : ℕ) : Type 0 where
  pub owners : (i : ℕ) → i < r.count → slice_index r.account.now i < n

-- no rate yet, and room for n
pub record NewRates (r : Rates) (n : ℕ) : Type 0 where
  pub rated : Rated r 2
  pub count : r.count ≡ 0
  pub capacity : r.capacity ≡ n

-- one more rate, the same room
pub record RateAdded (r q : Rates) (x : Dated) : Type 0 where
  pub rows : rate_rows q ≡ rate_rows r ++ (x ∷ [])
  pub rated : (n : ℕ) → Rated r n → x.account < n → Rated q n
  pub count : q.count ≡ r.count + 1
  pub capacity : q.capacity ≡ r.capacity
