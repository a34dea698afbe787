-- The bank with its rates in the order in which they were set, over all accounts: the bank itself has only each account's, and a snapshot of it lists them so. Assumes nothing:
-- these are definitions.
use Rattle.std.specs.Prelude.{ℕ, List, [], ◌∷◌, ◌++◌, length, ◌==◌}
use Rattle.bank.specs.Book.{pick, Bank}
use Rattle.bank.specs.Calls.{Call, opens, rated, move, take_back, day_ends, balance, statement, sums, taken_so_far, garbled, Answer, Limits, turned, after, answer, new_bank}
use Rattle.device.specs.Book.{Book}

-- an account has a rate from a day on
pub record Dated : Type 0 where
  pub account : ℕ
  pub since : ℕ
  pub rate : ℕ

-- the bank, and all its rates in the order in which they were set
pub record Register : Type 0 where
  pub bank : Bank
  pub rates : List Dated

-- the rate that a call sets
unfoldable pub sets : Bank → Call → List Dated
sets n (opens m r) = record { account = length n.accounts; since = n.today; rate = r } ∷ []
sets n (rated a r) = record { account = a; since = n.today; rate = r } ∷ []
sets n (move v a b x) = []
sets n (take_back k) = []
sets n day_ends = []
sets n (balance a d k) = []
sets n (statement a d e) = []
sets n sums = []
sets n taken_so_far = []
sets n (garbled k) = []

-- after a call
abbrev pub register_after : Limits → Register → Call → Register
register_after l k c = record { bank = after l k.bank c; rates = pick (turned l k.bank c == 0) (k.rates ++ sets k.bank c) k.rates }

-- a new bank has no rate
abbrev pub new_register : Register
new_register = record { bank = new_bank; rates = [] }

-- it answers as the bank does
abbrev pub register_book : Limits → Book Call Answer
register_book l = record { Bank = Register; new = new_register; after = register_after l; answer = λ k c. answer l k.bank c }
