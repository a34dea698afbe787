-- Opening a ledger in lent memory. Assumes nothing: these are definitions.
use Rattle.std.specs.Prelude.{◌≡◌, ℕ, ◌&&◌, List, [], length, Some, None, Ok, Err, Option, Result, nat_le}
use Rattle.bank.specs.Book.{pick}
use Rattle.bank.specs.Calls.{new_bank, Limits}
use Rattle.bank.specs.Promise.{allowed}
use Rattle.columns.specs.Sizes.{cents_for, numbers_for}
use Rattle.ledger.specs.Meaning.{bank, rates_set, limits}
use Rattle.ledger.specs.declared.Ledger.{Ledger}
use Rattle.ledger.specs.declared.opening.Misfit.{Misfit}
use Rattle.ledger.specs.declared.opening.Misfit.TheVariants.{Memory, Device, Bounds}
use Rattle.ledger.specs.declared.opening.Refused.{Refused}

-- the place of what does not fit
abbrev pub place_of : Misfit → ℕ
place_of Memory = 0
place_of Device = 1
place_of Bounds = 2

-- what does not fit, of limits and so many lent cells: the limits first, then memory
abbrev pub misfit : Limits → ℕ → ℕ → Option Misfit
misfit l cents numbers = pick (allowed l) (pick (nat_le (cents_for l) cents && nat_le (numbers_for l) numbers) None (Some Memory)) (Some Bounds)

-- a new ledger with limits l
pub record New (g : Ledger) (l : Limits) : Type 0 where
  pub bank_is : bank g ≡ new_bank
  pub rates_are : rates_set g ≡ []
  pub limits_are : limits g ≡ l

-- what opening gives in lent memory: a new ledger where all fits; where not, what does not, and the memory as it was
abbrev pub Opened : Limits → List ℕ → List ℕ → Result Ledger Refused → Type 0
Opened l cents numbers (Ok g) = (misfit l (length cents) (length numbers) ≡ None) × New g l
Opened l cents numbers (Err e) = (misfit l (length cents) (length numbers) ≡ Some e.misfit) × (e.cents.now ≡ cents) × (e.numbers.now ≡ numbers)
