-- What an effect leaves. Assumes nothing: these are definitions.
use Rattle.std.specs.Prelude.{◌≡◌, ◌<◌, ◌++◌}
use Rattle.bank.specs.Book.{Bank}
use Rattle.bank.specs.Effects.{Effect, made}
use Rattle.ledger.specs.Meaning.{bank, rates_set, limits, sets_by, most_done}
use Rattle.ledger.specs.declared.Ledger.{Ledger}

-- an effect on g leaves h: the bank and its rates as the effect makes them, and a unit of the limits, or a day, more used up, so that a call can be counted
pub record Made (g h : Ledger) (e : Effect) : Type 0 where
  pub bank_is : bank h ≡ made (bank g) e
  pub rates_are : rates_set h ≡ rates_set g ++ sets_by (bank g) e
  pub limits_stay : limits h ≡ limits g
  pub unit : h.done < most_done h

-- g becomes h, which holds the bank n, with the same rates in order and the same limits
pub record Becomes (g h : Ledger) (n : Bank) : Type 0 where
  pub bank_is : bank h ≡ n
  pub rates_are : rates_set h ≡ rates_set g
  pub limits_stay : limits h ≡ limits g
