-- Scratch cells for a month's end. Assumes nothing: these are definitions.
use Rattle.std.specs.Prelude.{ℕ, ◌≤◌, length}
use Rattle.columns.specs.declared.scratch.Scratch.{Scratch}

-- a cell of each kind for n accounts
pub record Spare (s : Scratch) (n : ℕ) : Type 0 where
  pub balance : n ≤ length s.balance.now
  pub units : n ≤ length s.units.now
  pub rate : n ≤ length s.rate.now
