-- When a journal is that of a book. Assumes nothing: these are definitions.
use Rattle.std.specs.Prelude.{◌≡◌, ◌+◌, ◌≤◌}
use Rattle.bank.specs.Promise.{room}
use Rattle.model.specs.First.{size}
use Rattle.ledger.specs.Meaning.{bank, limits}
use Rattle.ledger.specs.declared.Ledger.{Ledger}
use Rattle.journal.specs.Tail.{bounds}
use Rattle.journal.specs.declared.journal.Journal.{Journal}

-- in the first stage: format 1, no checkpoint, all blocks, the book's limits; and each of its calls used up an account or a booking
pub record Joined (g : Ledger) (j : Journal) : Type 0 where
  pub bounds_are : bounds j ≡ limits g
  pub format_is : j.label.format ≡ 1
  pub epoch_is : j.label.epoch ≡ 0
  pub blocks_are : j.blocks ≡ room (limits g)
  pub counted : j.count + 2 ≤ size (bank g)
