-- Taking the calls of a journal again, row by row. Assumes nothing: these are definitions.
use Rattle.std.specs.Prelude.{◌≡◌, ℕ, ◌+◌, ◌*◌, ◌<◌, ◌≤◌, List, ◌++◌, length, slice_index_or}
use Rattle.device.specs.Rows.{rows_in}
use Rattle.bank.specs.Calls.{Call, day_ends, Limits}
use Rattle.model.specs.JournalBlock.{call_row}
use Rattle.wire.specs.JournalRow.{kind_at}
use Rattle.journal.specs.Recovery.{TakenAfter}
use Rattle.ledger.specs.Meaning.{limits}
use Rattle.desk.specs.Desk.{Onward}
use Rattle.session.specs.declared.Session.{Session}
use Rattle.session.specs.Session.{At}

-- the call of row i of a block
abbrev pub row_call : List ℕ → ℕ → Call
row_call bs i = slice_index_or (rows_in call_row 32 24 bs) i day_ends

-- the first n rows of a block are of known kinds
abbrev pub KnownRows : List ℕ → ℕ → Type 0
KnownRows bs n = (i : ℕ) → i < n → (1 ≤ kind_at bs (32 + 20 * i)) × (kind_at bs (32 + 20 * i) ≤ 5)

-- each of some calls is taken after those before it
abbrev pub TakenAgain : Limits → List Call → List Call → Type 0
TakenAgain l base cs = TakenAfter l base cs

-- t is s with some calls taken again
pub record Grown (s t : Session) (cs : List Call) : Type 0 where
  pub limits_stay : limits t.book.ledger ≡ limits s.book.ledger
  pub read_stays : t.journal.read ≡ s.journal.read
  pub blocks_stay : t.journal.blocks ≡ s.journal.blocks
  pub count_is : t.journal.count ≡ s.journal.count + length cs
  pub stage_stays : t.stage ≡ s.stage
  pub stands : (base : List Call) → At s base → At t (base ++ cs)
  pub onward : Onward s.book.ledger t.book.ledger
