-- The bytes of a journal's blocks, by what each says of its book. Assumes nothing: these are definitions.
use Rattle.std.specs.Prelude.{◌≡◌, ℕ, ◌+◌, ◌*◌, ◌%◌, ◌<◌, ◌≤◌, ◌⊎◌, List, take, Some, None, Option, slice_index_or}
use Rattle.device.specs.Rows.{bytes_of, row_of, rows_in, with_bytes}
use Rattle.bank.specs.Calls.{Call}
use Rattle.model.specs.JournalBlock.{call_row, journal_block, calls_in}
use Rattle.columns.specs.Sizes.{limits_of}
use Rattle.wire.specs.declared.call.Call.{Call as Told}
use Rattle.wire.specs.JournalRow.{kind_at}
use Rattle.wire.specs.Meaning.{meant}
use Rattle.journal.specs.declared.header.Label.{Label}

-- the block that has some calls
abbrev pub block_with : Label → List Call → List ℕ
block_with l cs = journal_block l.format (limits_of l.limits) l.epoch cs

-- a block with its count raised, and a row behind its first n
abbrev pub with_row : List ℕ → ℕ → Call → List ℕ
with_row bs n c = with_bytes (with_bytes bs 2 (bytes_of 2 (n + 1))) (32 + 20 * n) (row_of call_row c)

-- of so many calls those in the bytes of the block that is written next; one that is full is left behind
unfoldable pub tail_in : Label → ℕ → List ℕ → List Call
tail_in l count bs = take (count % 24) (calls_in l.format (limits_of l.limits) bs)

-- the call of row i of a block, by a kind that there is; or none
abbrev pub RowOf : List ℕ → ℕ → Option Told → Type 0
RowOf bs i (Some c) = ((n : ℕ) (d : Call) → i < n → slice_index_or (rows_in call_row 32 n bs) i d ≡ meant c) × (1 ≤ kind_at bs (32 + 20 * i)) × (kind_at bs (32 + 20 * i) ≤ 5)
RowOf bs i None = (kind_at bs (32 + 20 * i) ≡ 0) ⊎ (5 < kind_at bs (32 + 20 * i))
