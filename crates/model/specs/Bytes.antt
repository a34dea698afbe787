-- Blocks and rows by their bytes, as examples: the format in plain numbers. Assumes nothing: these are definitions.
use Rattle.std.specs.Prelude.{◌≡◌, [], ◌∷◌, take, drop, replicate}
use Rattle.bank.specs.Calls.{opens, rated, move, take_back, day_ends, Limits}
use Rattle.model.specs.JournalBlock.{call_row, journal_block}
use Rattle.model.specs.Snapshot.{counts_row, limit_row, rate_row, booking_row}
use Rattle.device.specs.Rows.{row_of}

-- limits for the examples
abbrev pub some_limits : Limits
some_limits = record { accounts = 64; rates = 256; bookings = 512 }

-- a journal block of format 2 and checkpoint 7 with one move, and the rows of each kind
pub record JournalBytes : Type 0 where
  pub header : take 32 (journal_block 2 some_limits 7 (move 3 0 2 1000000 ∷ []))
      ≡ 2 ∷ 0 ∷ 1 ∷ 0 ∷ 0 ∷ 0 ∷ 64 ∷ 0 ∷ 7 ∷ 0 ∷ 0 ∷ 0 ∷ 0 ∷ 2 ∷ 0 ∷ 0 ∷ 0 ∷ 1 ∷ replicate 14 0
  pub row : take 20 (drop 32 (journal_block 2 some_limits 7 (move 3 0 2 1000000 ∷ []))) ≡ row_of call_row (move 3 0 2 1000000)
  pub open_row : row_of call_row (opens 50000 300) ≡ 1 ∷ 0 ∷ 80 ∷ 195 ∷ 0 ∷ 0 ∷ 0 ∷ 0 ∷ 0 ∷ 0 ∷ 44 ∷ 1 ∷ replicate 8 0
  pub rate_row : row_of call_row (rated 5 300) ≡ 2 ∷ 0 ∷ 5 ∷ 0 ∷ 44 ∷ 1 ∷ replicate 14 0
  pub move_row : row_of call_row (move 3 0 2 1000000) ≡ 3 ∷ 0 ∷ 3 ∷ 0 ∷ 0 ∷ 0 ∷ 2 ∷ 0 ∷ 64 ∷ 66 ∷ 15 ∷ 0 ∷ 0 ∷ 0 ∷ 0 ∷ 0 ∷ replicate 4 0
  pub back_row : row_of call_row (take_back 70000) ≡ 4 ∷ 0 ∷ 112 ∷ 17 ∷ 1 ∷ 0 ∷ replicate 14 0
  pub day_row : row_of call_row day_ends ≡ 5 ∷ 0 ∷ replicate 18 0

-- the rows of a snapshot
pub record SnapshotBytes : Type 0 where
  pub counts : row_of counts_row (record { today = 400; done = 70000; accounts = 3; rates = 1; bookings = 66000 })
      ≡ 144 ∷ 1 ∷ 112 ∷ 17 ∷ 1 ∷ 0 ∷ 3 ∷ 0 ∷ 1 ∷ 0 ∷ 208 ∷ 1 ∷ 1 ∷ 0 ∷ replicate 18 0
  pub account : row_of limit_row 50000 ≡ 80 ∷ 195 ∷ replicate 30 0
  pub rate : row_of rate_row (record { account = 2; since = 400; rate = 300 }) ≡ 2 ∷ 0 ∷ 144 ∷ 1 ∷ 44 ∷ 1 ∷ replicate 26 0
  pub booking : row_of booking_row (record { on = 400; value = 390; from = 0; to = 2; amount = 1000000; kind = 0; back = 402 })
      ≡ 144 ∷ 1 ∷ 134 ∷ 1 ∷ 0 ∷ 0 ∷ 2 ∷ 0 ∷ 64 ∷ 66 ∷ 15 ∷ 0 ∷ 0 ∷ 0 ∷ 0 ∷ 0 ∷ 0 ∷ 0 ∷ 146 ∷ 1 ∷ replicate 12 0
