-- A start, block by block, as code goes: the bank of the checkpoint, then the calls of one block after another; the last block's calls are kept, and its bytes are just
-- those that were written. Assumes nothing: these are definitions.
use Rattle.std.specs.Prelude.{◌≡◌, ℕ, ◌/◌, ◌<◌, List, length}
use Rattle.bank.specs.Calls.{Call, Limits, new_bank}
use Rattle.bank.specs.Device.{Device}
use Rattle.bank.specs.Promise.{room}
use Rattle.model.specs.Core.{book}
use Rattle.model.specs.First.{first_program, FirstReading}
use Rattle.model.specs.Register.{register_book}
use Rattle.model.specs.JournalBlock.{journal_block, epoch_in, calls_in}
use Rattle.model.specs.Snapshot.{layout}
use Rattle.model.specs.Whole.{whole_program, WholeReading}
use Rattle.model.specs.Opening.{base_in}
use Rattle.device.specs.Checkpoint.{calls_of}
use Rattle.device.specs.Resident.{replayed, how_many}

-- the calls of block i, if it is of the checkpoint that block 0 is of
abbrev pub calls_at : Limits → Device → ℕ → List Call
calls_at l d i = calls_of (layout l) (epoch_in 2 l (d 0)) (d i)

-- the bank and the count of any device; the last block of one that reads as calls
pub record Recovers (l : Limits) : Type 0 where
  pub bank : (d : Device) → ((whole_program l).start d).bank ≡ replayed (register_book l) (base_in l d) (calls_at l d) 42
  pub count : (d : Device) → ((whole_program l).start d).count ≡ how_many (calls_at l d) 42
  pub tail : (d : Device) (ts : List Call) → WholeReading l d ts → ((whole_program l).start d).tail ≡ calls_at l d (((whole_program l).start d).count / 24)
  pub block : (d : Device) (ts : List Call) → WholeReading l d ts → 0 < length ((whole_program l).start d).tail →
      d (((whole_program l).start d).count / 24) ≡ journal_block 2 l ((whole_program l).start d).epoch ((whole_program l).start d).tail

-- so for the first stage
pub record FirstRecovers (l : Limits) : Type 0 where
  pub bank : (d : Device) → ((first_program l).start d).bank ≡ replayed (book l) new_bank (λ i. calls_in 1 l (d i)) (room l)
  pub count : (d : Device) → ((first_program l).start d).count ≡ how_many (λ i. calls_in 1 l (d i)) (room l)
  pub tail : (d : Device) (ts : List Call) → FirstReading l d ts → ((first_program l).start d).count / 24 < room l →
      ((first_program l).start d).tail ≡ calls_in 1 l (d (((first_program l).start d).count / 24))
  pub block : (d : Device) (ts : List Call) → FirstReading l d ts → ((first_program l).start d).count / 24 < room l → 0 < length ((first_program l).start d).tail →
      d (((first_program l).start d).count / 24) ≡ journal_block 1 l 0 ((first_program l).start d).tail
