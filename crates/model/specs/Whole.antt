-- The whole program: in memory the bank with its rates in order, the checkpoint's number, how many calls came since, and those in the last block; on the device the journal with
-- checkpoints, 24 calls to a block in 42 blocks, and two areas for snapshots of the book. Assumes nothing: these are definitions.
use Rattle.std.specs.Prelude.{◌≡◌, true, List}
use Rattle.bank.specs.Calls.{Call, Limits}
use Rattle.bank.specs.Device.{Device, Program}
use Rattle.bank.specs.Promise.{readable, allowed}
use Rattle.model.specs.First.{not_yet}
use Rattle.bank.specs.Count.{changes}
use Rattle.model.specs.Register.{Register, register_book, new_register}
use Rattle.model.specs.JournalBlock.{stored}
use Rattle.model.specs.Snapshot.{layout, area_blocks, counts_row, limit_row, rate_row, booking_row, counts_of, limits_of}
use Rattle.device.specs.Book.{ran_by, every}
use Rattle.device.specs.Rows.{fits_row}
use Rattle.device.specs.Plan.{program_of}
use Rattle.device.specs.Checkpoint.{ReadsSince}
use Rattle.device.specs.Resident.{resident_since}

-- what calls can bring about
abbrev pub ReachedRegister : Limits → Register → Type 0
ReachedRegister l k = (cs : List Call) × (ran_by (register_book l) new_register cs ≡ k)

-- the program
abbrev pub whole_program : Limits → Program
whole_program l = program_of (resident_since (register_book l) readable (λ k. changes l k.bank) (layout l) not_yet 24 42 (area_blocks l))

-- how a device reads as calls that were taken
abbrev pub WholeReading : Limits → Device → List Call → Type 0
WholeReading l =
    ReadsSince (register_book l) readable (λ k. changes l k.bank) (layout l) not_yet 24 42 (area_blocks l) stored (λ k. k.bank.done) (ReachedRegister l)

-- all numbers of a book fit the widths of their fields in a snapshot
pub record Sized (k : Register) : Type 0 where
  pub counts : fits_row counts_row (counts_of k) ≡ true
  pub limits : every (fits_row limit_row) (limits_of k.bank.accounts) ≡ true
  pub rates : every (fits_row rate_row) k.rates ≡ true
  pub bookings : every (fits_row booking_row) k.bank.bookings ≡ true

-- so of every book that calls bring about
abbrev pub SnapshotFits : Type 0
SnapshotFits = (l : Limits) → allowed l ≡ true → (k : Register) → ReachedRegister l k → Sized k
