-- The first stage's program: in memory the bank and the calls of the journal's last block; on the device the journal, 24 calls to a block, in all blocks. Assumes nothing: these are definitions.
use Rattle.std.specs.Prelude.{ℕ, ◌+◌, Bool, ◌&&◌, List, length}
use Rattle.bank.specs.Book.{Bank}
use Rattle.bank.specs.Calls.{Call, Answer, refused, Limits}
use Rattle.bank.specs.Device.{Device, Program}
use Rattle.bank.specs.Promise.{readable, plain, room}
use Rattle.bank.specs.Count.{changes}
use Rattle.model.specs.Core.{book}
use Rattle.device.specs.Plan.{program_of}
use Rattle.model.specs.JournalBlock.{own, journal_block, calls_in}
use Rattle.device.specs.Journal.{Format, HoldsJournal}
use Rattle.device.specs.Resident.{resident}

-- calls of the first stage
abbrev pub first_call : Call → Bool
first_call c = readable c && plain c

-- each of them uses up an account or a booking
abbrev pub size : Bank → ℕ
size n = length n.accounts + length n.bookings

-- a call that is none of this stage can't be read
abbrev pub not_yet : Call → Answer
not_yet c = refused 1 0

-- the first stage's blocks: format 1, and no checkpoint
abbrev pub journal_format : Limits → Format Call
journal_format l = record { encode = journal_block 1 l 0; decode = calls_in 1 l; own = own 1 l }

-- the program
abbrev pub first_program : Limits → Program
first_program l = program_of (resident (book l) first_call (changes l) (journal_format l) not_yet 24 (room l))

-- how a device reads as calls that were taken
abbrev pub FirstReading : Limits → Device → List Call → Type 0
FirstReading l = HoldsJournal (book l) first_call (changes l) (journal_format l) not_yet 24 (room l)
