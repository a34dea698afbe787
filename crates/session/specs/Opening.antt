-- Opening a session, and what it is when it stands. Assumes nothing: these are definitions.
use Rattle.std.specs.Prelude.{◌≡◌, ℕ, ◌+◌, ◌*◌, ◌<◌, ◌≤◌, max, Bool, true, false, ◌&&◌, ◌⊎◌, List, [], ◌++◌, length, Some, None, Ok, Err, Option, Result, ◌==◌, nat_le}
use Rattle.device.specs.Device.{pick}
use Rattle.device.specs.Journal.{gather}
use Rattle.device.specs.Rows.{rows_in}
use Rattle.bank.specs.Calls.{Call, Limits}
use Rattle.bank.specs.Promise.{allowed, room}
use Rattle.model.specs.First.{first_program, FirstReading}
use Rattle.model.specs.JournalBlock.{call_row, calls_in}
use Rattle.blocks.specs.Blocks.{device_of}
use Rattle.columns.specs.Sizes.{cents_for, numbers_for}
use Rattle.model.specs.Whole.{ReachedRegister}
use Rattle.ledger.specs.Meaning.{register, limits}
use Rattle.journal.specs.Recovery.{accepts, rows_of, TakenAfter}
use Rattle.session.specs.declared.Session.{Session}
use Rattle.session.specs.declared.Stage.TheVariants.{Idle}
use Rattle.ledger.specs.declared.opening.Misfit.{Misfit}
use Rattle.ledger.specs.declared.opening.Misfit.TheVariants.{Memory, Bounds}
use Rattle.session.specs.declared.lent.Lent.{Lent}
use Rattle.session.specs.declared.opening.Opening.{Opening}
use Rattle.session.specs.declared.opening.Refused.{Refused}
use Rattle.session.specs.Session.{memory, left, At}
use Rattle.session.specs.Replay.{KnownRows}

-- is the lent memory enough: cells of 8 and of 4 bytes, one block, and the bytes of the longest answer
abbrev pub suffices : Limits → ℕ → ℕ → ℕ → ℕ → Bool
suffices l cents numbers block bytes = (nat_le (cents_for l) cents && nat_le (numbers_for l) numbers) && (block == 512 && nat_le (max 17 (9 + 56 * l.bookings)) bytes)

-- what does not fit, before the book's own cells are looked at: the limits first, then the block and the bytes
abbrev pub outer_misfit : Limits → ℕ → ℕ → Option Misfit
outer_misfit l block bytes = pick (allowed l) (pick (block == 512 && nat_le (max 17 (9 + 56 * l.bookings)) bytes) None (Some Memory)) (Some Bounds)

-- what does not fit: the limits first, then memory
abbrev pub misfit : Limits → ℕ → ℕ → ℕ → ℕ → Option Misfit
misfit l cents numbers block bytes = pick (allowed l) (pick (suffices l cents numbers block bytes) None (Some Memory)) (Some Bounds)

-- a session with limits l of which no block was read yet
pub record NewOpening (o : Opening) (l : Limits) : Type 0 where
  pub limits_are : limits o.session.book.ledger ≡ l
  pub fresh : At o.session []
  pub unread : o.session.journal.read ≡ 0
  pub idle : o.session.stage ≡ Idle
  pub open_yet : o.refused ≡ false
  pub reached : ReachedRegister (limits o.session.book.ledger) (register o.session.book.ledger)

-- what opening gives in lent memory: a new session where all fits; where not, what does not, and the memory as it was
abbrev pub Opened : Limits → Lent → Result Opening Refused → Type 0
Opened l m (Ok o) = (misfit l (length m.cents.now) (length m.numbers.now) (length m.block.now) (length m.bytes.now) ≡ None) × NewOpening o l
Opened l m (Err e) =
    (misfit l (length m.cents.now) (length m.numbers.now) (length m.block.now) (length m.bytes.now) ≡ Some e.misfit)
    × (e.lent.cents.now ≡ m.cents.now) × (e.lent.numbers.now ≡ m.numbers.now) × (e.lent.block.now ≡ m.block.now) × (e.lent.bytes.now ≡ m.bytes.now)

-- while no block was refused the calls that brought about the book are known
abbrev pub Opens : Opening → Type 0
Opens o = o.refused ≡ false → ReachedRegister (limits o.session.book.ledger) (register o.session.book.ledger)

-- the rows of a block of the first stage's journal
abbrev pub rows_for_lem : Opening → List ℕ → List Call
rows_for_lem o bs = rows_in call_row 32 (rows_of 1 (limits o.session.book.ledger) 0 bs) bs

-- p is o with one block more: its calls were taken again
pub record Advanced (o p : Opening) (bs : List ℕ) : Type 0 where
  pub was_open : o.refused ≡ false
  pub still_open : p.refused ≡ false
  pub accepted : accepts 1 (limits o.session.book.ledger) 0 o.session.journal.read o.session.journal.count bs ≡ true
  pub limits_stay : limits p.session.book.ledger ≡ limits o.session.book.ledger
  pub read_is : p.session.journal.read ≡ o.session.journal.read + 1
  pub blocks_stay : p.session.journal.blocks ≡ o.session.journal.blocks
  pub stage_stays : p.session.stage ≡ o.session.stage
  pub stands : (base : List Call) → At o.session base → At p.session (base ++ rows_for_lem o bs)

-- a block that is not refused: it is accepted, its rows are of known kinds, and each is taken after those before it
pub record Acceptable (o : Opening) (base : List Call) (bs : List ℕ) : Type 0 where
  pub open_yet : o.refused ≡ false
  pub at_base : At o.session base
  pub there : o.session.journal.read < o.session.journal.blocks
  pub accepted : accepts 1 (limits o.session.book.ledger) 0 o.session.journal.read o.session.journal.count bs ≡ true
  pub known_rows : KnownRows bs (rows_of 1 (limits o.session.book.ledger) 0 bs)
  pub again : TakenAfter (limits o.session.book.ledger) base (rows_for_lem o bs)

-- p is o with the blocks of an image that were read since taken again
pub record Through (o p : Opening) (image : List ℕ) : Type 0 where
  pub still_open : p.refused ≡ o.refused
  pub limits_stay : limits p.session.book.ledger ≡ limits o.session.book.ledger
  pub blocks_stay : p.session.journal.blocks ≡ o.session.journal.blocks
  pub stage_stays : p.session.stage ≡ o.session.stage
  pub within : o.session.journal.read ≤ o.session.journal.blocks → p.session.journal.read ≤ p.session.journal.blocks
  pub stands : o.session.journal.read ≡ 0 → At o.session [] → At p.session (gather (calls_in 1 (limits o.session.book.ledger)) (device_of image) p.session.journal.read)

-- a session of which no block was read yet, and an image that reads as the calls ts under its limits
pub record HoldsCalls (o : Opening) (image : List ℕ) (ts : List Call) : Type 0 where
  pub new : NewOpening o (limits o.session.book.ledger)
  pub long : 512 * room (limits o.session.book.ledger) ≤ length image
  pub reads : FirstReading (limits o.session.book.ledger) (device_of image) ts

-- a block was taken; one that is acceptable always is
abbrev pub TookBlock : Opening → List ℕ → Option Opening → Type 0
TookBlock o bs (Some p) = Advanced o p bs
TookBlock o bs None = (base : List Call) → Acceptable o base bs → ⊥

-- all blocks of an image were taken; those of one that reads as calls always are
abbrev pub TookImage : Opening → List ℕ → Option Opening → Type 0
TookImage o image (Some p) = Through o p image × (p.session.journal.blocks ≤ p.session.journal.read)
TookImage o image None = (ts : List Call) → HoldsCalls o image ts → ⊥

-- the session, just where all blocks were read and none was refused
abbrev pub Stood : Opening → Option Session → Type 0
Stood o (Some s) = (s ≡ o.session) × (o.refused ≡ false) × (o.session.journal.blocks ≤ o.session.journal.read)
Stood o None = (o.refused ≡ true) ⊎ (o.session.journal.read < o.session.journal.blocks)

-- a session that stands is the program started on the device; it does not stand only where the device reads as no calls under its limits
abbrev pub Recovered : Opening → List ℕ → Option Session → Type 0
Recovered o image (Some s) =
    (limits s.book.ledger ≡ limits o.session.book.ledger) × (memory s ≡ (first_program (limits o.session.book.ledger)).start (device_of image)) × (left s ≡ [])
    × ReachedRegister (limits s.book.ledger) (register s.book.ledger)
Recovered o image None = (ts : List Call) → HoldsCalls o image ts → ⊥
