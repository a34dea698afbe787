-- Opening the book that a file of blocks holds. Assumes nothing: these are definitions.
use Rattle.std.specs.Prelude.{◌≡◌, true, false, length, Ok, Err, Result, Bool}
use Rattle.bank.specs.Calls.{Limits}
use Rattle.model.specs.Whole.{ReachedRegister}
use Rattle.ledger.specs.Meaning.{register, limits}
use Rattle.ledger.specs.declared.opening.Misfit.{Misfit}
use Rattle.ledger.specs.declared.opening.Misfit.TheVariants.{Memory, Bounds, Device}
use Rattle.session.specs.declared.Session.{Session}
use Rattle.session.specs.Opening.{suffices}
use Rattle.store.specs.declared.memory.Memory.{Memory as Cells}

-- is it enough for a book with these limits
abbrev pub enough : Limits → Cells → Bool
enough l m = suffices l (length m.cents.items) (length m.numbers.items) (length m.block.items) (length m.bytes.items)

-- a session of a book with these limits; or memory is too small, and else the device cannot be read, or is not of such a book
abbrev pub OpenedBook : Limits → Cells → Result Session Misfit → Type 0
OpenedBook l m (Ok s) = (enough l m ≡ true) × (limits s.book.ledger ≡ l) × ReachedRegister (limits s.book.ledger) (register s.book.ledger)
OpenedBook l m (Err Memory) = enough l m ≡ false
OpenedBook l m (Err Device) = enough l m ≡ true
OpenedBook l m (Err Bounds) = ⊥
