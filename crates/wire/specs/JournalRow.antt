-- What stands at a place of a block: a row of the journal, or none. Assumes nothing: these are definitions.
use Rattle.std.specs.Prelude.{◌≡◌, ℕ, ◌+◌, ◌<◌, ◌≤◌, true, false, ◌⊎◌, List, length, take, drop, replicate, Some, None, Option}
use Rattle.bank.specs.Book.{Bank}
use Rattle.bank.specs.Calls.{Call as Meant}
use Rattle.bank.specs.Calls.{Limits, turned}
use Rattle.bank.specs.Promise.{allowed, asks}
use Rattle.device.specs.Rows.{number_of, row_of, thing_in, with_bytes}
use Rattle.model.specs.JournalBlock.{call_row, stored}
use Rattle.wire.specs.declared.call.Call.{Call}
use Rattle.wire.specs.Meaning.{meant}

-- the kind of the row at a place
abbrev pub kind_at : List ℕ → ℕ → ℕ
kind_at bs at = number_of 2 (drop at bs)

-- a call whose row stands at a place, by a kind that there is; or none
abbrev pub RowAt : List ℕ → ℕ → Option Call → Type 0
RowAt bs at (Some c) = (meant c ≡ thing_in call_row (drop at bs)) × (1 ≤ kind_at bs at) × (kind_at bs at ≤ 5)
RowAt bs at None = (kind_at bs at ≡ 0) ⊎ (5 < kind_at bs at)

-- a call's row that was written at a place of some bytes is read there
abbrev pub Remembers : Type 0
Remembers =
    (bs : List ℕ) (at : ℕ) (c : Meant) → at + 20 ≤ length bs → stored c ≡ true →
    let after : List ℕ = with_bytes bs at (row_of call_row c) in
    (thing_in call_row (drop at after) ≡ c) × (1 ≤ kind_at after at) × (kind_at after at ≤ 5)

-- and leaves every other place as it was: its bytes, and so what is read there
abbrev pub Apart : Type 0
Apart =
    (bs : List ℕ) (at i : ℕ) (c : Meant) → at + 20 ≤ length bs → stored c ≡ true → (i + 20 ≤ at) ⊎ (at + 20 ≤ i) →
    let after : List ℕ = with_bytes bs at (row_of call_row c) in
    (take 20 (drop i after) ≡ take 20 (drop i bs)) × (kind_at after i ≡ kind_at bs i) × (thing_in call_row (drop i after) ≡ thing_in call_row (drop i bs))

-- zeros hold no row
abbrev pub Empty : Type 0
Empty = (n at : ℕ) → kind_at (replicate n 0) at ≡ 0

-- every call that a book with limits that may be given takes, and that is no question, has a row
abbrev pub HasRow : Type 0
HasRow = (l : Limits) (n : Bank) (c : Meant) → allowed l ≡ true → turned l n c ≡ 0 → asks c ≡ false → stored c ≡ true
