-- Laws of the row of some numbers.
use Rattle.std.proofs.Common.{◌≡◌, ℕ, ◌+◌, ◌*◌, ◌<◌, List, ◌∷◌, length, Some, ap, arith, lt-ltb}
use Rattle.device.specs.Rows.{with_bytes}
use Rattle.wire.specs.Bytes.{form}
use Rattle.wire.proofs.Numbers.{length_form}
use Rattle.text.specs.Lines.{RowWritten, row_of_numbers}

-- a row is written: its first number as a byte, and the others behind it
pub row_put : (ns before after fields : List ℕ) (t r : ℕ) → ns ≡ t ∷ fields → t < 256 → after ≡ with_bytes before 0 (form t fields) → r ≡ 1 + 8 * length fields →
    RowWritten (row_of_numbers (Some ns)) before after (Some r)
row_put ns before after fields t r parts small put end = rw (parts, lt-ltb t 256 small) (ap Some (omega (arith, end, length_form t fields)), put)
