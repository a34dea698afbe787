-- No row of a call is longer than 33 bytes.
use Rattle.std.proofs.Common.{◌≡◌, ℕ, ◌*◌, ◌≤◌, List, length, ◌∙◌, arith}
use Rattle.bank.specs.Calls.{Call, opens, rated, move, take_back, day_ends, balance, statement, sums, taken_so_far, garbled}
use Rattle.device.specs.Rows.{row}
use Rattle.device.proofs.Rows.{row_length}
use Rattle.wire.specs.Bytes.{eights, form}
use Rattle.wire.specs.Format.{call_fields, call_number, written_call}
use Rattle.wire.proofs.Numbers.{width_eights}

few_fields : (c : Call) → length (call_fields c) ≤ 4
few_fields (opens m r) = omega arith
few_fields (rated a r) = omega arith
few_fields (move v a b x) = omega arith
few_fields (take_back k) = omega arith
few_fields day_ends = omega arith
few_fields (balance a d k) = omega arith
few_fields (statement a d e) = omega arith
few_fields sums = omega arith
few_fields taken_so_far = omega arith
few_fields (garbled k) = omega arith

form_fits : (t : ℕ) (xs : List ℕ) → length xs ≤ 4 → length (form t xs) ≤ 33
form_fits t xs h =
    let w : length (row (eights (length xs)) xs) ≡ 8 * length xs = row_length (eights (length xs)) xs ∙ width_eights (length xs) in omega (arith, w, h)

pub row_fits : (c : Call) → length (written_call c) ≤ 33
row_fits c = form_fits (call_number c) (call_fields c) (few_fields c)
