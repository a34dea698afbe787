-- Calls as rows of bytes: a byte, and numbers of eight bytes each, low byte first. Assumes nothing: these are definitions.
use Rattle.std.specs.Prelude.{◌≡◌, ℕ, suc, ◌-◌, ◌*◌, ◌^◌, ◌<◌, true, List, [], ◌∷◌, ◌++◌, length, drop, nat_lt, slice_index, slice_index_or}
use Rattle.bank.specs.Book.{pick}
use Rattle.bank.specs.Calls.{Call as Meant}
use Rattle.bank.specs.Calls.{opens, rated, move, take_back, day_ends, balance, statement, sums, taken_so_far, garbled}
use Rattle.bank.specs.Promise.{readable}
use Rattle.device.specs.Device.{all_bytes}
use Rattle.device.specs.Rows.{numbers}
use Rattle.wire.specs.Bytes.{eights, form}
use Rattle.wire.specs.declared.call.Call.{Call}
use Rattle.wire.specs.Meaning.{meant}

-- the byte that a call begins with; no call begins with 9
abbrev pub call_number : Meant → ℕ
call_number (opens m r) = 0
call_number (rated a r) = 1
call_number (move v a b x) = 2
call_number (take_back k) = 3
call_number day_ends = 4
call_number (balance a d k) = 5
call_number (statement a d e) = 6
call_number sums = 7
call_number taken_so_far = 8
call_number (garbled k) = 9

-- the numbers that follow it
abbrev pub call_fields : Meant → List ℕ
call_fields (opens m r) = m ∷ (r ∷ [])
call_fields (rated a r) = a ∷ (r ∷ [])
call_fields (move v a b x) = v ∷ (a ∷ (b ∷ (x ∷ [])))
call_fields (take_back k) = k ∷ []
call_fields day_ends = []
call_fields (balance a d k) = a ∷ (d ∷ (k ∷ []))
call_fields (statement a d e) = a ∷ (d ∷ (e ∷ []))
call_fields sums = []
call_fields taken_so_far = []
call_fields (garbled k) = []

-- the row of a call
abbrev pub written_call : Meant → List ℕ
written_call c = form (call_number c) (call_fields c)

-- how many numbers follow the byte that a call begins with
abbrev pub arity : ℕ → ℕ
arity t = slice_index (2 ∷ 2 ∷ 4 ∷ 1 ∷ 0 ∷ 3 ∷ 3 ∷ 0 ∷ 0 ∷ []) t

-- the call that begins with a byte and has these numbers
abbrev pub call_of_lem : ℕ → List ℕ → Meant
call_of_lem t xs =
    let f : ℕ → ℕ = λ k. slice_index_or xs k 0 in
    slice_index_or (opens (f 0) (f 1) ∷ rated (f 0) (f 1) ∷ move (f 0) (f 1) (f 2) (f 3) ∷ take_back (f 0) ∷ day_ends
    ∷ balance (f 0) (f 1) (f 2) ∷ statement (f 0) (f 1) (f 2) ∷ sums ∷ taken_so_far ∷ [])
    t (garbled 0)

-- what bytes begin with: a call, and the bytes behind it; or none, and the first byte that does not fit
pub data First : Type 0 where
  begins : Meant → List ℕ → First
  fails : ℕ → First

-- 0 where there is no byte or no call begins with the first, the bytes' length where some are missing
abbrev pub first_call : List ℕ → First
first_call [] = fails 0
first_call (t ∷ bs) =
    pick (nat_lt t 9)
    (pick (nat_lt (length bs) (8 * arity t)) (fails (suc (length bs))) (begins (call_of_lem t (numbers (eights (arity t)) bs)) (drop (8 * arity t) bs)))
    (fails 0)

-- a call with nothing behind it; else the first surplus byte, of n bytes
abbrev pub alone : ℕ → First → Meant
alone n (begins c []) = c
alone n (begins c (b ∷ rest)) = garbled (n - suc (length rest))
alone n (fails k) = garbled k

-- the call that a row of bytes is, or garbled at the first byte that does not fit
abbrev pub read_call_lem : List ℕ → Meant
read_call_lem bs = alone (length bs) (first_call bs)

-- what was written is read, whatever stands behind it, for every call that its fields can carry
abbrev pub ReadsFirst : Type 0
ReadsFirst = (c : Call) (rest : List ℕ) → readable (meant c) ≡ true → first_call (written_call (meant c) ++ rest) ≡ begins (meant c) rest

abbrev pub ReadsBack : Type 0
ReadsBack = (c : Call) → readable (meant c) ≡ true → read_call_lem (written_call (meant c)) ≡ meant c

-- a row that is read as a call is that call's own
abbrev pub OwnRow : Type 0
OwnRow = (bs : List ℕ) (c : Call) → all_bytes bs ≡ true → read_call_lem bs ≡ meant c → bs ≡ written_call (meant c)

-- two rows that are read as the same call are the same row
abbrev pub OneRow : Type 0
OneRow = (bs cs : List ℕ) (c : Call) → all_bytes bs ≡ true → all_bytes cs ≡ true → read_call_lem bs ≡ meant c → read_call_lem cs ≡ meant c → bs ≡ cs

-- whatever the bytes are, what is read from them is a call that fields can carry
abbrev pub AlwaysReadable : Type 0
AlwaysReadable = (bs : List ℕ) → all_bytes bs ≡ true → length bs < 2 ^ 64 → readable (read_call_lem bs) ≡ true

-- rows and what they are read as
abbrev pub Examples : Type 0
Examples =
    (read_call_lem [] ≡ garbled 0) × (read_call_lem (9 ∷ 0 ∷ []) ≡ garbled 0) × (read_call_lem (3 ∷ 1 ∷ []) ≡ garbled 2) × (read_call_lem (4 ∷ 0 ∷ 0 ∷ []) ≡ garbled 1)
    × (read_call_lem (3 ∷ 2 ∷ 1 ∷ 0 ∷ 0 ∷ 0 ∷ 0 ∷ 0 ∷ 0 ∷ []) ≡ take_back 258) × (written_call (take_back 258) ≡ 3 ∷ 2 ∷ 1 ∷ 0 ∷ 0 ∷ 0 ∷ 0 ∷ 0 ∷ 0 ∷ [])
