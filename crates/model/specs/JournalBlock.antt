-- A block of the journal: a header of 32 bytes, which has the limits too, and up to 24 rows of 20 bytes, each a call that was taken. Assumes nothing: these are definitions.
use Rattle.std.specs.Prelude.{ℕ, Bool, not, ◌&&◌, ◌||◌, List, [], ◌∷◌, length, ◌==◌, slice_index}
use Rattle.bank.specs.Book.{pick}
use Rattle.bank.specs.Calls.{Call, opens, rated, move, take_back, day_ends, balance, statement, sums, taken_so_far, garbled, Limits}
use Rattle.bank.specs.Promise.{asks}
use Rattle.device.specs.Rows.{Row, fits_row, row_of, thing_in, block_of, rows_in}

-- what stands at the head of a block: the format, how many rows it has, options, the number of the checkpoint, and the limits
pub record Head : Type 0 where
  pub format : ℕ
  pub rows : ℕ
  pub options : ℕ
  pub accounts : ℕ
  pub epoch : ℕ
  pub bookings : ℕ
  pub rates : ℕ

-- format, rows, options and accounts 2 bytes each, epoch and bookings 4 each, rates 2; 14 zeros
abbrev pub head_row : Row Head
head_row =
    record {
      size = 32;
      kind_width = 0;
      widths = λ k. 2 ∷ (2 ∷ (2 ∷ (2 ∷ (4 ∷ (4 ∷ (2 ∷ []))))));
      kind = λ h. 0;
      to = λ h. h.format ∷ (h.rows ∷ (h.options ∷ (h.accounts ∷ (h.epoch ∷ (h.bookings ∷ (h.rates ∷ []))))));
      from = λ k xs.
          record { format = slice_index xs 0; rows = slice_index xs 1; options = slice_index xs 2; accounts = slice_index xs 3; epoch = slice_index xs 4; bookings = slice_index xs 5; rates = slice_index xs 6 };
    }

-- the kind of a call's row, one more than the byte that the call begins with; 0 is no row
unfoldable pub call_kind : Call → ℕ
call_kind (opens m r) = 1
call_kind (rated a r) = 2
call_kind (move v a b x) = 3
call_kind (take_back k) = 4
call_kind day_ends = 5
call_kind (balance a d k) = 0
call_kind (statement a d e) = 0
call_kind sums = 0
call_kind taken_so_far = 0
call_kind (garbled k) = 0

-- the numbers of a call's row
unfoldable pub call_numbers : Call → List ℕ
call_numbers (opens m r) = m ∷ (r ∷ [])
call_numbers (rated a r) = a ∷ (r ∷ [])
call_numbers (move v a b x) = v ∷ (a ∷ (b ∷ (x ∷ [])))
call_numbers (take_back k) = k ∷ []
call_numbers day_ends = []
call_numbers (balance a d k) = []
call_numbers (statement a d e) = []
call_numbers sums = []
call_numbers taken_so_far = []
call_numbers (garbled k) = []

-- how wide the numbers of each kind are
unfoldable pub call_widths : ℕ → List ℕ
call_widths k =
    pick (k == 1) (8 ∷ (2 ∷ [])) (pick (k == 2) (2 ∷ (2 ∷ [])) (pick (k == 3) (2 ∷ (2 ∷ (2 ∷ (8 ∷ [])))) (pick (k == 4) (4 ∷ []) [])))

-- the call of a kind with such numbers
unfoldable pub call_from : ℕ → List ℕ → Call
call_from k xs =
    pick (k == 1) (opens (slice_index xs 0) (slice_index xs 1)) (pick (k == 2) (rated (slice_index xs 0) (slice_index xs 1))
    (pick (k == 3) (move (slice_index xs 0) (slice_index xs 1) (slice_index xs 2) (slice_index xs 3)) (pick (k == 4) (take_back (slice_index xs 0)) day_ends)))

-- a call as a row of 20 bytes
abbrev pub call_row : Row Call
call_row = record { size = 20; kind_width = 2; widths = call_widths; kind = call_kind; to = call_numbers; from = call_from }

-- calls that the journal can hold: questions are not journalled
abbrev pub stored : Call → Bool
stored c = not (asks c) && fits_row call_row c

-- the header for some limits
abbrev pub head_for : ℕ → Limits → ℕ → ℕ → Head
head_for format l epoch n =
    record { format = format; rows = n; options = 0; accounts = l.accounts; epoch = epoch; bookings = l.bookings; rates = l.rates }

-- what a block's header says
abbrev pub head_in : List ℕ → Head
head_in bs = thing_in head_row bs

-- the limits that a block says
abbrev pub limits_in_lem : List ℕ → Limits
limits_in_lem bs = record { accounts = (head_in bs).accounts; rates = (head_in bs).rates; bookings = (head_in bs).bookings }

-- is a header of this format, and of a book with these limits
abbrev pub same_book : ℕ → Limits → Head → Bool
same_book format l h = h.format == format && (h.accounts == l.accounts && (h.rates == l.rates && h.bookings == l.bookings))

-- so of a block
unfoldable pub headed : ℕ → Limits → List ℕ → Bool
headed format l bs = same_book format l (head_in bs)

-- a block that is empty, or of this book; any other is not ours to read or write
unfoldable pub own : ℕ → Limits → List ℕ → Bool
own format l bs = (head_in bs).format == 0 || headed format l bs

-- a block by the checkpoint's number and its calls
unfoldable pub journal_block : ℕ → Limits → ℕ → List Call → List ℕ
journal_block format l epoch cs = block_of call_row (row_of head_row (head_for format l epoch (length cs))) cs

-- the checkpoint's number of a block of this book
unfoldable pub epoch_in : ℕ → Limits → List ℕ → ℕ
epoch_in format l bs = pick (headed format l bs) (head_in bs).epoch 0

-- the calls of a block of this book
unfoldable pub calls_in : ℕ → Limits → List ℕ → List Call
calls_in format l bs = pick (headed format l bs) (rows_in call_row 32 (head_in bs).rows bs) []
