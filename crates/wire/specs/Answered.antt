-- What the code's answers stand for, and answers as rows of bytes: a byte, numbers of eight bytes each, and behind a count its bookings. Assumes nothing: these are definitions.
use Rattle.std.specs.Prelude.{◌≡◌, ℕ, ◌+◌, ◌<◌, ◌≤◌, List, [], ◌∷◌, ◌++◌, length, Some, None, Option}
use Rattle.bank.specs.Book.{Bank}
use Rattle.bank.specs.Book.{Booking as Entry}
use Rattle.bank.specs.Calls.{Call, Limits, answer, refused, number, amounts, lines}
use Rattle.bank.specs.Calls.{Answer as Told}
use Rattle.device.specs.Rows.{row, with_bytes}
use Rattle.wire.specs.declared.answer.Answer.{Answer}
use Rattle.wire.specs.declared.answer.Answer.TheVariants.{Refused, Number, Amounts, Lines}
use Rattle.wire.specs.Bytes.{eights, form}

-- the answer that an answer of the code is, with the bookings that follow it
abbrev pub answered : Answer → List Entry → Told
answered (Refused reason place) bs = refused reason place
answered (Number n) bs = number n
answered (Amounts came left) bs = amounts came left
answered (Lines count) bs = lines bs

-- the bookings that may follow: as many as `Lines` says, and none behind another answer
abbrev pub Follows : Answer → List Entry → Type 0
Follows (Refused reason place) bs = bs ≡ []
Follows (Number n) bs = bs ≡ []
Follows (Amounts came left) bs = bs ≡ []
Follows (Lines count) bs = count ≡ length bs

-- a booking: booked, value day, from, to, amount, kind and mark
abbrev pub written_booking : Entry → List ℕ
written_booking b = row (eights 7) (b.on ∷ (b.value ∷ (b.from ∷ (b.to ∷ (b.amount ∷ (b.kind ∷ (b.back ∷ [])))))))

abbrev pub written_bookings : List Entry → List ℕ
written_bookings [] = []
written_bookings (b ∷ bs) = written_booking b ++ written_bookings bs

-- the bytes of an answer before any bookings
abbrev pub answer_head : Told → List ℕ
answer_head (refused r p) = form 0 (r ∷ (p ∷ []))
answer_head (number n) = form 1 (n ∷ [])
answer_head (amounts i o) = form 2 (i ∷ (o ∷ []))
answer_head (lines bs) = form 3 (length bs ∷ [])

-- its bookings
abbrev pub answer_lines : Told → List Entry
answer_lines (refused r p) = []
answer_lines (number n) = []
answer_lines (amounts i o) = []
answer_lines (lines bs) = bs

-- the row of an answer
abbrev pub written_answer : Told → List ℕ
written_answer a = answer_head a ++ written_bookings (answer_lines a)

-- an answer is begun in lent bytes, with room for all of it, and where its bookings follow is said; or there is no room, and nothing is written
abbrev pub Begun : List ℕ → Told → List ℕ → Option ℕ → Type 0
Begun before a after (Some end) = (after ≡ with_bytes before 0 (answer_head a)) × (end ≡ length (answer_head a)) × (length (written_answer a) ≤ length before)
Begun before a after None = (after ≡ before) × (length before < length (written_answer a))

-- bytes into which bookings are written one behind another, from a place on
abbrev pub streamed : List ℕ → ℕ → List Entry → List ℕ
streamed out at [] = out
streamed out at (b ∷ bs) = streamed (with_bytes out at (written_booking b)) (at + 56) bs

-- an answer that was begun, and its bookings one by one behind it, are its row
abbrev pub Streams : Type 0
Streams =
    (out : List ℕ) (a : Told) → length (written_answer a) ≤ length out →
    streamed (with_bytes out 0 (answer_head a)) (length (answer_head a)) (answer_lines a) ≡ with_bytes out 0 (written_answer a)

-- so many bytes suffice for every answer of at most so many bookings
abbrev pub Suffices : ℕ → ℕ → Type 0
Suffices most bytes = (a : Told) → length (answer_lines a) ≤ most → length (written_answer a) ≤ bytes

-- and so for whatever a book of at most so many bookings is asked
abbrev pub AnswersFit : ℕ → ℕ → Type 0
AnswersFit most bytes = (l : Limits) (n : Bank) (c : Call) → length n.bookings ≤ most → length (written_answer (answer l n c)) ≤ bytes
