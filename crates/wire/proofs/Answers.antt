-- Laws of answers as rows of bytes.
use Rattle.std.proofs.Common.{◌≡◌, ℕ, suc, ◌+◌, ◌*◌, ◌≤◌, Bool, true, false, eqb, List, [], ◌∷◌, ◌++◌, length, sym, refl, ap, ◌∙◌, append_assoc, arith, length-append}
use Rattle.std.proofs.lemmas.List.{append-nil}
use Rattle.bank.specs.Book.{Bank, Booking, pick}
use Rattle.bank.specs.Calls.{Call, opens, rated, move, take_back, day_ends, balance, statement, sums, taken_so_far, garbled, Answer, refused, number, amounts, lines, answer, told, turned, place, lines_of}
use Rattle.device.specs.Rows.{with_bytes}
use Rattle.device.proofs.Rows.{row_length}
use Rattle.wire.specs.Bytes.{eights}
use Rattle.wire.specs.Answered.{written_booking, written_bookings, answer_head, answer_lines, written_answer, streamed, Streams, Suffices, AnswersFit}
use Rattle.device.proofs.Parts.{with_more}
use Rattle.wire.proofs.Numbers.{length_form}

length_booking : (b : Booking) → length (written_booking b) ≡ 56
length_booking b = row_length (eights 7) _

pub length_bookings : (bs : List Booking) → length (written_bookings bs) ≡ 56 * length bs
length_bookings [] = refl
length_bookings (b ∷ bs) = rw length-append (omega (arith, length_booking b, length_bookings bs))

pub length_answer : (a : Answer) → length (written_answer a) ≡ length (answer_head a) + 56 * length (answer_lines a)
length_answer a = rw length-append (omega (arith, length_bookings (answer_lines a)))

-- bookings one behind another
streams_on : (out front : List ℕ) (bs : List Booking) → length front + 56 * length bs ≤ length out →
    streamed (with_bytes out 0 front) (length front) bs ≡ with_bytes out 0 (front ++ written_bookings bs)
streams_on out front [] h = ap (with_bytes out 0) (sym (append-nil front))
streams_on out front (b ∷ bs) h =
    let n : length (front ++ written_booking b) ≡ length front + 56 = length-append front (written_booking b) ∙ ap (λ k. length front + k) (length_booking b) in
    ap (λ x. streamed x (length front + 56) bs) (with_more out front (written_booking b) 0 (length front) (omega arith) (omega arith))
    ∙ ap (λ k. streamed (with_bytes out 0 (front ++ written_booking b)) k bs) (sym n)
    ∙ streams_on out (front ++ written_booking b) bs (omega arith)
    ∙ ap (with_bytes out 0) (append_assoc front (written_booking b) (written_bookings bs))

pub streams : Streams
streams out a h = streams_on out (answer_head a) (answer_lines a) (omega (arith, length_answer a))

-- HOW LONG AN ANSWER IS
pub suffices : (most bytes : ℕ) → 17 ≤ bytes → 9 + 56 * most ≤ bytes → Suffices most bytes
suffices most bytes h l (refused r p) few = omega (arith, length_answer (refused r p), length_form 0 (r ∷ p ∷ []))
suffices most bytes h l (number n) few = omega (arith, length_answer (number n), length_form 1 (n ∷ []))
suffices most bytes h l (amounts i o) few = omega (arith, length_answer (amounts i o), length_form 2 (i ∷ o ∷ []))
suffices most bytes h l (lines bs) few = omega (arith, length_answer (lines bs), length_form 3 (length bs ∷ []))

pick_few : (t : Bool) (b : Booking) (bs : List Booking) (n : ℕ) → length bs ≤ n → length (pick t (b ∷ bs) bs) ≤ suc n
pick_few true b bs n h = omega arith
pick_few false b bs n h = omega arith

pub few_lines : (a d e : ℕ) (bs : List Booking) → length (lines_of a d e bs) ≤ length bs
unfolding lines_of
few_lines a d e [] = omega arith
few_lines a d e (b ∷ bs) = pick_few _ b (lines_of a d e bs) (length bs) (few_lines a d e bs)

told_few : (n : Bank) (c : Call) → length (answer_lines (told n c)) ≤ length n.bookings
unfolding told
told_few n (opens m r) = omega arith
told_few n (rated a r) = omega arith
told_few n (move v a b x) = omega arith
told_few n (take_back k) = omega arith
told_few n day_ends = omega arith
told_few n (balance a d k) = omega arith
told_few n (statement a d e) = few_lines a d e n.bookings
told_few n sums = omega arith
told_few n taken_so_far = omega arith
told_few n (garbled k) = omega arith

answer_few : (t : Bool) (a : Answer) (r p m : ℕ) → length (answer_lines a) ≤ m → length (answer_lines (pick t a (refused r p))) ≤ m
answer_few true a r p m h = h
answer_few false a r p m h = omega arith

pub answers_fit : (most bytes : ℕ) → Suffices most bytes → AnswersFit most bytes
answers_fit most bytes s l n c few =
    let t : length (answer_lines (told n c)) ≤ most = omega (arith, told_few n c) in
    s (answer l n c) (answer_few (eqb (turned l n c) 0) (told n c) (turned l n c) (place l n c) most t)
