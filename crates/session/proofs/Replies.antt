-- Answers that no bookings follow.
use Rattle.std.proofs.Common.{◌≡◌, ℕ, ◌+◌, ◌≤◌, Bool, true, false, eqb, List, [], ◌++◌, length, take, drop, sym, refl, ap, ◌∙◌, append-nil, arith}
use Rattle.std.proofs.lemmas.List.{take-append-le, take_all}
use Rattle.std.proofs.lemmas.Bool.{true≢false}
use Rattle.device.specs.Rows.{with_bytes}
use Rattle.bank.specs.Book.{pick, Bank}
use Rattle.bank.specs.Calls.{Call, opens, rated, move, take_back, day_ends, balance, statement, sums, taken_so_far, garbled, Answer, refused, number, amounts, lines, Limits, turned, place, told, answer}
use Rattle.bank.specs.Promise.{plain}
use Rattle.model.specs.First.{not_yet}
use Rattle.wire.specs.Answered.{answered, answer_head, answer_lines, written_answer, Follows}
use Rattle.wire.specs.declared.answer.Answer.{Answer as Code}
use Rattle.wire.specs.declared.answer.Answer.TheVariants.{Refused, Number, Amounts, Lines}
use Rattle.wire.proofs.Answers.{suffices}

no_lines : (a : Code) → length (answer_lines (answered a [])) ≤ 0
no_lines (Refused r p) = omega arith
no_lines (Number n) = omega arith
no_lines (Amounts i o) = omega arith
no_lines (Lines k) = omega arith

pub plain_short : (a : Code) → length (written_answer (answered a [])) ≤ 17
plain_short a = suffices 0 17 (omega arith) (omega arith) (answered a []) (no_lines a)

pub plain_head : (a : Code) → written_answer (answered a []) ≡ answer_head (answered a [])
plain_head (Refused r p) = append-nil _
plain_head (Number n) = append-nil _
plain_head (Amounts i o) = append-nil _
plain_head (Lines k) = append-nil _

pub taken_front : (a : Code) (before after : List ℕ) (n : ℕ) → after ≡ with_bytes before 0 (answer_head (answered a [])) → n ≡ length (answer_head (answered a [])) →
    take n after ≡ written_answer (answered a [])
taken_front a before after n e h =
    let ys : List ℕ = answer_head (answered a []) in
    ap (λ (x : List ℕ). take n x) e ∙ ap (λ (k : ℕ). take k (ys ++ drop (0 + length ys) before)) h ∙ take-append-le (length ys) ys (drop (0 + length ys) before) (omega arith)
    ∙ take_all (length ys) ys (omega arith) ∙ sym (plain_head a)

-- in the first stage no answer has lines
abbrev has_lines : Answer → Bool
has_lines (refused r p) = false
has_lines (number n) = false
has_lines (amounts i o) = false
has_lines (lines bs) = true

neither : (b : Bool) (x y : Answer) → has_lines x ≡ false → has_lines y ≡ false → has_lines (pick b x y) ≡ false
neither true x y f g = f
neither false x y f g = g

plain_answer : (l : Limits) (n : Bank) (c : Call) → has_lines (told n c) ≡ false → has_lines (answer l n c) ≡ false
plain_answer l n c h = neither (eqb (turned l n c) 0) (told n c) (refused (turned l n c) (place l n c)) h refl

never_lines : (l : Limits) (n : Bank) (c : Call) → has_lines (pick (plain c) (answer l n c) (not_yet c)) ≡ false
unfolding plain told
never_lines l n (opens m r) = neither (eqb r 0) (answer l n (opens m r)) (refused 1 0) (plain_answer l n (opens m r) refl) refl
never_lines l n (rated a r) = refl
never_lines l n (move v a b x) = neither (eqb v 0) (answer l n (move v a b x)) (refused 1 0) (plain_answer l n (move v a b x) refl) refl
never_lines l n (take_back k) = refl
never_lines l n day_ends = refl
never_lines l n (balance a d k) = plain_answer l n (balance a d k) refl
never_lines l n (statement a d e) = refl
never_lines l n sums = plain_answer l n sums refl
never_lines l n taken_so_far = plain_answer l n taken_so_far refl
never_lines l n (garbled k) = plain_answer l n (garbled k) refl

pub follows : (l : Limits) (n : Bank) (c : Call) (a : Code) → answered a [] ≡ pick (plain c) (answer l n c) (not_yet c) → Follows a []
follows l n c (Refused r p) e = refl
follows l n c (Number k) e = refl
follows l n c (Amounts i o) e = refl
follows l n c (Lines k) e = absurd (true≢false (ap has_lines e ∙ never_lines l n c))
