-- Reading a line that was written gives the row that it was written from.
use Rattle.std.proofs.Common.{◌≡◌, ℕ, suc, ◌<◌, true, ◌&&◌, leb, List, [], ◌∷◌, map, length, Some, None, codes, decimal, refl, ap, ◌∙◌, arith, ltb-true, lt-ltb, ne_eqb, leb-true}
use Rattle.std.specs.Char.{is_ascii_digit}
use Rattle.std.specs.Option.{option_or}
use Rattle.std.specs.Str.{all_ascii_digits}
use Rattle.std.proofs.lemmas.List.{length-map}
use Rattle.std.proofs.lemmas.Bool.{and_from, and_parts}
use Rattle.bank.specs.Book.{pick}
use Rattle.bank.specs.Promise.{carries, readable}
use Rattle.wire.specs.Bytes.{form}
use Rattle.wire.specs.declared.call.Call.TheVariants.{Open, Rate, Move, TakeBack, DayEnds, Balance, Statement, Sums, Taken}
use Rattle.text.specs.Words.{word_number, spelled, words_on}
use Rattle.text.specs.Lines.{ReadsNumbers, ReadsWords, all_carried, all_numbers, by_forms, call_forms, few_numbers, form_numbers, line_numbers, row_in, row_of_numbers}
use Rattle.text.proofs.Forms.{few}
use Rattle.text.proofs.Spelled.{Words, counted, decimal_digits, decimal_read, none, one, words_spelled}

-- a field that eight bytes can carry
small : (n : ℕ) → carries n ≡ true → n < 18446744073709551616
small n h = ltb-true n 18446744073709551616 h

-- a number in front of other words, and read
number : (n : ℕ) {ws : List (List ℕ)} → carries n ≡ true → Words ws → Words (decimal n ∷ ws)
number n h more = counted n (small n h) more

read : (n : ℕ) → carries n ≡ true → word_number (decimal n) ≡ Some n
read n h = decimal_read n (small n h)

-- a line of words that are read by a form is read as the form's number and theirs
spoken_back : (ws : List (List ℕ)) (t : ℕ) (ns : List ℕ) → Words ws → t < 256 → by_forms 0 call_forms ws ≡ Some (t ∷ ns) → row_in (spelled ws) ≡ Some (form t ns)
spoken_back ws t ns g h e =
    ap (λ x. row_of_numbers (line_numbers x)) (words_spelled ws g)
    ∙ ap (λ o. row_of_numbers (option_or o (few_numbers ws))) e
    ∙ ap (λ b. pick b (Some (form t ns)) None) (lt-ltb t 256 h)

pub words_back : ReadsWords
unfolding readable words_on by_forms form_numbers
words_back (Open m r) h =
    let p = and_parts (carries m) (carries r) h in
    spoken_back (codes "open" ∷ decimal m ∷ decimal r ∷ []) 0 (m ∷ r ∷ []) (one (omega arith) refl (number m p.0 (number r p.1 none))) (omega arith)
    (rw (read m p.0, read r p.1) refl)
words_back (Rate a r) h =
    let p = and_parts (carries a) (carries r) h in
    spoken_back (codes "rate" ∷ decimal a ∷ decimal r ∷ []) 1 (a ∷ r ∷ []) (one (omega arith) refl (number a p.0 (number r p.1 none))) (omega arith)
    (rw (read a p.0, read r p.1) refl)
words_back (Move v a b x) h =
    let p = and_parts (carries v && carries a) (carries b && carries x) h in
    let q = and_parts (carries v) (carries a) p.0 in
    let s = and_parts (carries b) (carries x) p.1 in
    spoken_back (codes "move" ∷ decimal v ∷ codes "from" ∷ decimal a ∷ codes "to" ∷ decimal b ∷ decimal x ∷ []) 2 (v ∷ a ∷ b ∷ x ∷ [])
    (one (omega arith) refl (number v q.0 (one (omega arith) refl (number a q.1 (one (omega arith) refl (number b s.0 (number x s.1 none))))))) (omega arith)
    (rw (read v q.0, read a q.1, read b s.0, read x s.1) refl)
words_back (TakeBack k) h =
    spoken_back (codes "take" ∷ codes "back" ∷ decimal k ∷ []) 3 (k ∷ [])
    (one (omega arith) refl (one (omega arith) refl (number k h none))) (omega arith) (rw (read k h) refl)
words_back DayEnds h = refl
words_back (Balance a d k) h =
    let p = and_parts (carries a) (carries d && carries k) h in
    let q = and_parts (carries d) (carries k) p.1 in
    spoken_back (codes "balance" ∷ decimal a ∷ decimal d ∷ decimal k ∷ []) 5 (a ∷ d ∷ k ∷ [])
    (one (omega arith) refl (number a p.0 (number d q.0 (number k q.1 none)))) (omega arith) (rw (read a p.0, read d q.0, read k q.1) refl)
words_back (Statement a d e) h =
    let p = and_parts (carries a) (carries d && carries e) h in
    let q = and_parts (carries d) (carries e) p.1 in
    spoken_back (codes "statement" ∷ decimal a ∷ decimal d ∷ decimal e ∷ []) 6 (a ∷ d ∷ e ∷ [])
    (one (omega arith) refl (number a p.0 (number d q.0 (number e q.1 none)))) (omega arith) (rw (read a p.0, read d q.0, read e q.1) refl)
words_back Sums h = refl
words_back Taken h = refl

-- no form begins with digits
no_call : (w : List ℕ) (ws : List (List ℕ)) → all_ascii_digits w ≡ true → by_forms 0 call_forms (w ∷ ws) ≡ None
unfolding by_forms form_numbers words_on
no_call [] ws d = refl
no_call (y ∷ w) ws d =
    let p = and_parts (is_ascii_digit y) (all_ascii_digits w) d in
    let q = and_parts (leb 48 y) (leb y 57) p.0 in
    let low = leb-true y 57 q.1 in
    rw (
      ne_eqb 111 y (λ e. omega arith),
      ne_eqb 114 y (λ e. omega arith),
      ne_eqb 109 y (λ e. omega arith),
      ne_eqb 116 y (λ e. omega arith),
      ne_eqb 100 y (λ e. omega arith),
      ne_eqb 98 y (λ e. omega arith),
      ne_eqb 115 y (λ e. omega arith),
    ) refl

-- numbers in digits are words, and are read as the numbers
digits_words : (ns : List ℕ) → all_carried ns ≡ true → Words (map decimal ns)
digits_words [] h = none
digits_words (n ∷ ns) h = let p = and_parts (carries n) (all_carried ns) h in number n p.0 (digits_words ns p.1)

digits_back : (ns : List ℕ) → all_carried ns ≡ true → all_numbers (map decimal ns) ≡ Some ns
unfolding all_numbers
digits_back [] h = refl
digits_back (n ∷ ns) h = let p = and_parts (carries n) (all_carried ns) h in rw (decimal_read n (small n p.0), digits_back ns p.1) refl

pub numbers_back : ReadsNumbers
numbers_back t ns h c l =
    let c' : all_carried (t ∷ ns) ≡ true = and_from (carries t) (all_carried ns) (lt-ltb t 18446744073709551616 (omega arith)) c in
    let ws : List (List ℕ) = map decimal (t ∷ ns) in
    let long : length ws ≡ suc (length ns) = length-map (t ∷ ns) decimal in
    ap (λ x. row_of_numbers (line_numbers x)) (words_spelled ws (digits_words (t ∷ ns) c'))
    ∙ ap (λ o. row_of_numbers (option_or o (few_numbers ws))) (no_call (decimal t) (map decimal ns) (decimal_digits t (omega arith)))
    ∙ ap row_of_numbers (few ws (omega arith) ∙ digits_back (t ∷ ns) c')
    ∙ ap (λ b. pick b (Some (form t ns)) None) (lt-ltb t 256 h)
