-- Words spelled as a line, and the words of that line.
use Rattle.std.proofs.Common.{◌≡◌, ℕ, ◌<◌, Bool, true, not, ◌&&◌, List, [], ◌∷◌, ◌++◌, length, Some, decimal, sym, refl, ap, ◌∙◌, append_assoc, arith, lt-ltb}
use borrow.Author.Tests.{not-true}
use Rattle.std.specs.Str.Parse.{digits_value}
use Rattle.std.specs.Char.{is_ascii_digit}
use Rattle.std.specs.Str.{all_ascii_digits}
use Rattle.std.proofs.lemmas.Fmt.{decimal_nonempty, digits_decimal, digits_value-decimal}
use Rattle.std.proofs.lemmas.List.{append-nil}
use Rattle.std.proofs.lemmas.Str.Parse.{IsNumeralModel, numerals_by_value, tells_all_ascii_digits}
use Rattle.std.proofs.lemmas.Bool.{and_from, and_parts}
use Rattle.text.specs.Words.{blank, ended, word_number, spelled, words, words_on}

-- bytes without a blank
abbrev pub plain : List ℕ → Bool
plain [] = true
plain (b ∷ w) = not (blank b) && plain w

-- words that stay whole in a line
pub data Words : List (List ℕ) → Type 0 where
  none : Words []
  one : {w : List ℕ} {ws : List (List ℕ)} → 0 < length w → plain w ≡ true → Words ws → Words (w ∷ ws)

-- bytes without a blank belong to the word that has begun
run_on : (v w rest : List ℕ) → plain w ≡ true → words_on v (w ++ rest) ≡ words_on (v ++ w) rest
unfolding words_on
run_on v [] rest h = ap (λ x. words_on x rest) (sym (append-nil v))
run_on v (b ∷ w) rest h =
    let parts = and_parts (not (blank b)) (plain w) h in
    rw (not-true (blank b) parts.0) (run_on (v ++ (b ∷ [])) w rest parts.1 ∙ ap (λ x. words_on x rest) (append_assoc v (b ∷ []) w))

ended_some : (w : List ℕ) (ws : List (List ℕ)) → 0 < length w → ended w ws ≡ w ∷ ws
ended_some [] ws h = absurd (omega arith)
ended_some (b ∷ w) ws h = refl

-- the words of a line are those that it was spelled from
pub words_spelled : (ws : List (List ℕ)) → Words ws → words (spelled ws) ≡ ws
unfolding words_on
words_spelled [] none = refl
words_spelled (w ∷ []) (one some whole none) = ap words (sym (append-nil w)) ∙ run_on [] w [] whole ∙ ended_some w [] some
words_spelled (w ∷ (v ∷ ws)) (one some whole (one first plain_v more)) =
    run_on [] w (32 ∷ spelled (v ∷ ws)) whole
    ∙ ended_some w (words (spelled (v ∷ ws))) some
    ∙ ap (λ x. w ∷ x) (words_spelled (v ∷ ws) (one first plain_v more))

-- a digit is no blank
digit_whole : (b : ℕ) → is_ascii_digit b ≡ true → not (blank b) ≡ true
digit_whole b h = grind arith

digits_whole : (w : List ℕ) → all_ascii_digits w ≡ true → plain w ≡ true
digits_whole [] h = refl
digits_whole (b ∷ w) h =
    let parts = and_parts (is_ascii_digit b) (all_ascii_digits w) h in and_from (not (blank b)) (plain w) (digit_whole b parts.0) (digits_whole w parts.1)

own : IsNumeralModel (λ ds. all_ascii_digits ds ≡ true) (digits_value 10)
own = numerals_by_value (λ ds. all_ascii_digits ds ≡ true) tells_all_ascii_digits

-- a number in digits: a word, of digits, that is read as the number
module _ (n : ℕ) (h : n < 18446744073709551616) where
  pub decimal_digits : all_ascii_digits (decimal n) ≡ true
  decimal_digits = digits_decimal own n h

  pub counted : {ws : List (List ℕ)} → Words ws → Words (decimal n ∷ ws)
  counted more = one (decimal_nonempty n h) (digits_whole (decimal n) decimal_digits) more

  pub decimal_read : word_number (decimal n) ≡ Some n
  decimal_read = rw (decimal_digits, digits_value-decimal own n h, lt-ltb n 18446744073709551616 h) refl
