-- Laws of numbers in decimal digits.
use Rattle.std.proofs.Common.{◌≡◌, ℕ, ◌+◌, ◌*◌, ◌<◌, ◌≤◌, Bool, true, false, ◌&&◌, ltb, List, [], ◌∷◌, Some, None, Option, sym, refl, ap, arith, le-ltb, lt-ltb, ltb-true}
use Rattle.std.specs.Str.Parse.{digits_value_after}
use borrow.Author.Tests.{ltb-false}
use Rattle.std.proofs.lemmas.Bool.{and_right}
use Rattle.std.specs.Option.{option_and_then}
use Rattle.std.specs.Char.{is_ascii_digit, digit_value}
use Rattle.std.specs.Str.{all_ascii_digits}
use Rattle.bank.specs.Book.{pick}
use Rattle.text.specs.Words.{digit_more, word_number}
use Rattle.text.proofs.TryFold.{try_list}

-- the number that digits are behind those of n
abbrev number_on : ℕ → List ℕ → Option ℕ
number_on n w = pick (all_ascii_digits w && ltb (digits_value_after 10 n w) 18446744073709551616) (Some (digits_value_after 10 n w)) None

-- further digits do not make a number smaller
grows : (n : ℕ) (w : List ℕ) → n ≤ digits_value_after 10 n w
grows n [] = omega arith
grows n (b ∷ w) = let more = grows (n * 10 + digit_value b) w in omega arith

digits_read : (n : ℕ) (w : List ℕ) → n < 18446744073709551616 → try_list digit_more n w ≡ number_on n w
digits_read n [] h = ap (λ t. pick t (Some n) None) (sym (lt-ltb n 18446744073709551616 h))
digits_read n (b ∷ w) h =
    at (is_ascii_digit b) (ltb (n * 10 + digit_value b) 18446744073709551616) refl refl
    (λ l. digits_read (n * 10 + digit_value b) w (ltb-true (n * 10 + digit_value b) 18446744073709551616 l))
  where
    at : (t u : Bool) → is_ascii_digit b ≡ t → ltb (n * 10 + digit_value b) 18446744073709551616 ≡ u →
        (ltb (n * 10 + digit_value b) 18446744073709551616 ≡ true → try_list digit_more (n * 10 + digit_value b) w ≡ number_on (n * 10 + digit_value b) w) →
        option_and_then (λ m. try_list digit_more m w) (digit_more n b) ≡ number_on n (b ∷ w)
    at false u e l k = rw e refl
    at true true e l k = rw (e, l) (k l)
    at true false e l k =
        let after : ℕ = digits_value_after 10 (n * 10 + digit_value b) w in
        let low : 18446744073709551616 ≤ n * 10 + digit_value b = ltb-false (n * 10 + digit_value b) 18446744073709551616 l in
        let large = le-ltb after 18446744073709551616 (omega (arith, low, grows (n * 10 + digit_value b) w)) in
        rw (e, l) (ap (λ t. pick t (Some after) None) (sym (and_right (all_ascii_digits w) (ltb after 18446744073709551616) large)))

-- digit by digit a word is read as its number
pub word_read : (w : List ℕ) → try_list digit_more 0 w ≡ word_number w
word_read w = digits_read 0 w (omega arith)
