-- Lines of words, and numbers in them. Assumes nothing: these are definitions.
use Rattle.std.specs.Prelude.{ℕ, ◌+◌, ◌*◌, Bool, ◌&&◌, ◌||◌, List, [], ◌∷◌, ◌++◌, Some, None, Option, ◌==◌, nat_lt}
use Rattle.std.specs.Char.{is_ascii_digit, digit_value}
use Rattle.std.specs.Str.Parse.{digits_value}
use Rattle.std.specs.Str.{all_ascii_digits}
use Rattle.bank.specs.Book.{pick}

-- what stands between words: a space, a tab or a carriage return
abbrev pub blank : ℕ → Bool
blank b = b == 32 || (b == 9 || b == 13)

-- a word that ends before others; it is none if it has no bytes
abbrev pub ended : List ℕ → List (List ℕ) → List (List ℕ)
ended [] ws = ws
ended (b ∷ w) ws = (b ∷ w) ∷ ws

-- the words of some bytes, the first of which has begun with w
unfoldable pub words_on : List ℕ → List ℕ → List (List ℕ)
words_on w [] = ended w []
words_on w (b ∷ bs) = pick (blank b) (ended w (words_on [] bs)) (words_on (w ++ (b ∷ [])) bs)

-- the words of a line
abbrev pub words : List ℕ → List (List ℕ)
words line = words_on [] line

-- words as a line, with a space between each two
abbrev pub spelled : List (List ℕ) → List ℕ
spelled [] = []
spelled (w ∷ []) = w
spelled (w ∷ (v ∷ ws)) = w ++ (32 ∷ spelled (v ∷ ws))

-- a number with one digit more, if a byte is a digit and eight bytes can carry the number
abbrev pub digit_more : ℕ → ℕ → Option ℕ
digit_more n b = pick (is_ascii_digit b && nat_lt (n * 10 + digit_value b) 18446744073709551616) (Some (n * 10 + digit_value b)) None

-- the number that a word is: decimal digits, of a value that eight bytes can carry
abbrev pub word_number : List ℕ → Option ℕ
word_number w = pick (all_ascii_digits w && nat_lt (digits_value 10 w) 18446744073709551616) (Some (digits_value 10 w)) None
