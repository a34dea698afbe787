-- The rows of bytes that lines stand for, and the lines of calls. Assumes nothing: these are definitions.
use Rattle.std.specs.Prelude.{◌≡◌, ℕ, suc, ◌/◌, ◌<◌, ◌≤◌, Bool, true, ◌&&◌, List, [], ◌∷◌, ◌++◌, map, length, Some, None, codes, decimal, Option, nat_le, nat_lt, slice_index_or}
use Rattle.std.specs.Option.{option_map, option_or}
use Rattle.std.specs.Str.{bytes_eq}
use Rattle.bank.specs.Book.{pick}
use Rattle.bank.specs.Calls.{Call as Meant}
use Rattle.device.specs.Rows.{numbers, with_bytes}
use Rattle.wire.specs.Bytes.{eights, form}
use Rattle.bank.specs.Promise.{carries, readable}
use Rattle.wire.specs.declared.call.Call.{Call}
use Rattle.wire.specs.Format.{call_fields, call_number, written_call}
use Rattle.wire.specs.Meaning.{meant}
use Rattle.text.specs.Words.{word_number, spelled, words}

-- the forms of calls in words, in the order of the bytes that calls begin with; a mark stands for a number
abbrev pub call_forms : List (List ℕ)
call_forms =
    codes "open # #" ∷ codes "rate # #" ∷ codes "move # from # to # #" ∷ codes "take back #" ∷ codes "day ends"
    ∷ codes "balance # # #" ∷ codes "statement # # #" ∷ codes "sums" ∷ codes "taken" ∷ []

-- is a word of a form a mark
abbrev pub marks : List ℕ → Bool
marks f = bytes_eq f (codes "#")

-- a number, and others behind it
abbrev pub followed : Option ℕ → Option (List ℕ) → Option (List ℕ)
followed None o = None
followed (Some n) None = None
followed (Some n) (Some ns) = Some (n ∷ ns)

-- a word by the word of a form: a number where that is a mark, else the same word; and the numbers of the words behind it
abbrev pub matched : List ℕ → List ℕ → Option (List ℕ) → Option (List ℕ)
matched f w o = pick (marks f) (followed (word_number w) o) (pick (bytes_eq f w) o None)

-- the numbers of words by a form
unfoldable pub form_numbers : List (List ℕ) → List (List ℕ) → Option (List ℕ)
form_numbers [] [] = Some []
form_numbers [] (w ∷ ws) = None
form_numbers (f ∷ fs) [] = None
form_numbers (f ∷ fs) (w ∷ ws) = matched f w (form_numbers fs ws)

-- the numbers of words by the first of some forms that fits, behind the number of that form
unfoldable pub by_forms : ℕ → List (List ℕ) → List (List ℕ) → Option (List ℕ)
by_forms t [] ws = None
by_forms t (f ∷ fs) ws = option_or (followed (Some t) (form_numbers (words f) ws)) (by_forms (suc t) fs ws)

-- words that are all numbers
unfoldable pub all_numbers : List (List ℕ) → Option (List ℕ)
all_numbers [] = Some []
all_numbers (w ∷ ws) = followed (word_number w) (all_numbers ws)

-- at most nine of them
abbrev pub few_numbers : List (List ℕ) → Option (List ℕ)
few_numbers ws = pick (nat_le (length ws) 9) (all_numbers ws) None

-- the numbers that words stand for: those of a call in words, or the words themselves
abbrev pub line_numbers : List (List ℕ) → Option (List ℕ)
line_numbers ws = option_or (by_forms 0 call_forms ws) (few_numbers ws)

-- the row of numbers: the first as a byte, and eight bytes for each other
abbrev pub row_of_numbers : Option (List ℕ) → Option (List ℕ)
row_of_numbers None = None
row_of_numbers (Some []) = None
row_of_numbers (Some (t ∷ ns)) = pick (nat_lt t 256) (Some (form t ns)) None

-- the row of bytes that a line stands for
abbrev pub row_in : List ℕ → Option (List ℕ)
row_in line = row_of_numbers (line_numbers (words line))

-- a form with numbers in the place of its marks
abbrev pub filled : List (List ℕ) → List ℕ → List (List ℕ)
filled [] ns = []
filled (f ∷ fs) [] = f ∷ filled fs []
filled (f ∷ fs) (n ∷ ns) = pick (marks f) (decimal n ∷ filled fs ns) (f ∷ filled fs (n ∷ ns))

-- the line of a call in words
abbrev pub call_line : Meant → List ℕ
call_line c = spelled (filled (words (slice_index_or call_forms (call_number c) [])) (call_fields c))

-- a line of numbers
abbrev pub number_line : List ℕ → List ℕ
number_line ns = spelled (map decimal ns)

-- the numbers of a row of bytes: its first byte, and each eight bytes behind it; fewer than eight at the end are left out
abbrev pub row_numbers : List ℕ → List ℕ
row_numbers [] = []
row_numbers (t ∷ bs) = t ∷ numbers (eights (length bs / 8)) bs

-- reading the line of a call in words gives the call's row, for every call that its fields can carry
abbrev pub ReadsWords : Type 0
ReadsWords = (c : Call) → readable (meant c) ≡ true → row_in (call_line (meant c)) ≡ Some (written_call (meant c))

-- can eight bytes carry each
abbrev pub all_carried : List ℕ → Bool
all_carried [] = true
all_carried (n ∷ ns) = carries n && all_carried ns

-- and reading a line of numbers gives the row that they are
abbrev pub ReadsNumbers : Type 0
ReadsNumbers = (t : ℕ) (ns : List ℕ) → t < 256 → all_carried ns ≡ true → length ns ≤ 8 → row_in (number_line (t ∷ ns)) ≡ Some (form t ns)

-- and the numbers of a row are those that it was written from
abbrev pub ToldNumbers : Type 0
ToldNumbers = (t : ℕ) (ns : List ℕ) → all_carried ns ≡ true → row_numbers (form t ns) ≡ t ∷ ns

-- lines and the rows that they stand for
abbrev pub Examples : Type 0
Examples =
    (row_in (codes "day ends") ≡ Some (4 ∷ [])) × (row_in (codes "take back 258") ≡ Some (3 ∷ 2 ∷ 1 ∷ 0 ∷ 0 ∷ 0 ∷ 0 ∷ 0 ∷ 0 ∷ []))
    × (row_in (codes " 3  258 ") ≡ Some (3 ∷ 2 ∷ 1 ∷ 0 ∷ 0 ∷ 0 ∷ 0 ∷ 0 ∷ 0 ∷ [])) × (row_in (codes "255") ≡ Some (255 ∷ [])) × (row_in (codes "256") ≡ None)
    × (row_in [] ≡ None) × (row_in (codes "take back") ≡ None) × (row_in (codes "take back 1 2") ≡ None) × (row_in (codes "sum") ≡ None)

-- numbers in front of others
abbrev pub behind : List ℕ → Option (List ℕ) → Option (List ℕ)
behind ns o = option_map (λ ms. ns ++ ms) o

-- the numbers before and after a word was read by the word of a form; or none, where it does not fit that
abbrev pub Matched : List ℕ → List ℕ → List ℕ → List ℕ → Option (Unit {0}) → Type 0
Matched ns f w ms (Some u) = (o : Option (List ℕ)) → behind ns (matched f w o) ≡ behind ms o
Matched ns f w ms None = (o : Option (List ℕ)) → matched f w o ≡ None

-- a row is written at the beginning of lent bytes, and its length is said; or there is none, and nothing is written
abbrev pub RowWritten : Option (List ℕ) → List ℕ → List ℕ → Option ℕ → Type 0
RowWritten (Some bs) before after r = (r ≡ Some (length bs)) × (after ≡ with_bytes before 0 bs)
RowWritten None before after r = (r ≡ None) × (after ≡ before)
