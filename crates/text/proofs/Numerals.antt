-- Laws of lines of the numbers of a row.
use Rattle.std.proofs.Common.{◌≡◌, ℕ, zero, suc, ◌+◌, ◌*◌, ◌/◌, ◌<◌, true, List, [], ◌∷◌, ◌++◌, length, decimal, sym, refl, ap, ◌∙◌, append_assoc, arith, length-append}
use Rattle.std.proofs.lemmas.List.{append-nil, drop_at}
use Rattle.std.proofs.lemmas.Bool.{and_from, and_parts}
use Rattle.bank.specs.Promise.{carries}
use Rattle.device.specs.Rows.{bytes_of, fits_in, number_of, numbers, row}
use Rattle.device.proofs.Rows.{row_back, row_length}
use Rattle.wire.specs.Bytes.{eights}
use Rattle.wire.proofs.Numbers.{width_eights}
use Rattle.text.specs.Words.{words_on}
use Rattle.text.specs.Lines.{Examples, ToldNumbers, all_carried, all_numbers, by_forms, number_line, form_numbers, row_numbers}

-- the numbers of each eight bytes
abbrev pub each_eight : List ℕ → List ℕ
each_eight bs = numbers (eights (length bs / 8)) bs

-- a line behind its first number
abbrev pub line_behind : List ℕ → List ℕ
line_behind [] = []
line_behind (n ∷ ns) = 32 ∷ (decimal n ++ line_behind ns)

line_begun : (t : ℕ) (ns : List ℕ) → number_line (t ∷ ns) ≡ decimal t ++ line_behind ns
line_begun t [] = sym (append-nil (decimal t))
line_begun t (n ∷ ns) = ap (λ s. decimal t ++ (32 ∷ s)) (line_begun n ns)

-- a line that has its first number, one more, and all
pub line_of : (row bs rest line : List ℕ) (t : ℕ) → row ≡ t ∷ bs → rest ≡ bs → line ≡ decimal t → number_line (row_numbers row) ≡ line ++ line_behind (each_eight rest)
line_of row bs rest line t e r l = rw (e, r, l) (line_begun t (each_eight bs))

number_front : (k : ℕ) (xs ys : List ℕ) → length xs ≡ k → number_of k (xs ++ ys) ≡ number_of k xs
unfolding number_of
number_front zero xs ys h = refl
number_front (suc k) [] ys h = absurd (omega arith)
number_front (suc k) (x ∷ xs) ys h = ap (λ n. x + 256 * n) (number_front k xs ys (omega arith))

eight_more : (bs xs ys : List ℕ) → bs ≡ xs ++ ys → length xs ≡ 8 → each_eight bs ≡ number_of 8 xs ∷ each_eight ys
unfolding numbers
eight_more bs xs ys e h =
    let one : length (xs ++ ys) / 8 ≡ suc (length ys / 8) = simp length-append (omega (arith, h)) in
    rw (e, one, number_front 8 xs ys h, drop_at xs ys 8 h) refl

pub line_more : (all line after bs xs ys : List ℕ) (n : ℕ) → all ≡ line ++ line_behind (each_eight bs) → bs ≡ xs ++ ys → length xs ≡ 8 → n ≡ number_of 8 xs → after ≡ line ++ (32 ∷ decimal n) →
    all ≡ after ++ line_behind (each_eight ys)
line_more all line after bs xs ys n w e h is a =
    w ∙ ap (λ ns. line ++ line_behind ns) (eight_more bs xs ys e h ∙ ap (λ k. k ∷ each_eight ys) (sym is))
    ∙ sym (append_assoc line (32 ∷ decimal n) (line_behind (each_eight ys))) ∙ ap (λ l. l ++ line_behind (each_eight ys)) (sym a)

pub line_ended : (all line bs : List ℕ) → all ≡ line ++ line_behind (each_eight bs) → length bs < 8 → line ≡ all
unfolding numbers
line_ended all line bs w h = let none : length bs / 8 ≡ 0 = omega arith in sym (w ∙ rw none (append-nil line))

-- numbers that eight bytes can carry, as a row and back
carried : (ns : List ℕ) → all_carried ns ≡ true → fits_in (eights (length ns)) ns ≡ true
unfolding fits_in
carried [] h = refl
carried (n ∷ ns) h = let p = and_parts (carries n) (all_carried ns) h in and_from (carries n) (fits_in (eights (length ns)) ns) p.0 (carried ns p.1)

pub told_back : ToldNumbers
told_back t ns h =
    let ks : List ℕ = eights (length ns) in
    let long : length (row ks ns) / 8 ≡ length ns = omega (arith, row_length ks ns, width_eights (length ns)) in
    ap (λ k. t ∷ numbers (eights k) (row ks ns)) long
    ∙ ap (λ bs. t ∷ numbers ks bs) (sym (append-nil (row ks ns)))
    ∙ ap (λ x. t ∷ x) (row_back ks ns [] (carried ns h))

pub examples : Examples
unfolding words_on form_numbers by_forms all_numbers row bytes_of
examples = (refl, refl, refl, refl, refl, refl, refl, refl, refl)
