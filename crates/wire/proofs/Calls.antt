-- Laws of calls as rows of bytes: what is read from what was written, and what was written where something was read.
use Rattle.std.proofs.Common.{◌≡◌, ℕ, zero, suc, ◌-◌, ◌*◌, ◌<◌, ◌≤◌, true, false, ◌&&◌, ltb, List, [], ◌∷◌, ◌++◌, length, get_or, take, drop, replicate, sym, refl, ap, ◌∙◌, subst, inl, inr, arith, length-append, length-drop, le-ltb, lt-ltb}
use lib.ListN.{length-replicate}
use Rattle.std.proofs.lemmas.List.{take_rest, take_all, append-nil, drop_at}
use Rattle.std.proofs.lemmas.Bool.{and_parts, and_from, cases_lt}
use Rattle.bank.specs.Calls.{Call as Meant}
use Rattle.bank.specs.Calls.{garbled}
use Rattle.bank.specs.Promise.{carries, readable}
use Rattle.device.specs.Device.{all_bytes}
use Rattle.device.specs.Rows.{bytes_of, fits_in, number_of, numbers, row, width}
use Rattle.device.proofs.Rows.{row_back, row_length}
use Rattle.wire.specs.declared.call.Call.{Call}
use Rattle.wire.specs.declared.call.Call.TheVariants.{Open, Rate, Move, TakeBack, DayEnds, Balance, Statement, Sums, Taken}
use Rattle.wire.specs.Bytes.{eights, form}
use Rattle.wire.specs.Meaning.{meant}
use Rattle.wire.specs.Format.{First, begins, fails, alone, arity, call_fields, call_number, call_of_lem, first_call, written_call, AlwaysReadable, Examples, OneRow, OwnRow, ReadsBack, ReadsFirst}
use Rattle.wire.proofs.Numbers.{bytes_tail, get_or_zeros, length_numbers, narrow_eights, numbers_small, row_again, width_eights}

-- a call's numbers as the code has them
abbrev pub padded : Meant → List ℕ
padded c = call_fields c ++ replicate (4 - length (call_fields c)) 0

pub fields_front : (c : Call) → take (arity (call_number (meant c)) - 0) (padded (meant c)) ≡ call_fields (meant c)
fields_front (Open m r) = refl
fields_front (Rate a r) = refl
fields_front (Move v a b x) = refl
fields_front (TakeBack k) = refl
fields_front DayEnds = refl
fields_front (Balance a d k) = refl
fields_front (Statement a d e) = refl
fields_front Sums = refl
fields_front Taken = refl

-- a call depends on what its numbers are read as
pub same_call : (t : ℕ) (xs ys : List ℕ) → ((i : ℕ) → get_or xs i 0 ≡ get_or ys i 0) → call_of_lem t xs ≡ call_of_lem t ys
same_call t xs ys e = rw (e 0, e 1, e 2, e 3) refl

-- the cases of what bytes begin with
first_unknown : (t : ℕ) (bs : List ℕ) → 9 ≤ t → first_call (t ∷ bs) ≡ fails 0
first_unknown t bs h = let e : ltb t 9 ≡ false = le-ltb t 9 h in rw e refl

first_short : (t : ℕ) (bs : List ℕ) → t < 9 → length bs < 8 * arity t → first_call (t ∷ bs) ≡ fails (suc (length bs))
first_short t bs h l =
    let e : ltb t 9 ≡ true = lt-ltb t 9 h in let f : ltb (length bs) (8 * arity t) ≡ true = lt-ltb (length bs) (8 * arity t) l in rw (e, f) refl

first_fit : (t : ℕ) (bs : List ℕ) → t < 9 → 8 * arity t ≤ length bs → first_call (t ∷ bs) ≡ begins (call_of_lem t (numbers (eights (arity t)) bs)) (drop (8 * arity t) bs)
first_fit t bs h l =
    let e : ltb t 9 ≡ true = lt-ltb t 9 h in let f : ltb (length bs) (8 * arity t) ≡ false = le-ltb (length bs) (8 * arity t) l in rw (e, f) refl

-- by these cases
first_cases : (P : List ℕ → First → Type 0) → P [] (fails 0) → ((t : ℕ) (bs : List ℕ) → P (t ∷ bs) (fails 0)) → ((t : ℕ) (bs : List ℕ) → P (t ∷ bs) (fails (suc (length bs)))) →
    ((t : ℕ) (bs : List ℕ) → t < 9 → 8 * arity t ≤ length bs → P (t ∷ bs) (begins (call_of_lem t (numbers (eights (arity t)) bs)) (drop (8 * arity t) bs))) →
    (bs : List ℕ) → P bs (first_call bs)
first_cases P none unknown short fit [] = none
first_cases P none unknown short fit (t ∷ bs) =
    elim (cases_lt t 9) [
      | inl h ↦
          elim (cases_lt (length bs) (8 * arity t)) [
            | inl l ↦ subst (P (t ∷ bs)) (sym (first_short t bs h l)) (short t bs)
            | inr l ↦ subst (P (t ∷ bs)) (sym (first_fit t bs h l)) (fit t bs h l)
          ]
      | inr h ↦ subst (P (t ∷ bs)) (sym (first_unknown t bs h)) (unknown t bs)
    ]

-- AS CODE READS A CALL
pub first_read : (bs rest ws ns : List ℕ) (t k m : ℕ) (c : Meant) → bs ≡ t ∷ rest → t < 9 → k ≡ arity t → 8 * k ≤ length rest → ws ≡ eights k →
    ns ≡ numbers ws (drop 0 rest) ++ replicate m 0 → c ≡ call_of_lem t ns → first_call bs ≡ begins c (take (length rest - 8 * k) (drop (8 * k) rest))
first_read bs rest ws ns t k m c e h a l w n is =
    let same : call_of_lem t (numbers (eights k) rest) ≡ c =
    ap (λ x. call_of_lem t (numbers x rest)) (sym w) ∙ sym (is ∙ ap (call_of_lem t) n ∙ same_call t (numbers ws rest ++ replicate m 0) (numbers ws rest) (get_or_zeros (numbers ws rest) m)) in
    ap first_call e ∙ first_fit t rest h (omega arith)
    ∙ ap (λ j. begins (call_of_lem t (numbers (eights j) rest)) (drop (8 * j) rest)) (sym a)
    ∙ ap (λ x. begins x (drop (8 * k) rest)) same ∙ ap (begins c) (sym (take_rest rest (8 * k)))

-- AS CODE WRITES A CALL
pub call_written : (c : Call) (t : ℕ) (fs : List ℕ) → t ≡ call_number (meant c) → fs ≡ padded (meant c) → form t (take (arity t - 0) fs) ≡ written_call (meant c)
call_written c t fs e f =
    ap (λ k. form k (take (arity k - 0) fs)) e ∙ ap (λ x. form (call_number (meant c)) (take (arity (call_number (meant c)) - 0) x)) f ∙ ap (form (call_number (meant c))) (fields_front c)

-- WHAT WAS WRITTEN IS READ
read_form : (t : ℕ) (xs rest : List ℕ) → t < 9 → length xs ≡ arity t → fits_in (eights (length xs)) xs ≡ true → first_call (form t xs ++ rest) ≡ begins (call_of_lem t xs) rest
read_form t xs rest h l f =
    let bytes : List ℕ = row (eights (length xs)) xs in
    let wide : length bytes ≡ 8 * arity t = row_length (eights (length xs)) xs ∙ width_eights (length xs) ∙ ap (λ k. 8 * k) l in
    let long : 8 * arity t ≤ length (bytes ++ rest) = simp length-append (omega arith) in
    first_fit t (bytes ++ rest) h long
    ∙ ap (λ k. begins (call_of_lem t (numbers (eights k) (bytes ++ rest))) (drop (8 * arity t) (bytes ++ rest))) (sym l)
    ∙ ap (λ ns. begins (call_of_lem t ns) (drop (8 * arity t) (bytes ++ rest))) (row_back (eights (length xs)) xs rest f)
    ∙ ap (begins (call_of_lem t xs)) (drop_at bytes rest (8 * arity t) wide)

pub reads_first : ReadsFirst
unfolding readable fits_in
reads_first (Open m r) rest h = read_form 0 (m ∷ r ∷ []) rest (omega arith) refl (let q = and_parts (carries m) (carries r) h in and_from _ _ q.0 (and_from _ _ q.1 refl))
reads_first (Rate a r) rest h = read_form 1 (a ∷ r ∷ []) rest (omega arith) refl (let q = and_parts (carries a) (carries r) h in and_from _ _ q.0 (and_from _ _ q.1 refl))
reads_first (Move v a b x) rest h =
    let q = and_parts (carries v && carries a) (carries b && carries x) h in
    let p = and_parts (carries v) (carries a) q.0 in
    let s = and_parts (carries b) (carries x) q.1 in
    read_form 2 (v ∷ a ∷ b ∷ x ∷ []) rest (omega arith) refl (and_from _ _ p.0 (and_from _ _ p.1 (and_from _ _ s.0 (and_from _ _ s.1 refl))))
reads_first (TakeBack k) rest h = read_form 3 (k ∷ []) rest (omega arith) refl (and_from _ _ h refl)
reads_first DayEnds rest h = read_form 4 [] rest (omega arith) refl refl
reads_first (Balance a d k) rest h =
    let q = and_parts (carries a) (carries d && carries k) h in
    let p = and_parts (carries d) (carries k) q.1 in
    read_form 5 (a ∷ d ∷ k ∷ []) rest (omega arith) refl (and_from _ _ q.0 (and_from _ _ p.0 (and_from _ _ p.1 refl)))
reads_first (Statement a d e) rest h =
    let q = and_parts (carries a) (carries d && carries e) h in
    let p = and_parts (carries d) (carries e) q.1 in
    read_form 6 (a ∷ d ∷ e ∷ []) rest (omega arith) refl (and_from _ _ q.0 (and_from _ _ p.0 (and_from _ _ p.1 refl)))
reads_first Sums rest h = read_form 7 [] rest (omega arith) refl refl
reads_first Taken rest h = read_form 8 [] rest (omega arith) refl refl

pub reads_back : ReadsBack
reads_back c h =
    let bs : List ℕ = written_call (meant c) in
    ap (λ x. alone (length bs) (first_call x)) (sym (append-nil bs)) ∙ ap (alone (length bs)) (reads_first c [] h)

-- A ROW THAT IS READ AS A CALL IS ITS OWN
known_number : (c : Call) → call_number (meant c) < 9
known_number (Open m r) = omega arith
known_number (Rate a r) = omega arith
known_number (Move v a b x) = omega arith
known_number (TakeBack k) = omega arith
known_number DayEnds = omega arith
known_number (Balance a d k) = omega arith
known_number (Statement a d e) = omega arith
known_number Sums = omega arith
known_number Taken = omega arith

never_garbled : (c : Call) (k : ℕ) → garbled k ≡ meant c → ⊥
never_garbled c k e = let n : 9 ≡ call_number (meant c) = ap call_number e in omega (arith, known_number c)

-- the first n values of a function
firsts : ℕ → (ℕ → ℕ) → List ℕ
firsts zero f = []
firsts (suc n) f = f 0 ∷ firsts n (λ k. f (suc k))

all_firsts : (xs : List ℕ) → firsts (length xs) (λ k. get_or xs k 0) ≡ xs
unfolding firsts
all_firsts [] = refl
all_firsts (x ∷ xs) = ap (λ r. x ∷ r) (all_firsts xs)

written_firsts : (t : ℕ) (xs : List ℕ) → t < 9 → written_call (call_of_lem t xs) ≡ form t (firsts (arity t) (λ k. get_or xs k 0))
unfolding firsts
written_firsts zero xs h = refl
written_firsts (suc zero) xs h = refl
written_firsts (suc (suc zero)) xs h = refl
written_firsts (suc (suc (suc zero))) xs h = refl
written_firsts (suc (suc (suc (suc zero)))) xs h = refl
written_firsts (suc (suc (suc (suc (suc zero))))) xs h = refl
written_firsts (suc (suc (suc (suc (suc (suc zero)))))) xs h = refl
written_firsts (suc (suc (suc (suc (suc (suc (suc zero))))))) xs h = refl
written_firsts (suc (suc (suc (suc (suc (suc (suc (suc zero)))))))) xs h = refl
written_firsts (suc (suc (suc (suc (suc (suc (suc (suc (suc t))))))))) xs h = absurd (omega arith)

written_of : (t : ℕ) (bs : List ℕ) → t < 9 → all_bytes bs ≡ true → length bs ≡ 8 * arity t → written_call (call_of_lem t (numbers (eights (arity t)) bs)) ≡ t ∷ bs
written_of t bs h b l =
    let ns : List ℕ = numbers (eights (arity t)) bs in
    let n : length ns ≡ arity t = length_numbers (eights (arity t)) bs ∙ length-replicate {A = ℕ} (arity t) 8 in
    let w : width (eights (arity t)) ≡ length bs = width_eights (arity t) ∙ sym l in
    written_firsts t ns h
    ∙ ap (λ k. form t (firsts k (λ i. get_or ns i 0))) (sym n)
    ∙ ap (form t) (all_firsts ns)
    ∙ ap (λ k. t ∷ row (eights k) ns) n
    ∙ ap (λ r. t ∷ r) (row_again (eights (arity t)) bs b (omega arith) ∙ take_all (width (eights (arity t))) bs (omega arith))

-- what stands alone is read as it, and has nothing behind it
alone_is : (n : ℕ) (x : Meant) (rest : List ℕ) (c : Call) → alone n (begins x rest) ≡ meant c → (x ≡ meant c) × (rest ≡ [])
alone_is n x [] c e = (e, refl)
alone_is n x (b ∷ rest) c e = absurd (never_garbled c (n - suc (length rest)) e)

pub own_row : OwnRow
own_row =
    first_cases (λ bs f. (c : Call) → all_bytes bs ≡ true → alone (length bs) f ≡ meant c → bs ≡ written_call (meant c))
    (λ c b e. absurd (never_garbled c 0 e))
    (λ t bs c b e. absurd (never_garbled c 0 e))
    (λ t bs c b e. absurd (never_garbled c (suc (length bs)) e))
    (λ t bs h l c b e.
    let q = alone_is (suc (length bs)) (call_of_lem t (numbers (eights (arity t)) bs)) (drop (8 * arity t) bs) c e in
    let left : length bs - 8 * arity t ≡ 0 = sym (length-drop (8 * arity t) bs) ∙ ap length q.1 in
    sym (written_of t bs h (bytes_tail t bs b) (omega arith)) ∙ ap written_call q.0)

pub one_row : OneRow
one_row bs cs c b d e f = own_row bs c b e ∙ sym (own_row cs c d f)

-- WHAT IS READ CAN BE CARRIED
call_readable : (t : ℕ) (xs : List ℕ) → ((i : ℕ) → carries (get_or xs i 0) ≡ true) → readable (call_of_lem t xs) ≡ true
unfolding readable
call_readable zero xs f = and_from _ _ (f 0) (f 1)
call_readable (suc zero) xs f = and_from _ _ (f 0) (f 1)
call_readable (suc (suc zero)) xs f = and_from _ _ (and_from _ _ (f 0) (f 1)) (and_from _ _ (f 2) (f 3))
call_readable (suc (suc (suc zero))) xs f = f 0
call_readable (suc (suc (suc (suc zero)))) xs f = refl
call_readable (suc (suc (suc (suc (suc zero))))) xs f = and_from _ _ (f 0) (and_from _ _ (f 1) (f 2))
call_readable (suc (suc (suc (suc (suc (suc zero)))))) xs f = and_from _ _ (f 0) (and_from _ _ (f 1) (f 2))
call_readable (suc (suc (suc (suc (suc (suc (suc zero))))))) xs f = refl
call_readable (suc (suc (suc (suc (suc (suc (suc (suc zero)))))))) xs f = refl
call_readable (suc (suc (suc (suc (suc (suc (suc (suc (suc t))))))))) xs f = refl

carried : (n : ℕ) → n < 18446744073709551616 → readable (garbled n) ≡ true
unfolding readable
carried n h = lt-ltb n 18446744073709551616 h

alone_readable : (n : ℕ) (x : Meant) (rest : List ℕ) → n < 18446744073709551616 → readable x ≡ true → readable (alone n (begins x rest)) ≡ true
alone_readable n x [] h r = r
alone_readable n x (b ∷ rest) h r = carried (n - suc (length rest)) (omega arith)

pub always_readable : AlwaysReadable
always_readable =
    first_cases (λ bs f. all_bytes bs ≡ true → length bs < 18446744073709551616 → readable (alone (length bs) f) ≡ true)
    (λ b h. carried 0 (omega arith))
    (λ t bs b h. carried 0 (omega arith))
    (λ t bs b h. carried (suc (length bs)) h)
    (λ t bs k l b h.
    alone_readable (suc (length bs)) (call_of_lem t (numbers (eights (arity t)) bs)) (drop (8 * arity t) bs) h
    (call_readable t (numbers (eights (arity t)) bs) (λ i. lt-ltb (get_or (numbers (eights (arity t)) bs) i 0) 18446744073709551616 (numbers_small (eights (arity t)) bs (bytes_tail t bs b) (narrow_eights (arity t)) i))))

pub examples : Examples
unfolding numbers number_of row bytes_of
examples = (refl, refl, refl, refl, refl, refl)
